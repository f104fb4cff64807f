-- Numbers as decimal digits, and the lines of the program. Assumes nothing.
use Rattle.std.specs.Prelude.{◌≡◌, refl, List, [], ◌∷◌, ◌++◌, ℕ, zero, suc, ◌+◌, ◌/◌, ◌%◌, ltb, eqb}
use Rattle.protocol.specs.declared.Phase.TheVariants.{Idle}
use Rattle.protocol.specs.declared.Client.{Client}
use Rattle.protocol.specs.declared.Entry.{Entry}
use Rattle.protocol.specs.Tools.{if}
use Rattle.protocol.specs.Entries.{entry, count_of, writer_of}
use Rattle.protocol.specs.Clients.{WRITES, READS}

-- the last digits of n in base ten, as bytes, without zeros in front: as many as it has, and at most so many
unfoldable pub digits : ℕ → ℕ → List ℕ
digits zero n = []
digits (suc most) n = if (ltb n 10) [] (digits most (n / 10)) ++ ((48 + n % 10) ∷ [])

-- a number below 2^64 has no more digits than these
abbrev pub most_digits : ℕ
most_digits = 20

-- every line fits as many bytes
abbrev pub line_width : ℕ
line_width = 96

-- the digits of a number below 10^20 and one byte behind them
unfoldable pub number_then : ℕ → ℕ → List ℕ
number_then n then = digits most_digits n ++ (then ∷ [])

-- "W or R"
abbrev pub letter_of : ℕ → ℕ
letter_of kind = if (eqb kind WRITES) 87 82

-- a number, "W or R, count, writer, value"; a space is 32, the end of a line 10
unfoldable pub entry_line : ℕ → ℕ → Entry → List ℕ
entry_line number kind e =
    (((number_then number 32 ++ (letter_of kind ∷ 32 ∷ [])) ++ number_then (count_of e) 32) ++ number_then (writer_of e) 32) ++ number_then e.value 10

-- "one line per completed operation: client, W or R, count, writer, value"
unfoldable pub operation_line : ℕ → Client → List ℕ
operation_line number c = entry_line number c.kind c.entry

-- "then `done`, steps accepted, refusal of the stop or 0"
unfoldable pub done_line : ℕ → ℕ → List ℕ
done_line steps refusal = ((100 ∷ 111 ∷ 110 ∷ 101 ∷ 32 ∷ []) ++ number_then steps 32) ++ number_then refusal 10

-- ---- the lines of the worked session: "1 W 1 1 7", "2 R 1 1 7", "done 8 5"

abbrev idle : ℕ → Client
idle kind = record { phase = Idle; kind = kind; entry = entry 1 1 7; given = record { 0 = 0 } }

pub worked :
    (operation_line 1 (idle WRITES) ≡ 49 ∷ 32 ∷ 87 ∷ 32 ∷ 49 ∷ 32 ∷ 49 ∷ 32 ∷ 55 ∷ 10 ∷ [])
    × (operation_line 2 (idle READS) ≡ 50 ∷ 32 ∷ 82 ∷ 32 ∷ 49 ∷ 32 ∷ 49 ∷ 32 ∷ 55 ∷ 10 ∷ [])
    × (done_line 8 5 ≡ 100 ∷ 111 ∷ 110 ∷ 101 ∷ 32 ∷ 56 ∷ 32 ∷ 53 ∷ 10 ∷ [])
unfolding operation_line entry_line done_line number_then digits
worked = (refl, refl, refl)
