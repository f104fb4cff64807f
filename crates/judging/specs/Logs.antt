-- A log as bytes: its lines (`lines_of`, `line_at`), and what a well-formed log is (`well_logged`), one definition for each clause of
-- refusal 14. Who reads or judges a log uses `line_at`.
use Rattle.std.specs.Prelude.{ℕ, ◌+◌, ◌*◌, ◌-◌, ◌/◌, Bool, not, ◌&&◌, ◌||◌, List, length, get_or, ltb, leb, eqb}
use Rattle.protocol.specs.declared.Entry.{Entry}
use Rattle.protocol.specs.Tools.{within, all_to}
use Rattle.protocol.specs.Entries.{count_of, writer_of, entry_fits}
use Rattle.protocol.specs.Clients.{WRITES, READS}
use Rattle.protocol.specs.Runs.{u16_at}
use Rattle.codec.specs.Layout.{entry_width}
use Rattle.codec.specs.Lists.{part}
use Rattle.codec.specs.Bytes.{zeros}
use Rattle.codec.specs.Records.{entry_of, entry_plain}
use Rattle.judging.specs.declared.Logged.{Logged}

-- "begin number (u16 ...), end number (u16 ...), kind (1 write, 2 read), entry": a line is begin u16, end u16, kind u8, 3 zero, entry
abbrev pub entry_place : ℕ
entry_place = 8

abbrev pub line_width : ℕ
line_width = entry_place + entry_width

-- "A log has at most 256 operations"
abbrev pub most_lines : ℕ
most_lines = 256

abbrev pub lines_of : List ℕ → ℕ
lines_of l = length l / line_width

unfoldable pub logged_of : List ℕ → Logged
logged_of b = record { begin = u16_at b 0; end = u16_at b 2; kind = get_or b 4 0; entry = entry_of (part b entry_place entry_width) }

-- line i, the first being line 1
unfoldable pub line_bytes : List ℕ → ℕ → List ℕ
line_bytes l i = part l (line_width * (i - 1)) line_width

unfoldable pub line_at : List ℕ → ℕ → Logged
line_at l i = logged_of (line_bytes l i)

-- ---- "14, malformed"

-- "a field outside its values": the spare bytes of a line, and those of its entry
unfoldable pub plain : List ℕ → Bool
plain b = zeros b 5 3 && entry_plain (part b entry_place entry_width)

-- "a field outside its values": "begin number (u16, at least 1), end number (u16 ...), kind (1 write, 2 read), entry"
unfoldable pub in_values : Logged → Bool
in_values x = within 1 65535 x.begin && (leb x.end 65535 && (within WRITES READS x.kind && entry_fits x.entry))

-- "an end other than 0 not after its begin"
unfoldable pub ends_later : Logged → Bool
ends_later x = eqb x.end 0 || ltb x.begin x.end

-- "a write of count 0"
unfoldable pub counted : Logged → Bool
counted x = not (eqb x.kind WRITES) || ltb 0 (count_of x.entry)

-- "a begin or end number other than 0 used twice", by two lines; a line's own end is above its begin
unfoldable pub numbers_apart : Logged → Logged → Bool
numbers_apart x y =
    not (eqb x.begin y.begin) && (not (eqb x.begin y.end) && (not (eqb x.end y.begin) && (eqb x.end 0 || not (eqb x.end y.end))))

-- "two writes with one stamp"
abbrev pub one_stamp : Entry → Entry → Bool
one_stamp a b = eqb (count_of a) (count_of b) && eqb (writer_of a) (writer_of b)

unfoldable pub stamps_apart : Logged → Logged → Bool
stamps_apart x y = not (eqb x.kind WRITES && (eqb y.kind WRITES && one_stamp x.entry y.entry))

-- the clauses that ask of one line, of its bytes
unfoldable pub line_fits : List ℕ → Bool
line_fits b = plain b && (in_values (logged_of b) && (ends_later (logged_of b) && counted (logged_of b)))

-- the clauses that ask of two lines: line i beside each line before it
unfoldable pub apart_before : List ℕ → ℕ → Bool
apart_before l i = all_to (λ j. numbers_apart (line_at l j) (line_at l i) && stamps_apart (line_at l j) (line_at l i)) (i - 1)

-- both, of each line
unfoldable pub lines_fit : List ℕ → Bool
lines_fit l = all_to (λ i. line_fits (line_bytes l i) && apart_before l i) (lines_of l)

-- and not "over 256 lines"
unfoldable pub well_logged : List ℕ → Bool
well_logged l = leb (lines_of l) most_lines && lines_fit l
