-- A list of answers as bytes: who answers and which entry is shown, by the answer's number from 1; how many servers show an entry
-- that passes a test. `showing` is what both choices count. Used by Choices and Checks.
use Rattle.std.specs.Prelude.{ℕ, ◌+◌, ◌*◌, ◌-◌, ◌/◌, Bool, ◌&&◌, List, [], ◌∷◌, ◌++◌, length, get_or, eqb}
use Rattle.protocol.specs.declared.Entry.{Entry}
use Rattle.protocol.specs.Tools.{count_to, some_to}
use Rattle.protocol.specs.Sizes.{servers}
use Rattle.codec.specs.Layout.{entry_width}
use Rattle.codec.specs.Lists.{part}
use Rattle.codec.specs.Records.{entry_of, entry_bytes}

-- an answer is server u8, 3 zero bytes, entry
abbrev pub shown_at : ℕ
shown_at = 4

abbrev pub answer_width : ℕ
answer_width = shown_at + entry_width

abbrev pub answer_bytes : ℕ → Entry → List ℕ
answer_bytes s e = (s ∷ 0 ∷ 0 ∷ 0 ∷ []) ++ entry_bytes e

-- "a list of answers (server, entry)": how many there are, and where number k begins
abbrev pub answer_count : List ℕ → ℕ
answer_count l = length l / answer_width

abbrev pub answer_place : ℕ → ℕ
answer_place k = answer_width * (k - 1)

-- the server and the entry of answer number k
unfoldable pub answerer : List ℕ → ℕ → ℕ
answerer l k = get_or l (answer_place k) 0

unfoldable pub entry_shown : List ℕ → ℕ → Entry
entry_shown l k = entry_of (part l (answer_place k + shown_at) entry_width)

-- whether server s shows an entry that passes p: answer number k does it
abbrev pub shows_by : (Entry → Bool) → List ℕ → ℕ → ℕ → Bool
shows_by p l s k = eqb (answerer l k) s && p (entry_shown l k)

unfoldable pub shows : (Entry → Bool) → List ℕ → ℕ → Bool
shows p l s = some_to (shows_by p l s) (answer_count l)

-- how many servers show an entry that passes p
unfoldable pub showing : (Entry → Bool) → List ℕ → ℕ
showing p l = count_to (shows p l) servers
