-- The checks of request 10, each clause of 14 by name, and the two calls on lent bytes for all of them: `vouch_on`, `threshold_on`
-- with what they answer and leave, `Leaves`. The contracts of the public functions cite these.
use Rattle.std.specs.Prelude.{ℕ, ◌+◌, ◌*◌, ◌-◌, ◌/◌, ◌%◌, Bool, not, ◌&&◌, ◌≡◌, List, length, leb, eqb, Option, None, Some}
use Rattle.protocol.specs.declared.Entry.{Entry}
use Rattle.protocol.specs.Tools.{within, all_to, Result, refused, done, guard, number_of}
use Rattle.protocol.specs.Sizes.{servers}
use Rattle.protocol.specs.Entries.{entry_fits}
use Rattle.codec.specs.Layout.{entry_width}
use Rattle.codec.specs.Lists.{part}
use Rattle.codec.specs.Records.{entry_bytes, entry_plain}
use Rattle.codec.specs.Bytes.{zeros}
use Rattle.vouch.specs.Answers.{shown_at, answer_width, answer_count, answer_place, answerer, entry_shown}
use Rattle.vouch.specs.Choices.{first_choice, second_choice}

-- not "an entry's field outside its values": of answer number k; its spare bytes are zero
unfoldable pub values_fit : List ℕ → ℕ → Bool
values_fit l k =
    zeros l (answer_place k + 1) 3 && (entry_plain (part l (answer_place k + shown_at) entry_width) && entry_fits (entry_shown l k))

-- not "a server twice": every answer before number k is of another server
abbrev pub other : List ℕ → ℕ → ℕ → Bool
other l k j = not (eqb (answerer l j) (answerer l k))

unfoldable pub not_before : List ℕ → ℕ → Bool
not_before l k = all_to (other l k) (k - 1)

-- not "not in 1 to n"
abbrev pub numbered : List ℕ → ℕ → ℕ → Bool
numbered l n k = within 1 n (answerer l k)

unfoldable pub answer_fits : List ℕ → ℕ → ℕ → Bool
answer_fits l n k = values_fit l k && (not_before l k && numbered l n k)

abbrev pub answers_fit : List ℕ → ℕ → Bool
answers_fit l n = all_to (answer_fits l n) (answer_count l)

-- not "n over 32 or under 4b+1"
abbrev pub sizes_fit : ℕ → ℕ → Bool
sizes_fit n b = leb n servers && leb (4 * b + 1) n

-- not "the largest b under b or over (n-1)/4"
abbrev pub largest_fits : ℕ → ℕ → ℕ → Bool
largest_fits n b largest = leb b largest && leb largest ((n - 1) / 4)

-- "⌈(n+2b+1)/2⌉"
abbrev pub masking_quorum : ℕ → ℕ → ℕ
masking_quorum n b = (n + 2 * b + 2) / 2

-- not "fewer than ⌈(n+2b+1)/2⌉ answers"
abbrev pub enough_answers : List ℕ → ℕ → ℕ → Bool
enough_answers l n b = leb (masking_quorum n b) (answer_count l)

-- the clauses of both choices
unfoldable pub list_fits : List ℕ → ℕ → ℕ → Bool
list_fits l n b = answers_fit l n && (sizes_fit n b && enough_answers l n b)

-- "16, no entry qualifies"
abbrev pub qualified : Option Entry → Result Entry
qualified None = refused 16
qualified (Some e) = done e

-- "any other length is refused with 1": answers of 16 bytes each, and room for an entry
abbrev pub lengths_fit : List ℕ → List ℕ → Bool
lengths_fit l room = eqb (length l % answer_width) 0 && eqb (length room) entry_width

-- the first choice: 1, 14, then 16
unfoldable pub vouch_on : List ℕ → ℕ → ℕ → List ℕ → Result Entry
vouch_on l n b room = guard (lengths_fit l room) 1 (guard (list_fits l n b) 14 (qualified (first_choice l b)))

-- the second choice, for thresholds
unfoldable pub threshold_on : List ℕ → ℕ → ℕ → ℕ → List ℕ → Result Entry
threshold_on l n b largest room =
    guard (lengths_fit l room) 1 (guard (list_fits l n b && largest_fits n b largest) 14 (qualified (second_choice l largest)))

-- the entry is written when done; a refusal changes no byte
abbrev pub entry_left : List ℕ → Result Entry → List ℕ
entry_left room (refused n) = room
entry_left room (done e) = entry_bytes e

-- what a call answers and leaves in the room: the refusal, 0 means done, and the bytes
pub record Leaves (r : ℕ) (out room : List ℕ) (x : Result Entry) : Type 0 where
  pub code : r ≡ number_of x
  pub bytes : out ≡ entry_left room x
