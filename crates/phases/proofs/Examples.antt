-- Worked phases, computed: four servers with f 1, so that three close a phase, server 1 faulty and answering twice; a read size below
-- the write size; each refusal; the worked session of document 01. Nobody uses them.
use Rattle.std.specs.Prelude.{ℕ, false, ◌≡◌, refl, List, [], ◌∷◌, ◌++◌, replicate}
use Rattle.protocol.specs.declared.Entry.{Entry}
use Rattle.protocol.specs.declared.Message.{Message}
use Rattle.protocol.specs.declared.View.{View}
use Rattle.protocol.specs.Tools.{holds, bit_of, count_to, Result, refused, done, guard, number_of}
use Rattle.protocol.specs.Sizes.{view_with, size, sized, quorum, read_size, write_size, one_exchange}
use Rattle.protocol.specs.Entries.{entry, empty, below, larger, same, entry_fits}
use Rattle.protocol.specs.Servers.{READ, WRITE, END, ANSWER}
use Rattle.protocol.specs.Clients.{number}
use Rattle.protocol.specs.Steps.{request}
use Rattle.values.specs.Bits.{bit_in}
use Rattle.values.specs.Tallies.{first_answer, closes_at}
use Rattle.checked.specs.Ranges.{number_fits, message_in_range}
use Rattle.checked.specs.Rules.{take_rule}
use Rattle.codec.specs.Layout.{entry_width}
use Rattle.codec.specs.Bytes.{zeros}
use Rattle.codec.specs.Lists.{part, put}
use Rattle.codec.specs.Records.{entry_of, entry_bytes, entry_plain, view_of, view_bytes, view_plain, message_of, message_bytes, message_plain}
use Rattle.phases.specs.Layout.{phase_width}
use Rattle.phases.specs.Records.{head, head_of, head_bytes, open_fits, head_fits, tally_read, tally_bytes, tally_plain, tally_rule, head_at, tally_at, put_tally, plain_at, tally_fits}
use Rattle.phases.specs.Rules.{count_answer, record_closes}
use Rattle.phases.specs.Calls.{RecordTold, record_opened, open_on, open_left, records_fit, may_take, taking, asked_plain, answer_on, told_number, phase_left, entry_after}

four : View
four = view_with 15 1 0

-- five servers with f 1 and r 3: READ is closed by three, WRITE by four
five : View
five = view_with 31 1 3

-- an answer of server s with view t and an entry to a request
answer_to : ℕ → ℕ → ℕ → Entry → Message
answer_to n s t e = record { kind = ANSWER; sender = s; view = record { 0 = t }; taken = false; request = number n; next = number 0; entry = e }

call_in : View → ℕ → ℕ → Entry → List ℕ
call_in v s t e = message_bytes (answer_to 9 s t e) ++ view_bytes v

call : ℕ → ℕ → Entry → List ℕ
call s t e = call_in four s t e

room : List ℕ
room = replicate entry_width 0

-- the record after answers, the first given first
after : List ℕ → List (List ℕ) → List ℕ
after p [] = p
after p (b ∷ bs) = after (phase_left p (answer_on p b room)) bs

-- what the last of them is answered
last : List ℕ → List (List ℕ) → List ℕ → Result ℕ
last p bs b = told_number (answer_on (after p bs) b room)

old : Entry
old = entry 1 1 7

young : Entry
young = entry 2 1 8

other : Entry
other = entry 1 1 9

-- in this order: server 1 twice and 2 are two servers, and the phase is open; with 3 it is closed, and a read may end; one that shows
-- another entry, and it may not; an answer that comes late is refused; WRITE is closed, and nothing may end; END by answers of
-- another view stays open, and is closed by three of its own
worked : List (Result ℕ)
worked =
    last (record_opened (head READ 0 9)) (call 1 1 old ∷ call 1 1 old ∷ []) (call 2 1 old)
    ∷ last (record_opened (head READ 0 9)) (call 1 1 old ∷ call 1 1 old ∷ call 2 1 old ∷ []) (call 3 1 old)
    ∷ last (record_opened (head READ 0 9)) (call 1 1 old ∷ call 1 1 young ∷ call 2 1 old ∷ []) (call 3 1 old)
    ∷ last (record_opened (head READ 0 9)) (call 1 1 old ∷ call 2 1 old ∷ call 3 1 old ∷ []) (call 4 1 old)
    ∷ last (record_opened (head WRITE 0 9)) (call 1 1 old ∷ call 2 1 old ∷ []) (call 3 1 old)
    ∷ last (record_opened (head END 1 9)) (call 1 2 old ∷ call 2 2 old ∷ []) (call 3 2 old)
    ∷ last (record_opened (head END 1 9)) (call 1 1 old ∷ call 2 1 old ∷ call 4 2 old ∷ []) (call 3 1 old)
    ∷ []

-- of equal stamps the entry taken first is written
first_taken : List ℕ
first_taken =
    let p : List ℕ = after (record_opened (head READ 0 9)) (call 1 1 old ∷ call 2 1 other ∷ []) in
    entry_after room (answer_on p (call 3 1 other) room)

-- in this order: with r 3 of five a read is closed by three servers, and goes on to its WRITE though all show one entry; three do not
-- close WRITE, four do; two servers of view 1 and two of view 2 do not close READ
sized_apart : List (Result ℕ)
sized_apart =
    last (record_opened (head READ 0 9)) (call_in five 1 1 old ∷ call_in five 2 1 old ∷ []) (call_in five 3 1 old)
    ∷ last (record_opened (head WRITE 0 9)) (call_in five 1 1 old ∷ call_in five 2 1 old ∷ []) (call_in five 3 1 old)
    ∷ last (record_opened (head WRITE 0 9)) (call_in five 1 1 old ∷ call_in five 2 1 old ∷ call_in five 3 1 old ∷ []) (call_in five 4 1 old)
    ∷ last (record_opened (head READ 0 9)) (call 1 1 old ∷ call 2 1 old ∷ call 3 2 old ∷ []) (call 4 2 old)
    ∷ []

-- each refusal: a record that is too short; an entry's writer over 16; a READ in the place of an answer; an answer to request 9 where
-- nothing is open; four servers with f 2
refusals : List (Result ℕ)
refusals =
    told_number (answer_on room (call 1 1 old) room)
    ∷ last (record_opened (head READ 0 9)) [] (call 1 1 (entry 1 17 7))
    ∷ last (record_opened (head READ 0 9)) [] (message_bytes (request READ 1 0 empty) ++ view_bytes four)
    ∷ last (replicate phase_width 0) [] (call 1 1 old)
    ∷ last (record_opened (head READ 0 9)) [] (call_in (view_with 15 2 0) 1 1 old)
    ∷ []

-- opening: a wrong length, END of the last view, END of the view before it, a READ that names a view, request 0
openings : List ℕ
openings =
    number_of (open_on room READ 0 9)
    ∷ number_of (open_on (replicate phase_width 255) END 32 9)
    ∷ number_of (open_on (replicate phase_width 255) END 31 9)
    ∷ number_of (open_on (replicate phase_width 255) READ 1 9)
    ∷ number_of (open_on (replicate phase_width 255) WRITE 0 0)
    ∷ []

-- document 01's worked session, as docs/MACHINES.md has it: server 1 alone answers READ, number 1, with the empty entry
session : Result RecordTold
session =
    answer_on (open_left room (open_on (replicate phase_width 255) READ 0 1)) (message_bytes (answer_to 1 1 1 empty) ++ view_bytes (view_with 1 0 0)) room

worked_so : (worked ≡ done 0 ∷ done 2 ∷ done 1 ∷ refused 7 ∷ done 1 ∷ done 0 ∷ done 1 ∷ []) × (first_taken ≡ entry_bytes old)
    × (sized_apart ≡ done 1 ∷ done 0 ∷ done 1 ∷ done 0 ∷ []) × (refusals ≡ refused 1 ∷ refused 3 ∷ refused 5 ∷ refused 7 ∷ refused 8 ∷ [])
    × (openings ≡ 1 ∷ 3 ∷ 0 ∷ 3 ∷ 3 ∷ []) × (told_number session ≡ done 2) × (entry_after room session ≡ entry_bytes empty)
unfolding worked first_taken sized_apart refusals openings session
    open_on five call_in answer_to old young other last after call four room record_opened answer_on asked_plain message_plain view_plain entry_plain
    zeros part put message_of view_of entry_of message_bytes view_bytes entry_bytes head_of head_bytes open_fits head_fits tally_read tally_bytes
    tally_plain tally_rule head_at tally_at put_tally plain_at tally_fits count_answer record_closes records_fit may_take taking guard take_rule
    message_in_range number_fits entry_fits same below larger bit_in bit_of holds count_to first_answer closes_at size sized quorum read_size
    write_size one_exchange
worked_so = (refl, refl, refl, refl, refl, refl, refl)
