-- Runs computed on the definitions: they are about something. Assumes nothing.
use Rattle.std.specs.Prelude.{ℕ, Bool, true, false, ◌≡◌, refl, List, [], ◌∷◌, ◌++◌, None, Some}
use Rattle.protocol.specs.Types.{Entry, Idle, Reading, Writing}
use Rattle.protocol.specs.Tools.{count_to, all_to, any, holds, bit_of, nth, replace, done, guard, all}
use Rattle.protocol.specs.Sizes.{view_with, quorum, size, sized, read_size, write_size, one_exchange}
use Rattle.protocol.specs.Entries.{entry, empty, below, larger, largest, chosen, same}
use Rattle.protocol.specs.Servers.{comparing, replacing, without_key, joining, gathering, serve, may_answer}
use Rattle.protocol.specs.Clients.{WRITES, READS, number, begin, give_up, next_count, to_write, given_by, count_left, close, call, advance, restart}
use Rattle.protocol.specs.Worlds.{World, view, server, client, message, newest, member, present, room, with_server, with_client, with_view, with_message, with_administrator, send, list_to, fresh_world, fresh, bad, premise, content, unlinked, as_sent}
use Rattle.protocol.specs.Chains.{follow, chain, heard, enough, shown, agreed}
use Rattle.protocol.specs.Steps.{row_of, fields_fit, begins, gives_up, deliver, link, open?, closes, starts, takes, take, fault, source?, lie, new_view, perform, step, emptied, restarts}
use Rattle.protocol.specs.Consistent.{Operation}
use Rattle.protocol.specs.Runs.{step_of, step_bytes, Replayed, replay, tracked, Run, run, run_from, operation_entry, operation, history}

-- ---- steps, in bytes

-- a step of small numbers
abbrev pub bytes : ℕ → ℕ → ℕ → ℕ → ℕ → ℕ → ℕ → List ℕ
bytes kind who t f n source value = kind ∷ who ∷ t ∷ f ∷ n ∷ 0 ∷ source ∷ 0 ∷ value ∷ 0 ∷ 0 ∷ 0 ∷ []

abbrev pub write : ℕ → ℕ → List ℕ
write c value = bytes 1 c 0 0 0 0 value

abbrev pub read : ℕ → List ℕ
read c = bytes 2 c 0 0 0 0 0

abbrev pub deliver_to : ℕ → ℕ → List ℕ
deliver_to n s = bytes 3 s 0 0 n 0 0

abbrev pub take_one : ℕ → List ℕ
take_one k = bytes 4 0 0 0 k 0 0

abbrev pub fault_of : ℕ → List ℕ
fault_of s = bytes 5 s 0 0 0 0 0

abbrev pub false_answer : ℕ → ℕ → ℕ → ℕ → List ℕ
false_answer s t n source = bytes 6 s t 0 n source 0

abbrev pub new_view_lem : ℕ → ℕ → List ℕ
new_view_lem bits f = bytes 7 0 0 f 0 0 bits

abbrev pub give_up_lem : ℕ → List ℕ
give_up_lem c = bytes 8 c 0 0 0 0 0

abbrev pub restart_with : ℕ → ℕ → ℕ → List ℕ
restart_with bits f r = bytes 9 r 0 f 0 0 bits

-- ---- what is computed of a run from the fresh world of given members and f, with one size for all

abbrev pub begun : ℕ → ℕ → World
begun bits f = fresh_world (view_with bits f 0)

-- the run; whoever unfolds it unfolds all that a step computes with
unfoldable pub run_of : ℕ → ℕ → List (List ℕ) → Run
unfolding fresh_world list_to run_from run tracked step_of step_bytes step perform guard row_of fields_fit begins begin gives_up give_up deliver serve comparing replacing without_key joining gathering take takes link open? closes close next_count to_write given_by count_left starts advance fault source? lie may_answer new_view call enough heard shown agreed all same chain follow below larger largest quorum size sized read_size write_size one_exchange count_to any holds bit_of nth replace view server client message member present room with_server with_client with_view with_message with_administrator send restarts restart emptied as_sent unlinked content
run_of bits f steps = run_from (begun bits f) steps

-- its operations
unfoldable pub operations_of : ℕ → ℕ → List (List ℕ) → List Operation
unfolding run_of history operation operation_entry
operations_of bits f steps = history (run_of bits f steps)

-- whether the premise holds after it
unfoldable pub premise_after : ℕ → ℕ → List (List ℕ) → Bool
unfolding run_of premise bad all_to
premise_after bits f steps = premise (run_of bits f steps).world

-- where a replay stops: the steps accepted and the refusal, as in the program's last line
pub record Stop : Type 0 where
  pub steps : ℕ
  pub refusal : ℕ

unfoldable pub stop_of : ℕ → ℕ → List (List ℕ) → Stop
unfolding run_of replay
stop_of bits f steps = let r : Replayed = replay (begun bits f) steps in record { steps = r.steps; refusal = r.refusal }

abbrev pub stops : ℕ → ℕ → Stop
stops steps refusal = record { steps = steps; refusal = refusal }

-- an operation of a history
abbrev pub operated : ℕ → ℕ → ℕ → Entry → Operation
operated kind begin end e = record { kind = kind; begin = begin; end = end; entry = Some e }

-- ---- document 01's worked session: members {1}, f 0

worked : List (List ℕ)
worked =
    write 1 7 ∷ deliver_to 1 1 ∷ take_one 2 ∷ deliver_to 3 1 ∷ take_one 4
    ∷ read 2 ∷ deliver_to 5 1 ∷ take_one 6 ∷ deliver_to 7 1 ∷ take_one 8 ∷ []

-- "The session in document 01 then ends `done 8 5` after its two operation lines."
worked_stop : stop_of 1 0 worked ≡ stops 8 5
unfolding stop_of worked
worked_stop = refl

-- "1 W 1 1 7", "2 R 1 1 7"
worked_operations : operations_of 1 0 worked ≡ (operated WRITES 1 5 (entry 1 1 7) ∷ operated READS 6 8 (entry 1 1 7) ∷ [])
unfolding operations_of worked
worked_operations = refl

-- WRITE is answered after it is kept
worked_answer : (message (run_of 1 0 worked).world 4).entry ≡ entry 1 1 7
unfolding run_of worked
worked_answer = refl

-- ---- document 01's wrong ideas, on servers 1 to 4 with f 1

pub four : fresh 15 1 0 ≡ done (begun 15 1)
unfolding fresh run_of
four = refl

-- Server 1 is faulty, and a write ends on 1, 3 and 4.
written : List (List ℕ)
written =
    fault_of 1 ∷ write 1 7 ∷ deliver_to 1 2 ∷ deliver_to 1 3 ∷ deliver_to 1 4 ∷ take_one 2 ∷ take_one 3 ∷ take_one 4
    ∷ deliver_to 5 3 ∷ deliver_to 5 4 ∷ false_answer 1 1 5 5 ∷ take_one 6 ∷ take_one 7 ∷ take_one 8 ∷ []

-- "Counting faults only until a quorum has left." A read opens and 2 answers the old entry; 1 shows, 2 and 3 perform END.
ended : List (List ℕ)
ended =
    read 2 ∷ deliver_to 9 2
    ∷ new_view_lem 15 1 ∷ false_answer 1 1 11 5 ∷ deliver_to 11 2 ∷ deliver_to 11 3 ∷ take_one 12 ∷ take_one 13 ∷ take_one 14 ∷ []

-- 4 turns faulty holding its key.
turned : List (List ℕ)
turned = fault_of 4 ∷ []

-- 1 and 4 answer old, and the read ends in one exchange.
stale : List (List ℕ)
stale = false_answer 1 1 9 0 ∷ false_answer 4 1 9 0 ∷ take_one 10 ∷ take_one 16 ∷ take_one 17 ∷ []

holds_before : premise_after 15 1 (written ++ ended) ≡ true
unfolding premise_after written ended
holds_before = refl

fails_after : premise_after 15 1 (written ++ (ended ++ turned)) ≡ false
unfolding premise_after written ended turned
fails_after = refl

-- every step is accepted, and the read, which began after the write had ended, returns the empty entry
stale_stop : stop_of 15 1 (written ++ (ended ++ (turned ++ stale))) ≡ stops 29 0
unfolding stop_of written ended turned stale
stale_stop = refl

stale_read : operations_of 15 1 (written ++ (ended ++ (turned ++ stale))) ≡ (operated WRITES 2 14 (entry 1 1 7) ∷ operated READS 15 29 empty ∷ [])
unfolding operations_of written ended turned stale
stale_read = refl

-- "Counting answers instead of servers: a faulty server answers twice." After the write a read opens, 2 answers the old entry
-- and 1 shows it two times: all three are taken, and the phase stays open.
doubled : List (List ℕ)
doubled =
    read 2 ∷ deliver_to 9 2 ∷ false_answer 1 1 9 0 ∷ false_answer 1 1 9 0 ∷ take_one 10 ∷ take_one 11 ∷ take_one 12 ∷ []

doubled_stop : stop_of 15 1 (written ++ doubled) ≡ stops 21 0
unfolding stop_of written doubled
doubled_stop = refl

doubled_open : (client (run_of 15 1 (written ++ doubled)).world 2).phase ≡ Reading (number 9)
unfolding run_of written doubled
doubled_open = refl

-- "Adding up answers of different views to one quorum." 2 answers the read in view 1, 3 and 4 in view 2: it stays open.
mixed : List (List ℕ)
mixed =
    read 2 ∷ deliver_to 9 2
    ∷ new_view_lem 15 1 ∷ deliver_to 11 2 ∷ deliver_to 11 3 ∷ deliver_to 11 4 ∷ take_one 12 ∷ take_one 13 ∷ take_one 14
    ∷ deliver_to 15 3 ∷ deliver_to 15 4 ∷ deliver_to 9 3 ∷ deliver_to 9 4 ∷ take_one 10 ∷ take_one 16 ∷ take_one 17 ∷ []

mixed_stop : stop_of 15 1 (written ++ mixed) ≡ stops 30 0
unfolding stop_of written mixed
mixed_stop = refl

mixed_open : (client (run_of 15 1 (written ++ mixed)).world 2).phase ≡ Reading (number 9)
unfolding run_of written mixed
mixed_open = refl

-- "Letting a START that comes again return a key given up." 2 joins view 2 by START 5 and gives its key up by END 6; START 5
-- comes again.
joined : List (List ℕ)
joined =
    new_view_lem 15 1 ∷ deliver_to 1 2 ∷ deliver_to 1 3 ∷ deliver_to 1 4 ∷ take_one 2 ∷ take_one 3 ∷ take_one 4 ∷ deliver_to 5 2 ∷ []

parted : List (List ℕ)
parted = new_view_lem 15 1 ∷ deliver_to 6 2 ∷ []

again_stop : stop_of 15 1 (joined ++ (parted ++ (deliver_to 5 2 ∷ []))) ≡ stops 10 7
unfolding stop_of joined parted
again_stop = refl

-- "Skipping the reader's write-back." A WRITE reaches 2 alone, and 2, 3 and 4 answer a read: it is not complete.
surfaced : List (List ℕ)
surfaced =
    write 1 7 ∷ deliver_to 1 2 ∷ deliver_to 1 3 ∷ deliver_to 1 4 ∷ take_one 2 ∷ take_one 3 ∷ take_one 4 ∷ deliver_to 5 2
    ∷ read 2 ∷ deliver_to 7 2 ∷ deliver_to 7 3 ∷ deliver_to 7 4 ∷ take_one 8 ∷ take_one 9 ∷ take_one 10 ∷ []

surfaced_open : (client (run_of 15 1 surfaced).world 2).phase ≡ Writing (number 11)
unfolding run_of surfaced
surfaced_open = refl

-- It ends once 1, 3 and 4 keep the entry, so that a read which they answer returns it too, in one exchange.
kept : List (List ℕ)
kept =
    deliver_to 11 1 ∷ deliver_to 11 3 ∷ deliver_to 11 4 ∷ take_one 12 ∷ take_one 13 ∷ take_one 14
    ∷ read 3 ∷ deliver_to 15 1 ∷ deliver_to 15 3 ∷ deliver_to 15 4 ∷ take_one 16 ∷ take_one 17 ∷ take_one 18 ∷ []

kept_operations : operations_of 15 1 (surfaced ++ kept)
    ≡ (operated WRITES 1 0 (entry 1 1 7) ∷ operated READS 9 21 (entry 1 1 7) ∷ operated READS 22 28 (entry 1 1 7) ∷ [])
unfolding operations_of surfaced kept
kept_operations = refl

-- ---- given-up work: server 1 alone, f 0

-- Client 1 gives a write of 6 up while it reads, and one of 8 while it writes. It writes 9: its READ shows the empty entry, and its count is
-- above the one that it gave. The WRITE of 8 arrives late; its answer is refused, and client 2 reads 8. Then the write of 9 ends.
unfoldable pub given_up_lem : List (List ℕ)
given_up_lem =
    write 1 6 ∷ give_up_lem 1 ∷ write 1 8 ∷ deliver_to 2 1 ∷ take_one 3 ∷ give_up_lem 1
    ∷ write 1 9 ∷ deliver_to 5 1 ∷ take_one 6 ∷ deliver_to 4 1 ∷ take_one 8
    ∷ read 2 ∷ deliver_to 9 1 ∷ take_one 10 ∷ deliver_to 7 1 ∷ take_one 11 ∷ give_up_lem 1 ∷ []

given_up_history : operations_of 1 0 given_up_lem
    ≡ (record { kind = WRITES; begin = 1; end = 0; entry = None } ∷ operated WRITES 3 0 (entry 1 1 8) ∷ operated WRITES 7 16 (entry 2 1 9) ∷ operated READS 12 14 (entry 1 1 8) ∷ [])
unfolding operations_of given_up_lem
given_up_history = refl

-- The late answer stops the replay (7). "12, the client is idle": nothing is there to give up.
given_up_stop : stop_of 1 0 given_up_lem ≡ stops 10 7
unfolding stop_of given_up_lem
given_up_stop = refl

idle_stop : stop_of 1 0 (give_up_lem 1 ∷ []) ≡ stops 0 12
unfolding stop_of
idle_stop = refl

-- ---- other rules that an edit could turn round

-- "A correct server serves kinds 1 to 3 while it holds the key": 2 has given its key up
keyless_stop : stop_of 15 1 (joined ++ (parted ++ (read 1 ∷ deliver_to 8 2 ∷ []))) ≡ stops 11 7
unfolding stop_of joined parted
keyless_stop = refl

-- "9, it lacks that key": a server that turns faulty then has no view to answer with
silent_stop : stop_of 15 1 (joined ++ (parted ++ (fault_of 2 ∷ false_answer 2 2 1 0 ∷ []))) ≡ stops 11 9
unfolding stop_of joined parted
silent_stop = refl

-- "END (3) of its view": END of view 1 reaches 2 in view 2
late_stop : stop_of 15 1 (joined ++ (deliver_to 1 2 ∷ [])) ≡ stops 8 7
unfolding stop_of joined
late_stop = refl

-- "a member of N(t)": view 2 is of servers 2 to 4, and its START reaches 1
outside_stop : stop_of 15 1 (new_view_lem 14 0 ∷ deliver_to 1 2 ∷ deliver_to 1 3 ∷ deliver_to 1 4 ∷ take_one 2 ∷ take_one 3 ∷ take_one 4 ∷ deliver_to 5 1 ∷ []) ≡ stops 7 7
unfolding stop_of
outside_stop = refl

-- "Answers to END with another view are taken and count for nothing." 1, faulty, alone makes the quorums of views 1 and 2; it
-- answers END of view 2 with view 1
other_view : List (List ℕ)
other_view = fault_of 1 ∷ new_view_lem 1 0 ∷ false_answer 1 1 1 0 ∷ take_one 2 ∷ new_view_lem 1 0 ∷ false_answer 1 1 4 0 ∷ take_one 5 ∷ []

other_stop : stop_of 1 0 other_view ≡ stops 7 0
unfolding stop_of other_view
other_stop = refl

other_newest : newest (run_of 1 0 other_view).world ≡ 2
unfolding run_of other_view
other_newest = refl

-- "the largest stamp among those of view t": a WRITE reaches no server; 1, faulty, shows it with view 1 to a read that 2, 3 and 4
-- answer in view 2
shown_outside : List (List ℕ)
shown_outside =
    write 1 7 ∷ deliver_to 1 2 ∷ deliver_to 1 3 ∷ deliver_to 1 4 ∷ take_one 2 ∷ take_one 3 ∷ take_one 4
    ∷ new_view_lem 15 1 ∷ deliver_to 6 2 ∷ deliver_to 6 3 ∷ deliver_to 6 4 ∷ take_one 7 ∷ take_one 8 ∷ take_one 9
    ∷ deliver_to 10 2 ∷ deliver_to 10 3 ∷ deliver_to 10 4
    ∷ read 2 ∷ fault_of 1 ∷ false_answer 1 1 11 5 ∷ deliver_to 11 2 ∷ deliver_to 11 3 ∷ deliver_to 11 4
    ∷ take_one 12 ∷ take_one 13 ∷ take_one 14 ∷ take_one 15 ∷ []

-- the reader returns the empty entry, which all answers of view 2 carry, and sends nothing
outside_chosen : ((client (run_of 15 1 shown_outside).world 2).phase ≡ Idle) × ((client (run_of 15 1 shown_outside).world 2).entry ≡ empty) × ((run_of 15 1 shown_outside).world.used ≡ 15)
unfolding run_of shown_outside
outside_chosen = (refl, refl, refl)

-- Equal stamps. No run whose premise holds shows two entries of one stamp, so the ties are computed on entries: "its own", and
-- "the one taken first", the last of a list from the newest to the oldest
its_own : larger (entry 1 1 7) (entry 1 1 8) ≡ entry 1 1 7
unfolding run_of
its_own = refl

taken_first : chosen (entry 1 1 8 ∷ entry 1 1 7 ∷ []) ≡ entry 1 1 7
unfolding run_of
taken_first = refl
