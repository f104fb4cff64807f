-- Computed runs of reads that end in one exchange, and of reads that write back. Assumes nothing.
use Rattle.std.specs.Prelude.{ℕ, true, ◌≡◌, refl, List, [], ◌∷◌, ◌++◌}
use Rattle.protocol.specs.Types.{Message, Idle, Writing}
use Rattle.protocol.specs.Entries.{entry}
use Rattle.protocol.specs.Clients.{WRITES, READS, number}
use Rattle.protocol.specs.Worlds.{World, client, message, with_message}
use Rattle.protocol.specs.Runs.{run_from}
use Rattle.protocol.proofs.Sessions.{write, read, deliver_to, take_one, fault_of, false_answer, new_view_lem, run_of, operations_of, premise_after, stop_of, stops, operated}

-- ---- "Equality of reads ... must survive view changes between the two", on servers 1 to 4 with f 1

-- A write ends on 1, 2 and 3, and a read of theirs ends in one exchange.
filed : List (List ℕ)
filed =
    write 1 7 ∷ deliver_to 1 1 ∷ deliver_to 1 2 ∷ deliver_to 1 3 ∷ take_one 2 ∷ take_one 3 ∷ take_one 4
    ∷ deliver_to 5 1 ∷ deliver_to 5 2 ∷ deliver_to 5 3 ∷ take_one 6 ∷ take_one 7 ∷ take_one 8 ∷ []

read_once : List (List ℕ)
read_once = read 2 ∷ deliver_to 9 1 ∷ deliver_to 9 2 ∷ deliver_to 9 3 ∷ take_one 10 ∷ take_one 11 ∷ take_one 12 ∷ []

-- 1 turns faulty and shows END the empty entry; with 3 and 4 the view ends, and 3, 5 and 6 start the next one.
replaced : List (List ℕ)
replaced =
    fault_of 1 ∷ new_view_lem 60 1 ∷ false_answer 1 1 13 0 ∷ deliver_to 13 3 ∷ deliver_to 13 4 ∷ take_one 14 ∷ take_one 15 ∷ take_one 16
    ∷ deliver_to 17 3 ∷ deliver_to 17 5 ∷ deliver_to 17 6 ∷ []

read_again : List (List ℕ)
read_again = read 2 ∷ deliver_to 18 3 ∷ deliver_to 18 5 ∷ deliver_to 18 6 ∷ take_one 19 ∷ take_one 20 ∷ take_one 21 ∷ []

across : List (List ℕ)
across = filed ++ (read_once ++ (replaced ++ read_again))

across_stop : stop_of 15 1 across ≡ stops 38 0
unfolding stop_of across filed read_once replaced read_again
across_stop = refl

across_premise : premise_after 15 1 across ≡ true
unfolding premise_after across filed read_once replaced read_again
across_premise = refl

-- the two reads are equal, and neither sent a WRITE
across_operations : operations_of 15 1 across
    ≡ (operated WRITES 1 13 (entry 1 1 7) ∷ operated READS 14 20 (entry 1 1 7) ∷ operated READS 32 38 (entry 1 1 7) ∷ [])
unfolding operations_of across filed read_once replaced read_again
across_operations = refl

across_sent : (run_of 15 1 across).world.used ≡ 21
unfolding run_of across filed read_once replaced read_again
across_sent = refl

-- ---- two answers of one server, which is faulty: 4 shows the entry of message 5, and then that of the source

told_twice : ℕ → List (List ℕ)
told_twice source =
    filed ++ (fault_of 4 ∷ read 2 ∷ deliver_to 9 1 ∷ deliver_to 9 2 ∷ false_answer 4 1 9 5 ∷ false_answer 4 1 9 source
    ∷ take_one 12 ∷ take_one 13 ∷ take_one 10 ∷ take_one 11 ∷ [])

-- the same entry twice: it is one server, and with 1 and 2 the read is complete
same_twice : operations_of 15 1 (told_twice 5) ≡ (operated WRITES 1 13 (entry 1 1 7) ∷ operated READS 15 23 (entry 1 1 7) ∷ [])
unfolding operations_of told_twice filed
same_twice = refl

-- another entry: three servers showed one, but not all answers carry it
other_twice : (client (run_of 15 1 (told_twice 0)).world 2).phase ≡ Writing (number 14)
unfolding run_of told_twice filed
other_twice = refl

-- ---- answers that differ in one field only are written back, on servers 1 to 3 with f 0

-- a write of 7 by client 1 ends on 1 and 2
kept_by_two : List (List ℕ)
kept_by_two =
    write 1 7 ∷ deliver_to 1 1 ∷ deliver_to 1 2 ∷ take_one 2 ∷ take_one 3 ∷ deliver_to 4 1 ∷ deliver_to 4 2 ∷ take_one 5 ∷ take_one 6 ∷ []

-- in the count: client 1 writes 7 again, and 1 alone keeps it
other_count : List (List ℕ)
other_count =
    kept_by_two ++ (write 1 7 ∷ deliver_to 7 1 ∷ deliver_to 7 2 ∷ take_one 8 ∷ take_one 9 ∷ deliver_to 10 1
    ∷ read 2 ∷ deliver_to 12 1 ∷ deliver_to 12 2 ∷ take_one 13 ∷ take_one 14 ∷ [])

by_count : ((client (run_of 7 0 other_count).world 2).phase ≡ Writing (number 15)) × ((client (run_of 7 0 other_count).world 2).entry ≡ entry 2 1 7)
unfolding run_of other_count kept_by_two
by_count = (refl, refl)

-- in the writer: clients 1 and 2 write 7, the first to 1 and the second, which did not see it, to 2
other_writer : List (List ℕ)
other_writer =
    write 1 7 ∷ deliver_to 1 1 ∷ deliver_to 1 2 ∷ take_one 2 ∷ take_one 3 ∷ deliver_to 4 1
    ∷ write 2 7 ∷ deliver_to 6 2 ∷ deliver_to 6 3 ∷ take_one 7 ∷ take_one 8 ∷ deliver_to 9 2
    ∷ read 3 ∷ deliver_to 11 1 ∷ deliver_to 11 2 ∷ take_one 12 ∷ take_one 13 ∷ []

by_writer : ((client (run_of 7 0 other_writer).world 3).phase ≡ Writing (number 14)) × ((client (run_of 7 0 other_writer).world 3).entry ≡ entry 1 2 7)
unfolding run_of other_writer
by_writer = (refl, refl)

-- in the value: no run whose premise holds shows two values of one stamp, so the answer of 2 is changed before it is taken
read_open : List (List ℕ)
read_open = kept_by_two ++ (read 2 ∷ deliver_to 7 1 ∷ deliver_to 7 2 ∷ take_one 8 ∷ [])

changed : World → World
changed w =
    let m : Message = message w 9 in
    with_message w 9 (record { kind = m.kind; sender = m.sender; view = m.view; taken = m.taken; request = m.request; next = m.next; entry = entry 1 1 8 })

by_value : (client (run_from (changed (run_of 7 0 read_open).world) (take_one 9 ∷ [])).world 2).phase ≡ Writing (number 10)
unfolding run_of read_open kept_by_two changed
by_value = refl

unchanged : (client (run_from (run_of 7 0 read_open).world (take_one 9 ∷ [])).world 2).phase ≡ Idle
unfolding run_of read_open kept_by_two
unchanged = refl
