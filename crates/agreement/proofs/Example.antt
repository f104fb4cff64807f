-- Runs whose order the theorem gives and the checker computes: with faults and a view change (`example`), with given-up work (`given_up_lem`).
-- Assumes nothing.
use Rattle.std.specs.Prelude.{ℕ, true, ◌≡◌, refl, List, [], ◌∷◌, ◌++◌}
use Rattle.protocol.specs.Tools.{any, done}
use Rattle.protocol.specs.Entries.{entry, same}
use Rattle.protocol.specs.Clients.{WRITES, READS}
use Rattle.protocol.specs.Worlds.{fresh, premise}
use Rattle.protocol.proofs.Laws.Worlds.{content, sent}
use Rattle.protocol.proofs.Sessions.{write, read, deliver_to, take_one, fault_of, false_answer, new_view_lem, given_up_lem, begun, run_of, operations_of, premise_after, stop_of, stops, operated, four}
use Rattle.protocol.specs.Runs.{run_from}
use Rattle.agreement.proofs.Sorting.{filter, sort}
use Rattle.agreement.proofs.Precedence.{compared}
use Rattle.agreement.specs.Order.{stands}
use Rattle.agreement.proofs.Order.{order}
use Rattle.agreement.proofs.Theorem.{linearizable}

-- Servers 1 to 4, f 1; server 1 turns faulty. Client 1 writes 7, which ends on 2, 3 and 4.
first : List (List ℕ)
first =
    fault_of 1 ∷ write 1 7 ∷ deliver_to 1 2 ∷ deliver_to 1 3 ∷ deliver_to 1 4 ∷ take_one 2 ∷ take_one 3 ∷ take_one 4
    ∷ deliver_to 5 2 ∷ deliver_to 5 3 ∷ deliver_to 5 4 ∷ take_one 6 ∷ take_one 7 ∷ take_one 8 ∷ []

-- Client 2 reads: 2 and 3 answer, and 1 shows the empty entry.
second : List (List ℕ)
second =
    read 2 ∷ false_answer 1 1 9 0 ∷ deliver_to 9 2 ∷ deliver_to 9 3 ∷ take_one 10 ∷ take_one 11 ∷ take_one 12
    ∷ deliver_to 13 2 ∷ deliver_to 13 3 ∷ deliver_to 13 4 ∷ take_one 14 ∷ take_one 15 ∷ take_one 16 ∷ []

-- View 2 is of servers 2 to 5: 2, 3 and 4 end view 1, and 2, 3 and 5 join.
third : List (List ℕ)
third =
    new_view_lem 30 1 ∷ deliver_to 17 2 ∷ deliver_to 17 3 ∷ deliver_to 17 4 ∷ take_one 18 ∷ take_one 19 ∷ take_one 20
    ∷ deliver_to 21 2 ∷ deliver_to 21 3 ∷ deliver_to 21 5 ∷ []

-- Client 3 begins to read. Client 4 writes 9; its WRITE reaches 5 alone, and it does not end.
fourth : List (List ℕ)
fourth =
    read 3 ∷ write 4 9 ∷ deliver_to 23 2 ∷ deliver_to 23 3 ∷ deliver_to 23 5 ∷ take_one 24 ∷ take_one 25 ∷ take_one 26
    ∷ deliver_to 27 5 ∷ []

-- 1, faulty and outside view 2, shows client 3 the entry of 7 with view 1; 2, 3 and 5 answer in view 2. The last step is
-- refused: its answer was taken before.
fifth : List (List ℕ)
fifth =
    false_answer 1 1 22 5 ∷ take_one 29 ∷ deliver_to 22 2 ∷ deliver_to 22 3 ∷ deliver_to 22 5 ∷ take_one 30 ∷ take_one 31 ∷ take_one 32
    ∷ deliver_to 33 2 ∷ deliver_to 33 3 ∷ deliver_to 33 5 ∷ take_one 34 ∷ take_one 35 ∷ take_one 36 ∷ take_one 36 ∷ []

example : List (List ℕ)
unfolding first second third fourth fifth
example = first ++ (second ++ (third ++ (fourth ++ fifth)))

-- all steps but the last are accepted
example_stop : stop_of 15 1 example ≡ stops 60 7
unfolding stop_of example
example_stop = refl

-- its history, in the order of beginning
example_history : operations_of 15 1 example
    ≡ (operated WRITES 2 14 (entry 1 1 7) ∷ operated READS 15 27 (entry 1 1 7) ∷ operated READS 38 60 (entry 2 4 9) ∷ operated WRITES 39 0 (entry 2 4 9) ∷ [])
unfolding operations_of example
example_history = refl

-- the premise holds at the end
example_premise : premise (run_from (begun 15 1) example).world ≡ true
unfolding premise_after example
example_premise = refl

-- the theorem's order: the write of 9, which did not end, stands in it before the read that returned its entry
example_order : (linearizable 15 1 0 (begun 15 1) four example example_premise).order
    ≡ (operated WRITES 2 14 (entry 1 1 7) ∷ operated READS 15 27 (entry 1 1 7) ∷ operated WRITES 39 0 (entry 2 4 9) ∷ operated READS 38 60 (entry 2 4 9) ∷ [])
unfolding operations_of example linearizable order stands filter sort compared any same sent content
example_order = refl

-- ---- given-up work: server 1 alone, f 0

begins_one : fresh 1 0 0 ≡ done (begun 1 0)
unfolding fresh run_of
begins_one = refl

given_up_premise : premise (run_from (begun 1 0) given_up_lem).world ≡ true
unfolding premise_after given_up_lem
given_up_premise = refl

-- the theorem's order: the write of 8, given up, stands before the read that returned its entry; that of 6 stands nowhere
given_up_order : (linearizable 1 0 0 (begun 1 0) begins_one given_up_lem given_up_premise).order
    ≡ (operated WRITES 3 0 (entry 1 1 8) ∷ operated READS 12 14 (entry 1 1 8) ∷ operated WRITES 7 16 (entry 2 1 9) ∷ [])
unfolding operations_of given_up_lem linearizable order stands filter sort compared any same sent content
given_up_order = refl
