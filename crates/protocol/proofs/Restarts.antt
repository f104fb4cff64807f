-- Computed runs of a restart of the administrator, on servers 1 to 4 with f 1. Assumes nothing.
use Rattle.std.specs.Prelude.{ℕ, true, false, ◌≡◌, refl, List, [], ◌∷◌, ◌++◌, None, Some}
use Rattle.protocol.specs.Types.{Reading}
use Rattle.protocol.specs.Entries.{entry}
use Rattle.protocol.specs.Servers.{START}
use Rattle.protocol.specs.Sizes.{view_with}
use Rattle.protocol.specs.Clients.{WRITES, READS, number}
use Rattle.protocol.specs.Worlds.{view, client, message, newest}
use Rattle.protocol.specs.Chains.{chain, follow}
use Rattle.protocol.specs.Steps.{request}
use Rattle.protocol.proofs.Sessions.{bytes, write, read, deliver_to, take_one, fault_of, false_answer, new_view_lem, restart_with, run_of, operations_of, premise_after, stop_of, stops, operated}

-- ---- "It restarted between END and START without the answers taken."

-- A write ends on 1, 2 and 3, client 2 reads it, and client 3 takes one answer to a read that stays open.
filed : List (List ℕ)
filed =
    write 1 7 ∷ deliver_to 1 1 ∷ deliver_to 1 2 ∷ deliver_to 1 3 ∷ take_one 2 ∷ take_one 3 ∷ take_one 4
    ∷ deliver_to 5 1 ∷ deliver_to 5 2 ∷ deliver_to 5 3 ∷ take_one 6 ∷ take_one 7 ∷ take_one 8
    ∷ read 2 ∷ deliver_to 9 1 ∷ deliver_to 9 2 ∷ deliver_to 9 3 ∷ take_one 10 ∷ take_one 11 ∷ take_one 12
    ∷ read 3 ∷ deliver_to 13 4 ∷ take_one 14 ∷ []

-- View 2 of servers 3 to 6 with f 1 is pending. 1, 2 and 3 answer its END, and two of the three answers that close it are taken.
ending : List (List ℕ)
ending = new_view_lem 60 1 ∷ deliver_to 15 1 ∷ deliver_to 15 2 ∷ deliver_to 15 3 ∷ take_one 16 ∷ take_one 17 ∷ []

-- The administrator restarts: view 2 is to be of servers 3 to 7, with f 0 and read size 2, so write size 4.
renewed : List (List ℕ)
renewed = filed ++ (ending ++ (restart_with 124 0 2 ∷ []))

renewed_stop : stop_of 15 1 renewed ≡ stops 30 0
unfolding stop_of renewed filed ending
renewed_stop = refl

-- "new member bits for the pending view, with f, and r in who"; END stays open, the old view newest
renewed_view : (view (run_of 15 1 renewed).world 2 ≡ view_with 124 0 2) × (newest (run_of 15 1 renewed).world ≡ 1) × ((run_of 15 1 renewed).world.administrator.ending ≡ Some (number 15))
unfolding run_of renewed filed ending
renewed_view = (refl, refl, refl)

-- "empties the chain of the open END and marks its answers untaken"
renewed_chain : ((message (run_of 15 1 renewed).world 15).next ≡ number 0) × ((message (run_of 15 1 renewed).world 16).taken ≡ false) × ((message (run_of 15 1 renewed).world 17).taken ≡ false)
    × ((message (run_of 15 1 renewed).world 17).next ≡ number 0)
unfolding run_of renewed filed ending
renewed_chain = (refl, refl, refl, refl)

-- the answer of another request stays taken
renewed_other : ((message (run_of 15 1 renewed).world 13).next ≡ number 14) × ((message (run_of 15 1 renewed).world 14).taken ≡ true)
    × ((client (run_of 15 1 renewed).world 3).phase ≡ Reading (number 13))
unfolding run_of renewed filed ending
renewed_other = (refl, refl, refl)

-- The answers are taken again, and close END. 3 to 6 start view 2; client 2 reads again from 3 and 4, and writes back to four.
closed : List (List ℕ)
closed = renewed ++ (take_one 16 ∷ take_one 17 ∷ take_one 18 ∷ [])

read_again : List (List ℕ)
read_again =
    deliver_to 19 3 ∷ deliver_to 19 4 ∷ deliver_to 19 5 ∷ deliver_to 19 6
    ∷ read 2 ∷ deliver_to 20 3 ∷ deliver_to 20 4 ∷ take_one 21 ∷ take_one 22
    ∷ deliver_to 23 3 ∷ deliver_to 23 4 ∷ deliver_to 23 5 ∷ deliver_to 23 6 ∷ take_one 24 ∷ take_one 25 ∷ take_one 26 ∷ take_one 27 ∷ []

closed_start : (newest (run_of 15 1 closed).world ≡ 2) × (message (run_of 15 1 closed).world 19 ≡ request START 0 2 (entry 1 1 7))
unfolding run_of closed renewed filed ending
closed_start = (refl, refl)

again_stop : stop_of 15 1 (closed ++ read_again) ≡ stops 50 0
unfolding stop_of closed renewed filed ending read_again
again_stop = refl

again_premise : premise_after 15 1 (closed ++ read_again) ≡ true
unfolding premise_after closed renewed filed ending read_again
again_premise = refl

-- the reads before and after are equal
again_operations : operations_of 15 1 (closed ++ read_again)
    ≡ (operated WRITES 1 13 (entry 1 1 7) ∷ operated READS 14 20 (entry 1 1 7) ∷ record { kind = READS; begin = 21; end = 0; entry = None } ∷ operated READS 38 50 (entry 1 1 7) ∷ [])
unfolding operations_of closed renewed filed ending read_again
again_operations = refl

-- ---- without new members

-- the pending view stays, and the answers close END with the same START
kept : List (List ℕ)
kept = filed ++ (ending ++ (restart_with 0 0 0 ∷ restart_with 0 0 0 ∷ take_one 16 ∷ take_one 17 ∷ take_one 18 ∷ []))

kept_start : (view (run_of 15 1 kept).world 2 ≡ view_with 60 1 0) × (newest (run_of 15 1 kept).world ≡ 2) × (message (run_of 15 1 kept).world 19 ≡ request START 0 2 (entry 1 1 7))
unfolding run_of kept filed ending
kept_start = (refl, refl, refl)

-- ---- answers that count for nothing

-- Server 4 is faulty and has the keys of views 1 and 2. To END 2, number 6, it answers with view 1, and twice with view 2.
twice : List (List ℕ)
twice =
    fault_of 4 ∷ new_view_lem 15 1 ∷ deliver_to 1 1 ∷ deliver_to 1 2 ∷ deliver_to 1 3 ∷ take_one 2 ∷ take_one 3 ∷ take_one 4 ∷ deliver_to 5 4
    ∷ new_view_lem 15 1 ∷ false_answer 4 1 6 0 ∷ false_answer 4 2 6 0 ∷ false_answer 4 2 6 0 ∷ take_one 7 ∷ take_one 8 ∷ take_one 9 ∷ []

-- all three are in the chain, and a restart marks all three untaken, whatever their view
twice_chain : chain (run_of 15 1 twice).world 6 ≡ (9 ∷ 8 ∷ 7 ∷ [])
unfolding run_of twice chain follow message
twice_chain = refl

twice_untaken : ((message (run_of 15 1 (twice ++ (restart_with 0 0 0 ∷ []))).world 7).taken ≡ false) × ((message (run_of 15 1 (twice ++ (restart_with 0 0 0 ∷ []))).world 8).taken ≡ false)
    × ((message (run_of 15 1 (twice ++ (restart_with 0 0 0 ∷ []))).world 9).taken ≡ false)
unfolding run_of twice
twice_untaken = (refl, refl, refl)

-- taken again they do not close END
twice_again : stop_of 15 1 (twice ++ (restart_with 0 0 0 ∷ take_one 7 ∷ take_one 8 ∷ take_one 9 ∷ restart_with 0 0 0 ∷ [])) ≡ stops 21 0
unfolding stop_of twice
twice_again = refl

-- ---- what is refused

-- "7, nothing is being ended": before END, and once START has been sent; also where the size rule is broken
none_ended : (stop_of 15 1 (restart_with 0 0 0 ∷ []) ≡ stops 0 7) × (stop_of 15 1 (restart_with 1 1 0 ∷ []) ≡ stops 0 7)
unfolding stop_of
none_ended = (refl, refl)

start_sent : stop_of 15 1 (closed ++ (restart_with 124 0 2 ∷ [])) ≡ stops 33 7
unfolding stop_of closed renewed filed ending
start_sent = refl

-- "then 8": one server does not bear a fault, and 3 is too large a read size of servers 3 to 6
wrong_size : (stop_of 15 1 (new_view_lem 60 1 ∷ restart_with 1 1 0 ∷ []) ≡ stops 1 8) × (stop_of 15 1 (new_view_lem 60 1 ∷ restart_with 60 0 3 ∷ []) ≡ stops 1 8)
unfolding stop_of
wrong_size = (refl, refl)

-- "with value 0 both are 0, else 3"
value_none : (stop_of 15 1 (new_view_lem 60 1 ∷ restart_with 0 1 0 ∷ []) ≡ stops 1 3) × (stop_of 15 1 (new_view_lem 60 1 ∷ restart_with 0 0 3 ∷ []) ≡ stops 1 3)
unfolding stop_of
value_none = (refl, refl)

-- an unused field, and a kind after the last
fields_unfit : (stop_of 15 1 (new_view_lem 60 1 ∷ bytes 9 0 1 0 0 0 0 ∷ []) ≡ stops 1 3) × (stop_of 15 1 (bytes 10 0 0 0 0 0 0 ∷ []) ≡ stops 0 3)
unfolding stop_of
fields_unfit = (refl, refl)
