-- Computed runs of views with two sizes. Servers 1 to 3 with f 0 permit the read sizes 1, with write size 3, and 2, with write size 2.
-- Assumes nothing.
use Rattle.std.specs.Prelude.{ℕ, ◌≡◌, refl, List, [], ◌∷◌, ◌++◌}
use Rattle.protocol.specs.Types.{Reading, Writing}
use Rattle.protocol.specs.Tools.{refused}
use Rattle.protocol.specs.Sizes.{view_with}
use Rattle.protocol.specs.Entries.{entry}
use Rattle.protocol.specs.Clients.{WRITES, READS, number}
use Rattle.protocol.specs.Worlds.{fresh_world, fresh, client, newest}
use Rattle.protocol.specs.Consistent.{Operation}
use Rattle.protocol.specs.Runs.{Run, Replayed, replay, run_from, history}
use Rattle.protocol.proofs.Sessions.{bytes, write, read, deliver_to, take_one, run_of, operations_of, Stop, stop_of, stops, operated}

-- a new view with a read size
new_view_lem : ℕ → ℕ → ℕ → List ℕ
new_view_lem bits f r = bytes 7 r 0 f 0 0 bits

-- the run, its operations and its stop, from the fresh world of servers 1 to 3 with f 0 and the read size r
unfoldable run_with : ℕ → List (List ℕ) → Run
unfolding run_of
run_with r steps = run_from (fresh_world (view_with 7 0 r)) steps

unfoldable operations_with : ℕ → List (List ℕ) → List Operation
unfolding run_with operations_of
operations_with r steps = history (run_with r steps)

unfoldable stop_with : ℕ → List (List ℕ) → Stop
unfolding stop_of
stop_with r steps = let x : Replayed = replay (fresh_world (view_with 7 0 r)) steps in record { steps = x.steps; refusal = x.refusal }

-- ---- read size 1

-- READ of a write closes with 2 alone; its WRITE reaches 1
filed : List (List ℕ)
filed = write 1 7 ∷ deliver_to 1 2 ∷ take_one 2 ∷ deliver_to 3 1 ∷ []

-- two of three servers do not close WRITE, the third does
filed_by_two : List (List ℕ)
filed_by_two = filed ++ (take_one 4 ∷ deliver_to 3 2 ∷ take_one 5 ∷ [])

open_by_two : (client (run_with 1 filed_by_two).world 1).phase ≡ Writing (number 3)
unfolding run_with filed_by_two filed
open_by_two = refl

ended_by_three : operations_with 1 (filed_by_two ++ (deliver_to 3 3 ∷ take_one 6 ∷ [])) ≡ (operated WRITES 1 9 (entry 1 1 7) ∷ [])
unfolding operations_with filed_by_two filed
ended_by_three = refl

-- "Where the read size is below the write size a read always writes back": 1 alone answers a read, with one entry, and the read writes it
-- back. Else the next read, which 2 answers, would return the empty entry.
back : List (List ℕ)
back = filed ++ (read 2 ∷ deliver_to 5 1 ∷ take_one 6 ∷ [])

writes_back : (client (run_with 1 back).world 2).phase ≡ Writing (number 7)
unfolding run_with back filed
writes_back = refl

back_ended : List (List ℕ)
back_ended =
    back ++ (deliver_to 7 1 ∷ deliver_to 7 2 ∷ deliver_to 7 3 ∷ take_one 8 ∷ take_one 9 ∷ take_one 10
    ∷ read 3 ∷ deliver_to 11 2 ∷ take_one 12 ∷ deliver_to 13 1 ∷ deliver_to 13 2 ∷ deliver_to 13 3 ∷ take_one 14 ∷ take_one 15 ∷ take_one 16 ∷ [])

back_operations : operations_with 1 back_ended
    ≡ (operated WRITES 1 0 (entry 1 1 7) ∷ operated READS 5 13 (entry 1 1 7) ∷ operated READS 14 22 (entry 1 1 7) ∷ [])
unfolding operations_with back_ended back filed
back_operations = refl

-- END closes with the write size: two answers leave it open, the third closes it
end_by_two : List (List ℕ)
end_by_two = new_view_lem 7 0 2 ∷ deliver_to 1 1 ∷ deliver_to 1 2 ∷ deliver_to 1 3 ∷ take_one 2 ∷ take_one 3 ∷ []

ending_by_two : newest (run_with 1 end_by_two).world ≡ 1
unfolding run_with end_by_two new_view_lem
ending_by_two = refl

ended_view : newest (run_with 1 (end_by_two ++ (take_one 4 ∷ []))).world ≡ 2
unfolding run_with end_by_two new_view_lem
ended_view = refl

-- ---- read size 2: the read size is not below the write size, and a read may end in one exchange

one_exchange_lem : List (List ℕ)
one_exchange_lem = read 2 ∷ deliver_to 1 1 ∷ deliver_to 1 2 ∷ take_one 2 ∷ take_one 3 ∷ []

one_operation : operations_with 2 one_exchange_lem ≡ (operated READS 1 5 (entry 0 0 0) ∷ [])
unfolding operations_with one_exchange_lem
one_operation = refl

-- one answer is too few
one_open : (client (run_with 2 (read 2 ∷ deliver_to 1 1 ∷ take_one 2 ∷ [])).world 2).phase ≡ Reading (number 1)
unfolding run_with
one_open = refl

-- ---- "8 also for an r outside these bounds": 3 of 3 servers; 2 of 4 with f 1; any u8 is no 3

too_large : fresh 7 0 3 ≡ refused 8
unfolding fresh run_of
too_large = refl

too_small : fresh 15 1 2 ≡ refused 8
unfolding fresh run_of
too_small = refl

view_refused : stop_with 1 (new_view_lem 15 1 2 ∷ []) ≡ stops 0 8
unfolding stop_with new_view_lem
view_refused = refl

view_largest : stop_with 1 (new_view_lem 15 1 255 ∷ []) ≡ stops 0 8
unfolding stop_with new_view_lem
view_largest = refl
