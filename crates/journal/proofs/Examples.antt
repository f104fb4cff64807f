-- Watched replays computed on the definitions: they are about something. Assumes nothing.
use Rattle.std.specs.Prelude.{ℕ, ◌≡◌, refl, List, [], ◌∷◌, ◌++◌}
use Rattle.protocol.proofs.Sessions.{begun, run_of, premise_after, read, deliver_to, take_one, fault_of, new_view_lem}
use Rattle.journal.specs.Watch.{broken_from}

-- the step named from the fresh world of these member bits and f, and from the world that these steps lead to
unfoldable pub first_of : ℕ → ℕ → List (List ℕ) → ℕ
unfolding run_of premise_after broken_from
first_of bits f steps = broken_from 0 (begun bits f) steps

unfoldable pub first_after : ℕ → ℕ → List (List ℕ) → List (List ℕ) → ℕ
unfolding run_of premise_after broken_from
first_after bits f before steps = broken_from 0 (run_of bits f before).world steps

-- servers 1 to 4, f 1: the second fault breaks the premise; what follows is not named
by_fault : first_of 15 1 (fault_of 1 ∷ read 1 ∷ fault_of 2 ∷ fault_of 3 ∷ read 2 ∷ []) ≡ 3
unfolding first_of
by_fault = refl

-- beside a stop: server 2 is faulty already
beside_stop : first_of 15 1 (fault_of 1 ∷ fault_of 2 ∷ fault_of 2 ∷ []) ≡ 2
unfolding first_of
beside_stop = refl

-- servers 5 and 6 turn faulty before view 2, of servers 3 to 6, f 1; START, message 5, gives first 5 and then 6 its key
moved : List (List ℕ)
moved =
    fault_of 5 ∷ fault_of 6 ∷ new_view_lem 60 1 ∷ deliver_to 1 1 ∷ deliver_to 1 2 ∷ deliver_to 1 3
    ∷ take_one 2 ∷ take_one 3 ∷ take_one 4 ∷ deliver_to 5 5 ∷ []

by_none : first_of 15 1 moved ≡ 0
unfolding first_of moved
by_none = refl

by_start : first_of 15 1 (moved ++ (deliver_to 5 6 ∷ read 1 ∷ [])) ≡ 11
unfolding first_of moved
by_start = refl

-- server 3 gave its key of view 1 up: its fault counts against no view
without_key_lem : first_of 15 1 (moved ++ (fault_of 3 ∷ fault_of 4 ∷ [])) ≡ 0
unfolding first_of moved
without_key_lem = refl

-- broken at the start: the first accepted step is named, or none where none is
at_start : first_after 1 0 (fault_of 1 ∷ []) (read 1 ∷ read 2 ∷ []) ≡ 1
unfolding first_after
at_start = refl

none_accepted : first_after 1 0 (fault_of 1 ∷ []) (fault_of 1 ∷ []) ≡ 0
unfolding first_after
none_accepted = refl
