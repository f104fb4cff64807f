-- Journals shortened on the definitions: they are about something. Assumes nothing.
use Rattle.std.specs.Prelude.{ℕ, ◌≡◌, refl, List, [], ◌∷◌}
use Rattle.protocol.specs.Tools.{Result, refused, done, guard}
use Rattle.protocol.specs.Runs.{replay}
use Rattle.protocol.proofs.Sessions.{begun, run_of, write, read, deliver_to, take_one, fault_of, false_answer}
use Rattle.shorten.specs.Passes.{without, dropped, sweep, one_pass, passes}
use Rattle.shorten.specs.Journals.{stops_with, short_journal, shortened}

-- from the fresh world of these member bits and f
unfoldable pub short_of : ℕ → ℕ → List (List ℕ) → Result (List (List ℕ))
unfolding run_of replay without dropped sweep passes short_journal shortened guard
short_of bits f bs = shortened (begun bits f) bs

-- one pass of those whose replay stops with n
unfoldable pub pass_of : ℕ → ℕ → ℕ → List (List ℕ) → List (List ℕ)
unfolding run_of replay without dropped sweep
pass_of bits f n bs = one_pass (stops_with (begun bits f) n) bs

-- A client that is busy: what others do between does not matter.
busy : short_of 1 0 (write 1 7 ∷ read 2 ∷ deliver_to 2 1 ∷ write 1 8 ∷ take_one 3 ∷ []) ≡ done (write 1 7 ∷ write 1 8 ∷ [])
unfolding short_of
busy = refl

-- no refusal, and no steps
accepted : short_of 1 0 (write 1 7 ∷ deliver_to 1 1 ∷ []) ≡ refused 15
unfolding short_of
accepted = refl

no_steps : short_of 1 0 [] ≡ refused 15
unfolding short_of
no_steps = refl

-- WRITE reaches a server that is faulty (6). Once the fault is dropped, its false answer is refused with the same number, and what
-- follows it can be dropped by the next pass.
lying : List (List ℕ)
lying = write 1 7 ∷ fault_of 1 ∷ false_answer 1 1 1 0 ∷ take_one 2 ∷ deliver_to 3 1 ∷ []

one_pass_lem : pass_of 1 0 6 lying ≡ (write 1 7 ∷ false_answer 1 1 1 0 ∷ take_one 2 ∷ deliver_to 3 1 ∷ [])
unfolding pass_of lying
one_pass_lem = refl

all_passes : short_of 1 0 lying ≡ done (write 1 7 ∷ false_answer 1 1 1 0 ∷ [])
unfolding short_of lying
all_passes = refl
