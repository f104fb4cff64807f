-- The steps that a replay did: by them what holds of runs holds of journals (proofs/Journals.antt). Assumes nothing.
use Rattle.std.specs.Prelude.{ℕ, List, take}
use Rattle.image.specs.Steps.{steps_of, replay_on}

-- the steps that the replay of the journal j on the image i does: the first of its 12-byte records, as many as it says
abbrev pub steps_done : List ℕ → List ℕ → List (List ℕ)
steps_done i j = take (replay_on i j).steps (steps_of j)
