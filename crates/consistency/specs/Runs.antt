-- Runs of images, and their operations: `run_from` an image by a list of byte strings, each a step, and the `history` that the claim
-- judges. As `run` and `history` of worlds in protocol/specs/Runs.antt; proofs/Worlds.antt has the laws. Assumes nothing.
use Rattle.std.specs.Prelude.{ℕ, ◌+◌, List, [], ◌∷◌, ◌++◌, map}
use Rattle.protocol.specs.Tools.{Result, refused, done}
use Rattle.protocol.specs.Steps.{After}
use Rattle.protocol.specs.Consistent.{Operation}
use Rattle.protocol.specs.Runs.{step_of, Tracked, tracked, started, operation}
use Rattle.codec.specs.Images.{decode}
use Rattle.image.specs.Steps.{step_on, left_by}

-- a run: its image, the place of its next step, and its operations in the order of their beginning
pub record Run : Type 0 where
  pub image : List ℕ
  pub place : ℕ
  pub operations : List Tracked

-- the operations after a step, i being the image that it left: an accepted write or read begins one, and the accepted take
-- that completes one ends it, with the entry in its client's record in i
abbrev pub operations_on : List Tracked → List ℕ → ℕ → List ℕ → Result After → List Tracked
operations_on l i place b (refused n) = l
operations_on l i place b (done a) = map (tracked (decode i) place a.completed) l ++ started (decode i) place (step_of b)

-- "Each gets the image the last one left."
unfoldable pub noted : Run → List ℕ → Run
noted r b =
    record {
      image = left_by r.image (step_on r.image b);
      place = r.place + 1;
      operations = operations_on r.operations (left_by r.image (step_on r.image b)) r.place b (step_on r.image b);
    }

unfoldable pub run : Run → List (List ℕ) → Run
run r [] = r
run r (b ∷ bs) = run (noted r b) bs

-- "A run is any fresh world and any list of steps"; places are counted from 1
unfoldable pub run_from : List ℕ → List (List ℕ) → Run
run_from i bs = run (record { image = i; place = 1; operations = [] }) bs

-- the operations with their entries; that of an unfinished write is its WRITE's in the last image
unfoldable pub history : Run → List Operation
history r = map (operation (decode r.image)) r.operations
