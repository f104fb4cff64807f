-- Demand 3 on worlds; proofs/Theorem.antt proves it. Assumes nothing.
use Rattle.std.specs.Prelude.{ℕ, true, ◌≡◌, List}
use Rattle.protocol.specs.Tools.{done}
use Rattle.protocol.specs.Worlds.{World, fresh, premise}
use Rattle.protocol.specs.Consistent.{Consistent}
use Rattle.protocol.specs.Runs.{run_from, history}

-- For every fresh world and every list of steps, given by any bytes: if the premise holds in the last world, the operations of
-- the run have one order in which each read returns the last write before it.
abbrev pub Linearizable : Type 0
Linearizable =
    (members f r : ℕ) (w : World) → fresh members f r ≡ done w → (steps : List (List ℕ)) → premise (run_from w steps).world ≡ true
    → Consistent (history (run_from w steps))
