-- What every accepted step keeps; proofs/Kept.antt proves it. Assumes nothing.
use Rattle.std.specs.Prelude.{true, ◌≡◌}
use Rattle.protocol.specs.declared.Step.{Step}
use Rattle.protocol.specs.Tools.{done}
use Rattle.protocol.specs.Worlds.{World}
use Rattle.protocol.specs.Steps.{After, step}
use Rattle.protocol.specs.Readable.{well_formed}

-- Every accepted step keeps a world readable.
abbrev pub StepKept : Type 0
StepKept = (w : World) → well_formed w ≡ true → (st : Step) (a : After) → step w st ≡ done a → well_formed a.world ≡ true
