-- What the check does not find alone.
use Rattle.journal.specs.Replays.{Going}
use Rattle.journal.proofs.replay.play.Given as goal

abbrev pub invariant-loop-steps : goal.invariant-loop-steps
invariant-loop-steps l = Going l.initial.image l.journal l.image l.steps
