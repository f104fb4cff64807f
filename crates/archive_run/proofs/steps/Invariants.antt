-- What the check does not find alone:
-- The steps that are counted were accepted, one after another.
use Rattle.archive_run.specs.Loop.{Led}
use Rattle.archive_run.proofs.steps.Given as goal

abbrev pub invariant-loop-steps : goal.invariant-loop-steps
invariant-loop-steps g l = Led l.initial.image l.steps l.image
