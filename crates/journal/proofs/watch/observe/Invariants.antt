-- What the check does not find alone.
use Rattle.journal.proofs.Watches.{Watching}
use Rattle.journal.proofs.watch.observe.Given as goal

abbrev pub invariant-loop-steps : goal.invariant-loop-steps
invariant-loop-steps l = Watching l.initial.image l.journal l.image l.steps l.first
