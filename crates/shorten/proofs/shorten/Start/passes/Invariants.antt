-- What the check does not find alone.
use Rattle.protocol.specs.Worlds.{fresh_world}
use Rattle.protocol.specs.Refusals.{refusal_number}
use Rattle.shorten.specs.Journals.{stops_with}
use Rattle.shorten.specs.Trials.{Passing}
use Rattle.shorten.proofs.shorten.Start.passes.Given as goal

abbrev pub invariant-loop-left : goal.invariant-loop-left
invariant-loop-left l = Passing (stops_with (fresh_world l.self.view) (refusal_number l.refusal)) l.initial.shorter l.steps l.shorter l.left l.before

abbrev pub decreases-loop-left : goal.decreases-loop-left
decreases-loop-left l = l.before
