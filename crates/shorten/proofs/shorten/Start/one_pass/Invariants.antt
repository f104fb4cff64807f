-- What the check does not find alone.
use Rattle.protocol.specs.Worlds.{fresh_world}
use Rattle.protocol.specs.Refusals.{refusal_number}
use Rattle.shorten.specs.Journals.{stops_with}
use Rattle.shorten.specs.Trials.{Sweeping}
use Rattle.shorten.proofs.shorten.Start.one_pass.Given as goal

abbrev pub invariant-loop-place : goal.invariant-loop-place
invariant-loop-place l = Sweeping (stops_with (fresh_world l.self.view) (refusal_number l.refusal)) l.initial.shorter l.steps l.shorter l.left l.place
