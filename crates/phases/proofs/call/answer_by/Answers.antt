-- What the check does not find alone.
use Rattle.std.proofs.Common.{sym, ap, ◌∙◌}
use Rattle.protocol.specs.Refusals.{code}
use Rattle.phases.proofs.Taking.{told}
use Rattle.phases.proofs.call.answer_by.Goals as goal

pub returns : goal.returns
returns c = told _ _ _ (sym c.may_take.ensures ∙ ap code c.in_ok-may_take.was) _ _ _ _ _ c.take.ensures c.write_closed.ensures
