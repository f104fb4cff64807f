-- What the check does not find alone.
use Rattle.judging.specs.Logs.{line_at}
use Rattle.judging.proofs.Walks.{InOrder}
use Rattle.judging.proofs.passes.in_order.Given as goal

abbrev pub invariant-loop-i : goal.invariant-loop-i
invariant-loop-i l = InOrder (line_at l.log) l.order l.last l.latest l.i-index
