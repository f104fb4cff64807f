-- What the check does not find alone.
use Rattle.std.proofs.Common.{length}
use Rattle.judging.proofs.Walks.{Listing}
use Rattle.judging.proofs.judge.list.Given as goal

abbrev pub invariant-loop-q : goal.invariant-loop-q
invariant-loop-q l = Listing l.lines (length l.fn.order) l.order l.q
