-- What the check does not find alone.
use Rattle.judging.proofs.Verdict.{promised}
use Rattle.judging.proofs.judge.judge.Goals as goal

pub returns-clause-promise : goal.returns-clause-promise
returns-clause-promise c = let e = c.answer.ensures in rw (e.answer, e.buffer) (promised c.args.log.now c.args.order.now)
