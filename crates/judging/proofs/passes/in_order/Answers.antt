-- What the check does not find alone.
use Rattle.std.proofs.Common.{rules}
use Rattle.judging.proofs.Walks.{unanswered, untimely, pass_more, pass_end}
use Rattle.judging.proofs.passes.in_order.Goals.{then-not-follows-via-then-not-follows, then-not-follows-via-else-not-follows+then-not-on_time}
use Rattle.judging.proofs.passes.in_order.Goals as goal

pub returns-then-not-follows : goal.returns-then-not-follows
returns-then-not-follows c =
    elim c.then-not-follows.branch [ then-not-follows-via-then-not-follows w ↦ search (unanswered, rules) | then-not-follows-via-else-not-follows+then-not-on_time w ↦ search (untimely, rules) ]

pub loop-i-preserved : goal.loop-i-preserved
loop-i-preserved c = search (pass_more, rules) depth 7 fits 4000

pub returns : goal.returns
returns c = search (pass_end, rules)
