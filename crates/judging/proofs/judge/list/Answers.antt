-- What the check does not find alone.
use Rattle.std.proofs.Common.{rules}
use Rattle.codec.specs.Lists.{flat}
use Rattle.judging.proofs.Walks.{list_start, list_more, list_end}
use Rattle.judging.proofs.judge.list.Goals as goal

pub loop-q-init : goal.loop-q-init
unfolding flat
loop-q-init c = search (list_start, rules) depth 7 fits 4000

pub loop-q-preserved : goal.loop-q-preserved
loop-q-preserved c = search (list_more, rules) depth 7 fits 4000

pub returns : goal.returns
returns c = search (list_end, rules) depth 7 fits 4000
