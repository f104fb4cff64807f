-- What the check does not find alone.
use borrow.Author.Rules.{rules}
use Rattle.shorten.specs.Trials.{sweeping_next, sweeping_end}
use Rattle.shorten.proofs.shorten.Start.one_pass.Goals as goal

pub loop-place-preserved : goal.loop-place-preserved
loop-place-preserved c = search (sweeping_next, rules) depth 7 fits 4000

pub returns : goal.returns
returns c = search (sweeping_end, rules) depth 7 fits 4000
