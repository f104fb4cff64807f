-- What the check does not find alone.
use borrow.Author.Rules.{rules}
use Rattle.shorten.specs.Trials.{passing_start, passing_next, passing_end}
use Rattle.shorten.proofs.shorten.Start.passes.Goals as goal

pub loop-left-init : goal.loop-left-init
loop-left-init c = search (passing_start, rules) depth 7 fits 4000

pub loop-left-preserved : goal.loop-left-preserved
loop-left-preserved c = search (passing_next, rules) depth 7 fits 4000

pub returns : goal.returns
returns c = search (passing_end, rules) depth 7 fits 4000
