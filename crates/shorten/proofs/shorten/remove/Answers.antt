-- What the check does not find alone.
use borrow.Author.Rules.{rules}
use Rattle.shorten.specs.Buffers.{cleared}
use Rattle.shorten.proofs.shorten.remove.Goals as goal

pub returns : goal.returns
returns c = search (cleared, rules) depth 7 fits 4000
