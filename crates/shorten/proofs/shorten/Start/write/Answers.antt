-- What the check does not find alone.
use borrow.Author.Rules.{rules}
use Rattle.shorten.specs.Lent.{started}
use Rattle.shorten.proofs.shorten.Start.write.Goals as goal

pub returns : goal.returns
returns c = search (started, rules) depth 7 fits 4000
