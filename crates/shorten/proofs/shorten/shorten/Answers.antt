-- What the check does not find alone.
use Rattle.shorten.proofs.Ends.{wrong_image}
use Rattle.shorten.proofs.shorten.shorten.Goals as goal

pub returns-in_default : goal.returns-in_default
returns-in_default c = let a = c.args in wrong_image a.image.now a.members a.f a.r a.journal.now a.shorter.now c.in_default.ensures.cases

pub returns : goal.returns
returns c = rw (← c.in-Some.ensures.cases.same) c.begun.ensures
