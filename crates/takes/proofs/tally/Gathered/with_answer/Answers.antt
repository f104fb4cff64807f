-- What the check does not find alone.
use Rattle.takes.specs.Gathered.{gathers_with}
use Rattle.takes.proofs.tally.Gathered.with_answer.Goals as goal

pub returns : goal.returns
returns c =
    let a = c.args in
    gathers_with a.image.now a.n a.m c.requires.1 c.requires.0 a.self.bits a.self.fits _ c.opened-before.ensures _ c.best-best.ensures _
    c.leader-leads.ensures _ c.with-heard.ensures _ c.still_one-one.ensures _ c.new.ensures
