-- What the check does not find alone.
use Rattle.takes.specs.Gathered.{opens}
use Rattle.takes.proofs.tally.Gathered.opened.Goals as goal

pub returns : goal.returns
returns c =
    opens c.args.image.now c.args.self.bits c.args.self.fits _ c.seen.ensures _ c.best.ensures _ c.one.ensures
    _ c.load_message.ensures
