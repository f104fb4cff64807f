-- What the check does not find alone.
use Rattle.std.proofs.Common.{sym}
use Rattle.mail.specs.Stored.{by}
use Rattle.world.specs.Performs.{legible, unreadable, whole_step}
use Rattle.world.proofs.step.tested.Goals as goal

pub returns-then-not-scanned : goal.returns-then-not-scanned
returns-then-not-scanned c =
    let a = c.args in unreadable a.image.now a.bytes.now c.told-image c.told-bytes (sym c.if-not-scanned.ensures)

pub advance-requires : goal.advance-requires
advance-requires c = legible c.args.image.now (sym c.if-not-scanned.ensures)

pub returns : goal.returns
returns c =
    let a = c.args in by (whole_step a.image.now a.bytes.now c.told-image c.told-bytes (sym c.if-not-scanned.ensures)) c.advance.ensures
