-- What the check does not find alone:
-- The first record left a fresh world, so the image is readable.
use Rattle.std.proofs.Common.{sym, subst}
use Rattle.mail.specs.Images.{Legible}
use Rattle.archive_run.specs.Turns.{first_legible}
use Rattle.archive_run.proofs.run.Goals as goal

pub steps-ended-requires : goal.steps-ended-requires
steps-ended-requires c = subst Legible (sym c.in-Ok.ensures.1) (first_legible _ _ (sym c.in-Ok.ensures.0))
