-- What the check does not find alone.
use Rattle.journal.proofs.Watches.{legible_readable}
use Rattle.journal.proofs.watch.notice.Goals as goal

pub premise_holds-requires : goal.premise_holds-requires
premise_holds-requires c = legible_readable c.requires
