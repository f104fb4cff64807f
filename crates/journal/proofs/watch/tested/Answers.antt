-- What the check does not find alone.
use Rattle.std.proofs.Common.{sym, subst}
use Rattle.protocol.specs.declared.refusals.Refusal.TheVariants.{Unreadable}
use Rattle.world.specs.Performs.{legible}
use Rattle.journal.specs.Replays.{unscanned_steps}
use Rattle.journal.specs.Watch.{Watched}
use Rattle.journal.specs.Watches.{Watches}
use Rattle.journal.proofs.Watches.{unwatched, scanned_watch, unscanned_watch}
use Rattle.journal.proofs.watch.tested.Goals as goal

pub observe-requires : goal.observe-requires
observe-requires c = legible c.args.image.now (sym c.if-scanned.ensures)

pub returns-then-scanned : goal.returns-then-scanned
returns-then-scanned c =
    let p = c.observe in subst (λ (x : Watched). Watches p.result p.new.image x) (sym (scanned_watch c.args.image.now c.args.journal.now (sym c.if-scanned.ensures))) p.ensures

pub returns-else-scanned : goal.returns-else-scanned
returns-else-scanned c =
    let i = c.args.image.now in let j = c.args.journal.now in let e = sym c.if-scanned.ensures in
    unwatched Unreadable i c.refused.ensures (unscanned_steps i j e) (unscanned_watch i j e)
