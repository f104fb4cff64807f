-- What the check does not find alone.
use Rattle.std.proofs.Common.{sym, subst}
use Rattle.world.specs.Performs.{legible}
use Rattle.protocol.specs.declared.refusals.Refusal.TheVariants.{Unreadable}
use Rattle.image.specs.Steps.{Played}
use Rattle.journal.specs.Replays.{Plays, unbegun, scanned_steps, unscanned_steps}
use Rattle.journal.proofs.replay.tested.Goals as goal

pub play-requires : goal.play-requires
play-requires c = legible c.args.image.now (sym c.if-scanned.ensures)

pub returns-then-scanned : goal.returns-then-scanned
returns-then-scanned c =
    let p = c.play in subst (λ (x : Played). Plays p.result p.new.image x) (sym (scanned_steps c.args.image.now c.args.journal.now (sym c.if-scanned.ensures))) p.ensures

pub returns-else-scanned : goal.returns-else-scanned
returns-else-scanned c = unbegun Unreadable c.args.image.now c.refused.ensures (unscanned_steps c.args.image.now c.args.journal.now (sym c.if-scanned.ensures))
