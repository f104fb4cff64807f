-- What the check does not find alone.
use Rattle.std.proofs.Common.{subst}
use Rattle.protocol.specs.declared.refusals.Refusal.TheVariants.{WrongLength}
use Rattle.image.specs.Steps.{Played}
use Rattle.journal.specs.Replays.{Plays, unbegun, rest_none, rest_lent}
use Rattle.journal.proofs.replay.resume.Goals as goal

pub returns-then-journal-steps : goal.returns-then-journal-steps
returns-then-journal-steps c = let a = c.args in unbegun WrongLength a.image.now c.refused.ensures (rest_none a.image.now a.journal.now a.steps c.if-journal-steps.true)

pub returns : goal.returns
returns c =
    let r = c.replay in
    subst (λ (p : Played). Plays r.result r.new.image p) (rest_lent c.args.image.now c.args.journal.now c.args.steps c.if-journal-steps.false) r.ensures
