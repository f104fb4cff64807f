-- What the check does not find alone.
use Rattle.protocol.specs.declared.refusals.Refusal.TheVariants.{WrongLength}
use Rattle.journal.specs.Replays.{unbegun, not_whole, wrong_image, wrong_journal, whole_chunks}
use Rattle.journal.proofs.replay.replay.Goals as goal

pub returns-in_default : goal.returns-in_default
returns-in_default c = unbegun WrongLength c.args.image.now c.refused.ensures (wrong_image c.args.image.now c.args.journal.now c.in_default.ensures.cases)

pub returns-then-not-is_empty : goal.returns-then-not-is_empty
returns-then-not-is_empty c =
    let a = c.args in let h = c.in-Some.ensures.cases in
    rw (h.same) (unbegun WrongLength a.image.now c.refused-then-not-is_empty.ensures
    (wrong_journal a.image.now a.journal.now h.long (not_whole c.as_chunks.ensures.back_len c.if-not-is_empty.ensures)))

pub returns : goal.returns
returns c =
    let a = c.args in let h = c.in-Some.ensures.cases in
    rw (whole_chunks a.image.now a.journal.now h.long c.as_chunks.ensures.back_len c.if-not-is_empty.ensures c.as_chunks.ensures.front, ← h.same) c.tested.ensures
