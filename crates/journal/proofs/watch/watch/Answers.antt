-- What the check does not find alone.
use Rattle.std.proofs.Common.{◌∙◌}
use Rattle.protocol.specs.declared.refusals.Refusal.TheVariants.{WrongLength}
use Rattle.journal.specs.Replays.{not_whole, wrong_image, wrong_journal}
use Rattle.journal.proofs.Watches.{unwatched, watch_played, wrong_image_watch, wrong_journal_watch, whole_watch}
use Rattle.journal.proofs.watch.watch.Goals as goal

pub returns-in_default : goal.returns-in_default
returns-in_default c =
    let i = c.args.image.now in let j = c.args.journal.now in let e = c.in_default.ensures.cases in
    unwatched WrongLength i c.refused.ensures (watch_played i j ∙ wrong_image i j e) (wrong_image_watch i j e)

pub returns-then-not-is_empty : goal.returns-then-not-is_empty
returns-then-not-is_empty c =
    let i = c.args.image.now in let j = c.args.journal.now in let h = c.in-Some.ensures.cases in
    let e = not_whole c.as_chunks.ensures.back_len c.if-not-is_empty.ensures in
    rw (h.same) (unwatched WrongLength i c.refused-then-not-is_empty.ensures (watch_played i j ∙ wrong_journal i j h.long e) (wrong_journal_watch i j h.long e))

pub returns : goal.returns
returns c =
    let a = c.args in let h = c.in-Some.ensures.cases in
    rw (whole_watch a.image.now a.journal.now h.long c.as_chunks.ensures.back_len c.if-not-is_empty.ensures c.as_chunks.ensures.front, ← h.same) c.tested.ensures
