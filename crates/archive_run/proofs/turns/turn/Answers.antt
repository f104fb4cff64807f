-- What the check does not find alone:
-- A turn is its step, and leaves a readable image.
use Rattle.std.proofs.Common.{rules}
use Rattle.std.proofs.lemmas.Result.{err_from_is_err_and}
use Rattle.journal.specs.Replays.{advanced}
use Rattle.archive_run.specs.Turns.{turn_short, turn_refused, turn_done}
use Rattle.archive_run.proofs.turns.turn.Goals as goal

pub returns-in_default-clause-answer : goal.returns-in_default-clause-answer
returns-in_default-clause-answer c = turn_short _ _ c.requires c.in_default.ensures.cases

pub returns-in_err-client-clause-answer : goal.returns-in_err-client-clause-answer
returns-in_err-client-clause-answer c =
    let k = c.in-Some.ensures.cases in
    turn_refused _ _ _ _ _ (err_from_is_err_and _ c.from_residual.ensures.1) c.requires k.long (rw k.same at c.in_err-client.ensures)

pub returns-clause-answer : goal.returns-clause-answer
returns-clause-answer c =
    let k = c.in-Some.ensures.cases in
    turn_done c.in_ok-client.client c.and_then.result _ _ _ (search rules) c.requires k.long (rw k.same at c.in_ok-client.ensures)

pub returns-clause-legible : goal.returns-clause-legible
returns-clause-legible c = let k = c.in-Some.ensures.cases in advanced _ _ _ _ c.requires k.long (rw k.same at c.advance.ensures)
