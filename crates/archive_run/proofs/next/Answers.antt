-- What the check does not find alone:
-- What a turn says is of the step on these bytes.
use Rattle.std.proofs.lemmas.Result.{err_from_is_err_and}
use Rattle.archive_run.specs.Loop.{says_refused}
use Rattle.archive_run.proofs.next.Goals as goal

pub returns-in_err-line : goal.returns-in_err-line
returns-in_err-line g c =
    let (n, p, q) = err_from_is_err_and c.from_residual.result c.from_residual.ensures.1 in
    rw (p, q) (says_refused _ _ _ _ c.in_err-line.ensures.answer.0 c.in_err-line.ensures.answer.1)
