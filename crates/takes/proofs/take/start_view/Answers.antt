-- What the check does not find alone.
use Rattle.std.proofs.lemmas.Result.{err_from_is_err_and}
use Rattle.mail.specs.Stored.{passed_on}
use Rattle.takes.specs.Takes.{start_full, start_goes_on, start_put}
use Rattle.takes.proofs.take.start_view.Goals as goal

pub returns-in_err-number : goal.returns-in_err-number
returns-in_err-number c = passed_on (err_from_is_err_and _ c.from_residual.ensures.1) (start_full c.requires.0 c.args.e _ c.in_err-number.ensures)

pub returns-in_err-a : goal.returns-in_err-a
returns-in_err-a c =
    let p = c.requires in absurd (start_goes_on p.0 c.args.e p.1 _ c.load_administrator.ensures _ c.advance.ensures _ c.in_err-a.was)

pub returns : goal.returns
returns c =
    let p = c.requires in
    start_put p.0 c.args.e p.1 _ c.load_administrator.ensures _ c.advance.ensures _ c.in_ok-a.was _ c.in_ok-number.ensures (rw c.from.ensures at c.request-start.ensures)
    c.link.ensures c.store_administrator.ensures c.send.ensures
