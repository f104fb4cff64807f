-- What the check does not find alone.
use Rattle.std.proofs.Common.{arith}
use Rattle.protocol.specs.Entries.{empty_is}
use Rattle.std.proofs.lemmas.Result.{err_from_is_err_and}
use Rattle.mail.specs.Stored.{passed_on, used_low}
use Rattle.view_changes.specs.Views.{new_view_no, new_view_full, newest_low, new_view_done}
use Rattle.view_changes.proofs.views.new_view.Goals as goal

pub overflow_add-load_used : goal.overflow_add-load_used
overflow_add-load_used c = omega (arith, c.load_used.ensures, used_low c.requires)

pub returns-in_err-a : goal.returns-in_err-a
returns-in_err-a c =
    passed_on (err_from_is_err_and _ c.from_residual.ensures.1)
    (new_view_no c.requires c.args.v _ _ _ c.load_administrator-before.ensures c.load_used.ensures c.call.ensures _ c.in_err-a.was)

pub returns-in_err-number : goal.returns-in_err-number
returns-in_err-number c =
    passed_on (err_from_is_err_and _ c.from_residual-in_err-number.ensures.1)
    (new_view_full c.requires c.args.v _ _ _ c.load_administrator-before.ensures c.load_used.ensures c.call.ensures _ c.in_ok-a.was _ c.in_err-number.ensures)

pub overflow_add-before : goal.overflow_add-before
overflow_add-before c =
    let n = newest_low c.requires c.args.v _ _ _ c.load_administrator-before.ensures c.load_used.ensures c.call.ensures _ c.in_ok-a.was in omega (arith, n)

pub store_view-requires : goal.store_view-requires
store_view-requires c =
    let n = newest_low c.requires c.args.v _ _ _ c.load_administrator-before.ensures c.load_used.ensures c.call.ensures _ c.in_ok-a.was in
    (omega arith, omega (arith, n))

pub returns : goal.returns
returns c =
    new_view_done c.requires c.args.v _ _ _ c.load_administrator-before.ensures c.load_used.ensures c.call.ensures _ c.in_ok-a.was _ c.in_ok-number.ensures
    (empty_is c.default.ensures) (rw c.from.ensures at c.request-end.ensures) c.store_administrator.ensures c.store_view.ensures c.send.ensures
