-- What the check does not find alone.
use Rattle.std.proofs.lemmas.Result.{err_from_is_err_and}
use Rattle.mail.specs.Stored.{passed_on}
use Rattle.view_changes.specs.Restarts.{restarts_no, restarts_on}
use Rattle.view_changes.proofs.restarts.restarts.Goals as goal

pub returns-in_err-a : goal.returns-in_err-a
returns-in_err-a c =
    passed_on (err_from_is_err_and _ c.from_residual.ensures.1) (restarts_no c.requires c.args.v _ _ c.load_administrator-before.ensures c.restart.ensures _ c.in_err-a.was)

pub renew-requires : goal.renew-requires
renew-requires c = restarts_on c.requires c.args.v _ _ c.load_administrator-before.ensures c.restart.ensures _ c.in_ok-a.was _ c.end.ensures
