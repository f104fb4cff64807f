-- What the check does not find alone.
use Rattle.std.proofs.lemmas.Result.{err_from_is_err_and}
use Rattle.mail.specs.Stored.{passed_on}
use Rattle.world.specs.Begins.{gives_up_no, gives_up_done}
use Rattle.world.proofs.clients.gives_up.Goals as goal

pub returns-in_err-left : goal.returns-in_err-left
returns-in_err-left c =
    let p = c.requires in
    passed_on (err_from_is_err_and _ c.from_residual.ensures.1) (gives_up_no p.0 c.args.c p.1 p.2 _ _ c.load_client.ensures c.give_up.ensures _ c.in_err-left.was)

pub returns : goal.returns
returns c =
    let p = c.requires in gives_up_done p.0 c.args.c p.1 p.2 _ _ c.load_client.ensures c.give_up.ensures _ _ c.in_ok-left.was c.store_client.ensures
