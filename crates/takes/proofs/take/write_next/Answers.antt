-- What the check does not find alone.
use Rattle.std.proofs.lemmas.Result.{err_from_is_err_and}
use Rattle.mail.specs.Stored.{passed_on}
use Rattle.takes.specs.Takes.{wrote_full, wrote_put}
use Rattle.takes.proofs.take.write_next.Goals as goal

pub returns-in_err-number : goal.returns-in_err-number
returns-in_err-number c = passed_on (err_from_is_err_and _ c.from_residual.ensures.1) (wrote_full c.requires.0 c.args.c c.args.a _ c.in_err-number.ensures)

pub returns : goal.returns
returns c =
    let p = c.requires in
    wrote_put p.0 c.args.c c.args.a p.1 p.2 _ c.in_ok-number.ensures (rw c.from.ensures at c.request-write.ensures) c.link.ensures c.store_client.ensures c.send.ensures
