-- What the check does not find alone.
use Rattle.std.proofs.lemmas.Result.{err_from_is_err_and}
use Rattle.mail.specs.Stored.{passed_on}
use Rattle.deliveries.specs.Delivers.{reply_no, reply_done}
use Rattle.deliveries.proofs.servers.reply.Goals as goal

pub returns-in_err-number : goal.returns-in_err-number
returns-in_err-number c =
    passed_on (err_from_is_err_and _ c.from_residual.ensures.1) (reply_no c.requires.0 c.args.s.0 c.args.n.0 c.args.b c.args.x _ c.in_err-number.ensures)

pub returns : goal.returns
returns c =
    reply_done c.requires.0 c.args.s.0 c.args.n.0 c.args.b c.args.x c.requires.1 c.requires.2 c.requires.3 c.requires.4 _ c.in_ok-number.ensures
    c.store_server.ensures c.answer.ensures c.send.ensures
