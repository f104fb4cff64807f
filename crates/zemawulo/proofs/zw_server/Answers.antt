-- What the check does not find alone.
use Rattle.std.proofs.Common.{arith, sym, ◌∙◌}
use Rattle.single.specs.Calls.{server_size, server_written}
use Rattle.zemawulo.specs.Answers.{replied_code}
use Rattle.zemawulo.proofs.zw_server.Goals as goal

pub write_server-requires : goal.write_server-requires
write_server-requires c = omega (arith, server_size _ c.args.call.now _ (sym c.in-Ok.ensures))

pub returns-in-Ok : goal.returns-in-Ok
returns-in-Ok c = (
  rw (← c.in-Ok.ensures) (replied_code c.in-Ok.reply c.is_some.result c.is_some.ensures),
  rw (← c.in-Ok.ensures) (c.write_server.ensures ∙ server_written _ c.args.call.now _ (sym c.in-Ok.ensures)),
)
