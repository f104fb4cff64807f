-- What the check does not find alone.
use Rattle.std.proofs.Common.{arith, sym, ◌∙◌}
use Rattle.single.specs.Calls.{administrator_size, administrator_written}
use Rattle.zemawulo.proofs.zw_administrator.Goals as goal

pub write_administrator-requires : goal.write_administrator-requires
write_administrator-requires c = omega (arith, administrator_size _ c.args.call.now _ (sym c.in-Ok.ensures))

pub returns-in-Ok : goal.returns-in-Ok
returns-in-Ok c = (
  rw (← c.in-Ok.ensures),
  rw (← c.in-Ok.ensures) (c.write_administrator.ensures ∙ administrator_written _ c.args.call.now _ (sym c.in-Ok.ensures)),
)
