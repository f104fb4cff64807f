-- What the check does not find alone.
use Rattle.std.proofs.Common.{arith, sym, ap, ◌∙◌}
use Rattle.protocol.specs.declared.Closing.{Closing}
use Rattle.protocol.specs.Tools.{done}
use Rattle.protocol.specs.Clients.{closing}
use Rattle.single.specs.Calls.{client_size, client_written}
use Rattle.zemawulo.proofs.zw_client.Goals as goal

pub write_client-requires : goal.write_client-requires
write_client-requires c = omega (arith, client_size _ c.args.call.now _ (sym c.in-Ok-WritesNext.ensures))

pub write_client-requires-in-Ok-Completed : goal.write_client-requires-in-Ok-Completed
write_client-requires-in-Ok-Completed c = omega (arith, client_size _ c.args.call.now _ (sym c.in-Ok-Completed.ensures))

pub returns-in-Ok-WritesNext : goal.returns-in-Ok-WritesNext
returns-in-Ok-WritesNext c =
    let p = c.in-Ok-WritesNext in
    let e = ap (λ (x : Closing). done (closing x)) (sym p.field-0-is) ∙ p.ensures in
    (rw (← e), rw (← e) (c.write_client.ensures ∙ client_written _ c.args.call.now _ (sym e)))

pub returns-in-Ok-Completed : goal.returns-in-Ok-Completed
returns-in-Ok-Completed c =
    let p = c.in-Ok-Completed in
    let e = ap (λ (x : Closing). done (closing x)) (sym p.field-0-is) ∙ p.ensures in
    (rw (← e), rw (← e) (c.write_client-in-Ok-Completed.ensures ∙ client_written _ c.args.call.now _ (sym e)))
