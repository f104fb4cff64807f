-- What the check does not find alone.
use Rattle.std.proofs.Common.{arith, ap, ap₂, ◌∙◌, ℕ, List}
use Rattle.std.proofs.lemmas.Result.{err_from_is_err_and}
use Rattle.protocol.specs.declared.Message.{Message}
use Rattle.protocol.specs.Entries.{empty_is}
use Rattle.protocol.specs.Servers.{READ}
use Rattle.protocol.specs.Steps.{request}
use Rattle.mail.specs.Images.{put_sent}
use Rattle.mail.specs.Stored.{passed_on, used_low}
use Rattle.world.specs.Begins.{begins_no, begins_full, begins_done}
use Rattle.world.proofs.clients.begins.Goals as goal

pub overflow_add-next : goal.overflow_add-next
overflow_add-next c = omega (arith, used_low c.requires.0, c.load_used.ensures)

pub returns-in_err-begun : goal.returns-in_err-begun
returns-in_err-begun c =
    let a = c.args in let p = c.requires in
    passed_on (err_from_is_err_and _ c.from_residual.ensures.1) (begins_no p.0 a.c a.kind a.value p.1 p.2 _ _ _ c.load_client.ensures c.load_used.ensures c.begin.ensures _ c.in_err-begun.was)

pub returns-in_err-number : goal.returns-in_err-number
returns-in_err-number c =
    let a = c.args in let p = c.requires in
    passed_on (err_from_is_err_and _ c.from_residual-in_err-number.ensures.1)
    (begins_full p.0 a.c a.kind a.value p.1 p.2 _ _ _ c.load_client.ensures c.load_used.ensures c.begin.ensures _ _ c.in_ok-begun.was c.in_err-number.ensures)

pub returns : goal.returns
returns c =
    let a = c.args in let p = c.requires in
    begins_done p.0 a.c a.kind a.value p.1 p.2 _ _ _ c.load_client.ensures c.load_used.ensures c.begin.ensures _ _ _ c.in_ok-begun.was c.in_ok-number.ensures
    (c.send.ensures ∙ ap₂ (λ (i : List ℕ) (m : Message). put_sent i c.in_ok-number.number.0 m) c.store_client.ensures ((rw c.from.ensures at c.request-read.ensures) ∙ ap (request READ a.c 0) (empty_is c.default.ensures)))
