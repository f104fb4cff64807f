-- What the check does not find alone.
use Rattle.std.proofs.Common.{arith, sym, ap, ◌∙◌}
use Rattle.std.proofs.lemmas.Result.{err_from_is_err_and}
use Rattle.std.specs.Prelude.{Result as Outcome, Ok}
use Rattle.protocol.specs.declared.Closing.{Closing}
use Rattle.protocol.specs.declared.refusals.Refusal.{Refusal}
use Rattle.protocol.specs.Clients.{closing}
use Rattle.protocol.specs.Refusals.{outcome_by}
use Rattle.codec.specs.Images.{decode}
use Rattle.mail.specs.Stored.{passed_on, refuses, does_for, used_low, by}
use Rattle.takes.specs.Takes.{close_known, close_refused, close_complete, close_writes, complete_put}
use Rattle.takes.proofs.take.close_client.Goals as goal

pub overflow_add-number : goal.overflow_add-number
overflow_add-number c = omega (arith, c.load_used.ensures, used_low c.requires.0.legible)

pub returns-in_err-a : goal.returns-in_err-a
returns-in_err-a c =
    let a = c.args in
    let p = c.requires in
    let e = close_known p.0.legible a.c p.1 p.2 _ _ a.e a.one _ c.load_client.ensures c.load_used.ensures c.close.ensures in
    passed_on (err_from_is_err_and _ c.from_residual.ensures.1)
    (refuses _ a.image.now _ (close_refused (decode a.image.now) a.k.0 a.c a.e a.one _ (sym e ∙ ap (λ (x : Outcome Closing Refusal). outcome_by closing x) c.in_err-a.was)))

pub returns-in-WritesNext : goal.returns-in-WritesNext
returns-in-WritesNext c =
    let a = c.args in
    let p = c.requires in
    let e = close_known p.0.legible a.c p.1 p.2 _ _ a.e a.one _ c.load_client.ensures c.load_used.ensures c.close.ensures in
    by (close_writes (decode a.image.now) a.k.0 a.c a.e a.one _ (sym e ∙ ap (λ (x : Outcome Closing Refusal). outcome_by closing x) (c.in_ok-a.was ∙ ap (λ (x : Closing). Ok x) c.in-WritesNext.is)))
    c.write_next.ensures

pub returns-in-Completed : goal.returns-in-Completed
returns-in-Completed c =
    let a = c.args in
    let p = c.requires in
    let e = close_known p.0.legible a.c p.1 p.2 _ _ a.e a.one _ c.load_client.ensures c.load_used.ensures c.close.ensures in
    does_for a.c p.1 _ a.image.now _ _
    (close_complete (decode a.image.now) a.k.0 a.c a.e a.one _ (sym e ∙ ap (λ (x : Outcome Closing Refusal). outcome_by closing x) (c.in_ok-a.was ∙ ap (λ (x : Closing). Ok x) c.in-Completed.is)))
    (complete_put p.0 a.c _ p.1 p.2 c.link.ensures c.store_client.ensures)
