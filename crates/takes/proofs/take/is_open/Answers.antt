-- What the check does not find alone.
use Rattle.std.proofs.Common.{ℕ, eqb, sym, ap, ◌∙◌}
use Rattle.protocol.specs.declared.Administrator.{Administrator}
use Rattle.protocol.specs.declared.Client.{Client}
use Rattle.protocol.specs.Clients.{end_of, request_of}
use Rattle.mail.specs.Stored.{administrator_is, client_is}
use Rattle.takes.specs.Takes.{open_end, open_client}
use Rattle.takes.proofs.take.is_open.Goals as goal

pub returns-then-is : goal.returns-then-is
returns-then-is c =
    let h = c.requires in
    let e = c.load_administrator.ensures ∙ administrator_is h.legible in
    c.eq.ensures ∙ ap (λ (n : ℕ). eqb n c.args.r.0) (c.end.ensures ∙ ap (λ (a : Administrator). end_of a.ending) e) ∙ sym (open_end h c.if-is.ensures)

pub returns-else-is : goal.returns-else-is
returns-else-is c =
    let h = c.requires in
    let (l, u) = h.client c.if-is.ensures in
    let e = c.load_client.ensures ∙ client_is h.legible _ l u in
    c.eq-else-is.ensures ∙ ap (λ (n : ℕ). eqb n c.args.r.0) (c.request.ensures ∙ ap (λ (a : Client). request_of a.phase) e) ∙ sym (open_client h c.if-is.ensures)
