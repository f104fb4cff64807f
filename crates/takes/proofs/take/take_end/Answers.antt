-- What the check does not find alone.
use Rattle.std.proofs.Common.{sym, ap, ◌∙◌}
use Rattle.std.proofs.lemmas.Bool.{eqb-false, eqb-true, not-true, not-false}
use Rattle.protocol.specs.declared.Administrator.{Administrator}
use Rattle.protocol.specs.declared.Message.{Message}
use Rattle.protocol.specs.Sizes.{write_size}
use Rattle.protocol.specs.Steps.{link}
use Rattle.codec.specs.Images.{decode}
use Rattle.mail.specs.Stored.{does, administrator_is, by}
use Rattle.takes.specs.Takes.{view_low, view_known, answer_is, end_elsewhere, end_open, end_closed}
use Rattle.takes.proofs.take.take_end.Goals as goal

pub returns-then-ne : goal.returns-then-ne
returns-then-ne c =
    let a = c.args in
    let w = decode a.image.now in
    let h = c.requires.0 in
    let t = ap (λ (x : Message). x.view.0) (answer_is h _ c.load_message.ensures) in
    let n = ap (λ (x : Administrator). x.newest.0) (c.load_administrator.ensures ∙ administrator_is h.legible) in
    does 0 (link w a.k.0) a.image.now _ _ (end_elsewhere w a.k.0 (λ q. eqb-false _ _ (not-true _ (sym c.ne.ensures ∙ c.if-ne.true)) (t ∙ q ∙ sym n))) c.link.ensures

pub load_view-requires : goal.load_view-requires
load_view-requires c = view_low c.requires.0 _ c.load_message.ensures

pub returns-in_default : goal.returns-in_default
returns-in_default c =
    let a = c.args in
    let w = decode a.image.now in
    let h = c.requires.0 in
    let t = ap (λ (x : Message). x.view.0) (answer_is h _ c.load_message.ensures) in
    let n = ap (λ (x : Administrator). x.newest.0) (c.load_administrator.ensures ∙ administrator_is h.legible) in
    let s = c.write_size-size.ensures ∙ ap write_size (view_known h _ c.load_message.ensures _ c.load_view.ensures) in
    does 0 (link w a.k.0) a.image.now _ _
    (end_open w a.k.0 c.taken_with.result c.write_size-size.result c.taken_with.ensures (sym t ∙ eqb-true _ _ (not-false _ (sym c.ne.ensures ∙ c.if-ne.false)) ∙ n) s c.in_default.is) c.link-in_default.ensures

pub returns : goal.returns
returns c =
    let a = c.args in
    let w = decode a.image.now in
    let h = c.requires.0 in
    let t = ap (λ (x : Message). x.view.0) (answer_is h _ c.load_message.ensures) in
    let n = ap (λ (x : Administrator). x.newest.0) (c.load_administrator.ensures ∙ administrator_is h.legible) in
    let s = c.write_size-size.ensures ∙ ap write_size (view_known h _ c.load_message.ensures _ c.load_view.ensures) in
    by (end_closed w a.k.0 c.taken_with.result c.write_size-size.result c.taken_with.ensures (sym t ∙ eqb-true _ _ (not-false _ (sym c.ne.ensures ∙ c.if-ne.false)) ∙ n) s _ c.in-Some.is)
    c.start_view.ensures
