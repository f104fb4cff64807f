-- What the check does not find alone.
use Rattle.std.proofs.Common.{ℕ, List, sym, ap, ◌∙◌}
use Rattle.protocol.specs.declared.KeySet.{KeySet}
use Rattle.protocol.specs.Sizes.{views}
use Rattle.codec.specs.Places.{put_server}
use Rattle.deliveries.specs.Holders.{raised, gained_key, gained_none}
use Rattle.deliveries.proofs.holders.keep_started.Goals.{then-b, else-b}
use Rattle.deliveries.proofs.holders.keep_started.Goals as goal

pub returns : goal.returns
returns c =
    let a = c.args in
    c.store_server.ensures
    ∙ ap (λ (i : List ℕ). put_server i a.s.0 a.b)
    (elim c.if-b.branch [
      | then-b w ↦ w.image-is ∙ w.raise.ensures ∙ ap (λ (k : KeySet). raised a.image.now k.0 views) w.alone.ensures ∙ sym (gained_key a.image.now a.b a.t.0 w.if-b.true)
      | else-b w ↦ w.image-is ∙ sym (gained_none a.image.now a.b a.t.0 w.if-b.false)
    ])
