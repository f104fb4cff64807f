-- The head and a tally as they are written piece by piece: `head_wrote`, `tally_wrote`; the record of a phase that is opened, `opened_put`.
-- Used by the proofs alone.
use Rattle.std.specs.Prelude.{ℕ, ◌+◌, ◌≤◌, not, ◌≡◌, refl, List, [], ◌∷◌, ◌++◌, length, replicate}
use Rattle.std.proofs.Common.{arith, sym, ap, ◌∙◌}
use Rattle.std.proofs.lemmas.List.{length-replicate, replicate-append-replicate}
use Rattle.values.specs.declared.tally.Tally.{Tally}
use Rattle.protocol.specs.Tools.{bit}
use Rattle.codec.specs.Lists.{put, put_left, put_all, wrote_none, wrote}
use Rattle.codec.specs.Bytes.{le16, le32}
use Rattle.codec.specs.Records.{entry_bytes}
use Rattle.phases.specs.declared.phase_record.Head.{Head}
use Rattle.phases.specs.Layout.{head_view_place, head_request_place, head_width, heard_place, best_place, differ_place, tally_spare_place, tally_spare, tally_width, tallies_width, phase_width}
use Rattle.phases.specs.Records.{head_bytes, length_head_bytes, tally_bytes}
use Rattle.phases.specs.Calls.{record_opened}

pub head_wrote : (p a b c : List ℕ) (h : Head) → a ≡ put p 0 (h.kind ∷ []) → b ≡ put a head_view_place (h.view.0 ∷ []) → c ≡ put b head_request_place (le16 h.request.0)
    → c ≡ put p 0 (head_bytes h)
unfolding head_bytes
head_wrote p a b c h e f g = (wrote _ _ (wrote _ _ (wrote _ _ (wrote_none p 0 (omega arith)) e refl) f refl) g refl).all

pub tally_wrote : (p a b c d : List ℕ) (at : ℕ) (t : Tally) → at + tally_width ≤ length p → a ≡ put p (at + heard_place) (le32 t.seen.0)
    → b ≡ put a (at + best_place) (entry_bytes t.best) → c ≡ put b (at + differ_place) (bit (not t.one) ∷ [])
    → d ≡ put c (at + tally_spare_place) (replicate tally_spare 0) → d ≡ put p at (tally_bytes t)
unfolding tally_bytes entry_bytes
tally_wrote p a b c d at t l e f g h =
    (wrote _ _ (wrote _ _ (wrote _ _ (wrote _ _ (wrote_none p at (omega arith)) e refl) f refl) g refl) h refl).all

pub opened_put : (p q : List ℕ) (h : Head) → length p ≡ phase_width → q ≡ replicate (length p) 0 → put q 0 (head_bytes h) ≡ record_opened h
unfolding record_opened
opened_put p q h e f =
    let z : q ≡ replicate head_width 0 ++ replicate tallies_width 0 = f ∙ ap (λ (n : ℕ). replicate n 0) e ∙ sym (replicate-append-replicate head_width tallies_width 0) in
    rw z
    (put_left (replicate head_width 0) (replicate tallies_width 0) 0 (head_bytes h) (omega (arith, length_head_bytes h, length-replicate {A = ℕ} head_width 0))
    ∙ ap (λ (r : List ℕ). r ++ replicate tallies_width 0)
    (put_all (replicate head_width 0) (head_bytes h) (length_head_bytes h ∙ sym (length-replicate {A = ℕ} head_width 0))))
