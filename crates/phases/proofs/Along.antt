-- The record of a phase along the steps of a world: a request that was just sent has no answer taken, so opening gives its record,
-- `open_sent`; and an answer that leaves its phase open takes the record of the world before the step to that of the world after it,
-- `answer_along`. No code rests on it.
use Rattle.std.specs.Prelude.{ℕ, zero, suc, ◌+◌, ◌<◌, true, not, ◌&&◌, ◌≡◌, length, eqb, None}
use Rattle.std.proofs.Common.{sym, ◌∙◌}
use Rattle.std.proofs.Math.Path.{refl, ap, ap₂}
use mathlib.Core.List.{List, [], ◌∷◌, ◌++◌}
use Rattle.std.proofs.lemmas.Bool.{not-true}
use Rattle.std.specs.Cmp.{first_so}
use Rattle.values.specs.declared.tally.Tally.{Tally}
use Rattle.protocol.specs.declared.Message.{Message}
use Rattle.protocol.specs.Tools.{if, done}
use Rattle.protocol.specs.Sizes.{views}
use Rattle.protocol.specs.Servers.{ANSWER}
use Rattle.protocol.specs.Worlds.{World, message, present, send, list_to}
use Rattle.protocol.specs.Chains.{follow, chain}
use Rattle.protocol.specs.Steps.{link, open?, taken_with}
use Rattle.protocol.specs.Readable.{is_asked}
use Rattle.protocol.proofs.Laws.Formed.{Formed}
use Rattle.protocol.proofs.Laws.Worlds.{content, sent, sent_link, message_new}
use Rattle.preservation.proofs.Chained.{chained}
use Rattle.preservation.proofs.Links.{chain_head}
use Rattle.preservation.proofs.Kept.{untaken}
use Rattle.values.specs.Tallies.{first_answer}
use Rattle.codec.specs.Layout.{entry_width}
use Rattle.codec.specs.Lists.{flat}
use Rattle.phases.specs.declared.phase_record.Head.{Head}
use Rattle.phases.specs.Layout.{phase_width}
use Rattle.phases.specs.Records.{head, head_bytes, tally_bytes}
use Rattle.phases.specs.Rules.{count_answer}
use Rattle.phases.specs.Calls.{open_on}
use Rattle.phases.specs.Lists.{tally_in}
use Rattle.phases.specs.Same.{head_in, phase_bytes, record_of, verdict_of}
use Rattle.phases.proofs.Same.{open_record, take_by_record}
use Rattle.phases.specs.Along.{SameSent, StaysOpen}

module _ (w v : World) (s : SameSent w v) where
  tally_kept : (t : ℕ) (ks : List ℕ) → tally_in v t ks ≡ tally_in w t ks
  unfolding tally_in sent content count_answer first_answer
  tally_kept t [] = refl
  tally_kept t (k ∷ ks) =
      ap₂ (λ (m : Message) (a : Tally). if (eqb m.view.0 t) (count_answer a m) a) (s.each k) (tally_kept t ks)

  head_kept : (r : ℕ) → head_in v r ≡ head_in w r
  unfolding sent content
  head_kept r = ap (λ (m : Message). head m.kind m.view.0 r) (s.each r)

-- a list of what two functions agree on
same_list : {A : Type 0} (f g : ℕ → A) (n : ℕ) → ((i : ℕ) → f i ≡ g i) → list_to f n ≡ list_to g n
unfolding list_to
same_list f g zero e = refl
same_list {A} f g (suc n) e = ap₂ (λ (x : A) (xs : List A). x ∷ xs) (e 1) (same_list (λ i. f (suc i)) (λ i. g (suc i)) n (λ i. e (suc i)))

pub record_kept : (w v : World) (r : ℕ) (ks : List ℕ) → SameSent w v → record_of v r ks ≡ record_of w r ks
unfolding phase_bytes
record_kept w v r ks s =
    ap₂ (λ (h : Head) (l : List Tally). head_bytes h ++ flat tally_bytes l) (head_kept w v s r)
    (same_list (λ t. tally_in v t ks) (λ t. tally_in w t ks) views (λ t. tally_kept w v s t ks))

-- ---- an answer that leaves its phase open

-- in the world after the step the chain is longer by the answer
chain_along : (w : World) (k : ℕ) → Formed w → present w k && eqb (message w k).kind ANSWER ≡ true
    → not (message w k).taken && open? w (message w k).request.0 ≡ true → chain (link w k) (message w k).request.0 ≡ taken_with w k
chain_along w k f a b =
    let u = untaken f k a (not-true (message w k).taken (first_so _ _ b)) in
    chain_head u (chained w (message w k).request.0 (f.chained (message w k).request.0 u.from u.to) u.asked)

pub answer_along : (w : World) (k : ℕ) (e : List ℕ) → Formed w → present w k && eqb (message w k).kind ANSWER ≡ true
    → not (message w k).taken && open? w (message w k).request.0 ≡ true → length e ≡ entry_width
    → verdict_of w (message w k).request.0 (message w k).view.0 (taken_with w k) ≡ None → StaysOpen w k e
answer_along w k e f a b l v =
    let h = take_by_record w k e f a b l in
    let r : ℕ = (message w k).request.0 in
    let p : record_of (link w k) r (chain (link w k) r) ≡ record_of w r (taken_with w k) =
    ap (record_of (link w k) r) (chain_along w k f a b) ∙ record_kept w (link w k) r (taken_with w k) (record { each = sent_link w k }) in
    record { step = h.step ∙ rw v refl; told = h.told ∙ rw (v, p) refl }

-- ---- a request that was just sent

sent_none : (w : World) (m : Message) → w.used + 1 < length w.message_list → m.next.0 ≡ 0 → chain (send w m) (w.used + 1) ≡ []
unfolding chain follow
sent_none w m l z = rw (message_new w m l, z) refl

-- it is open in the world that it leaves, which is readable: opening gives the record of its chain
pub open_sent : (w : World) (m : Message) (p : List ℕ) → w.used + 1 < length w.message_list → m.next.0 ≡ 0 → Formed (send w m)
    → is_asked (send w m) (w.used + 1) ≡ true → open? (send w m) (w.used + 1) ≡ true → length p ≡ phase_width
    → open_on p m.kind m.view.0 (w.used + 1) ≡ done (record_of (send w m) (w.used + 1) (chain (send w m) (w.used + 1)))
open_sent w m p l z f a o n =
    let v : World = send w m in
    let r : ℕ = w.used + 1 in
    let e : open_on p (message v r).kind (message v r).view.0 r ≡ done (record_of v r []) = open_record v r p f a o n in
    ap (λ (x : Message). open_on p x.kind x.view.0 r) (sym (message_new w m l)) ∙ e
    ∙ ap (λ (ks : List ℕ). done (record_of v r ks)) (sym (sent_none w m l z))
