-- Taking an answer keeps every chain: the answer becomes the head of its request's. Assumes nothing.
use Rattle.std.specs.Prelude.{ℕ, ◌+◌, ◌≤◌, ◌<◌, ◌-◌, ◌||◌, ◌≡◌, ◌≢◌, eqb}
use Rattle.std.proofs.Math.Decide.{ℕ_discrete, dec_lt}
use Rattle.std.proofs.Common.{arith, subst, ◌∙◌, eqb-true, eq-eqb}
use Rattle.std.proofs.Math.Bool.{true, false, not}
use Rattle.std.proofs.Math.Path.{sym, ap}
use mathlib.Core.List.{List, ◌∷◌}
use Rattle.std.proofs.Math.ListN.{length}
use Rattle.std.specs.Cmp.{first_so, second_so}
use Rattle.std.proofs.lemmas.Bool.{and_from, false_from_ne_true, or_left, or_right}
use Rattle.protocol.specs.declared.MessageNumber.{MessageNumber}
use Rattle.protocol.specs.declared.Message.{Message}
use Rattle.protocol.specs.Tools.{within, any, all}
use Rattle.protocol.specs.Sizes.{messages}
use Rattle.protocol.specs.Servers.{ANSWER, is_request}
use Rattle.protocol.specs.Worlds.{World, message, present, with_message}
use Rattle.protocol.specs.Chains.{follow, chain}
use Rattle.protocol.specs.Steps.{link}
use Rattle.protocol.specs.Readable.{taken_answer, distinct}
use Rattle.protocol.proofs.Laws.Tests.{clash, within_true, is_within}
use Rattle.protocol.proofs.Laws.Worlds.{content, sent, message_same, message_other, message_out, sent_link}
use Rattle.protocol.proofs.Laws.Sound.{link_used, link_other, link_answer, link_taken, link_request, not_answer}
use Rattle.protocol.proofs.Laws.Lists.{all_map}
use Rattle.preservation.specs.Chained.{Chained}
use Rattle.preservation.proofs.Chained.{outside, pigeons, count_lacks, count_lacks_two, follow_same, follow_step, follow_enough, follow_longer}
use Rattle.preservation.specs.Links.{Untaken, Is, Short}

pub taken_is : (w : World) (r j : ℕ) → taken_answer w r j ≡ true → Is w r j
unfolding taken_answer present
taken_is w r j e =
    let (l, h) = within_true 1 w.used j (first_so _ _ e) in
    let e1 = second_so (within 1 w.used j) _ e in
    let e2 = second_so (eqb (message w j).kind ANSWER) _ e1 in
    record { low = l; below = h; is = eqb-true _ _ (first_so _ _ e1); taken = first_so _ _ e2; request = eqb-true _ _ (second_so (message w j).taken _ e2) }

pub is_taken_lem : (w : World) (r j : ℕ) → Is w r j → taken_answer w r j ≡ true
unfolding taken_answer present
is_taken_lem w r j i =
    and_from _ _ (is_within 1 w.used j i.low i.below) (and_from _ _ (eq-eqb _ _ i.is) (and_from _ _ i.taken (eq-eqb _ _ i.request)))

pub not_taken : (w : World) (r j : ℕ) → (Is w r j → ⊥) → taken_answer w r j ≡ false
not_taken w r j f = false_from_ne_true _ (λ e. f (taken_is w r j e))

pub answers_fit_lem : (w : World) (q : ℕ) (ks : List ℕ) → all (taken_answer w q) ks ≡ true → all (within 1 w.used) ks ≡ true
answers_fit_lem w q ks = all_map (taken_answer w q) (within 1 w.used) ks (λ j e. let i = taken_is w q j e in is_within 1 w.used j i.low i.below)

pub no_request : (w : World) (q r : ℕ) → is_request (message w r).kind ≡ true → taken_answer w q r ≡ false
no_request w q r h = not_taken w q r (λ i. clash (eq-eqb _ _ i.is) (not_answer (message w r).kind h))

pub chained_of : (w : World) (q : ℕ) → Short w q → all (taken_answer w q) (chain w q) ≡ true
    → ((k : ℕ) → 1 ≤ k → k ≤ w.used → taken_answer w q k ≡ true → any (eqb k) (chain w q) ≡ true) → distinct (chain w q) ≡ true → Chained w q
unfolding chain
chained_of w q h a e d =
    let p = pigeons (chain w q) w.used d (answers_fit_lem w q (chain w q) a) in
    let l = count_lacks (λ i. any (eqb i) (chain w q)) q w.used h.low h.below (outside (taken_answer w q) (chain w q) q a (no_request w q q h.asked)) in
    record { ends = ap length (follow_enough w messages (message w q).next.0 (omega (arith, h.full, p, l))); only = a; every = e; once = d }

-- a message replaced by one with its mark
taken_with_lem : (w : World) (n : ℕ) (m : Message) → m.taken ≡ (message w n).taken → (message (with_message w n m) n).taken ≡ (message w n).taken
taken_with_lem w n m e = go (dec_lt n (length w.message_list))
  where
    go : Dec (n < length w.message_list) → (message (with_message w n m) n).taken ≡ (message w n).taken
    go (yes h) = ap (λ (x : Message). x.taken) (message_same w n m h) ∙ e
    go (no h) = ap (λ (x : Message). x.taken) (message_out w n m (omega arith))

-- a message that is not the answer keeps its mark
pub link_taken_other : (w : World) (k j : ℕ) → j ≢ k → (message (link w k) j).taken ≡ (message w j).taken
unfolding link
link_taken_other w k j a = go (ℕ_discrete j (message w k).request.0)
  where
    mark : (m : Message) → (message (with_message w k m) j).taken ≡ (message w j).taken
    mark m = ap (λ (x : Message). x.taken) (message_other w k m j a)

    go : Dec (j ≡ (message w k).request.0) → (message (link w k) j).taken ≡ (message w j).taken
    go (yes e) =
        let n : (message w k).request.0 ≢ k = λ q. a (e ∙ q) in
        rw e (taken_with_lem (with_message w k _) (message w k).request.0 _ (sym (ap (λ (x : Message). x.taken) (message_other w k _ (message w k).request.0 n)))
        ∙ ap (λ (x : Message). x.taken) (message_other w k _ (message w k).request.0 n))
    go (no e) = ap (λ (x : Message). x.taken) (message_other (with_message w k _) (message w k).request.0 _ j e) ∙ mark _

module _ {w : World} {k r : ℕ} (u : Untaken w k r) where
  abbrev v : World
  v = link w k

  apart : k ≢ r
  apart q = clash (eq-eqb _ _ u.is) (rw q (not_answer (message w r).kind u.asked))

  v_used : v.used ≡ w.used
  v_used = link_used w k

  pub v_kind : (j : ℕ) → (message v j).kind ≡ (message w j).kind
  unfolding sent content
  v_kind j = ap (λ (m : Message). m.kind) (sent_link w k j)

  v_request : (j : ℕ) → (message v j).request ≡ (message w j).request
  unfolding sent content
  v_request j = ap (λ (m : Message). m.request) (sent_link w k j)

  pub v_other : (j : ℕ) → j ≢ k → j ≢ r → message v j ≡ message w j
  v_other j a b = link_other w k j a (λ e. b (e ∙ u.request))

  -- the answer is taken, and nothing else is
  pub v_taken : (message v k).taken ≡ true
  v_taken = link_taken w k (λ e. apart (e ∙ u.request)) (omega (arith, u.below, u.full, u.count))

  v_taken_other : (j : ℕ) → j ≢ k → (message v j).taken ≡ (message w j).taken
  v_taken_other j a = link_taken_other w k j a

  -- the links
  v_next_answer : (message v k).next ≡ (message w r).next
  v_next_answer = link_answer w k (λ e. apart (e ∙ u.request)) (omega (arith, u.below, u.full, u.count)) ∙ ap (λ (n : ℕ). (message w n).next) u.request

  v_next_request : (message v r).next.0 ≡ k
  v_next_request = subst (λ (n : ℕ). (message v n).next.0 ≡ k) u.request (link_request w k (omega (arith, u.request, u.to, u.full, u.count)))

  -- the taken answers of a request: those before, and of r also k
  is_on : {q j : ℕ} → Is w q j → Is v q j
  is_on {q} {j} i =
      record {
        low = i.low;
        below = omega (arith, i.below, v_used);
        is = v_kind j ∙ i.is;
        taken = v_taken_other j (λ e. clash i.taken (rw e u.free)) ∙ i.taken;
        request = ap (λ (n : MessageNumber). n.0) (v_request j) ∙ i.request;
      }

  is_new : Is v r k
  is_new = record { low = u.low; below = omega (arith, u.below, v_used); is = v_kind k ∙ u.is; taken = v_taken; request = ap (λ (n : MessageNumber). n.0) (v_request k) ∙ u.request }

  is_back : {q j : ℕ} → j ≢ k → Is v q j → Is w q j
  is_back {q} {j} a i =
      record {
        low = i.low;
        below = omega (arith, i.below, v_used);
        is = sym (v_kind j) ∙ i.is;
        taken = sym (v_taken_other j a) ∙ i.taken;
        request = sym (ap (λ (n : MessageNumber). n.0) (v_request j)) ∙ i.request;
      }

  -- a taken answer is neither k nor r
  not_k : {q j : ℕ} → Is w q j → j ≢ k
  not_k i e = clash i.taken (rw e u.free)

  not_r : {q j : ℕ} → Is w q j → j ≢ r
  not_r {q} {j} i e = clash (eq-eqb _ _ i.is) (rw e (not_answer (message w r).kind u.asked))

  walk_same : (q left n : ℕ) → all (taken_answer w q) (follow w left n) ≡ true → follow v left n ≡ follow w left n
  walk_same q left n a =
      follow_same w v (taken_answer w q) (λ j e. let i = taken_is w q j e in ap (λ (m : Message). m.next) (v_other j (not_k i) (not_r i))) left n a

  short_on : {q : ℕ} → Short w q → Short v q
  short_on {q} h = record { low = h.low; below = omega (arith, h.below, v_used); full = omega (arith, h.full, v_used); asked = rw (v_kind q) h.asked }

  -- the chain of another request is as it was
  chain_other : (q : ℕ) → q ≢ r → Short w q → Chained w q → Chained v q
  unfolding chain
  chain_other q n h c =
      let s : (message v q).next ≡ (message w q).next = ap (λ (m : Message). m.next) (v_other q (λ e. clash (eq-eqb _ _ u.is) (rw (← e) (not_answer (message w q).kind h.asked))) n) in
      let f : follow v messages (message v q).next.0 ≡ follow w messages (message w q).next.0 =
      ap (λ (m : MessageNumber). follow v messages m.0) s ∙ walk_same q messages (message w q).next.0 c.only in
      chained_of v q (short_on h) (rw f (all_map (taken_answer w q) (taken_answer v q) _ (λ j e. is_taken_lem v q j (is_on (taken_is w q j e))) c.only))
      (λ j l b t. rw f (c.every j l (omega (arith, v_used)) (is_taken_lem w q j (is_back (other t) (taken_is v q j t)))))
      (rw f c.once)
    where
      other : {j : ℕ} → taken_answer v q j ≡ true → j ≢ k
      other {j} t e = n (sym (taken_is v q j t).request ∙ ap (λ (x : ℕ). (message v x).request.0) e ∙ ap (λ (m : MessageNumber). m.0) (v_request k) ∙ u.request)

  -- the chain of r has k for its head
  chain_short : Chained w r → length (chain w r) + 2 ≤ w.used
  chain_short c =
      omega (
        arith,
        pigeons (chain w r) w.used c.once (answers_fit_lem w r (chain w r) c.only),
        count_lacks_two (λ i. any (eqb i) (chain w r)) k r w.used u.low u.below u.from u.to apart
            (outside (taken_answer w r) (chain w r) k c.only (not_taken w r k (λ i. clash i.taken u.free))) (outside (taken_answer w r) (chain w r) r c.only (no_request w r r u.asked)),
      )

  -- the links that are left behind the first
  abbrev left : ℕ
  left = messages - 1

  chain_rest : Chained w r → follow v left (message v k).next.0 ≡ chain w r
  unfolding chain
  chain_rest c =
      let n = (message w r).next.0 in
      let l : length (follow w left n) < left = omega (arith, follow_longer w left n, chain_short c, u.full) in
      let s : follow w left n ≡ chain w r = sym (follow_enough w left n l) in
      ap (λ (m : MessageNumber). follow v left m.0) v_next_answer ∙ walk_same r left n (subst (λ (ks : List ℕ). all (taken_answer w r) ks ≡ true) (sym s) c.only) ∙ s

  pub chain_head : Chained w r → chain v r ≡ (k ∷ chain w r)
  unfolding chain
  chain_head c =
      ap (λ (n : ℕ). follow v messages n) v_next_request ∙ follow_step v left k u.low ∙ ap (λ (ks : List ℕ). k ∷ ks) (chain_rest c)

  chain_new : Chained w r → Chained v r
  unfolding all any distinct
  chain_new c =
      chained_of v r (short_on (record { low = u.from; below = u.to; full = u.full; asked = u.asked }))
      (rw (chain_head c) (and_from _ _ (is_taken_lem v r k is_new) (all_map (taken_answer w r) (taken_answer v r) (chain w r) (λ j e. is_taken_lem v r j (is_on (taken_is w r j e))) c.only)))
      (λ j l b t. rw (chain_head c) (go j l b t (ℕ_discrete j k)))
      (rw (chain_head c) (and_from _ _ (ap not (outside (taken_answer w r) (chain w r) k c.only (not_taken w r k (λ i. clash i.taken u.free)))) c.once))
    where
      go : (j : ℕ) → 1 ≤ j → j ≤ v.used → taken_answer v r j ≡ true → Dec (j ≡ k) → (eqb j k || any (eqb j) (chain w r)) ≡ true
      go j l b t (yes e) = or_left (eqb j k) _ (eq-eqb j k e)
      go j l b t (no e) = or_right (eqb j k) _ (c.every j l (omega (arith, v_used)) (is_taken_lem w r j (is_back e (taken_is v r j t))))

  pub link_chained : (q : ℕ) → Short w q → Chained w q → Chained v q
  link_chained q h c = go (ℕ_discrete q r)
    where
      go : Dec (q ≡ r) → Chained v q
      go (yes e) = subst (Chained v) (sym e) (chain_new (subst (Chained w) e c))
      go (no e) = chain_other q e h c
