-- Emptying a request's chain keeps a world readable: the request and its taken answers are as they were sent, and no other chain
-- has them. Assumes nothing.
use Rattle.std.specs.Prelude.{ℕ, ◌<◌, Bool, true, false, ◌≡◌, ◌⊎◌, ◌≢◌, List, [], ◌∷◌, eqb}
use Rattle.std.proofs.Common.{arith, subst, ◌∙◌, eqb-true, eq-eqb}
use Rattle.std.proofs.Math.Decide.{ℕ_discrete}
use Rattle.std.proofs.Math.Path.{refl, sym, ap}
use Rattle.std.proofs.Math.Logic.{inl, inr}
use Rattle.std.proofs.lemmas.Bool.{or_cases, cases_Bool, or_right}
use Rattle.protocol.specs.declared.MessageNumber.{MessageNumber}
use Rattle.protocol.specs.declared.Message.{Message}
use Rattle.protocol.specs.Tools.{if, any, all}
use Rattle.protocol.specs.Sizes.{messages}
use Rattle.protocol.specs.Servers.{is_request}
use Rattle.protocol.specs.Worlds.{World, message, with_message, unlinked, as_sent}
use Rattle.protocol.specs.Chains.{follow, chain}
use Rattle.protocol.specs.Steps.{emptied}
use Rattle.protocol.specs.Readable.{taken_answer, distinct}
use Rattle.protocol.proofs.Laws.Tests.{clash}
use Rattle.protocol.proofs.Laws.Worlds.{content, sent, message_as, sent_as}
use Rattle.protocol.proofs.Laws.Sound.{used_as, not_answer}
use Rattle.protocol.proofs.Laws.Lists.{all_map, all_member}
use Rattle.preservation.specs.Chained.{Chained}
use Rattle.preservation.proofs.Chained.{follow_same}
use Rattle.preservation.specs.Links.{Is, Short}
use Rattle.preservation.proofs.Links.{taken_is, is_taken_lem, chained_of}
use Rattle.preservation.specs.Emptied.{Rooted}

-- ---- messages as they were sent, one by one

pub as_none : (w : World) → as_sent w [] ≡ w
unfolding as_sent unlinked
as_none w = refl

pub as_more : (w : World) (k : ℕ) (ks : List ℕ) → with_message (as_sent w ks) k (sent w k) ≡ as_sent w (k ∷ ks)
unfolding with_message as_sent unlinked sent message
as_more w k ks = ap (λ (m : Message). with_message (as_sent w ks) k m) (sym (sent_as w ks k))

-- ---- a chain is emptied

module _ {w : World} {r : ℕ} (f : Rooted w r) where
  abbrev v : World
  v = emptied w r

  pub emptied_used : v.used ≡ w.used
  unfolding emptied
  emptied_used = used_as w (r ∷ chain w r)

  pub emptied_sent : (i : ℕ) → sent v i ≡ sent w i
  unfolding emptied
  emptied_sent i = sent_as w (r ∷ chain w r) i

  -- the messages that are as they were sent, and the others
  abbrev pub among : ℕ → Bool
  among i = any (eqb i) (r ∷ chain w r)

  emptied_message : (i : ℕ) → message v i ≡ if (among i) (sent w i) (message w i)
  unfolding emptied
  emptied_message i = message_as w (r ∷ chain w r) i

  pub emptied_in : (i : ℕ) → among i ≡ true → message v i ≡ sent w i
  emptied_in i e = emptied_message i ∙ rw e refl

  pub emptied_out : (i : ℕ) → among i ≡ false → message v i ≡ message w i
  emptied_out i e = emptied_message i ∙ rw e refl

  pub among_is : (i : ℕ) → among i ≡ true → (i ≡ r) ⊎ Is w r i
  unfolding any
  among_is i e = go (or_cases (eqb i r) _ e)
    where
      go : (eqb i r ≡ true) ⊎ (any (eqb i) (chain w r) ≡ true) → (i ≡ r) ⊎ Is w r i
      go (inl q) = inl (eqb-true i r q)
      go (inr q) = inr (taken_is w r i (all_member (taken_answer w r) (chain w r) i f.chain.only q))

  pub among_request : among r ≡ true
  unfolding any
  among_request = rw (eq-eqb r r refl) refl

  pub among_taken : (i : ℕ) → Is w r i → among i ≡ true
  unfolding any
  among_taken i k = or_right (eqb i r) _ (f.chain.every i k.low k.below (is_taken_lem w r i k))

  -- what is none of them: a taken answer of another request, another request, and what was not sent
  apart : (i : ℕ) → i ≢ r → (Is w r i → ⊥) → among i ≡ false
  apart i n k = go (cases_Bool (among i))
    where
      no : (i ≡ r) ⊎ Is w r i → among i ≡ false
      no (inl q) = absurd (n q)
      no (inr q) = absurd (k q)

      go : (among i ≡ true) ⊎ (among i ≡ false) → among i ≡ false
      go (inl e) = no (among_is i e)
      go (inr e) = e

  no_answer : {q i : ℕ} → Is w q i → is_request (message w i).kind ≡ true → ⊥
  no_answer {q} {i} k e = clash (eq-eqb _ _ k.is) (not_answer (message w i).kind e)

  other_answer : {q i : ℕ} → q ≢ r → Is w q i → among i ≡ false
  other_answer {q} {i} n k =
      apart i (λ e. no_answer k (subst (λ (x : ℕ). is_request (message w x).kind ≡ true) (sym e) f.short.asked)) (λ j. n (sym k.request ∙ j.request))

  other_request : {q : ℕ} → q ≢ r → is_request (message w q).kind ≡ true → among q ≡ false
  other_request {q} n e = apart q n (λ j. no_answer j e)

  pub before : among 0 ≡ false
  before = apart 0 (λ e. omega (arith, f.short.low)) (λ j. omega (arith, j.low))

  pub beyond : (i : ℕ) → w.used < i → among i ≡ false
  beyond i h = apart i (λ e. omega (arith, f.short.below)) (λ j. omega (arith, j.below))

  -- the kinds and requests are as before
  pub emptied_kind : (i : ℕ) → (message v i).kind ≡ (message w i).kind
  unfolding sent content
  emptied_kind i = ap (λ (m : Message). m.kind) (emptied_sent i)

  emptied_request : (i : ℕ) → (message v i).request.0 ≡ (message w i).request.0
  unfolding sent content
  emptied_request i = ap (λ (m : Message). m.request.0) (emptied_sent i)

  -- no answer of r is taken, and those of other requests are as before
  is_back : {q i : ℕ} → Is v q i → (q ≢ r) × Is w q i
  unfolding sent content
  is_back {q} {i} k = go (cases_Bool (among i))
    where
      go : (among i ≡ true) ⊎ (among i ≡ false) → (q ≢ r) × Is w q i
      go (inl e) = clash k.taken (ap (λ (m : Message). m.taken) (emptied_in i e))
      go (inr e) =
          let j : Is w q i =
          record {
            low = k.low;
            below = omega (arith, k.below, emptied_used);
            is = sym (emptied_kind i) ∙ k.is;
            taken = sym (ap (λ (m : Message). m.taken) (emptied_out i e)) ∙ k.taken;
            request = sym (emptied_request i) ∙ k.request;
          } in
          (λ n. clash (among_taken i (subst (λ (x : ℕ). Is w x i) n j)) e, j)

  is_on : {q i : ℕ} → q ≢ r → Is w q i → Is v q i
  is_on {q} {i} n k =
      record {
        low = k.low;
        below = omega (arith, k.below, emptied_used);
        is = emptied_kind i ∙ k.is;
        taken = ap (λ (m : Message). m.taken) (emptied_out i (other_answer n k)) ∙ k.taken;
        request = emptied_request i ∙ k.request;
      }

  short_on : {q : ℕ} → Short w q → Short v q
  short_on {q} h = record { low = h.low; below = omega (arith, h.below, emptied_used); full = omega (arith, h.full, emptied_used); asked = rw (emptied_kind q) h.asked }

  chain_other : (q : ℕ) → q ≢ r → Short w q → Chained w q → Chained v q
  unfolding chain
  chain_other q n h c =
      let s : (message v q).next ≡ (message w q).next = ap (λ (m : Message). m.next) (emptied_out q (other_request n h.asked)) in
      let g : follow v messages (message v q).next.0 ≡ follow w messages (message w q).next.0 =
      ap (λ (m : MessageNumber). follow v messages m.0) s
      ∙ follow_same w v (taken_answer w q) (λ i e. ap (λ (m : Message). m.next) (emptied_out i (other_answer n (taken_is w q i e)))) messages (message w q).next.0 c.only in
      chained_of v q (short_on h) (rw g (all_map (taken_answer w q) (taken_answer v q) _ (λ i e. is_taken_lem v q i (is_on n (taken_is w q i e))) c.only))
      (λ i l b t. rw g (c.every i l (omega (arith, emptied_used)) (is_taken_lem w q i (is_back (taken_is v q i t)).1)))
      (rw g c.once)

  -- "empties the chain"
  pub chain_none : chain v r ≡ []
  unfolding chain follow sent content
  chain_none = ap (λ (m : Message). follow v messages m.next.0) (emptied_in r among_request)

  chain_emptied : Chained v r
  unfolding all distinct
  chain_emptied =
      chained_of v r (short_on f.short) (rw chain_none refl) (λ i l b t. absurd ((is_back (taken_is v r i t)).0 refl)) (rw chain_none refl)

  pub emptied_chained : (q : ℕ) → Short w q → Chained w q → Chained v q
  emptied_chained q h c = go (ℕ_discrete q r)
    where
      go : Dec (q ≡ r) → Chained v q
      go (yes e) = subst (Chained v) (sym e) chain_emptied
      go (no e) = chain_other q e h c
