-- The clause of the chains, and a test of it that goes along each chain one time. Assumes nothing.
use Rattle.std.specs.Prelude.{◌≡◌, refl, Bool, true, false, ◌&&◌, ◌||◌, ℕ, suc, ◌≤◌, eqb}
use Rattle.std.proofs.Math.Path.{sym}
use Rattle.std.proofs.Common.{ap, ◌∙◌, arith}
use Rattle.std.proofs.Math.Bool.{not}
use Rattle.std.proofs.Math.ListN.{length}
use Rattle.std.proofs.lemmas.Bool.{and_parts, and_from}
use Rattle.std.specs.Cmp.{both_ways}
use borrow.Author.Tests.{eqb-true, eq-eqb, le-leb}
use Rattle.protocol.specs.Tools.{if, bit, within, count_to, all_to, any, all, sum_to}
use Rattle.protocol.specs.Sizes.{messages}
use Rattle.protocol.specs.Servers.{ANSWER, is_request}
use Rattle.protocol.specs.Worlds.{World, message, present}
use Rattle.protocol.specs.Chains.{follow, chain}
use Rattle.protocol.specs.Readable.{taken_answer, distinct, ends, chain_fits, message_fits}
use Rattle.protocol.proofs.Laws.Tests.{by_test, clash, all_to_at, all_to_lem, implies, implied}
use Rattle.protocol.proofs.Laws.Moves.{present_is}
use Rattle.protocol.proofs.Laws.Lists.{all_member, all_map}
use Rattle.protocol.proofs.Laws.Counts.{count_mono}
use Rattle.key_holders.specs.Counts.{Each, count_ext, count_none, count_same, count_one, count_list, sum_same, sum_ext, swap}
use Rattle.readable.specs.Links.{Ends, once}
use Rattle.readable.specs.Formed.{sent_at, taken_answer_lem, in_present}

-- the walk from n on meets only taken answers of request r, and ends at zero within the links still allowed
unfoldable pub sound : World → ℕ → ℕ → ℕ → Bool
sound w r left n =
    all (taken_answer w r) (follow w left n) && eqb (length (follow w (suc left) n)) (length (follow w left n))

-- "only taken answers of its request", and "zero ends the chain"
unfoldable pub chain_sound : World → ℕ → Bool
chain_sound w r = not (is_request (message w r).kind) || sound w r messages (message w r).next.0

-- the links of the chain of message r, 0 where it is no request
unfoldable pub links : World → ℕ → ℕ
links w r = if (is_request (message w r).kind) (length (chain w r)) 0

-- a taken message
abbrev pub is_taken : World → ℕ → Bool
is_taken w k = (message w k).taken

-- every chain is sound, and together they have as many links as there are taken answers
unfoldable pub chains_fit : World → Bool
chains_fit w = all_to (chain_sound w) w.used && eqb (sum_to (links w) w.used) (count_to (is_taken w) w.used)

-- ---- the parts of a chain's clause

pub record Chain (w : World) (r : ℕ) : Type 0 where
  pub ended : Ends w messages (message w r).next.0
  pub only : all (taken_answer w r) (chain w r) ≡ true
  pub every : all_to (λ k. not (taken_answer w r k) || any (eqb k) (chain w r)) w.used ≡ true
  pub once : distinct (chain w r) ≡ true

pub chain_parts : (w : World) (r : ℕ) → chain_fits w r ≡ true → is_request (message w r).kind ≡ true → Chain w r
unfolding chain_fits ends chain
chain_parts w r e q =
    let x = implies (is_request (message w r).kind) (ends w r && (all (taken_answer w r) (chain w r) &&
    (all_to (λ k. not (taken_answer w r k) || any (eqb k) (chain w r)) w.used && distinct (chain w r)))) e q in
    let a = and_parts (ends w r) (all (taken_answer w r) (chain w r) && (all_to (λ k. not (taken_answer w r k) || any (eqb k) (chain w r)) w.used && distinct (chain w r))) x in
    let b = and_parts (all (taken_answer w r) (chain w r)) (all_to (λ k. not (taken_answer w r k) || any (eqb k) (chain w r)) w.used && distinct (chain w r)) a.1 in
    let c = and_parts (all_to (λ k. not (taken_answer w r k) || any (eqb k) (chain w r)) w.used) (distinct (chain w r)) b.1 in
    record { ended = record { same = eqb-true _ _ a.0 }; only = b.0; every = c.0; once = c.1 }

parts_chain : (w : World) (r : ℕ) → (is_request (message w r).kind ≡ true → Chain w r) → chain_fits w r ≡ true
unfolding chain_fits ends chain
parts_chain w r h =
    by_test (is_request (message w r).kind)
    (λ q.
    let c = h q in
    rw q (and_from _ _ (eq-eqb _ _ c.ended.same) (and_from _ _ c.only (and_from _ _ c.every c.once))))
    (λ q. rw q)

pub record Sound (w : World) (r left n : ℕ) : Type 0 where
  pub only : all (taken_answer w r) (follow w left n) ≡ true
  pub ended : Ends w left n

pub sound_parts : (w : World) (r left n : ℕ) → sound w r left n ≡ true → Sound w r left n
unfolding sound
sound_parts w r left n e =
    let a = and_parts (all (taken_answer w r) (follow w left n)) (eqb (length (follow w (suc left) n)) (length (follow w left n))) e in
    record { only = a.0; ended = record { same = eqb-true _ _ a.1 } }

pub parts_sound : (w : World) (r left n : ℕ) → Sound w r left n → sound w r left n ≡ true
unfolding sound
parts_sound w r left n s = and_from _ _ s.only (eq-eqb _ _ s.ended.same)

-- ---- lists

-- ---- a taken answer

pub record Taken (w : World) (r k : ℕ) : Type 0 where
  pub present : present w k ≡ true
  pub kind : eqb (message w k).kind ANSWER ≡ true
  pub taken : (message w k).taken ≡ true
  pub request : (message w k).request.0 ≡ r

pub taken_parts : (w : World) (r k : ℕ) → taken_answer w r k ≡ true → Taken w r k
unfolding taken_answer
taken_parts w r k e =
    let a = and_parts (present w k) (eqb (message w k).kind ANSWER && ((message w k).taken && eqb (message w k).request.0 r)) e in
    let b = and_parts (eqb (message w k).kind ANSWER) ((message w k).taken && eqb (message w k).request.0 r) a.1 in
    let c = and_parts (message w k).taken (eqb (message w k).request.0 r) b.1 in
    record { present = a.0; kind = b.0; taken = c.0; request = eqb-true _ _ c.1 }

parts_taken : (w : World) (r k : ℕ) → Taken w r k → taken_answer w r k ≡ true
unfolding taken_answer
parts_taken w r k t = and_from _ _ t.present (and_from _ _ t.kind (and_from _ _ t.taken (eq-eqb _ _ t.request)))

-- ---- the numbers of the links

module _ (w : World) (r : ℕ) where
  within_used : all (taken_answer w r) (chain w r) ≡ true → all (within 1 w.used) (chain w r) ≡ true
  within_used a = all_map (taken_answer w r) (within 1 w.used) (chain w r) (λ k e. opened k (taken_parts w r k e).present) a
    where
      opened : (k : ℕ) → present w k ≡ true → within 1 w.used k ≡ true
      opened k e = let p = present_is w k e in and_from _ _ (le-leb 1 k p.0) (le-leb k w.used p.1)

  -- a chain that holds only taken answers, each one time, has as many links as it has members
  members : all (taken_answer w r) (chain w r) ≡ true → distinct (chain w r) ≡ true
      → count_to (λ k. any (eqb k) (chain w r)) w.used ≡ length (chain w r)
  members a d = count_list (chain w r) w.used d (within_used a)

  -- and, if it holds all of them, as many as there are
  counted : Chain w r → length (chain w r) ≡ count_to (taken_answer w r) w.used
  counted c =
      sym (members c.only c.once)
      ∙ count_ext (λ k. any (eqb k) (chain w r)) (taken_answer w r) w.used
      (record {
        one = λ k l m.
            both_ways (any (eqb k) (chain w r)) (taken_answer w r k) (λ i. all_member (taken_answer w r) (chain w r) k c.only i)
            (λ t. implies (taken_answer w r k) (any (eqb k) (chain w r)) (all_to_at _ w.used k c.every l m) t);
      })

-- each taken answer is one of exactly one request
module _ (w : World) (h : Each w.used (λ k. message_fits w k ≡ true)) where
  abbrev asks : ℕ → Bool
  asks r = is_request (message w r).kind

  one_request : (k : ℕ) → 1 ≤ k → k ≤ w.used → count_to (λ r. asks r && taken_answer w r k) w.used ≡ bit (is_taken w k)
  one_request k l m =
      by_test (message w k).taken
      (λ t.
      let a = taken_answer_lem w (message w k) (sent_at w k m (h.one k l m)).request t in
      let p = present_is w (message w k).request.0 a.present in
      count_ext (λ r. asks r && taken_answer w r k) (λ r. eqb r (message w k).request.0) w.used
      (record {
        one = λ r x y.
            both_ways (asks r && taken_answer w r k) (eqb r (message w k).request.0)
            (λ e. eq-eqb r (message w k).request.0 (sym (taken_parts w r k (and_parts (asks r) (taken_answer w r k) e).1).request))
            (λ e. rw (eqb-true r (message w k).request.0 e)
            (and_from _ _ a.request
            (parts_taken w (message w k).request.0 k
            (record { present = in_present w k l m; kind = eq-eqb (message w k).kind ANSWER a.kind; taken = t; request = refl }))));
      })
      ∙ count_one (message w k).request.0 w.used p.0 p.1
      ∙ sym (ap bit t))
      (λ t.
      count_none (λ r. asks r && taken_answer w r k) w.used
      (record {
        one = λ r x y.
            by_test {P = asks r && taken_answer w r k ≡ false} (asks r && taken_answer w r k)
            (λ e. clash (taken_parts w r k (and_parts (asks r) (taken_answer w r k) e).1).taken t)
            (λ e. e);
      })
      ∙ sym (ap bit t))

  all_taken : sum_to (λ r. if (asks r) (count_to (taken_answer w r) w.used) 0) w.used ≡ count_to (is_taken w) w.used
  all_taken = swap asks (taken_answer w) (is_taken w) w.used w.used (record { one = one_request })

  links_counted : (r : ℕ) → (asks r ≡ true → Chain w r) → links w r ≡ if (asks r) (count_to (taken_answer w r) w.used) 0
  unfolding links
  links_counted r h =
      by_test {P = if (asks r) (length (chain w r)) 0 ≡ if (asks r) (count_to (taken_answer w r) w.used) 0} (asks r)
      (λ q. rw q (counted w r (h q))) (λ q. rw q)

  fit_sound : all_to (chain_fits w) w.used ≡ true → chains_fit w ≡ true
  unfolding chains_fit chain_sound chain
  fit_sound e =
      and_from _ _
      (all_to_lem (chain_sound w) w.used
      (λ r l m.
      by_test {P = chain_sound w r ≡ true} (asks r)
      (λ q.
      let c = chain_parts w r (all_to_at (chain_fits w) w.used r e l m) q in
      rw q (parts_sound w r messages (message w r).next.0 (record { only = c.only; ended = c.ended })))
      (λ q. rw q)))
      (eq-eqb (sum_to (links w) w.used) (count_to (is_taken w) w.used)
      (sum_ext (links w) (λ r. if (asks r) (count_to (taken_answer w r) w.used) 0) w.used
      (record { one = λ r l m. links_counted r (λ q. chain_parts w r (all_to_at (chain_fits w) w.used r e l m) q) })
      ∙ all_taken))

  -- a sound chain of a request meets no answer twice
  sound_links : (r : ℕ) → chain_sound w r ≡ true → asks r ≡ true → (all (taken_answer w r) (chain w r) ≡ true) × (distinct (chain w r) ≡ true) × Ends w messages (message w r).next.0
  unfolding chain_sound chain
  sound_links r e q =
      let s = sound_parts w r messages (message w r).next.0 (implies (asks r) (sound w r messages (message w r).next.0) e q) in
      (s.only, once w messages (message w r).next.0 s.ended, s.ended)

  members_taken : (r : ℕ) → all (taken_answer w r) (chain w r) ≡ true → Each w.used (λ k. any (eqb k) (chain w r) ≡ true → taken_answer w r k ≡ true)
  members_taken r a = record { one = λ k l m i. all_member (taken_answer w r) (chain w r) k a i }

  links_le : (r : ℕ) → chain_sound w r ≡ true → links w r ≤ if (asks r) (count_to (taken_answer w r) w.used) 0
  unfolding links
  links_le r e =
      by_test {P = if (asks r) (length (chain w r)) 0 ≤ if (asks r) (count_to (taken_answer w r) w.used) 0} (asks r)
      (λ q.
      let s = sound_links r e q in
      rw q (let c = count_mono (λ k. any (eqb k) (chain w r)) (taken_answer w r) w.used (members_taken r s.0).one in omega (arith, members w r s.0 s.1)))
      (λ q. rw q (omega arith))

  sound_chain : (r : ℕ) → chain_sound w r ≡ true → links w r ≡ if (asks r) (count_to (taken_answer w r) w.used) 0 → asks r ≡ true → Chain w r
  unfolding links
  sound_chain r e f q =
      let s = sound_links r e q in
      let g : length (chain w r) ≡ count_to (taken_answer w r) w.used = rw q at f in
      let t = count_same (λ k. any (eqb k) (chain w r)) (taken_answer w r) w.used (members_taken r s.0) (members w r s.0 s.1 ∙ g) in
      record {
        ended = s.2;
        only = s.0;
        every = all_to_lem (λ k. not (taken_answer w r k) || any (eqb k) (chain w r)) w.used (λ k l m. implied (taken_answer w r k) (any (eqb k) (chain w r)) (t.one k l m));
        once = s.1;
      }

  sound_fit : chains_fit w ≡ true → all_to (chain_fits w) w.used ≡ true
  unfolding chains_fit
  sound_fit e =
      let a = and_parts (all_to (chain_sound w) w.used) (eqb (sum_to (links w) w.used) (count_to (is_taken w) w.used)) e in
      let f = eqb-true (sum_to (links w) w.used) (count_to (is_taken w) w.used) a.1 ∙ sym all_taken in
      let s = sum_same (links w) (λ r. if (asks r) (count_to (taken_answer w r) w.used) 0) w.used
      (record { one = λ r l m. links_le r (all_to_at (chain_sound w) w.used r a.0 l m) }) f in
      all_to_lem (chain_fits w) w.used
      (λ r l m. parts_chain w r (sound_chain r (all_to_at (chain_sound w) w.used r a.0 l m) (s.one r l m)))

  -- "each chain holds only taken answers of its request, all of them, each one time"
  pub chains_fit_lem : all_to (chain_fits w) w.used ≡ chains_fit w
  chains_fit_lem = both_ways (all_to (chain_fits w) w.used) (chains_fit w) fit_sound sound_fit
