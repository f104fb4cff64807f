-- The walk along a request's chain. Assumes nothing.
use Rattle.std.specs.Prelude.{◌≡◌, refl, Bool, true, false, ℕ, zero, suc, ◌+◌, ◌*◌, ◌-◌, ◌≤◌, List, Option, None, Some, eqb}
use Rattle.std.proofs.Math.Path.{sym, ap}
use Rattle.std.proofs.Common.{ap₂, ◌∙◌, add-zero, zero-add, arith}
use Rattle.std.proofs.Math.ListN.{length}
use Rattle.std.proofs.Math.Dec.{eqb-suc-zero, eqb-suc-suc}
use Rattle.std.proofs.lemmas.Bool.{and_from}
use Rattle.protocol.specs.Tools.{if, bit, all, all_to, count_to, sum_to, pass}
use Rattle.protocol.specs.Sizes.{messages}
use Rattle.protocol.specs.Servers.{is_request}
use Rattle.protocol.specs.Worlds.{World, message}
use Rattle.protocol.specs.Chains.{follow, chain}
use Rattle.protocol.specs.Readable.{taken_answer, chain_fits}
use Rattle.codec.specs.Places.{used_at}
use Rattle.codec.specs.Images.{decode}
use Rattle.protocol.proofs.Laws.Tests.{by_test}
use Rattle.protocol.proofs.Laws.Tests.{all_fails}
use Rattle.readable.specs.Links.{length_follow}
use Rattle.readable.specs.Chains.{sound, chain_sound, links, is_taken, chains_fit, chain_parts, parts_sound}
use Rattle.readable.specs.Scan.{chains_rule}

-- the number that a walk hands back: the links followed, or one more than a walk can follow
abbrev pub numbered : Option ℕ → ℕ
numbered (Some n) = n
numbered None = suc messages

-- a walk from n on, tally links having been followed before: "the walk reports the links followed"
unfoldable pub walked : World → ℕ → ℕ → ℕ → ℕ → Option ℕ
walked w r left n tally = if (sound w r left n) (Some (tally + length (follow w left n))) None

-- the walk along the chain of message r
unfoldable pub chained : World → ℕ → Option ℕ
chained w r = if (is_request (message w r).kind) (walked w r messages (message w r).next.0 0) (Some 0)

-- ---- one link of a walk

sound_end : (w : World) (r left : ℕ) → sound w r left 0 ≡ true
unfolding sound follow all
sound_end w r zero = refl
sound_end w r (suc left) = refl

follow_end : (w : World) (left : ℕ) → length (follow w left 0) ≡ 0
unfolding follow
follow_end w zero = refl
follow_end w (suc left) = refl

pub walked_end : (w : World) (r left n tally : ℕ) → n ≡ 0 → walked w r left n tally ≡ Some tally
unfolding walked
walked_end w r left n tally e = rw (e, sound_end w r left, follow_end w left, add-zero)

sound_out : (w : World) (r n : ℕ) → (n ≡ 0 → ⊥) → sound w r 0 n ≡ false
unfolding sound follow all
sound_out w r zero ne = absurd (ne refl)
sound_out w r (suc n) ne = eqb-suc-zero 0

pub walked_out : (w : World) (r left n tally : ℕ) → (n ≡ 0 → ⊥) → left ≡ 0 → walked w r left n tally ≡ None
unfolding walked
walked_out w r left n tally ne e = rw (e, sound_out w r n ne)

sound_stray : (w : World) (r left n : ℕ) → taken_answer w r (suc n) ≡ false → sound w r (suc left) (suc n) ≡ false
unfolding sound follow all
sound_stray w r left n t = rw t

pub walked_stray : (w : World) (r left n tally : ℕ) → (n ≡ 0 → ⊥) → (left ≡ 0 → ⊥) → taken_answer w r n ≡ false → walked w r left n tally ≡ None
unfolding walked
walked_stray w r left zero tally ne nl t = absurd (ne refl)
walked_stray w r zero (suc n) tally ne nl t = absurd (nl refl)
walked_stray w r (suc left) (suc n) tally ne nl t = rw (sound_stray w r left n t)

sound_on : (w : World) (r left n : ℕ) → taken_answer w r (suc n) ≡ true → sound w r (suc left) (suc n) ≡ sound w r left (message w (suc n)).next.0
unfolding sound follow all
sound_on w r left n t = rw (t, eqb-suc-suc)

follow_on : (w : World) (left n tally : ℕ) → tally + length (follow w (suc left) (suc n)) ≡ tally + 1 + length (follow w left (message w (suc n)).next.0)
unfolding follow
follow_on w left n tally = omega arith

pub walked_on : (w : World) (r left n tally : ℕ) → (n ≡ 0 → ⊥) → (left ≡ 0 → ⊥) → taken_answer w r n ≡ true
    → walked w r left n tally ≡ walked w r (left - 1) (message w n).next.0 (tally + 1)
unfolding walked
walked_on w r left zero tally ne nl t = absurd (ne refl)
walked_on w r zero (suc n) tally ne nl t = absurd (nl refl)
walked_on w r (suc left) (suc n) tally ne nl t =
    let e : suc left - 1 ≡ left = omega arith in
    rw (sound_on w r left n t, follow_on w left n tally, e)

-- ---- the number of a walk, opened

walked_most : (b : Bool) (k : ℕ) → k ≤ messages → numbered (if b (Some k) None) ≡ suc messages → if b (Some k) None ≡ None
walked_most true k h e = absurd (omega arith)
walked_most false k h e = refl

walked_least : (b : Bool) (k : ℕ) → (numbered (if b (Some k) None) ≡ suc messages → ⊥) → if b (Some k) None ≡ Some (numbered (if b (Some k) None))
walked_least true k h = refl
walked_least false k h = absurd (h refl)

module _ (w : World) (r left n tally k : ℕ) (most : tally + left ≤ messages) (is : k ≡ numbered (walked w r left n tally)) where
  pub walked_broken : k ≡ suc messages → None ≡ walked w r left n tally
  unfolding walked
  walked_broken e =
      sym (walked_most (sound w r left n) (tally + length (follow w left n)) (let f = length_follow w left n in omega arith) (sym is ∙ e))

  -- No proof cites it; it stands for who reads the definitions.
  pub walked_whole : (k ≡ suc messages → ⊥) → Some k ≡ walked w r left n tally
  unfolding walked
  walked_whole e = ap Some is ∙ sym (walked_least (sound w r left n) (tally + length (follow w left n)) (λ q. e (is ∙ q)))

-- ---- a whole chain

-- "the links followed, which equals the chain's length"
pub chained_links : (w : World) (r : ℕ) → chained w r ≡ if (chain_sound w r) (Some (links w r)) None
unfolding chained walked chain_sound links chain
chained_links w r =
    by_test (is_request (message w r).kind) (λ q. rw (q, zero-add)) (λ q. rw q)

pub whole : (b : Bool) (l k : ℕ) → if b (Some l) None ≡ Some k → (b ≡ true) × (k ≡ l)
whole true l k e = (refl, cc)
whole false l k e = (cc, cc)

pub broken : (b : Bool) (l : ℕ) → if b (Some l) None ≡ None → b ≡ false
broken true l e = cc
broken false l e = refl

pub links_most : (w : World) (r : ℕ) → links w r ≤ messages
unfolding links chain
links_most w r =
    by_test {P = if (is_request (message w r).kind) (length (follow w messages (message w r).next.0)) 0 ≤ messages} (is_request (message w r).kind)
    (λ q. rw q (length_follow w messages (message w r).next.0)) (λ q. rw q (omega arith))

-- in a well-formed world the walk from a request follows its whole chain
-- No proof cites it; it stands for who reads the definitions.
pub chain_walked : (w : World) (r : ℕ) → chain_fits w r ≡ true → is_request (message w r).kind ≡ true → chained w r ≡ Some (length (chain w r))
unfolding chained walked chain
chain_walked w r e q =
    let c = chain_parts w r e q in
    let s = parts_sound w r messages (message w r).next.0 (record { only = c.only; ended = c.ended }) in
    rw (q, s, zero-add)

-- ---- all chains one after another

-- of the messages 1 to n: their chains are sound, all their links are a, and b of them are taken
pub record Counted (w : World) (n a b : ℕ) : Type 0 where
  pub sound : all_to (chain_sound w) n ≡ true
  pub linked : a ≡ sum_to (links w) n
  pub taken : b ≡ count_to (is_taken w) n
  pub most : a ≤ messages * n

pub counted_none : (w : World) → Counted w 0 0 0
unfolding all_to sum_to count_to
counted_none w = record { sound = refl; linked = refl; taken = refl; most = omega arith }

pub counted_more : (w : World) (n sum taken l b : ℕ) → 1 ≤ n → Counted w (n - 1) sum taken → Some l ≡ chained w n → b ≡ bit (is_taken w n)
    → Counted w n (sum + l) (taken + b)
unfolding all_to sum_to count_to
counted_more w zero sum taken l b h c e f = absurd (omega arith)
counted_more w (suc n) sum taken l b h c e f =
    let k : suc n - 1 ≡ n = omega arith in
    let d : Counted w n sum taken = rw k at c in
    let q = whole (chain_sound w (suc n)) (links w (suc n)) l (sym (chained_links w (suc n)) ∙ sym e) in
    let m = links_most w (suc n) in
    record {
      sound = and_from _ _ d.sound q.0;
      linked = ap₂ (λ (x y : ℕ). x + y) d.linked q.1;
      taken = ap₂ (λ (x y : ℕ). x + y) d.taken f;
      most = let u = d.most in let v = q.1 in omega arith;
    }

module _ (i : List ℕ) (used : ℕ) (is : used ≡ used_at i) where
  pub counted_all : (sum taken : ℕ) → Counted (decode i) used sum taken → eqb sum taken ≡ chains_fit (decode i)
  counted_all sum taken c = rw (chains_rule i used is) (pass c.sound (rw (c.linked, c.taken)))

  pub counted_out : (n : ℕ) → 1 ≤ n → n ≤ used → None ≡ chained (decode i) n → false ≡ chains_fit (decode i)
  counted_out n a b e =
      rw (
        chains_rule i used is,
        all_fails (chain_sound (decode i)) used n a b (broken (chain_sound (decode i) n) (links (decode i) n) (sym (chained_links (decode i) n) ∙ sym e)),
      )
