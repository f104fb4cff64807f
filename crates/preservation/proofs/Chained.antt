-- The clause of a request's chain, and what it rests on. Assumes nothing.
use Rattle.std.specs.Prelude.{ℕ, zero, suc, ◌+◌, ◌≤◌, ◌<◌, Bool, true, false, not, ◌&&◌, ◌||◌, ◌≡◌, refl, ◌≢◌, List, [], ◌∷◌, length, eqb}
use Rattle.std.proofs.Common.{arith, ap, ◌∙◌, eqb-true, eq-eqb, ne_eqb}
use Rattle.std.proofs.lemmas.Bool.{not-true, and_from, false_from_ne_true, or_from, or_left, or_right}
use Rattle.std.specs.Cmp.{first_so, second_so}
use Rattle.protocol.specs.declared.MessageNumber.{MessageNumber}
use Rattle.protocol.specs.Tools.{within, count_to, all_to, any, all}
use Rattle.protocol.specs.Sizes.{messages}
use Rattle.protocol.specs.Servers.{is_request}
use Rattle.protocol.specs.Worlds.{World, message}
use Rattle.protocol.specs.Chains.{follow, chain}
use Rattle.protocol.specs.Readable.{taken_answer, distinct, ends, chain_fits}
use Rattle.protocol.proofs.Laws.Tests.{clash, implies, implied, within_true, all_to_at, all_to_lem}
use Rattle.protocol.proofs.Laws.Counts.{count_le, count_mono, count_grows}
use Rattle.protocol.proofs.Laws.Lists.{all_member}
use Rattle.preservation.specs.Chained.{Chained}

pub chained : (w : World) (r : ℕ) → chain_fits w r ≡ true → is_request (message w r).kind ≡ true → Chained w r
unfolding chain_fits ends
chained w r e q =
    let e1 = implies (is_request (message w r).kind) _ e q in
    let e2 = second_so (eqb (length (follow w (suc messages) (message w r).next.0)) (length (chain w r))) _ e1 in
    let e3 = second_so (all (taken_answer w r) (chain w r)) _ e2 in
    record {
      ends = eqb-true _ _ (first_so _ _ e1);
      only = first_so _ _ e2;
      every = λ k l h t. implies (taken_answer w r k) _ (all_to_at (λ k. not (taken_answer w r k) || any (eqb k) (chain w r)) w.used k (first_so _ _ e3) l h) t;
      once = second_so (all_to (λ k. not (taken_answer w r k) || any (eqb k) (chain w r)) w.used) _ e3;
    }

pub chain_fits_lem : (w : World) (r : ℕ) → (is_request (message w r).kind ≡ true → Chained w r) → chain_fits w r ≡ true
unfolding chain_fits ends
chain_fits_lem w r f = implied (is_request (message w r).kind) _ (λ q. go (f q))
  where
    go : Chained w r → (eqb (length (follow w (suc messages) (message w r).next.0)) (length (chain w r)) && (all (taken_answer w r) (chain w r)
        && (all_to (λ k. not (taken_answer w r k) || any (eqb k) (chain w r)) w.used && distinct (chain w r)))) ≡ true
    go c =
        and_from _ _ (eq-eqb _ _ c.ends)
        (and_from _ _ c.only (and_from _ _ (all_to_lem (λ k. not (taken_answer w r k) || any (eqb k) (chain w r)) w.used (λ k l h. implied _ _ (c.every k l h))) c.once))

-- ---- lists of numbers

-- a number that passes no test of the members is none of them
pub outside : (p : ℕ → Bool) (ks : List ℕ) (k : ℕ) → all p ks ≡ true → p k ≡ false → any (eqb k) ks ≡ false
outside p ks k a h = false_from_ne_true _ (λ e. clash (all_member p ks k a e) h)

-- ---- a list of different numbers, each 1 to n and none of them j, has fewer than n

pub count_more : (p q : ℕ → Bool) (n : ℕ) → count_to q n ≤ count_to (λ i. p i || q i) n
count_more p q n = count_mono q (λ i. p i || q i) n (λ i _ _. or_right (p i) (q i))

-- one number more, of those 1 to n
count_one : (q : ℕ → Bool) (k n : ℕ) → 1 ≤ k → k ≤ n → q k ≡ false → count_to q n + 1 ≤ count_to (λ i. eqb i k || q i) n
count_one q k n l h e = count_grows q (λ i. eqb i k || q i) k n (λ i. or_right (eqb i k) (q i)) l h e (or_left (eqb k k) (q k) (eq-eqb k k refl))

pub pigeons : (ks : List ℕ) (n : ℕ) → distinct ks ≡ true → all (within 1 n) ks ≡ true → length ks ≤ count_to (λ i. any (eqb i) ks) n
unfolding distinct all any
pigeons [] n d a = omega arith
pigeons (k ∷ ks) n d a =
    let (l, h) = within_true 1 n k (first_so _ _ a) in
    let o = not-true _ (first_so (not (any (eqb k) ks)) _ d) in
    omega (arith, pigeons ks n (second_so (not (any (eqb k) ks)) _ d) (second_so (within 1 n k) _ a), count_one (λ i. any (eqb i) ks) k n l h o)

-- a set of the numbers 1 to n that lacks one of them has fewer than n
pub count_lacks : (p : ℕ → Bool) (k n : ℕ) → 1 ≤ k → k ≤ n → p k ≡ false → count_to p n < n
count_lacks p k n l h e = omega (arith, count_one p k n l h e, count_le (λ i. eqb i k || p i) n)

-- ---- the links

-- v's messages agree with w's in what the walk from n meets
pub follow_same : (w v : World) (p : ℕ → Bool) → ((k : ℕ) → p k ≡ true → (message v k).next ≡ (message w k).next) → (left n : ℕ) → all p (follow w left n) ≡ true → follow v left n ≡ follow w left n
unfolding follow all
follow_same w v p f zero n a = refl
follow_same w v p f (suc left) zero a = refl
follow_same w v p f (suc left) (suc n) a =
    ap (λ (l : List ℕ). suc n ∷ l)
    (ap (λ (m : MessageNumber). follow v left m.0) (f (suc n) (first_so _ _ a)) ∙ follow_same w v p f left (message w (suc n)).next.0 (second_so (p (suc n)) _ a))

-- a walk that needed fewer links than allowed needs no more
pub follow_enough : (w : World) (left n : ℕ) → length (follow w left n) < left → follow w (suc left) n ≡ follow w left n
unfolding follow
follow_enough w zero n h = absurd (omega arith)
follow_enough w (suc left) zero h = refl
follow_enough w (suc left) (suc n) h = ap (λ (l : List ℕ). suc n ∷ l) (follow_enough w left (message w (suc n)).next.0 (omega arith))

-- one link
pub follow_step : (w : World) (left n : ℕ) → 1 ≤ n → follow w (suc left) n ≡ (n ∷ follow w left (message w n).next.0)
unfolding follow
follow_step w left zero h = absurd (omega arith)
follow_step w left (suc n) h = refl

-- one link more shows no less
pub follow_longer : (w : World) (left n : ℕ) → length (follow w left n) ≤ length (follow w (suc left) n)
unfolding follow
follow_longer w zero n = omega arith
follow_longer w (suc left) zero = omega arith
follow_longer w (suc left) (suc n) = omega (arith, follow_longer w left (message w (suc n)).next.0)

-- a set of the numbers 1 to n that lacks two of them
pub count_lacks_two : (p : ℕ → Bool) (j k n : ℕ) → 1 ≤ j → j ≤ n → 1 ≤ k → k ≤ n → j ≢ k → p j ≡ false → p k ≡ false → count_to p n + 2 ≤ n
count_lacks_two p j k n a b c d q e f =
    omega (arith, count_one p k n c d f, count_lacks (λ i. eqb i k || p i) j n a b (or_from _ _ (ne_eqb j k q) e))
