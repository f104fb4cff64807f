-- Counting the numbers 1 to n that pass a test: what two sets share, one more number, and that none passes. Used by Theorem.
use Rattle.std.specs.Prelude.{ℕ, zero, suc, ◌+◌, ◌≤◌, ◌<◌, Bool, true, false, not, ◌&&◌, ◌||◌, ◌≡◌, refl, ◌⊎◌, eqb}
use Rattle.std.proofs.Common.{arith, ap, sym, inl, inr, eq-eqb}
use Rattle.std.proofs.lemmas.Bool.{or_left, or_right}
use Rattle.protocol.specs.Tools.{bit, count_to, all_to, some_to}
use Rattle.protocol.proofs.Laws.Tests.{last_or, clash}
use Rattle.protocol.proofs.Laws.Counts.{count_grows}

-- a law on each number's tests is one on the counts
bit_shared : (x y z : Bool) → bit x + bit y ≤ bit ((x && y) && not z) + bit z + 1
bit_shared true true true = omega arith
bit_shared true true false = omega arith
bit_shared true false z = omega arith
bit_shared false true z = omega arith
bit_shared false false z = omega arith

-- two sets of n numbers share as many as they have over n; all but those of a third set
pub shared : (a c z : ℕ → Bool) (n : ℕ) → count_to a n + count_to c n ≤ count_to (λ i. (a i && c i) && not (z i)) n + count_to z n + n
unfolding count_to
shared a c z zero = omega arith
shared a c z (suc n) = omega (arith, shared a c z n, bit_shared (a (suc n)) (c (suc n)) (z (suc n)))

-- counting further counts no less, and no more where nothing over n passes
pub count_wider : (p : ℕ → Bool) (n m : ℕ) → n ≤ m → count_to p n ≤ count_to p m
unfolding count_to
count_wider p n zero h = let e : n ≡ 0 = omega arith in rw e (omega arith)
count_wider p n (suc m) h = go (last_or n m h) (count_wider p n m)
  where
    go : (n ≡ suc m) ⊎ (n ≤ m) → (n ≤ m → count_to p n ≤ count_to p m) → count_to p n ≤ count_to p m + bit (p (suc m))
    go (inl e) ih = rw e (omega arith)
    go (inr k) ih = omega (arith, ih k)

pub count_within : (p : ℕ → Bool) (n m : ℕ) → n ≤ m → ((i : ℕ) → n < i → p i ≡ false) → count_to p m ≤ count_to p n
unfolding count_to
count_within p n zero h f = let e : n ≡ 0 = omega arith in rw e (omega arith)
count_within p n (suc m) h f = go (last_or n m h) (λ k. count_within p n m k f)
  where
    go : (n ≡ suc m) ⊎ (n ≤ m) → (n ≤ m → count_to p m ≤ count_to p n) → count_to p m + bit (p (suc m)) ≤ count_to p n
    go (inl e) ih = rw e (omega arith)
    go (inr k) ih = omega (arith, ih k, ap bit (f (suc m) (omega arith)))

-- a set with one number more
pub one_more : (p : ℕ → Bool) (x n : ℕ) → 1 ≤ x → x ≤ n → p x ≡ false → count_to p n + 1 ≤ count_to (λ s. p s || eqb x s) n
one_more p x n l h e = count_grows p (λ s. p s || eqb x s) x n (λ i. or_left (p i) (eqb x i)) l h e (or_right (p x) (eqb x x) (eq-eqb x x refl))

-- none passes
pub some_none : (p : ℕ → Bool) (n : ℕ) → all_to (λ i. not (p i)) n ≡ true → some_to p n ≡ false
unfolding some_to all_to
some_none p zero e = refl
some_none p (suc n) e = go (all_to (λ i. not (p i)) n) (p (suc n)) refl e (some_none p n)
  where
    go : (x y : Bool) → all_to (λ i. not (p i)) n ≡ x → (x && not y) ≡ true → (all_to (λ i. not (p i)) n ≡ true → some_to p n ≡ false)
        → (some_to p n || y) ≡ false
    go true false a e ih = rw (ih a) refl
    go true true a e ih = clash refl (sym e)
    go false y a e ih = clash refl (sym e)
