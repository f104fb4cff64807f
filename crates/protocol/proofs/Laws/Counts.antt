-- Counting the numbers 1 to n that pass a test. Assumes nothing.
use Rattle.std.specs.Prelude.{ℕ, zero, suc, ◌+◌, ◌≤◌, ◌<◌, Bool, true, false, ◌≡◌, refl, ◌⊎◌}
use Rattle.std.proofs.Common.{arith, sym, ap, ◌∙◌, inl, inr}
use Rattle.std.proofs.Math.Numerals.{add-one}
use Rattle.protocol.specs.Tools.{bit, count_to, sum_to}
use Rattle.protocol.proofs.Laws.Tests.{last_or}

pub bit_le : (b : Bool) → bit b ≤ 1
bit_le true = omega arith
bit_le false = omega arith

pub count_le : (p : ℕ → Bool) (n : ℕ) → count_to p n ≤ n
unfolding count_to
count_le p zero = omega arith
count_le p (suc n) = omega (arith, count_le p n, bit_le (p (suc n)))

-- a test within another counts no more
pub bit_mono : (x y : Bool) → (x ≡ true → y ≡ true) → bit x ≤ bit y
bit_mono true y h = omega (arith, ap bit (h refl))
bit_mono false y h = omega arith

pub count_mono : (p q : ℕ → Bool) (n : ℕ) → ((i : ℕ) → 1 ≤ i → i ≤ n → p i ≡ true → q i ≡ true) → count_to p n ≤ count_to q n
unfolding count_to
count_mono p q zero h = omega arith
count_mono p q (suc n) h =
    omega (arith, count_mono p q n (λ i a b. h i a (omega arith)), bit_mono (p (suc n)) (q (suc n)) (h (suc n) (omega arith) (omega arith)))

-- a set that has all numbers of another, and one more of 1 to n
pub count_grows : (p q : ℕ → Bool) (x n : ℕ) → ((i : ℕ) → p i ≡ true → q i ≡ true) → 1 ≤ x → x ≤ n → p x ≡ false → q x ≡ true → count_to p n + 1 ≤ count_to q n
unfolding count_to
count_grows p q x zero h l m e f = absurd (omega arith)
count_grows p q x (suc n) h l m e f = go (last_or x n m) (λ k. count_grows p q x n h l k e f)
  where
    go : (x ≡ suc n) ⊎ (x ≤ n) → (x ≤ n → count_to p n + 1 ≤ count_to q n) → count_to p n + bit (p (suc n)) + 1 ≤ count_to q n + bit (q (suc n))
    go (inl k) ih = omega (arith, count_mono p q n (λ i _ _. h i), ap bit (ap p (sym k) ∙ e), ap bit (ap q (sym k) ∙ f))
    go (inr k) ih = omega (arith, ih k, bit_mono (p (suc n)) (q (suc n)) (h (suc n)))

-- what a count begins with, and what one number more adds; with `all_start`, `all_more` and the sums, for who reads the laws
pub count_start : (p : ℕ → Bool) → count_to p 0 ≡ 0
unfolding count_to
count_start p = refl

pub count_more : (p : ℕ → Bool) (n : ℕ) → count_to p (n + 1) ≡ count_to p n + bit (p (n + 1))
unfolding count_to
count_more p n = rw add-one

pub sum_start : (g : ℕ → ℕ) → sum_to g 0 ≡ 0
unfolding sum_to
sum_start g = refl

pub sum_more : (g : ℕ → ℕ) (n : ℕ) → sum_to g (n + 1) ≡ sum_to g n + g (n + 1)
unfolding sum_to
sum_more g n = rw add-one

-- the larger of two sets has a number that the other lacks
pub record Beyond (p b : ℕ → Bool) : Type 0 where
  pub at : ℕ
  pub has : p at ≡ true
  pub lacks : b at ≡ false

pub beyond : (p b : ℕ → Bool) (n : ℕ) → count_to b n < count_to p n → Beyond p b
unfolding count_to
beyond p b zero h = absurd (omega arith)
beyond p b (suc n) h = go (p (suc n)) (b (suc n)) refl refl (beyond p b n)
  where
    go : (x y : Bool) → p (suc n) ≡ x → b (suc n) ≡ y → (count_to b n < count_to p n → Beyond p b) → Beyond p b
    go true false e f ih = record { at = suc n; has = e; lacks = f }
    go true true e f ih = ih (omega (arith, ap bit e, ap bit f))
    go false y e f ih = ih (omega (arith, ap bit e))
