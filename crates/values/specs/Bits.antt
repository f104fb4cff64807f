-- Sets of the numbers 1 to 32 as bits, and their laws. Assumes nothing.
use Rattle.std.specs.Prelude.{ℕ, zero, suc, ◌+◌, ◌-◌, ◌*◌, ◌/◌, ◌%◌, ◌^◌, ◌≤◌, ◌<◌, Bool, false, ◌≡◌, refl, leb, eqb}
use Rattle.std.proofs.Common.{sym, ap, ap₂, ◌∙◌, add_comm, one-mul, mod-lt, mod-eq_of_lt, arith, lit<, pow_pos, pow_mono, le-leb}
use Rattle.std.proofs.Math.Pow.{pow-lt}
use Rattle.std.proofs.lemmas.Grind.{common_steps}
use Rattle.std.proofs.Math.Nat.{mod-one, div-eq_of_lt}
use Rattle.std.specs.Int.Count.{ones}
use Rattle.std.proofs.lemmas.Nat.{ones_cat, mod-pow-add}
use Rattle.protocol.specs.Tools.{if, bit, count_to, holds, bit_of}
use Rattle.protocol.specs.Sizes.{servers}
use Rattle.protocol.proofs.Laws.Bits.{holds_bit_of, holds_own, holds_none}

-- the set of number k alone; none for 0 and for a number over 32
unfoldable pub bit_in : ℕ → ℕ
bit_in k = if (leb k servers) (bit_of k) 0

pub bit_in_lem : (k : ℕ) → k ≤ 32 → bit_in k ≡ bit_of k
unfolding bit_in
bit_in_lem k h = simp (le-leb _ _ h)

-- 32 bits that are not all zero are no number over 32 alone
pub own_in : (keys k : ℕ) → keys < 2 ^ 32 → (keys ≡ 0 → ⊥) → eqb keys (bit_in k) ≡ eqb keys (bit_of k)
unfolding bit_in bit_of
own_in keys zero h n = refl
own_in keys (suc k) h n =
    let p : 32 ≤ k → 2 ^ 32 ≤ 2 ^ k = pow_mono {i = 32} {j = k} in
    grind (arith, common_steps, p)

-- bit_of and holds at a number that is not 0, without taking it apart
pub bit_at : (k : ℕ) → 0 < k → bit_of k ≡ 2 ^ (k - 1)
unfolding bit_of
bit_at zero h = absurd (omega arith)
bit_at (suc k) h = ap (λ (n : ℕ). 2 ^ n) (omega arith)

pub holds_at : (bits k : ℕ) → 0 < k → holds bits k ≡ eqb (bits / 2 ^ (k - 1) % 2) 1
unfolding holds
holds_at bits zero h = absurd (omega arith)
holds_at bits (suc k) h = grind (arith, common_steps)

-- n bits name no number over n
pub holds_beyond : (n bits k : ℕ) → bits < 2 ^ n → n < k → holds bits k ≡ false
unfolding holds
holds_beyond n bits zero b h = absurd (omega arith)
holds_beyond n bits (suc k) b h =
    let p : 2 ^ n ≤ 2 ^ k = pow_mono {i = n} {j = k} (omega arith) in
    let e : bits / 2 ^ k ≡ 0 = div-eq_of_lt (omega arith) in
    simp e

pub holds_high : (bits k : ℕ) → bits < 2 ^ 32 → servers < k → holds bits k ≡ false
holds_high bits k b h = holds_beyond 32 bits k b h

-- number k alone, as the code shifts it
pub bit_shift : (k : ℕ) → 1 ≤ k → k ≤ servers → bit_in k ≡ 1 * 2 ^ (k - 1) % 4294967296
unfolding bit_in
bit_shift k h b =
    let p : 2 ^ (k - 1) < 4294967296 = pow-lt {i = k - 1} {j = 32} (omega arith) in
    simp (le-leb k servers b, bit_at k h, one-mul) (sym (mod-eq_of_lt p))

-- the number of bits set is the number of the numbers named
digit : (d : ℕ) → d < 2 → ones d ≡ bit (eqb d 1)
unfolding ones
digit zero h = refl
digit (suc zero) h = refl
digit (suc (suc d)) h = absurd (omega arith)

pub ones_count : (n k : ℕ) → ones (n % 2 ^ k) ≡ count_to (holds n) k
unfolding count_to holds
ones_count n zero = ap ones (mod-one n) ∙ digit 0 (omega arith)
ones_count n (suc k) =
    let d : ℕ = n / 2 ^ k % 2 in
    let r : ℕ = n % 2 ^ k in
    let j : suc k ≡ 1 + k = omega arith in
    let e : n % 2 ^ suc k ≡ d * 2 ^ k + r = ap (λ (x : ℕ). n % 2 ^ x) j ∙ mod-pow-add n 1 k in
    let s : ones (d * 2 ^ k + r) ≡ ones d + ones r = ones_cat k d r (mod-lt n (pow_pos k)) in
    let a : ones d ≡ bit (eqb d 1) = digit d (mod-lt (n / 2 ^ k) (lit< tt)) in
    let b : ones r ≡ count_to (holds n) k = ones_count n k in
    ap ones e ∙ s ∙ ap₂ (λ (x y : ℕ). x + y) a b ∙ add_comm (bit (eqb d 1)) (count_to (holds n) k)

pub ones_size : (n : ℕ) → n < 2 ^ 32 → ones n ≡ count_to (holds n) 32
ones_size n h = ap ones (sym (mod-eq_of_lt h)) ∙ ones_count n 32

-- counting goes by the tests alone, and counts each number once
pub count_same : (p q : ℕ → Bool) (n : ℕ) → ((s : ℕ) → 0 < s → s ≤ n → p s ≡ q s) → count_to p n ≡ count_to q n
unfolding count_to
count_same p q zero h = refl
count_same p q (suc n) h =
    rw (count_same p q n (λ s a b. h s a (omega arith)), h (suc n) (omega arith) (omega arith))

-- a set of one number holds that number alone
of_held : (k s : ℕ) → 0 < s → holds (bit_of k) s ≡ eqb k s
of_held k s h = grind (arith, common_steps, holds_own, holds_bit_of)

pub bit_held : (k s : ℕ) → 0 < s → s ≤ 32 → holds (bit_in k) s ≡ eqb k s
unfolding bit_in
bit_held k s h b = grind (arith, common_steps, of_held, holds_none)
