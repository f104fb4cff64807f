-- Sets of numbers as bits. Assumes nothing.
use Rattle.std.specs.Prelude.{ℕ, zero, suc, ◌+◌, ◌-◌, ◌/◌, ◌%◌, ◌^◌, ◌≤◌, ◌<◌, max, true, false, ◌||◌, ◌≡◌, refl, eqb}
use Rattle.std.proofs.Math.Nat.{div-eq_of_lt, div_self, mul-div_cancel_left, mul-mod_left, zero-div}
use Rattle.std.proofs.Common.{pow-suc, arith, sym, ◌∙◌, pow_pos, pow-add, eqb-true}
use Rattle.std.proofs.Math.Decide.{dec_lt}
use Rattle.std.proofs.Math.Pow.{pow-lt}
use Rattle.std.specs.Int.Bits.{bit_or, or_step}
use Rattle.std.proofs.lemmas.Nat.{or_shr}
use Rattle.protocol.specs.Tools.{holds, bit_of}
use Rattle.protocol.proofs.Laws.Tests.{clash}

-- a power of two over a larger one, and over a smaller one
digit_low : (a b : ℕ) → a < b → 2 ^ a / 2 ^ b % 2 ≡ 0
digit_low a b h = rw (div-eq_of_lt (pow-lt h)) refl

digit_high : (b d : ℕ) → 2 ^ (b + suc d) / 2 ^ b % 2 ≡ 0
digit_high b d = rw (pow-add 2 b (suc d), mul-div_cancel_left (2 ^ suc d) (pow_pos b), pow-suc 2 d) (mul-mod_left (2 ^ d) 2)

-- one number's bit holds that number, and no other
pub holds_bit_of : (t u : ℕ) → holds (bit_of t) u ≡ true → u ≡ t
unfolding holds bit_of
holds_bit_of t zero e = clash e refl
holds_bit_of zero (suc b) e = clash e (rw (zero-div (2 ^ b)) refl)
holds_bit_of (suc a) (suc b) e = go (dec_lt a b) (dec_lt b a)
  where
    none : 2 ^ a / 2 ^ b % 2 ≡ 0 → ⊥
    none z = let o : ◌≡◌ {A = ℕ} 0 1 = sym z ∙ eqb-true _ _ e in omega arith

    go : Dec (a < b) → Dec (b < a) → suc b ≡ suc a
    go (yes h) d = absurd (none (digit_low a b h))
    go (no h) (yes k) = let f : a ≡ b + suc (a - suc b) = omega arith in absurd (none (rw f (digit_high b (a - suc b))))
    go (no h) (no k) = omega arith

pub holds_own : (t : ℕ) → 1 ≤ t → holds (bit_of t) t ≡ true
unfolding holds bit_of
holds_own zero h = absurd (omega arith)
holds_own (suc a) h = rw (div_self (pow_pos a)) refl

-- the union of two sets
max_test : (x y : ℕ) → x < 2 → y < 2 → eqb (max x y) 1 ≡ (eqb x 1 || eqb y 1)
max_test zero zero h k = refl
max_test zero (suc zero) h k = refl
max_test (suc zero) zero h k = refl
max_test (suc zero) (suc zero) h k = refl
max_test x (suc (suc y)) h k = absurd (omega arith)
max_test (suc (suc x)) zero h k = absurd (omega arith)
max_test (suc (suc x)) (suc zero) h k = absurd (omega arith)

or_digit : (x y : ℕ) → bit_or x y % 2 ≡ max (x % 2) (y % 2)
or_digit x y = rw or_step (omega arith)

pub holds_or : (a b u : ℕ) → holds (bit_or a b) u ≡ (holds a u || holds b u)
unfolding holds
holds_or a b zero = refl
holds_or a b (suc k) =
    rw (or_shr a b k, or_digit (a / 2 ^ k) (b / 2 ^ k)) (max_test (a / 2 ^ k % 2) (b / 2 ^ k % 2) (omega arith) (omega arith))

pub holds_none : (u : ℕ) → holds 0 u ≡ false
unfolding holds
holds_none zero = refl
holds_none (suc k) = rw (zero-div (2 ^ k)) refl
