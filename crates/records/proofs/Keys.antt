-- Sets of 32 bits below a power of two.
use Rattle.std.proofs.Common.{ℕ, ◌/◌, ◌^◌, ◌≤◌, ◌<◌, ◌≡◌, true, ltb, eqb, arith, pow_pos, pow_mono, lt-ltb}
use Rattle.std.proofs.Math.Nat.{div-eq_of_lt}
use Rattle.std.proofs.lemmas.Grind.{common_steps}
use Rattle.std.proofs.lemmas.Nat.{le-div}

-- 32 bits are those of 32 keys or more
pub full_set : (keys n : ℕ) → keys < 2 ^ 32 → 32 ≤ n → ltb keys (2 ^ n) ≡ true
full_set keys n h b =
    let p : 2 ^ 32 ≤ 2 ^ n = pow_mono {i = 32} {j = n} b in
    lt-ltb keys (2 ^ n) (omega arith)

-- nothing is left of n bits behind the n lowest
pub shifted_out : (keys n : ℕ) → eqb (keys / 2 ^ n) 0 ≡ ltb keys (2 ^ n)
shifted_out keys n =
    let low : keys < 2 ^ n → keys / 2 ^ n ≡ 0 = λ h. div-eq_of_lt h in
    let high : 2 ^ n ≤ keys → 1 ≤ keys / 2 ^ n = λ h. le-div 1 keys (2 ^ n) (pow_pos n) (omega arith) in
    grind (arith, common_steps, low, high)
