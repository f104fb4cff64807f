-- Counting servers, and where two quorums of one view meet. Assumes nothing.
use Rattle.std.specs.Prelude.{ℕ, zero, suc, ◌+◌, ◌≤◌, Bool, true, false, ◌&&◌, ◌≡◌, refl}
use Rattle.std.proofs.Common.{arith, ap}
use Rattle.std.specs.Cmp.{first_so, second_so}
use Rattle.protocol.specs.Tools.{bit, count_to}
use Rattle.protocol.proofs.Laws.Counts.{beyond}

-- counting two sets counts what they share twice
bit_both : (x y z : Bool) → (x ≡ true → z ≡ true) → (y ≡ true → z ≡ true) → bit x + bit y ≤ bit (x && y) + bit z
bit_both true y z h k = omega (arith, ap bit (h refl))
bit_both false true z h k = omega (arith, ap bit (k refl))
bit_both false false z h k = omega arith

count_both : (a c m : ℕ → Bool) → ((i : ℕ) → a i ≡ true → m i ≡ true) → ((i : ℕ) → c i ≡ true → m i ≡ true) → (n : ℕ)
    → count_to a n + count_to c n ≤ count_to (λ i. a i && c i) n + count_to m n
unfolding count_to
count_both a c m h k zero = omega arith
count_both a c m h k (suc n) = omega (arith, count_both a c m h k n, bit_both (a (suc n)) (c (suc n)) (m (suc n)) (h (suc n)) (k (suc n)))

-- two sets of members that together are more than all members and f have a member in common that is not bad
pub record Common (a c bad : ℕ → Bool) : Type 0 where
  pub at : ℕ
  pub one : a at ≡ true
  pub two : c at ≡ true
  pub good : bad at ≡ false

pub common : (a c m bad : ℕ → Bool) (n f : ℕ) → ((i : ℕ) → a i ≡ true → m i ≡ true) → ((i : ℕ) → c i ≡ true → m i ≡ true)
    → count_to m n + f + 1 ≤ count_to a n + count_to c n → count_to bad n ≤ f → Common a c bad
common a c m bad n f h k q b =
    let r = beyond (λ i. a i && c i) bad n (omega (arith, count_both a c m h k n)) in
    record { at = r.at; one = first_so _ _ r.has; two = second_so (a r.at) _ r.has; good = r.lacks }
