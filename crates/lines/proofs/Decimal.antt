-- The digits of a number below 2^64 are what `itoa` writes of it.
use Rattle.std.proofs.Common.{◌≡◌, ℕ, ◌+◌, ◌/◌, ◌%◌, ◌^◌, ◌<◌, ◌≤◌, List, [], ◌∷◌, ◌++◌, zero, suc, length, arith, ap, sym, pow-suc, lt-ltb, le-ltb}
use Rattle.std.specs.Prelude.{decimal}
use Rattle.std.proofs.lemmas.Fmt.{decimal_by_steps, length-decimal-le}
use Rattle.lines.specs.Lines.{digits, most_digits}

IsDigits : ℕ → List ℕ → Type 0
IsDigits n ds = (most : ℕ) → 0 < most → n < 10 ^ most → digits most n ≡ ds

one : (n : ℕ) → n < 10 → IsDigits n ((48 + n) ∷ [])
unfolding digits IsDigits
one n h zero p q = absurd (omega arith)
one n h (suc most) p q = rw (lt-ltb n 10 h) (ap (λ k. (48 + k) ∷ []) (omega arith))

more : (n : ℕ) (ds : List ℕ) → 10 ≤ n → IsDigits (n / 10) ds → IsDigits n (ds ++ ((48 + n % 10) ∷ []))
unfolding digits IsDigits
more n ds h rest zero p q = absurd (omega arith)
more n ds h rest (suc most) p q =
    rw (le-ltb n 10 h) (ap (λ l. l ++ ((48 + n % 10) ∷ [])) (rest most (some most q) (omega (arith, pow-suc 10 most))))
  where
    some : (m : ℕ) → n < 10 ^ suc m → 0 < m
    some zero q = absurd (omega (arith, pow-suc 10 0))
    some (suc m) q = omega arith

pub written : (n : ℕ) → n < 2 ^ 64 → decimal n ≡ digits most_digits n
unfolding IsDigits
written n h = sym (decimal_by_steps IsDigits one more n h most_digits (omega arith) (omega arith))

pub short : (n : ℕ) → n < 2 ^ 64 → length (decimal n) ≤ most_digits
short n h = length-decimal-le 20 n (omega arith) (omega arith) h
