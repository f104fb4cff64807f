-- What the digits of a number are: `digits_spell`, they spell it; `length_digits`, how many there are at most. Then how they are put
-- into a lent buffer, a digit behind those before it.
use Rattle.std.specs.Prelude.{◌≡◌, refl, Bool, true, false, List, [], ◌∷◌, ◌++◌, ℕ, zero, suc, ◌+◌, ◌*◌, ◌-◌, ◌/◌, ◌%◌, ◌^◌, ◌≤◌, ◌<◌, length, ltb}
use Rattle.std.proofs.Common.{sym, ap, ◌∙◌, pow-suc, arith, length-append, take-append-drop, ltb-true, lt-ltb, le-ltb}
use Rattle.protocol.specs.Tools.{if}
use Rattle.codec.specs.Lists.{put, put_put}
use Rattle.lines.specs.Lines.{digits, most_digits, number_then}

-- the number that decimal digits spell, read behind the number before them
unfoldable pub spelled : ℕ → List ℕ → ℕ
spelled before [] = before
spelled before (d ∷ ds) = spelled (10 * before + (d - 48)) ds

spelled_last : (before : ℕ) (ds : List ℕ) (d : ℕ) → spelled before (ds ++ (d ∷ [])) ≡ 10 * spelled before ds + (d - 48)
unfolding spelled
spelled_last before [] d = refl
spelled_last before (x ∷ ds) d = spelled_last (10 * before + (x - 48)) ds d

-- the digits of a number spell it, if it has no more than so many
pub digits_spell : (most n : ℕ) → n < 10 ^ most → spelled 0 (digits most n) ≡ n
unfolding digits spelled
digits_spell zero n h = omega arith
digits_spell (suc most) n h = go (ltb n 10) refl (digits_spell most (n / 10) (omega (arith, pow-suc 10 most)))
  where
    go : (b : Bool) → ltb n 10 ≡ b → spelled 0 (digits most (n / 10)) ≡ n / 10 → spelled 0 (if b [] (digits most (n / 10)) ++ ((48 + n % 10) ∷ [])) ≡ n
    go true e rest = omega (arith, ltb-true n 10 e)
    go false e rest = spelled_last 0 (digits most (n / 10)) (48 + n % 10) ∙ omega (arith, rest)

-- They are no more than may be written, and fit with the byte behind them.
pub length_digits : (most n : ℕ) → length (digits most n) ≤ most
unfolding digits
length_digits zero n = omega arith
length_digits (suc most) n = go (ltb n 10) (length_digits most (n / 10))
  where
    go : (b : Bool) → length (digits most (n / 10)) ≤ most → length (if b [] (digits most (n / 10)) ++ ((48 + n % 10) ∷ [])) ≤ suc most
    go true h = omega arith
    go false h = simp length-append (omega arith)

-- No proof cites it; it stands for who reads the definitions.
pub length_number : (n then : ℕ) → length (number_then n then) ≤ 21
unfolding number_then
length_number n then = simp length-append (omega (arith, length_digits most_digits n))

-- ---- `digits` as the code goes about it

pub digits_none : (l : List ℕ) (at most n : ℕ) → most ≡ 0 → (at ≡ at + length (digits most n)) × (l ≡ put l at (digits most n))
unfolding digits put
digits_none l at zero n e = (omega arith, sym (take-append-drop at l))
digits_none l at (suc most) n e = absurd (omega arith)

digits_few : (most n : ℕ) → n < 10 → digits (suc most) n ≡ (48 + n % 10) ∷ []
unfolding digits
digits_few most n h = rw (lt-ltb n 10 h) refl

digits_many : (most n : ℕ) → 10 ≤ n → digits (suc most) n ≡ digits most (n / 10) ++ ((48 + n % 10) ∷ [])
unfolding digits
digits_many most n h = rw (le-ltb n 10 h) refl

pub digits_last : (l out : List ℕ) (at most n : ℕ) → (most ≡ 0 → ⊥) → n < 10 → out ≡ put l at ((48 + n % 10) ∷ [])
    → (at + 1 ≡ at + length (digits most n)) × (out ≡ put l at (digits most n))
digits_last l out at zero n a b e = absurd (a refl)
digits_last l out at (suc most) n a b e =
    (ap (λ (x : List ℕ). at + length x) (sym (digits_few most n b)), e ∙ ap (put l at) (sym (digits_few most n b)))

pub digits_more : (l mid out : List ℕ) (at next most n : ℕ) → (most ≡ 0 → ⊥) → 10 ≤ n → at ≤ length l → next ≡ at + length (digits (most - 1) (n / 10))
    → mid ≡ put l at (digits (most - 1) (n / 10)) → out ≡ put mid next ((48 + n % 10) ∷ [])
    → (next + 1 ≡ at + length (digits most n)) × (out ≡ put l at (digits most n))
digits_more l mid out at next zero n a b h p q e = absurd (a refl)
digits_more l mid out at next (suc most) n a b h p q e =
    let k : suc most - 1 ≡ most = omega arith in
    let p' : next ≡ at + length (digits most (n / 10)) = p ∙ ap (λ (m : ℕ). at + length (digits m (n / 10))) k in
    let q' : mid ≡ put l at (digits most (n / 10)) = q ∙ ap (λ (m : ℕ). put l at (digits m (n / 10))) k in
    let d : digits (suc most) n ≡ digits most (n / 10) ++ ((48 + n % 10) ∷ []) = digits_many most n b in (
      rw d (simp length-append (omega arith)),
      e ∙ ap (λ (x : List ℕ). put x next ((48 + n % 10) ∷ [])) q'
          ∙ ap (λ (x : ℕ). put (put l at (digits most (n / 10))) x ((48 + n % 10) ∷ [])) p'
          ∙ put_put l at (digits most (n / 10)) ((48 + n % 10) ∷ []) h
          ∙ ap (put l at) (sym d),
    )

-- the digits and the byte behind them
pub number_put : (l mid out : List ℕ) (at next n then : ℕ) → at ≤ length l → next ≡ at + length (digits most_digits n) → mid ≡ put l at (digits most_digits n)
    → out ≡ put mid next (then ∷ []) → (next + 1 ≡ at + length (number_then n then)) × (out ≡ put l at (number_then n then))
unfolding number_then
number_put l mid out at next n then h p q e = (
  simp length-append (omega arith),
  e ∙ ap (λ (x : List ℕ). put x next (then ∷ [])) q ∙ ap (λ (x : ℕ). put (put l at (digits most_digits n)) x (then ∷ [])) p
      ∙ put_put l at (digits most_digits n) (then ∷ []) h,
)
