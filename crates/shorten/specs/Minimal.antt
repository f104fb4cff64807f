-- What passes over a list leave, whatever the test: `passes_part`, a part of the list in the same sequence; `passes_holds`, the
-- test still holds; `passes_minimal`, and of no list with a single element less. Used by Journals.antt. Assumes nothing.
use Prim.Native.Nat.{ℕ, zero, suc, ◌≤◌, ◌<◌}
use Rattle.std.proofs.Common.{le_refl, length-append, length-drop}
use native.Mathlib.Omega.{arith}
use Rattle.std.proofs.Math.Decide.{dec_lt}
use Rattle.std.specs.Prelude.{Bool, ◌≡◌}
use Rattle.std.proofs.Math.Bool.{true, false}
use Rattle.std.proofs.Math.Path.{refl}
use mathlib.Core.List.{List, [], ◌∷◌}
use Rattle.std.proofs.Math.ListN.{length, length-take}
use Rattle.std.proofs.Math.Dec.{ltb}
use borrow.Author.Tests.{ltb-true, ltb-false}
use Rattle.protocol.specs.Tools.{if}
use Rattle.shorten.specs.Passes.{without, dropped, sweep, one_pass, passes}

-- the first list is a part of the second, in the same sequence
pub data Part {A : Type 0} : List A → List A → Type 0 where
  none : Part [] []
  less : {x : A} {l m : List A} → Part l m → Part l (x ∷ m)
  both : {x : A} {l m : List A} → Part l m → Part (x ∷ l) (x ∷ m)

module _ {A : Type 0} where
  pub part_same : (l : List A) → Part l l
  part_same [] = none
  part_same (x ∷ l) = both (part_same l)

  pub part_part : {l m k : List A} → Part l m → Part m k → Part l k
  part_part h none = h
  part_part {l = l} h (less g) = less (part_part {l = l} h g)
  part_part {l = l} (less h) (both g) = less (part_part {l = l} h g)
  part_part (both {x = x} {l = l} h) (both {l = l'} {m = m} g) = both (part_part {l = l} h g)

  pub part_length : {l m : List A} → Part l m → length l ≤ length m
  part_length none = omega arith
  part_length (less h) = let e = part_length h in omega arith
  part_length (both h) = let e = part_length h in omega arith

  -- ---- one element less

  pub without_length : (l : List A) (i : ℕ) → i < length l → suc (length (without l i)) ≡ length l
  unfolding without
  without_length l i h = simp (length-append, length-take, length-drop) (omega arith)

  pub without_part : (l : List A) (i : ℕ) → Part (without l i) l
  unfolding without
  without_part [] zero = none
  without_part [] (suc i) = none
  without_part (x ∷ l) zero = less (part_same l)
  without_part (x ∷ l) (suc i) = both (without_part l i)

module _ {A : Type 0} (p : List A → Bool) where
  pub dropped_part : (l : List A) (i : ℕ) → Part (dropped p l i) l
  unfolding dropped
  dropped_part l i = go (p (without l i))
    where
      go : (b : Bool) → Part (if b (without l i) l) l
      go true = without_part l i
      go false = part_same l

  dropped_holds : (l : List A) (i : ℕ) → p l ≡ true → p (dropped p l i) ≡ true
  unfolding dropped
  dropped_holds l i h = go (p (without l i)) refl
    where
      go : (b : Bool) → p (without l i) ≡ b → p (if b (without l i) l) ≡ true
      go true e = e
      go false e = h

  -- ---- a pass

  pub sweep_part : (n : ℕ) (l : List A) → Part (sweep p n l) l
  unfolding sweep
  sweep_part zero l = part_same l
  sweep_part (suc i) l = part_part (sweep_part i (dropped p l i)) (dropped_part l i)

  sweep_holds : (n : ℕ) (l : List A) → p l ≡ true → p (sweep p n l) ≡ true
  unfolding sweep
  sweep_holds zero l h = h
  sweep_holds (suc i) l h = sweep_holds i (dropped p l i) (dropped_holds l i h)

  -- a pass that drops nothing found no place where the test remains
  record Idle (n : ℕ) (l : List A) : Type 0 where
    same : sweep p n l ≡ l
    needed : (i : ℕ) → i < n → p (without l i) ≡ false

  sweep_idle : (n : ℕ) (l : List A) → n ≤ length l → length l ≤ length (sweep p n l) → Idle n l
  unfolding sweep dropped
  sweep_idle zero l a b = record { same = refl; needed = λ i h. absurd (omega arith) }
  sweep_idle (suc n) l a b = go (p (without l n)) refl b (sweep_idle n l (omega arith))
    where
      go : (t : Bool) → p (without l n) ≡ t → length l ≤ length (sweep p n (if t (without l n) l)) → (length l ≤ length (sweep p n l) → Idle n l) → Idle (suc n) l
      go true e k ih = let f = part_length (sweep_part n (without l n)) in let g = without_length l n a in absurd (omega arith)
      go false e k ih = let d = ih k in record { same = rw e d.same; needed = λ i h. at_most i h d.needed }
        where
          at_most : (i : ℕ) → i < suc n → ((j : ℕ) → j < n → p (without l j) ≡ false) → p (without l i) ≡ false
          at_most i h below =
              elim (dec_lt i n) [
                | yes m ↦ below i m
                | no m ↦ let same : i ≡ n = omega arith in rw same e
              ]

  -- ---- passes

  pub passes_part : (n : ℕ) (l : List A) → Part (passes p n l) l
  unfolding passes
  passes_part zero l = part_same l
  passes_part (suc n) l = go (ltb (length (one_pass p l)) (length l)) (passes_part n (one_pass p l))
    where
      go : (b : Bool) → Part (passes p n (one_pass p l)) (one_pass p l) → Part (if b (passes p n (one_pass p l)) (one_pass p l)) l
      go true h = part_part h (sweep_part (length l) l)
      go false h = sweep_part (length l) l

  pub passes_holds : (n : ℕ) (l : List A) → p l ≡ true → p (passes p n l) ≡ true
  unfolding passes
  passes_holds zero l h = h
  passes_holds (suc n) l h = go (ltb (length (one_pass p l)) (length l)) (passes_holds n (one_pass p l) (sweep_holds (length l) l h))
    where
      go : (b : Bool) → p (passes p n (one_pass p l)) ≡ true → p (if b (passes p n (one_pass p l)) (one_pass p l)) ≡ true
      go true k = k
      go false k = sweep_holds (length l) l h

  pub passes_minimal : (n : ℕ) (l : List A) → length l ≤ n → (i : ℕ) → i < length (passes p n l) → p (without (passes p n l) i) ≡ false
  unfolding passes
  passes_minimal zero l k = λ i h. absurd (omega arith)
  passes_minimal (suc n) l k = go (ltb (length (one_pass p l)) (length l)) refl (λ m. passes_minimal n (one_pass p l) m)
    where
      go : (b : Bool) → ltb (length (one_pass p l)) (length l) ≡ b
          → (length (one_pass p l) ≤ n → (i : ℕ) → i < length (passes p n (one_pass p l)) → p (without (passes p n (one_pass p l)) i) ≡ false)
          → (i : ℕ) → i < length (if b (passes p n (one_pass p l)) (one_pass p l)) → p (without (if b (passes p n (one_pass p l)) (one_pass p l)) i) ≡ false
      go true e ih = ih (let z = ltb-true (length (one_pass p l)) (length l) e in omega arith)
      go false e ih = let d = sweep_idle (length l) l (le_refl (length l)) (ltb-false (length (one_pass p l)) (length l) e) in rw d.same d.needed
