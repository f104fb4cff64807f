-- The order of stamps, and the larger entry. Assumes nothing.
use Rattle.std.specs.Prelude.{◌≤◌, ◌<◌, Bool, true, false, ◌&&◌, ◌||◌, ◌≡◌, refl, ◌⊎◌, List, [], ◌∷◌, ltb, eqb}
use Rattle.std.proofs.Common.{le_refl, arith, sym, ◌∙◌, ap, inl, inr, ltb-true, ltb-false, eqb-true, eq-eqb}
use Rattle.std.proofs.lemmas.Bool.{eqb-false, or_cases, and_from}
use Rattle.std.specs.Cmp.{first_so, second_so}
use Rattle.protocol.specs.Types.{Entry}
use Rattle.protocol.specs.Tools.{if, all}
use Rattle.protocol.specs.Entries.{count_of, writer_of, below, larger, largest, chosen, same}
use Rattle.protocol.proofs.Laws.Tests.{clash, by_test}

infix 50 ◌≼◌
-- the stamp of a is at most that of b
pub data ◌≼◌ (a b : Entry) : Type 0 where
  by_count : count_of a < count_of b → a ≼ b
  by_writer : count_of a ≡ count_of b → writer_of a ≤ writer_of b → a ≼ b

pub ≼_refl : (a : Entry) → a ≼ a
≼_refl a = by_writer refl (le_refl _)

pub ≼_trans : {a b c : Entry} → a ≼ b → b ≼ c → a ≼ c
≼_trans (by_count h) (by_count k) = by_count (omega arith)
≼_trans (by_count h) (by_writer e k) = by_count (omega arith)
≼_trans (by_writer e h) (by_count k) = by_count (omega arith)
≼_trans (by_writer e h) (by_writer f k) = by_writer (omega arith) (omega arith)

-- a smaller stamp has no larger count
pub ≼_count : {a b : Entry} → a ≼ b → count_of a ≤ count_of b
≼_count (by_count h) = omega arith
≼_count (by_writer e h) = omega arith

below_≼ : (a b : Entry) → below a b ≡ true → a ≼ b
unfolding below
below_≼ a b e = go (or_cases _ _ e)
  where
    go : (ltb (count_of a) (count_of b) ≡ true) ⊎ ((eqb (count_of a) (count_of b) && ltb (writer_of a) (writer_of b)) ≡ true) → a ≼ b
    go (inl h) = by_count (ltb-true _ _ h)
    go (inr h) =
        let k : writer_of a < writer_of b = ltb-true _ _ (second_so (eqb (count_of a) (count_of b)) _ h) in
        by_writer (eqb-true _ _ (first_so _ _ h)) (omega arith)

not_below_≼ : (a b : Entry) → below a b ≡ false → b ≼ a
unfolding below
not_below_≼ a b e = go (ltb (count_of a) (count_of b)) (eqb (count_of a) (count_of b)) (ltb (writer_of a) (writer_of b)) refl refl refl e
  where
    go : (x y z : Bool) → ltb (count_of a) (count_of b) ≡ x → eqb (count_of a) (count_of b) ≡ y → ltb (writer_of a) (writer_of b) ≡ z → (x || (y && z)) ≡ false → b ≼ a
    go true y z p q r e = clash refl e
    go false true true p q r e = clash refl e
    go false true false p q r e = by_writer (sym (eqb-true _ _ q)) (ltb-false _ _ r)
    go false false z p q r e = by_count (strict (ltb-false _ _ p) (eqb-false _ _ q))
      where
        strict : count_of b ≤ count_of a → (count_of a ≡ count_of b → ⊥) → count_of b < count_of a
        strict h n = omega arith

-- the larger entry is an upper bound of the two, and one of them
pub larger_left : (a b : Entry) → a ≼ larger a b
unfolding larger
larger_left a b = go (below a b) refl
  where
    go : (t : Bool) → below a b ≡ t → a ≼ if t b a
    go true e = below_≼ a b e
    go false e = ≼_refl a

pub larger_right : (a b : Entry) → b ≼ larger a b
unfolding larger
larger_right a b = go (below a b) refl
  where
    go : (t : Bool) → below a b ≡ t → b ≼ if t b a
    go true e = ≼_refl b
    go false e = not_below_≼ a b e

pub larger_one : (a b : Entry) → (larger a b ≡ a) ⊎ (larger a b ≡ b)
unfolding larger
larger_one a b = go (below a b)
  where
    go : (t : Bool) → (if t b a ≡ a) ⊎ (if t b a ≡ b)
    go true = inr refl
    go false = inl refl

-- entries that agree in every field are one
pub same_is : (a b : Entry) → same a b ≡ true → a ≡ b
unfolding same
same_is a b e =
    let c : count_of a ≡ count_of b = eqb-true _ _ (first_so _ _ e) in
    let r = second_so (eqb (count_of a) (count_of b)) _ e in
    let w : writer_of a ≡ writer_of b = eqb-true _ _ (first_so _ _ r) in
    let v : a.value ≡ b.value = eqb-true _ _ (second_so (eqb (writer_of a) (writer_of b)) _ r) in
    λ i. record { stamp = record { count = record { 0 = c i }; writer = w i }; value = v i }

pub is_same : (a b : Entry) → a ≡ b → same a b ≡ true
unfolding same
is_same a b e =
    and_from _ _ (eq-eqb _ _ (ap count_of e)) (and_from _ _ (eq-eqb _ _ (ap writer_of e)) (eq-eqb _ _ (ap (λ (x : Entry). x.value) e)))

pub same_refl : (a : Entry) → same a a ≡ true
same_refl a = is_same a a refl

-- entries that all agree with the first: it is the largest of them
pub larger_same : (a b : Entry) → a ≡ b → larger a b ≡ b
larger_same a b e = go (larger_one a b)
  where
    go : (larger a b ≡ a) ⊎ (larger a b ≡ b) → larger a b ≡ b
    go (inl p) = p ∙ e
    go (inr p) = p

pub largest_same : (e : Entry) (es : List Entry) → all (same e) es ≡ true → largest e es ≡ e
unfolding largest all
largest_same e [] h = refl
largest_same e (x ∷ xs) h =
    ap (λ (y : Entry). largest y xs) (larger_same x e (sym (same_is _ _ (first_so _ _ h)))) ∙ largest_same e xs (second_so (same e x) _ h)

-- they all agree with the largest where they all agree with the first
pub all_one : (e : Entry) (es : List Entry) → all (same (largest e es)) (e ∷ es) ≡ all (same e) es
unfolding all
all_one e es = go (all (same e) es) refl
  where
    first : (same (largest e es) e && all (same (largest e es)) es) ≡ true → all (same e) es ≡ true
    first h = rw (same_is _ _ (first_so _ _ h)) at (second_so (same (largest e es) e) _ h)

    go : (b : Bool) → all (same e) es ≡ b → (same (largest e es) e && all (same (largest e es)) es) ≡ b
    go true p = let q = largest_same e es p in rw (q, is_same e e refl) p
    go false p = by_test (same (largest e es) e && all (same (largest e es)) es) (λ h. clash (first h) p) (λ h. h)

-- an entry of a list
pub data Listed (x : Entry) : List Entry → Type 0 where
  head : {y : Entry} {xs : List Entry} → y ≡ x → Listed x (y ∷ xs)
  tail : {y : Entry} {xs : List Entry} → Listed x xs → Listed x (y ∷ xs)

start_le : (e : Entry) (l : List Entry) → e ≼ largest e l
unfolding largest
start_le e [] = ≼_refl e
start_le e (x ∷ xs) = ≼_trans (larger_right x e) (start_le (larger x e) xs)

largest_le : {x : Entry} (e : Entry) {l : List Entry} → Listed x l → x ≼ largest e l
unfolding largest
largest_le e (head {y} {xs} q) = rw (← q) (≼_trans (larger_left y e) (start_le (larger y e) xs))
largest_le {x} e (tail {y} i) = largest_le {x = x} (larger y e) i

largest_one : (e : Entry) (l : List Entry) → (largest e l ≡ e) ⊎ Listed (largest e l) l
unfolding largest
largest_one e [] = inl refl
largest_one e (x ∷ xs) = go (larger_one x e) (largest_one (larger x e) xs)
  where
    go : (larger x e ≡ x) ⊎ (larger x e ≡ e) → (largest (larger x e) xs ≡ larger x e) ⊎ Listed (largest (larger x e) xs) xs
        → (largest (larger x e) xs ≡ e) ⊎ Listed (largest (larger x e) xs) (x ∷ xs)
    go d (inr i) = inr (tail i)
    go (inl p) (inl q) = inr (head (sym (q ∙ p)))
    go (inr p) (inl q) = inl (rw (q, p))

-- the chosen entry is an upper bound of those of the list, and one of them
pub chosen_le : {x : Entry} {l : List Entry} → Listed x l → x ≼ chosen l
chosen_le (head {y} {xs} q) = rw (← q) (start_le y xs)
chosen_le (tail {y} i) = largest_le y i

pub chosen_one : (e : Entry) (l : List Entry) → Listed (chosen (e ∷ l)) (e ∷ l)
chosen_one e l = go (largest_one e l)
  where
    go : (largest e l ≡ e) ⊎ Listed (largest e l) l → Listed (largest e l) (e ∷ l)
    go (inl p) = head (sym p)
    go (inr i) = tail i
