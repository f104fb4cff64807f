-- Insertion sort by a strict order: same members, sorted. Assumes nothing.
use Rattle.std.specs.Prelude.{Bool, ◌≡◌, ◌⊎◌}
use Rattle.std.proofs.Math.Bool.{true, false}
use Rattle.std.proofs.Math.Path.{refl, ap}
use Rattle.std.proofs.Common.{sym, ◌∙◌, inl, inr}
use mathlib.Core.List.{List, [], ◌∷◌}
use Rattle.protocol.specs.Tools.{if}
use Rattle.protocol.specs.Consistent.{In, here, there}
use Rattle.protocol.proofs.Laws.Tests.{clash}
use Rattle.protocol.proofs.Laws.Lists.{no_member}
use Rattle.agreement.specs.Lists.{Rising, empty, next}

-- the members of a list that pass a test
unfoldable pub filter : {A : Type 0} → (A → Bool) → List A → List A
filter p [] = []
filter p (x ∷ l) = if (p x) (x ∷ filter p l) (filter p l)

module _ {A : Type 0} (p : A → Bool) where
  pub in_filter : (l : List A) {x : A} → In x (filter p l) → In x l × (p x ≡ true)
  unfolding filter
  in_filter [] i = no_member i
  in_filter (y ∷ l) {x} i = go (p y) refl i (λ j. in_filter l j)
    where
      go : (b : Bool) → p y ≡ b → In x (if b (y ∷ filter p l) (filter p l)) → (In x (filter p l) → In x l × (p x ≡ true)) → In x (y ∷ l) × (p x ≡ true)
      go true e (here q) ih = (here q, ap p (sym q) ∙ e)
      go true e (there j) ih = let r = ih j in (there r.0, r.1)
      go false e j ih = let r = ih j in (there r.0, r.1)

  pub filter_in : (l : List A) {x : A} → In x l → p x ≡ true → In x (filter p l)
  unfolding filter
  filter_in [] {x = x} i h = elim i [ ]
  filter_in (y ∷ l) {x} i h = go (p y) refl i (λ j. filter_in l j h)
    where
      go : (b : Bool) → p y ≡ b → In x (y ∷ l) → (In x l → In x (filter p l)) → In x (if b (y ∷ filter p l) (filter p l))
      go true e (here q) ih = here q
      go true e (there j) ih = there (ih j)
      go false e (here q) ih = clash h (ap p (sym q) ∙ e)
      go false e (there j) ih = ih j

  pub filter_rising : {R : A → A → Type 0} (l : List A) → Rising R l → Rising R (filter p l)
  unfolding filter
  filter_rising [] s = empty
  filter_rising {R} (x ∷ l) (next h s) = go (p x) (filter_rising l s)
    where
      go : (b : Bool) → Rising R (filter p l) → Rising R (if b (x ∷ filter p l) (filter p l))
      go true ih = next (λ y i. h y (in_filter l i).0) ih
      go false ih = ih

-- `cmp x y` tells that x comes before y, or that y comes before x unless the two are level
module _ {A : Type 0} (R Apart : A → A → Type 0) (cmp : (x y : A) → R x y ⊎ (Apart x y → R y x)) where
  place : (x y : A) → R x y ⊎ (Apart x y → R y x) → List A → List A → List A
  place x y (inl h) ys zs = x ∷ y ∷ ys
  place x y (inr h) ys zs = y ∷ zs

  insert : A → List A → List A
  insert x [] = x ∷ []
  insert x (y ∷ ys) = place x y (cmp x y) ys (insert x ys)

  unfoldable pub sort : List A → List A
  unfolding insert place
  sort [] = []
  sort (x ∷ xs) = insert x (sort xs)

  in_insert : (x : A) (l : List A) {z : A} → In z (insert x l) → In z (x ∷ l)
  unfolding insert place
  in_insert x [] i = i
  in_insert x (y ∷ ys) {z} i = go (cmp x y) i (λ k. in_insert x ys k)
    where
      skip : In z (x ∷ ys) → In z (x ∷ y ∷ ys)
      skip (here e) = here e
      skip (there i) = there (there i)

      go : (d : R x y ⊎ (Apart x y → R y x)) → In z (place x y d ys (insert x ys)) → (In z (insert x ys) → In z (x ∷ ys)) → In z (x ∷ y ∷ ys)
      go (inl h) i ih = i
      go (inr h) (here e) ih = there (here e)
      go (inr h) (there i) ih = skip (ih i)

  insert_in : (x : A) (l : List A) {z : A} → In z (x ∷ l) → In z (insert x l)
  unfolding insert place
  insert_in x [] i = i
  insert_in x (y ∷ ys) {z} i = go (cmp x y) i (λ k. insert_in x ys k)
    where
      far : In z (y ∷ ys) → (In z ys → In z (insert x ys)) → In z (y ∷ insert x ys)
      far (here e) f = here e
      far (there i) f = there (f i)

      go : (d : R x y ⊎ (Apart x y → R y x)) → In z (x ∷ y ∷ ys) → (In z (x ∷ ys) → In z (insert x ys)) → In z (place x y d ys (insert x ys))
      go (inl h) i ih = i
      go (inr h) (here e) ih = there (ih (here e))
      go (inr h) (there i) ih = far i (λ k. ih (there k))

  -- the same members
  pub in_sort : (l : List A) {z : A} → In z (sort l) → In z l
  unfolding sort
  in_sort [] i = i
  in_sort (x ∷ xs) {z} i = go (in_insert x (sort xs) i) (λ k. in_sort xs k)
    where
      go : In z (x ∷ sort xs) → (In z (sort xs) → In z xs) → In z (x ∷ xs)
      go (here e) f = here e
      go (there i) f = there (f i)

  pub sort_in : (l : List A) {z : A} → In z l → In z (sort l)
  unfolding sort
  sort_in [] {z = z} x' = elim x' [ ]
  sort_in (x ∷ xs) {z} (here e) = insert_in x (sort xs) (here e)
  sort_in (x ∷ xs) {z} (there i) = insert_in x (sort xs) (there (sort_in xs i))

  module _ (tr : (x y z : A) → R x y → R y z → R x z) where
    insert_sorted : (x : A) (l : List A) → ((y : A) → In y l → Apart x y) → Rising R l → Rising R (insert x l)
    unfolding insert place
    insert_sorted x [] a s = next (λ y i. no_member i) empty
    insert_sorted x (y ∷ ys) a (next h s) = go (cmp x y) (insert_sorted x ys (λ z i. a z (there i)) s)
      where
        go : (d : R x y ⊎ (Apart x y → R y x)) → Rising R (insert x ys) → Rising R (place x y d ys (insert x ys))
        go (inl r) ih = next first (next h s)
          where
            first : (z : A) → In z (y ∷ ys) → R x z
            first z (here e) = rw e at r
            first z (there i) = tr x y z r (h z i)
        go (inr r) ih = next (λ z i. far z (in_insert x ys i)) ih
          where
            far : (z : A) → In z (x ∷ ys) → R y z
            far z (here e) = rw e at (r (a y (here refl)))
            far z (there i) = h z i

    -- sorted, where no two are level
    pub sort_sorted : (l : List A) → Rising Apart l → Rising R (sort l)
    unfolding sort
    sort_sorted [] s = empty
    sort_sorted (x ∷ xs) (next a s) = insert_sorted x (sort xs) (λ y i. a y (in_sort xs i)) (sort_sorted xs s)
