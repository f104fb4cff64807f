-- Members of lists, and lists in which each element stands in a relation to all that follow. Assumes nothing.
use Rattle.std.specs.Prelude.{◌≡◌, refl, ◌⊎◌, List, [], ◌∷◌, ◌++◌, map}
use Rattle.std.proofs.Common.{sym, ◌∙◌, inl, inr}
use Rattle.protocol.specs.Consistent.{In, here, there}
use Rattle.protocol.proofs.Laws.Lists.{Image, in_map}
use Rattle.agreement.specs.Lists.{Rising, empty, next}

module _ {A : Type 0} where
  pub in_append : (a b : List A) {x : A} → In x (a ++ b) → In x a ⊎ In x b
  in_append [] b i = inr i
  in_append (y ∷ a) b (here e) = inl (here e)
  in_append (y ∷ a) b (there i) = go (in_append a b i)
    where
      go : {x : A} → In x a ⊎ In x b → In x (y ∷ a) ⊎ In x b
      go (inl j) = inl (there j)
      go (inr j) = inr j

  pub in_left : (a b : List A) {x : A} → In x a → In x (a ++ b)
  in_left [] b x3 = elim x3 [ ]
  in_left (y ∷ a) b (here e) = here e
  in_left (y ∷ a) b (there i) = there (in_left a b i)

  pub in_right : (a b : List A) {x : A} → In x b → In x (a ++ b)
  in_right [] b i = i
  in_right (y ∷ a) b i = there (in_right a b i)

module _ {A : Type 0} where
  pub rising_append : {R : A → A → Type 0} (a b : List A) → Rising R a → Rising R b → ((x y : A) → In x a → In y b → R x y) → Rising R (a ++ b)
  rising_append [] b s t f = t
  rising_append {R} (x ∷ a) b (next h s) t f = next (λ y i. go y (in_append a b i)) (rising_append a b s t (λ z y i j. f z y (there i) j))
    where
      go : (y : A) → In y a ⊎ In y b → R x y
      go y (inl i) = h y i
      go y (inr i) = f x y (here refl) i

  -- of two members one stands in R to the other, or they are one
  pub data Related (R : A → A → Type 0) (x y : A) : Type 0 where
    before : R x y → Related R x y
    after : R y x → Related R x y
    equal : x ≡ y → Related R x y

  pub related : {R : A → A → Type 0} {l : List A} {x y : A} → Rising R l → In x l → In y l → Related R x y
  related {R = R} {y = y} empty x8 _ = elim x8 [ ]
  related (next h s) (here e) (here f) = equal (sym e ∙ f)
  related (next h s) (here e) (there j) = before (rw e at (h _ j))
  related (next h s) (there i) (here f) = after (rw f at (h _ i))
  related (next h s) (there i) (there j) = related s i j

pub rising_map : {A B : Type 0} {R : A → A → Type 0} {S : B → B → Type 0} (f : A → B) (l : List A) → ((x y : A) → In x l → In y l → R x y → S (f x) (f y)) → Rising R l → Rising S (map f l)
rising_map f [] g empty = empty
rising_map {A} {B} {R} {S} f (x ∷ l) g (next h s) = next (λ y i. go (in_map f l i)) (rising_map f l (λ a b i j. g a b (there i) (there j)) s)
  where
    go : {y : B} → Image f l y → S (f x) y
    go r = rw (← r.is) (g x r.of (here refl) (there r.member) (h r.of r.member))
