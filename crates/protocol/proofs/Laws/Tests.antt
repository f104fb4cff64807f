-- Tests that keep what they tell. Assumes nothing.
use Rattle.std.specs.Prelude.{ℕ, zero, suc, ◌≤◌, ◌<◌, Bool, true, false, not, ◌||◌, ◌≡◌, refl, ◌⊎◌, List, [], ◌∷◌, leb, ◌+◌}
use Rattle.std.proofs.Common.{eq-or-lt_of_le, le_refl, arith, true≢false, sym, ap, ◌∙◌, inl, inr, leb-true, le-leb}
use Rattle.std.specs.Cmp.{first_so, second_so}
use Rattle.std.proofs.lemmas.Bool.{and_from, or_cases, or_left, or_right, false_from_ne_true}
use Rattle.std.proofs.Math.Numerals.{add-one}
use Rattle.protocol.specs.Tools.{within, all_to, some_to, any, Result, refused, done, then}

-- a test that passed and failed (the kit has it, and `by_test` below, in proofs of its own that std does not hand on)
pub clash : {A : Type 0} {b : Bool} → b ≡ true → b ≡ false → A
clash p q = absurd (true≢false (sym p ∙ q))

-- what a test of the code tells of the one defined: b is its answer. No proof cites these four; they stand for who reads the laws.
pub passed_test : (b c : Bool) → b ≡ c → not b ≡ false → c ≡ true
passed_test true c p q = sym p
passed_test false c p q = absurd (true≢false q)

pub failed_test : (b c : Bool) → b ≡ c → not b ≡ true → c ≡ false
failed_test true c p q = absurd (true≢false (sym q))
failed_test false c p q = sym p

pub is_true : (b c : Bool) → b ≡ c → b ≡ true → c ≡ true
is_true b c p q = sym p ∙ q

pub is_false : (b c : Bool) → b ≡ c → b ≡ false → c ≡ false
is_false b c p q = sym p ∙ q

-- what a passed test asks of a condition that holds, and that it asks that alone
pub implies : (a b : Bool) → (not a || b) ≡ true → a ≡ true → b ≡ true
implies true b e h = e
implies false b e h = clash h refl

pub implied : (a b : Bool) → (a ≡ true → b ≡ true) → (not a || b) ≡ true
implied true b f = f refl
implied false b f = refl

-- by cases on a test, with what it tells
pub by_test : {P : Type 0} (b : Bool) → (b ≡ true → P) → (b ≡ false → P) → P
by_test true f g = f refl
by_test false f g = g refl

-- the last of n + 1, or one before
pub last_or : (i n : ℕ) → i ≤ suc n → (i ≡ suc n) ⊎ (i ≤ n)
last_or i n h = go (eq-or-lt_of_le h)
  where
    go : (i ≡ suc n) ⊎ (i < suc n) → (i ≡ suc n) ⊎ (i ≤ n)
    go (inl e) = inl e
    go (inr l) = inr (omega arith)

pub within_true : (low high n : ℕ) → within low high n ≡ true → (low ≤ n) × (n ≤ high)
within_true low high n e = (leb-true _ _ (first_so _ _ e), leb-true _ _ (second_so (leb low n) _ e))

pub is_within : (low high n : ℕ) → low ≤ n → n ≤ high → within low high n ≡ true
is_within low high n l h = and_from _ _ (le-leb _ _ l) (le-leb _ _ h)

pub all_to_at : (p : ℕ → Bool) (n i : ℕ) → all_to p n ≡ true → 1 ≤ i → i ≤ n → p i ≡ true
unfolding all_to
all_to_at p zero i e l h = absurd (omega arith)
all_to_at p (suc n) i e l h = go (last_or i n h) (all_to_at p n i (first_so (all_to p n) _ e) l)
  where
    go : (i ≡ suc n) ⊎ (i ≤ n) → (i ≤ n → p i ≡ true) → p i ≡ true
    go (inl q) ih = rw q (second_so (all_to p n) _ e)
    go (inr q) ih = ih q

pub all_to_lem : (p : ℕ → Bool) (n : ℕ) → ((i : ℕ) → 1 ≤ i → i ≤ n → p i ≡ true) → all_to p n ≡ true
unfolding all_to
all_to_lem p zero f = refl
all_to_lem p (suc n) f = and_from _ _ (all_to_lem p n (λ i l h. f i l (omega arith))) (f (suc n) (omega arith) (le_refl _))

pub all_start : (p : ℕ → Bool) → all_to p 0 ≡ true
unfolding all_to
all_start p = refl

pub all_more : (p : ℕ → Bool) (n : ℕ) → all_to p n ≡ true → p (n + 1) ≡ true → all_to p (n + 1) ≡ true
unfolding all_to
all_more p n a b = rw add-one (and_from _ _ a (rw add-one at b))

pub all_fails : (p : ℕ → Bool) (n k : ℕ) → 1 ≤ k → k ≤ n → p k ≡ false → all_to p n ≡ false
all_fails p n k l m e = false_from_ne_true _ (λ a. clash (all_to_at p n k a l m) e)

-- some number passes
pub record Passing (p : ℕ → Bool) (n : ℕ) : Type 0 where
  pub at : ℕ
  pub low : 1 ≤ at
  pub high : at ≤ n
  pub test : p at ≡ true

pub some_passing : (p : ℕ → Bool) (n : ℕ) → some_to p n ≡ true → Passing p n
unfolding some_to
some_passing p zero e = clash e refl
some_passing p (suc n) e = go (or_cases (some_to p n) (p (suc n)) e) (some_passing p n)
  where
    go : (some_to p n ≡ true) ⊎ (p (suc n) ≡ true) → (some_to p n ≡ true → Passing p n) → Passing p (suc n)
    go (inl t) ih = let s = ih t in record { at = s.at; low = s.low; high = omega (arith, s.high); test = s.test }
    go (inr t) ih = record { at = suc n; low = omega arith; high = omega arith; test = t }

pub passing_some : (p : ℕ → Bool) (n i : ℕ) → 1 ≤ i → i ≤ n → p i ≡ true → some_to p n ≡ true
unfolding some_to
passing_some p zero i l h e = absurd (omega arith)
passing_some p (suc n) i l h e = go (last_or i n h) (λ m. passing_some p n i l m e)
  where
    go : (i ≡ suc n) ⊎ (i ≤ n) → (i ≤ n → some_to p n ≡ true) → (some_to p n || p (suc n)) ≡ true
    go (inl q) ih = or_right (some_to p n) _ (ap p (sym q) ∙ e)
    go (inr q) ih = or_left (some_to p n) _ (ih q)

-- a member of a list of numbers that passes a test; stands for who reads the laws
pub data Has (P : ℕ → Type 0) : List ℕ → Type 0 where
  first : {k : ℕ} {ks : List ℕ} → P k → Has P (k ∷ ks)
  after : {k : ℕ} {ks : List ℕ} → Has P ks → Has P (k ∷ ks)

pub data Each (P : ℕ → Type 0) : List ℕ → Type 0 where
  none : Each P []
  both : {k : ℕ} {ks : List ℕ} → P k → Each P ks → Each P (k ∷ ks)

pub record Found (P : ℕ → Type 0) (p : ℕ → Bool) : Type 0 where
  pub at : ℕ
  pub has : P at
  pub test : p at ≡ true

-- what holds of each member holds of one that passes
pub any_found : {P : ℕ → Type 0} (p : ℕ → Bool) {ks : List ℕ} → Each P ks → any p ks ≡ true → Found P p
unfolding any
any_found {P} p none e = clash e refl
any_found {P} p (both {k} {ks} h hs) e = go (or_cases (p k) (any p ks) e) (any_found p hs)
  where
    go : (p k ≡ true) ⊎ (any p ks ≡ true) → (any p ks ≡ true → Found P p) → Found P p
    go (inl t) ih = record { at = k; has = h; test = t }
    go (inr t) ih = ih t

-- a result that goes on was no refusal
pub record Went {A B : Type 0} (x : Result A) (f : A → Result B) (v : B) : Type 0 where
  pub value : A
  pub is : x ≡ done value
  pub on : f value ≡ done v

pub went : {A B : Type 0} (x : Result A) (f : A → Result B) (v : B) → then x f ≡ done v → Went x f v
went (refused n) f v e = record { value = absurd (zero_one n v e); is = absurd (zero_one n v e); on = absurd (zero_one n v e) }
  where
    zero_one : {A : Type 0} (n : ℕ) (v : A) → ◌≡◌ {A = Result A} (refused n) (done v) → ⊥
    zero_one n v e = let z : ◌≡◌ {A = ℕ} 0 1 = cc in omega arith
went (done a) f v e = record { value = a; is = refl; on = e }
