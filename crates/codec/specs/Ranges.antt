-- The numbers 1 to n as a range gives them, and what chains over them answer by the words of the rules: `all_up_to` of
-- `(1..=n).all(..)`; of `1..n + 1`, which is compiled to faster code, `all_below` and `count_below`. Used by the tests of an image. Assumes nothing.
use Rattle.std.specs.Prelude.{Option}
use Rattle.std.specs.declared.ops.Range.{Range}
use Rattle.std.specs.declared.ops.RangeInclusive.{RangeInclusive}
use Rattle.std.specs.Option.{MatchOption}
use Rattle.std.specs.Range.{range_inclusive_start, range_inclusive_end, range_inclusive_exhausted, range_inclusive_len}
use Rattle.std.specs.Fn.{Called, CalledAt}
use Rattle.std.specs.Iterator.{YieldsThen, AlwaysYields, Drains}
use Rattle.std.specs.Iterator.Adapters.{filter_source, filter_callee, filter_steps}
use Rattle.std.specs.List.{FoldsTo, range_with_len, list_all, count_by}
use mathlib.Core.Path.{◌≡◌, refl, sym, ap, subst, ◌∙◌}
use mathlib.Core.Bool.{Bool, true, false, ◌&&◌, cond}
use mathlib.Core.List.{List, [], ◌∷◌, ◌++◌}
use Prim.Native.Nat.{ℕ, zero, suc, ◌+◌, ◌-◌}
use native.Mathlib.Omega.{arith}
use lib.ListN.{length}
use denote.Param.Members.{Mut}
use denote.Ref.{Bor}
use Rattle.std.proofs.iter.Yields.{listed, nat_range_steps}
use Rattle.std.proofs.iter.runs.Sources.{nat_range_inclusive_steps}
use Rattle.std.proofs.lemmas.Grind.{fold-append}
use Rattle.std.proofs.lemmas.Iterator.{YieldsList, YieldsList-from_range}
use Rattle.std.proofs.lemmas.Iterator.Search.{all_from_yields_List}
use Rattle.std.proofs.lemmas.Iterator.Consumers.{YieldsList-from_filter, count_from_yields_List}
use Rattle.std.proofs.lemmas.List.Folds.{list_all-append}
use Rattle.std.proofs.lemmas.List.Sums.{length-filter}
use Rattle.std.proofs.Math.Bool.{and-true}
use Rattle.protocol.specs.Tools.{bit, all_to, count_to}

-- ---- the list of them

last : (n a : ℕ) → range_with_len a (suc n) ≡ range_with_len a n ++ (a + n) ∷ []
last zero a = let e : a ≡ a + 0 = omega arith in ap (λ (x : ℕ). x ∷ []) e
last (suc n) a =
    let e : a + 1 + n ≡ a + suc n = omega arith in
    ap (λ (l : List ℕ). a ∷ l) (last n (a + 1) ∙ ap (λ (x : ℕ). range_with_len (a + 1) n ++ x ∷ []) e)

up_to : (n : ℕ) → range_with_len 1 (suc n) ≡ range_with_len 1 n ++ suc n ∷ []
up_to n = let e : 1 + n ≡ suc n = omega arith in last n 1 ∙ ap (λ (x : ℕ). range_with_len 1 n ++ x ∷ []) e

counted : (m : ℕ) (b : Bool) → m + cond b 1 0 ≡ m + bit b
counted m true = refl
counted m false = refl

module _ (p : ℕ → Bool) where
  pub all_range : (n : ℕ) → list_all p (range_with_len 1 n) ≡ all_to p n
  unfolding all_to
  all_range zero = refl
  all_range (suc n) =
      ap (list_all p) (up_to n) ∙ list_all-append p (range_with_len 1 n) (suc n ∷ [])
      ∙ ap (λ (b : Bool). b && (p (suc n) && true)) (all_range n)
      ∙ ap (λ (b : Bool). all_to p n && b) (and-true (p (suc n)))

  count_range : (n : ℕ) → count_by p (range_with_len 1 n) ≡ count_to p n
  unfolding count_to
  count_range zero = refl
  count_range (suc n) =
      ap (count_by p) (up_to n) ∙ fold-append (λ a x. a + cond (p x) 1 0) 0 (range_with_len 1 n) (suc n ∷ [])
      ∙ ap (λ (m : ℕ). m + cond (p (suc n)) 1 0) (count_range n)
      ∙ counted (count_to p n) (p (suc n))

-- ---- the range

left : RangeInclusive ℕ → ℕ
left s = range_inclusive_len (λ x y. y - x) (range_inclusive_start s) (range_inclusive_end s) (range_inclusive_exhausted s)

shown : RangeInclusive ℕ → List ℕ
shown s = range_with_len (range_inclusive_start s) (left s)

next : (x : ℕ) (s t : RangeInclusive ℕ) → x ≡ range_inclusive_start s → left t + 1 ≡ left s → (range_inclusive_exhausted t ≡ false → range_inclusive_start t ≡ range_inclusive_start s + 1)
    → shown s ≡ x ∷ shown t
unfolding shown left
next x s t a b f =
    ap (range_with_len (range_inclusive_start s)) (let e : left s ≡ suc (left t) = omega arith in e)
    ∙ ap (λ (y : ℕ). y ∷ range_with_len (range_inclusive_start s + 1) (left t)) (sym a)
    ∙ ap (λ (l : List ℕ). x ∷ l) (same (range_inclusive_exhausted t) refl)
  where
    same : (b : Bool) → range_inclusive_exhausted t ≡ b → range_with_len (range_inclusive_start s + 1) (left t) ≡ shown t
    same true e = let z : left t ≡ 0 = ap (range_inclusive_len (λ x y. y - x) (range_inclusive_start t) (range_inclusive_end t)) e in rw z
    same false e = ap (λ (k : ℕ). range_with_len k (left t)) (sym (f e))

gives : (s : RangeInclusive ℕ) → AlwaysYields nat_range_inclusive_steps (λ x. x) s (shown s)
unfolding shown left
gives =
    listed nat_range_inclusive_steps (λ x. x) shown
    (λ s t p. ap (λ (k : ℕ). length (range_with_len (range_inclusive_start s) k)) p.1.0)
    (λ s x t p. next x s t p.1.0 p.1.1 p.1.2)

-- `1..=n`
pub record UpTo (s : RangeInclusive ℕ) (n : ℕ) : Type 0 where
  pub start : range_inclusive_start s ≡ 1
  pub end : range_inclusive_end s ≡ n
  pub exhausted : range_inclusive_exhausted s ≡ false

yields : {s : RangeInclusive ℕ} (n : ℕ) → UpTo s n → YieldsList nat_range_inclusive_steps (λ x. x) s (range_with_len 1 n)
unfolding shown left
yields {s} n u =
    let k : left s ≡ n = ap (range_inclusive_len (λ x y. y - x) (range_inclusive_start s) (range_inclusive_end s)) u.exhausted ∙ (let a = u.start in let b = u.end in omega arith) in
    let e = ap (range_with_len (range_inclusive_start s)) k ∙ ap (λ (j : ℕ). range_with_len j n) u.start in
    record { runs = subst (λ (l : List ℕ). AlwaysYields nat_range_inclusive_steps (λ x. x) s l) e (gives s) }

-- ---- the chains

pub all_up_to : {F : Type 0} {g : Mut F (ℕ × Unit {0}) Bool} {s : RangeInclusive ℕ} (p : ℕ → Bool) (n : ℕ) (u : RangeInclusive ℕ) (f : F) (r : Bool)
    → UpTo s n
    → ((xs : List ℕ) × (o : Option ℕ) × (j : F) × YieldsThen nat_range_inclusive_steps s xs o u × FoldsTo (λ p x q. Called g p (x, tt) true q) f xs j
    × MatchOption o (r ≡ true) (λ x. (r ≡ false) × ((h : F) × Called g j (x, tt) false h)))
    → ((x : ℕ) (b : Bool) (q : F) → Called g f (x, tt) b q → (q ≡ f) × (b ≡ p x))
    → r ≡ all_to p n
all_up_to p n u f r s ran h = all_from_yields_List p u f r ran (yields n s) h ∙ all_range p n

-- ---- the same over `1..n + 1`, which is compiled to a plainer loop: `1..=n` asks in each turn whether its last number has come

pub all_below : {F : Type 0} {g : Mut F (ℕ × Unit {0}) Bool} (p : ℕ → Bool) (n : ℕ) (u : Range ℕ) (f : F) (r : Bool)
    → ((xs : List ℕ) × (o : Option ℕ) × (j : F) × YieldsThen nat_range_steps (record { start = 1; end = n + 1 }) xs o u × FoldsTo (λ p x q. Called g p (x, tt) true q) f xs j
    × MatchOption o (r ≡ true) (λ x. (r ≡ false) × ((h : F) × Called g j (x, tt) false h)))
    → ((x : ℕ) (b : Bool) (q : F) → Called g f (x, tt) b q → (q ≡ f) × (b ≡ p x))
    → r ≡ all_to p n
all_below p n u f r ran h = all_from_yields_List p u f r ran (YieldsList-from_range 1 (n + 1) n refl (omega arith)) h ∙ all_range p n

pub count_below : {F : Type 0} {g : Mut F (Bor ℕ × Unit {0}) Bool} (p : ℕ → Bool) (n : ℕ) (s : _) (f : F) (r : ℕ)
    → ◌≡◌ {A = Range ℕ} (filter_source s) (record { start = 1; end = n + 1 }) → filter_callee s ≡ f
    → ((xs : List ℕ) × Drains (filter_steps nat_range_steps g) s xs × (r ≡ length xs))
    → ((x : ℕ) (b : Bool) (q : F) → CalledAt g f x b q → (q ≡ f) × (b ≡ p x))
    → r ≡ count_to p n
count_below {g = g} p n s f r e c ran h =
    count_from_yields_List s r ran (YieldsList-from_filter g p (YieldsList-from_range 1 (n + 1) n e (omega arith)) c h) ∙ length-filter p (range_with_len 1 n) ∙ count_range p n
