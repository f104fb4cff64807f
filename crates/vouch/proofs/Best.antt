-- The best of the entries that qualify is one of them, and none of them outranks it: `best_some`; where there is no best, none
-- qualifies: `best_none`. Used by Theorem.
use Rattle.std.specs.Prelude.{ℕ, zero, suc, ◌≤◌, ◌<◌, Bool, true, false, ◌≡◌, refl, ◌⊎◌, List, ltb, eqb, Option, None, Some}
use Rattle.std.proofs.Math.Decide.{dec_lt}
use Rattle.std.proofs.Common.{arith, sym, subst, ◌∙◌, inl, inr, lt-ltb, le-ltb, eq-eqb, ne_eqb}
use Rattle.std.proofs.lemmas.Bool.{cases_Bool}
use Rattle.std.proofs.lemmas.Option.{same_Some}
use Rattle.protocol.specs.declared.Entry.{Entry}
use Rattle.protocol.specs.Tools.{if}
use Rattle.protocol.specs.Entries.{count_of, writer_of, below}
use Rattle.protocol.proofs.Laws.Tests.{last_or, clash}
use Rattle.vouch.specs.Answers.{entry_shown}
use Rattle.vouch.specs.Choices.{outranks, better, best_to}

-- what it means that e outranks d, and that it does not
data Above (e d : Entry) : Type 0 where
  count : count_of d < count_of e → Above e d
  writer : count_of d ≡ count_of e → writer_of d < writer_of e → Above e d
  value : count_of d ≡ count_of e → writer_of d ≡ writer_of e → e.value < d.value → Above e d

pub data NotAbove (e d : Entry) : Type 0 where
  count : count_of e < count_of d → NotAbove e d
  writer : count_of d ≡ count_of e → writer_of e < writer_of d → NotAbove e d
  value : count_of d ≡ count_of e → writer_of d ≡ writer_of e → d.value ≤ e.value → NotAbove e d

abbrev Ranked : Entry → Entry → Type 0
Ranked e d = ((outranks e d ≡ true) × Above e d) ⊎ ((outranks e d ≡ false) × NotAbove e d)

ranked : (e d : Entry) → Ranked e d
unfolding outranks below
ranked e d = by_counts (dec_lt (count_of d) (count_of e)) (dec_lt (count_of e) (count_of d))
  where
    level : count_of d ≡ count_of e → Dec (writer_of d < writer_of e) → Dec (writer_of e < writer_of d) → Dec (e.value < d.value)
        → ltb (count_of d) (count_of e) ≡ false → ltb (count_of e) (count_of d) ≡ false → eqb (count_of d) (count_of e) ≡ true
        → eqb (count_of e) (count_of d) ≡ true → Ranked e d
    level c (yes x) y v p q r s = inl (simp (p, r, lt-ltb _ _ x), writer c x)
    level c (no x) (yes y) v p q r s = inr (simp (p, q, r, s, le-ltb (writer_of d) (writer_of e) (omega arith), lt-ltb _ _ y), writer c y)
    level c (no x) (no y) v p q r s =
        by_value v (simp (p, q, r, s, le-ltb (writer_of d) (writer_of e) (omega arith), le-ltb (writer_of e) (writer_of d) (omega arith)))
      where
        by_value : Dec (e.value < d.value) → outranks e d ≡ ltb e.value d.value → Ranked e d
        by_value (yes v) o = inl (o ∙ lt-ltb _ _ v, value c (omega arith) v)
        by_value (no v) o = inr (o ∙ le-ltb e.value d.value (omega arith), value c (omega arith) (omega arith))

    by_counts : Dec (count_of d < count_of e) → Dec (count_of e < count_of d) → Ranked e d
    by_counts (yes h) k = inl (simp (lt-ltb _ _ h), count h)
    by_counts (no h) (yes k) =
        inr (simp (le-ltb (count_of d) (count_of e) (omega arith), ne_eqb (count_of d) (count_of e) (λ q. omega arith), lt-ltb _ _ k), count k)
    by_counts (no h) (no k) =
        let c : count_of d ≡ count_of e = omega arith in
        level c (dec_lt (writer_of d) (writer_of e)) (dec_lt (writer_of e) (writer_of d)) (dec_lt e.value d.value)
        (le-ltb (count_of d) (count_of e) (omega arith)) (le-ltb (count_of e) (count_of d) (omega arith)) (eq-eqb _ _ c) (eq-eqb _ _ (sym c))

above : {e d : Entry} → outranks e d ≡ true → Above e d
above {e} {d} t = go (ranked e d)
  where
    go : Ranked e d → Above e d
    go (inl (p, a)) = a
    go (inr (p, a)) = clash t p

pub not_above : {e d : Entry} → outranks e d ≡ false → NotAbove e d
not_above {e} {d} t = go (ranked e d)
  where
    go : Ranked e d → NotAbove e d
    go (inl (p, a)) = clash p t
    go (inr (p, a)) = a

never : {e d : Entry} → Above e d → NotAbove e d → ⊥
never (count h) (count k) = omega arith
never (count h) (writer c k) = omega arith
never (count h) (value c w k) = omega arith
never (writer c h) (count k) = omega arith
never (writer c h) (writer d k) = omega arith
never (writer c h) (value d w k) = omega arith
never (value c w h) (count k) = omega arith
never (value c w h) (writer d k) = omega arith
never (value c w h) (value d x k) = omega arith

from_not_above : {e d : Entry} → NotAbove e d → outranks e d ≡ false
from_not_above {e} {d} n = go (cases_Bool (outranks e d))
  where
    go : (outranks e d ≡ true) ⊎ (outranks e d ≡ false) → outranks e d ≡ false
    go (inl t) = absurd (never (above t) n)
    go (inr t) = t

-- an entry that does not outrank d outranks nothing that does
step : {a d e : Entry} → NotAbove a d → Above e d → NotAbove a e
step (count h) (count k) = count (omega arith)
step (count h) (writer c k) = count (omega arith)
step (count h) (value c w k) = count (omega arith)
step (writer c h) (count k) = count (omega arith)
step (writer c h) (writer d k) = writer (omega arith) (omega arith)
step (writer c h) (value d w k) = writer (omega arith) (omega arith)
step (value c w h) (count k) = count (omega arith)
step (value c w h) (writer d k) = writer (omega arith) (omega arith)
step (value c w h) (value d x k) = value (omega arith) (omega arith) (omega arith)

-- no entry outranks itself
pub outranks_self : (e : Entry) → outranks e e ≡ false
outranks_self e = from_not_above (value refl refl (omega arith))

-- two entries of which neither outranks the other are one
pub level_one : (e d : Entry) → outranks e d ≡ false → outranks d e ≡ false → e ≡ d
level_one e d p q = go (not_above p) (not_above q)
  where
    go : NotAbove e d → NotAbove d e → e ≡ d
    go (count h) (count k) = absurd (omega arith)
    go (count h) (writer c k) = absurd (omega arith)
    go (count h) (value c w k) = absurd (omega arith)
    go (writer c h) (count k) = absurd (omega arith)
    go (writer c h) (writer f k) = absurd (omega arith)
    go (writer c h) (value f w k) = absurd (omega arith)
    go (value c w h) (count k) = absurd (omega arith)
    go (value c w h) (writer f k) = absurd (omega arith)
    go (value c w h) (value f x k) =
        let v : e.value ≡ d.value = omega arith in
        λ i. record { stamp = record { count = record { 0 = sym c i }; writer = sym w i }; value = v i }

-- a larger stamp outranks
pub below_outranks : (e d : Entry) → below d e ≡ true → outranks e d ≡ true
unfolding outranks
below_outranks e d t = rw t refl

-- e is the entry of an answer up to m that qualifies, and none of those outranks it
pub record Best (q : Entry → Bool) (l : List ℕ) (m : ℕ) (e : Entry) : Type 0 where
  pub at : ℕ
  pub low : 1 ≤ at
  pub high : at ≤ m
  pub is : entry_shown l at ≡ e
  pub qualifies : q e ≡ true
  pub top : (k : ℕ) → 1 ≤ k → k ≤ m → q (entry_shown l k) ≡ true → outranks (entry_shown l k) e ≡ false

-- of the first m + 1, the last or one before
each : {P : ℕ → Type 0} (m : ℕ) → P (suc m) → ((k : ℕ) → 1 ≤ k → k ≤ m → P k) → (k : ℕ) → 1 ≤ k → k ≤ suc m → P k
each {P} m a f k l h = go (last_or k m h)
  where
    go : (k ≡ suc m) ⊎ (k ≤ m) → P k
    go (inl e) = subst P (sym e) a
    go (inr i) = f k l i

pub best_none : (q : Entry → Bool) (l : List ℕ) (m : ℕ) → best_to q l m ≡ None → (k : ℕ) → 1 ≤ k → k ≤ m → q (entry_shown l k) ≡ false
unfolding best_to
best_none q l zero p = λ k i h. absurd (omega arith)
best_none q l (suc m) p = go (q (entry_shown l (suc m))) (best_to q l m) refl refl p (best_none q l m)
  where
    go : (t : Bool) (r : Option Entry) → q (entry_shown l (suc m)) ≡ t → best_to q l m ≡ r → if t (better r (entry_shown l (suc m))) r ≡ None
        → (best_to q l m ≡ None → (k : ℕ) → 1 ≤ k → k ≤ m → q (entry_shown l k) ≡ false) → (k : ℕ) → 1 ≤ k → k ≤ suc m → q (entry_shown l k) ≡ false
    go false r a b p ih = each {P = λ k. q (entry_shown l k) ≡ false} m a (ih (b ∙ p))
    go true None a b p ih = absurd (let z : ◌≡◌ {A = ℕ} 0 1 = cc in omega arith)
    go true (Some d) a b p ih = absurd (let z : ◌≡◌ {A = ℕ} 0 1 = cc in omega arith)

module _ (q : Entry → Bool) (l : List ℕ) where
  -- an answer more that is no better
  kept : {m : ℕ} {d e : Entry} → Best q l m d → (q (entry_shown l (suc m)) ≡ true → outranks (entry_shown l (suc m)) d ≡ false) → Some d ≡ Some e
      → Best q l (suc m) e
  kept {m} {d} {e} b f p =
      subst (Best q l (suc m)) (same_Some _ _ p)
      (record {
        at = b.at;
        low = b.low;
        high = omega (arith, b.high);
        is = b.is;
        qualifies = b.qualifies;
        top = each {P = λ k. q (entry_shown l k) ≡ true → outranks (entry_shown l k) d ≡ false} m f b.top;
      })

  -- an answer more that is better than all before
  taken : {m : ℕ} {e : Entry} → q (entry_shown l (suc m)) ≡ true
      → ((k : ℕ) → 1 ≤ k → k ≤ m → q (entry_shown l k) ≡ true → outranks (entry_shown l k) (entry_shown l (suc m)) ≡ false)
      → Some (entry_shown l (suc m)) ≡ Some e → Best q l (suc m) e
  taken {m} {e} a f p =
      subst (Best q l (suc m)) (same_Some _ _ p)
      (record {
        at = suc m;
        low = omega arith;
        high = omega arith;
        is = refl;
        qualifies = a;
        top = each {P = λ k. q (entry_shown l k) ≡ true → outranks (entry_shown l k) (entry_shown l (suc m)) ≡ false} m (λ _. outranks_self _) f;
      })

pub best_some : (q : Entry → Bool) (l : List ℕ) (m : ℕ) (e : Entry) → best_to q l m ≡ Some e → Best q l m e
unfolding best_to
best_some q l zero e p = absurd (let z : ◌≡◌ {A = ℕ} 0 1 = cc in omega arith)
best_some q l (suc m) e p = go (q x) (best_to q l m) refl refl p (best_some q l m)
  where
    x : Entry
    x = entry_shown l (suc m)

    choose : (d : Entry) (t : Bool) → outranks x d ≡ t → q x ≡ true → Best q l m d → Some (if t x d) ≡ Some e → Best q l (suc m) e
    choose d true o a b p = taken q l a (λ k i h c. from_not_above (step (not_above (b.top k i h c)) (above o))) p
    choose d false o a b p = kept q l b (λ _. o) p

    go : (t : Bool) (r : Option Entry) → q x ≡ t → best_to q l m ≡ r → if t (better r x) r ≡ Some e
        → ((d : Entry) → best_to q l m ≡ Some d → Best q l m d) → Best q l (suc m) e
    go false None a b p ih = absurd (let z : ◌≡◌ {A = ℕ} 0 1 = cc in omega arith)
    go false (Some d) a b p ih = kept q l (ih d b) (λ c. clash c a) p
    go true None a b p ih = taken q l a (λ k i h c. clash c (best_none q l m b k i h)) p
    go true (Some d) a b p ih = choose d (outranks x d) refl a (ih d b) p
