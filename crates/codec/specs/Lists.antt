-- A part of a list, a list with a part replaced, and records of one width one after another. Assumes nothing.
use Rattle.std.specs.Prelude.{◌≡◌, refl, take, drop, get_or, set, replicate}
use Rattle.std.proofs.Math.Path.{sym, ap}
use Rattle.std.proofs.Common.{◌∙◌, not-suc-le-zero, le_of_suc-le-suc, mul_comm, add-zero, zero-add, add_assoc, arith, length-append, length-take, length-drop, take-append-drop, take_at, drop_at, drop-drop, take-add, take-take, take_all, drop-cons, get_or-take, get_or-drop}
use mathlib.Core.List.{List, [], ◌∷◌, ◌++◌, append_assoc, append-nil}
use Prim.Native.Nat.{ℕ, zero, suc, ◌+◌, ◌*◌, ◌-◌, ◌≤◌, ◌<◌}
use Rattle.std.proofs.Math.Nat.{add-sub_cancel_left, zero-mul, suc-mul}
use Rattle.std.proofs.Math.ListN.{length}
use Rattle.std.proofs.lemmas.List.{replicate-append-replicate, take-append-le, drop-append-le}
use borrow.Rule.Slice.PartMut.{put_mid}
use Rattle.protocol.specs.Tools.{nth, replace}
use Rattle.protocol.specs.Worlds.{list_to}
use Rattle.std.proofs.Math.Seq.{take-append-add, drop-append-add, take-nil, take-length, drop-length, paste, paste-zero, paste-suc}

-- the n elements from at on
unfoldable pub part : List ℕ → ℕ → ℕ → List ℕ
part l at n = take n (drop at l)

-- l with vs in the place of as many elements from at on
unfoldable pub put : List ℕ → ℕ → List ℕ → List ℕ
put l at vs = take at l ++ (vs ++ drop (length vs) (drop at l))

-- records one after another
unfoldable pub flat : {A : Type 0} → (A → List ℕ) → List A → List ℕ
flat f [] = []
flat f (x ∷ xs) = f x ++ flat f xs

pred_suc : (k : ℕ) → suc k - 1 ≡ k
pred_suc k = omega arith

pub length_part : (l : List ℕ) (at n : ℕ) → at + n ≤ length l → length (part l at n) ≡ n
unfolding part
length_part l at n h = simp (length-take, length-drop) (omega arith)

pub get_d_part : (l : List ℕ) (at n i : ℕ) → i < n → get_or (part l at n) i 0 ≡ get_or l (at + i) 0
unfolding part
get_d_part l at n i h = rw (get_or-take, get_or-drop)

pub part_one : (l : List ℕ) (i : ℕ) → i < length l → part l i 1 ≡ get_or l i 0 ∷ []
unfolding part
part_one l i h = ap (take 1) (drop-cons l i 0 h)

drop_take : (i n : ℕ) (l : List ℕ) → i ≤ n → drop i (take n l) ≡ take (n - i) (drop i l)
drop_take zero n l h = ap (λ (k : ℕ). take k l) (let e : n ≡ n - 0 = omega arith in e)
drop_take (suc i) zero l h = absurd (not-suc-le-zero h)
drop_take (suc i) (suc n) [] h = sym (take-nil (suc n - suc i))
drop_take (suc i) (suc n) (x ∷ xs) h =
    drop_take i n xs (le_of_suc-le-suc h) ∙ ap (λ (k : ℕ). take k (drop i xs)) (let e : n - i ≡ suc n - suc i = omega arith in e)

pub part_part : (l : List ℕ) (at n i k : ℕ) → i + k ≤ n → part (part l at n) i k ≡ part l (at + i) k
unfolding part
part_part l at n i k h =
    ap (take k) (drop_take i n (drop at l) (omega arith))
    ∙ take-take k (n - i) (drop i (drop at l)) (omega arith)
    ∙ ap (take k) (drop-drop i at l)

pub part_add : (l : List ℕ) (at n m : ℕ) → part l at (n + m) ≡ part l at n ++ part l (at + n) m
unfolding part
part_add l at n m = take-add n m (drop at l) ∙ ap (λ (r : List ℕ). take n (drop at l) ++ take m r) (drop-drop n at l)

-- ---- two lists joined

pub part_right : (a b : List ℕ) (i n : ℕ) → part (a ++ b) (length a + i) n ≡ part b i n
unfolding part
part_right a b i n = rw drop-append-add

pub part_left : (a b : List ℕ) (i n : ℕ) → i + n ≤ length a → part (a ++ b) i n ≡ part a i n
unfolding part
part_left a b i n h =
    let h1 : i ≤ length a = omega arith in
    let h2 : n ≤ length (drop i a) = simp length-drop (omega arith) in
    rw (drop-append-le, take-append-le)

pub put_right : (a b : List ℕ) (i : ℕ) (vs : List ℕ) → put (a ++ b) (length a + i) vs ≡ a ++ put b i vs
unfolding put
put_right a b i vs = simp (take-append-add, drop-append-add, append_assoc)

pub put_left : (a b : List ℕ) (i : ℕ) (vs : List ℕ) → i + length vs ≤ length a → put (a ++ b) i vs ≡ put a i vs ++ b
unfolding put
put_left a b i vs h =
    let h1 : i ≤ length a = omega arith in
    let h2 : length vs ≤ length (drop i a) = simp length-drop (omega arith) in
    rw (take-append-le i a b, drop-append-le i a b, drop-append-le (length vs) (drop i a) b) (simp append_assoc)

-- two lists put one behind the other are put as one
pub put_put : (l : List ℕ) (at : ℕ) (vs us : List ℕ) → at ≤ length l → put (put l at vs) (at + length vs) us ≡ put l at (vs ++ us)
unfolding put
put_put l at vs us h =
    let a : List ℕ = take at l ++ vs in
    let r : List ℕ = drop (length vs) (drop at l) in
    let n : at + length vs ≡ length a + 0 = sym (simp (length-append, length-take) (omega arith)) in
    ap (λ (k : ℕ). put (put l at vs) k us) n
    ∙ ap (λ (x : List ℕ). put x (length a + 0) us) (sym (append_assoc (take at l) vs r))
    ∙ put_right a r 0 us
    ∙ simp (append_assoc, length-append, drop-drop, add-zero, add_assoc)

pub put_more : (l : List ℕ) (at k : ℕ) (vs us : List ℕ) → at ≤ length l → k ≡ at + length vs → put (put l at vs) k us ≡ put l at (vs ++ us)
put_more l at k vs us h e = rw e (put_put l at vs us h)

-- ---- what a part that was lent is, and a copy into it

-- No proof cites it; it stands for who reads the definitions.
pub span : (l : List ℕ) (at n : ℕ) → take (at + n - at) (drop at l) ≡ part l at n
unfolding part
span l at n = ap (λ (k : ℕ). take k (drop at l)) (add-sub_cancel_left at n)

-- a part that was lent, and what was written there
pub lent : (l : List ℕ) (at k : ℕ) (vs : List ℕ) → k ≡ length vs → put_mid at k l vs ≡ put l at vs
unfolding put
lent l at k vs e = rw e

pub pasted : (l : List ℕ) (at : ℕ) (vs : List ℕ) → paste l at vs (length vs) ≡ put l at vs
unfolding put
pasted l at vs = rw (take-length, drop-drop (length vs) at l) (simp append_assoc)

-- one element put in, and a list put over a whole one
pub put_one : (l : List ℕ) (i x : ℕ) → i < length l → set l i x ≡ put l i (x ∷ [])
put_one l i x h =
    ap (λ (k : ℕ). set l k x) (sym (add-zero i)) ∙ ap (λ (m : List ℕ). set m (i + 0) x) (paste-zero l i (x ∷ []))
    ∙ paste-suc l i (x ∷ []) 0 0 (omega arith) (omega arith)
    ∙ pasted l i (x ∷ [])

pub put_all : (l vs : List ℕ) → length vs ≡ length l → put l 0 vs ≡ vs
unfolding put
put_all l vs e = ap (λ (r : List ℕ). vs ++ r) (ap (λ (k : ℕ). drop k l) e ∙ drop-length l) ∙ append-nil vs

-- what was written from place at on, one piece behind the other: m is l with a there
pub record Wrote (l : List ℕ) (at : ℕ) (a m : List ℕ) : Type 0 where
  pub room : at ≤ length l
  pub all : m ≡ put l at a

pub wrote_none : (l : List ℕ) (at : ℕ) → at ≤ length l → Wrote l at [] l
unfolding put
wrote_none l at h = record { room = h; all = sym (take-append-drop at l) }

pub wrote : {l a m o : List ℕ} {at : ℕ} (k : ℕ) (b : List ℕ) → Wrote l at a m → o ≡ put m k b → k ≡ at + length a → Wrote l at (a ++ b) o
wrote {l} {a} {m} {o} {at} k b w e h =
    record { room = w.room; all = e ∙ rw (w.all, h) (put_put l at a b w.room) }

-- what spells the first n bytes of b, one piece behind the other
pub record Spells (b : List ℕ) (n : ℕ) (a : List ℕ) : Type 0 where
  pub all : a ≡ part b 0 n

pub spells_none : (b : List ℕ) → Spells b 0 []
unfolding part
spells_none b = record { all = refl }

pub spells : {b a v : List ℕ} {n : ℕ} (m : ℕ) → Spells b n a → v ≡ part b n m → Spells b (n + m) (a ++ v)
spells {b} {a} {v} {n} m s e = record { all = rw (s.all, e) (sym (part_add b 0 n m ∙ ap (λ (k : ℕ). part b 0 n ++ part b k m) (zero-add n))) }

pub spelled : {b a : List ℕ} {n : ℕ} → Spells b n a → length b ≡ n → a ≡ b
unfolding part
spelled {b} {a} {n} s e = s.all ∙ take_all n b (omega arith)

-- ---- records of one width, one after another

module _ {A : Type 0} (f : A → List ℕ) (w : ℕ) (wide : (x : A) → length (f x) ≡ w) where
  pub length_flat : (xs : List A) → length (flat f xs) ≡ length xs * w
  unfolding flat
  length_flat [] = sym (zero-mul w)
  length_flat (x ∷ xs) = simp (length-append, wide, length_flat xs, suc-mul) (omega arith)

  part_flat : (xs : List A) (i : ℕ) (d : A) → i < length xs → part (flat f xs) (i * w) w ≡ f (get_or xs i d)
  unfolding flat part
  part_flat [] i d h = absurd (not-suc-le-zero h)
  part_flat (x ∷ xs) zero d h = rw zero-mul (take_at (f x) (flat f xs) w (wide x))
  part_flat (x ∷ xs) (suc i) d h =
      let e : suc i * w ≡ length (f x) + i * w = omega (arith, suc-mul i w, wide x) in
      rw e (part_right (f x) (flat f xs) (i * w) w ∙ part_flat xs i d (le_of_suc-le-suc h))

  put_flat : (xs : List A) (i : ℕ) (v : A) → i < length xs → put (flat f xs) (i * w) (f v) ≡ flat f (set xs i v)
  unfolding flat put
  put_flat [] i v h = absurd (not-suc-le-zero h)
  put_flat (x ∷ xs) zero v h = rw zero-mul (ap (λ (r : List ℕ). f v ++ r) (drop_at (f x) (flat f xs) (length (f v)) (wide x ∙ sym (wide v))))
  put_flat (x ∷ xs) (suc i) v h =
      let e : suc i * w ≡ length (f x) + i * w = omega (arith, suc-mul i w, wide x) in
      rw e (put_right (f x) (flat f xs) (i * w) (f v) ∙ ap (λ (r : List ℕ). f x ++ r) (put_flat xs i v (le_of_suc-le-suc h)))

  -- a record's room in the group
  room : (n i : ℕ) → i < n → i * w + w ≤ n * w
  room (suc n) zero h = omega (arith, zero-mul w, suc-mul n w)
  room (suc n) (suc i) h = let r = room n i (le_of_suc-le-suc h) in omega (arith, suc-mul i w, suc-mul n w)
  room zero i h = absurd (not-suc-le-zero h)

  -- record i of a group that begins at place at, p being what lies before it and q what lies behind
  pub part_group : (p : List ℕ) (xs : List A) (q : List ℕ) (at i : ℕ) (d : A) → length p ≡ at → i < length xs
      → part (p ++ (flat f xs ++ q)) (at + w * i) w ≡ f (get_or xs i d)
  part_group p xs q at i d e h =
      let m : at + w * i ≡ length p + i * w = omega (arith, mul_comm w i) in
      rw m
      (part_right p (flat f xs ++ q) (i * w) w
      ∙ part_left (flat f xs) q (i * w) w (omega (arith, room (length xs) i h, length_flat xs))
      ∙ part_flat xs i d h)

  pub put_group : (p : List ℕ) (xs : List A) (q : List ℕ) (at i : ℕ) (v : A) → length p ≡ at → i < length xs
      → put (p ++ (flat f xs ++ q)) (at + w * i) (f v) ≡ p ++ (flat f (set xs i v) ++ q)
  put_group p xs q at i v e h =
      let m : at + w * i ≡ length p + i * w = omega (arith, mul_comm w i) in
      rw m
      (put_right p (flat f xs ++ q) (i * w) (f v)
      ∙ ap (λ (r : List ℕ). p ++ r)
      (put_left (flat f xs) q (i * w) (f v) (omega (arith, room (length xs) i h, length_flat xs, wide v))
      ∙ ap (λ (r : List ℕ). r ++ q) (put_flat xs i v h)))

-- records of zeros
pub flat_zeros : {A : Type 0} (f : A → List ℕ) (w : ℕ) (x : A) → f x ≡ replicate w 0 → (n : ℕ) → flat f (replicate n x) ≡ replicate (n * w) 0
unfolding flat
flat_zeros f w x e zero = rw zero-mul
flat_zeros f w x e (suc n) =
    let m : suc n * w ≡ w + n * w = omega (arith, suc-mul n w) in
    rw (e, flat_zeros f w x e n, m) (replicate-append-replicate w (n * w) 0)

-- ---- groups that are numbered from 1

module _ {A : Type 0} (f : A → List ℕ) (w : ℕ) (wide : (x : A) → length (f x) ≡ w) where
  pub part_number : (p : List ℕ) (xs : List A) (q : List ℕ) (at k : ℕ) (d : A) → length p ≡ at → 1 ≤ k → k ≤ length xs
      → part (p ++ (flat f xs ++ q)) (at + w * (k - 1)) w ≡ f (nth xs k d)
  unfolding nth
  part_number p xs q at zero d e l h = absurd (not-suc-le-zero l)
  part_number p xs q at (suc k) d e l h = rw (pred_suc k) (part_group f w wide p xs q at k d e h)

  pub put_number : (p : List ℕ) (xs : List A) (q : List ℕ) (at k : ℕ) (v : A) → length p ≡ at → 1 ≤ k → k ≤ length xs
      → put (p ++ (flat f xs ++ q)) (at + w * (k - 1)) (f v) ≡ p ++ (flat f (replace xs k v) ++ q)
  unfolding replace
  put_number p xs q at zero v e l h = absurd (not-suc-le-zero l)
  put_number p xs q at (suc k) v e l h = rw (pred_suc k) (put_group f w wide p xs q at k v e h)

-- a list that is numbered from 1 behind an element number 0
pub get_d_cons : {A : Type 0} (x : A) (xs : List A) (k : ℕ) (d : A) → 1 ≤ k → get_or (x ∷ xs) k d ≡ nth xs k d
unfolding nth
get_d_cons x xs zero d l = absurd (not-suc-le-zero l)
get_d_cons x xs (suc k) d l = refl

pub nth_list_to : {A : Type 0} (g : ℕ → A) (n k : ℕ) (d : A) → 1 ≤ k → k ≤ n → nth (list_to g n) k d ≡ g k
unfolding nth list_to
nth_list_to g n zero d l h = absurd (not-suc-le-zero l)
nth_list_to g zero (suc k) d l h = absurd (not-suc-le-zero h)
nth_list_to g (suc n) (suc zero) d l h = refl
nth_list_to g (suc n) (suc (suc k)) d l h = nth_list_to (λ i. g (suc i)) n (suc k) d (omega arith) (le_of_suc-le-suc h)

-- a list is that of its elements
pub list_to_nth : {A : Type 0} (g : ℕ → A) (xs : List A) (d : A) (n : ℕ) → length xs ≡ n → ((k : ℕ) → 1 ≤ k → k ≤ n → g k ≡ nth xs k d)
    → list_to g n ≡ xs
unfolding nth list_to
list_to_nth g [] d zero e h = refl
list_to_nth g [] d (suc n) e h = absurd (omega arith)
list_to_nth g (x ∷ xs) d zero e h = absurd (omega arith)
list_to_nth {A = A} g (x ∷ xs) d (suc n) e h =
    rw (h 1 (omega arith) (omega arith))
    (ap (λ (r : List A). x ∷ r)
    (list_to_nth (λ i. g (suc i)) xs d n (omega arith) (λ k l m. h (suc k) (omega arith) (omega arith) ∙ get_d_cons x xs k d l)))
