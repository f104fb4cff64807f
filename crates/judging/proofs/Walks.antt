-- The laws of the functions that go along the sorted lines, and of the one that lists them in the buffer: one for each way out,
-- and what their loops keep (`Along`, `Listing`). Cited by the proofs of `passes` and `judge` alone.
use Rattle.std.specs.Prelude.{ℕ, zero, suc, ◌+◌, ◌*◌, ◌-◌, ◌≤◌, ◌<◌, Bool, true, false, ◌&&◌, ◌≡◌, refl, get_or, take, drop}
use Rattle.std.proofs.Common.{add-one, ◌∙◌, length-take, length-append, take-suc, drop-cons, take_all}
use native.Mathlib.Omega.{arith}
use Rattle.std.proofs.Math.Path.{sym, ap, ap₂}
use mathlib.Core.List.{List, [], ◌∷◌, ◌++◌, append_assoc}
use Rattle.std.proofs.Math.ListN.{length, replicate}
use Rattle.std.proofs.lemmas.List.{length-replicate}
use Rattle.protocol.specs.declared.Entry.{Entry}
use Rattle.protocol.specs.Entries.{empty}
use Rattle.codec.specs.Bytes.{le16}
use Rattle.codec.specs.Lists.{put, flat, length_flat, put_right}
use Rattle.judging.specs.declared.Logged.{Logged}
use Rattle.judging.specs.Decision.{follows, last_write, on_time, last_begin, along, answers, timely}
use Rattle.std.proofs.lemmas.List.{drop_all}
use Rattle.judging.specs.Verdict.{place_width, order_bytes}

-- ---- the loop of a pass: the first q lines of l have passed, and s is what the next is tested with

module _ {S : Type 0} (line : ℕ → Logged) (test : S → Logged → Bool) (next : S → Logged → S) (s₀ : S) (l : List ℕ) where
  pub record Along (s : S) (q : ℕ) : Type 0 where
    pub bound : q ≤ length l
    pub rest : along line test next s₀ l ≡ along line test next s (drop q l)

  module _ (s : S) (q : ℕ) (a : Along s q) where
    here : q < length l → along line test next s₀ l ≡ (test s (line (get_or l q 0)) && along line test next (next s (line (get_or l q 0))) (drop (suc q) l))
    unfolding along
    here h = a.rest ∙ ap (along line test next s) (drop-cons l q 0 h)

    module _ (h : q < length l) (x : Logged) (p : x ≡ line (get_or l q 0)) where
      pub along_no : test s x ≡ false → along line test next s₀ l ≡ false
      along_no f = here h ∙ rw (← p, f)

      pub along_more : test s x ≡ true → (t : S) → t ≡ next s x → Along t (q + 1)
      along_more f t g = record { bound = omega arith; rest = here h ∙ rw (← p, f, ← g, add-one) }

    pub along_end : length l ≤ q → along line test next s₀ l ≡ true
    unfolding along
    along_end h = a.rest ∙ ap (along line test next s) (drop_all q l h)

-- both passes
pub record InOrder (line : ℕ → Logged) (l : List ℕ) (last : Entry) (latest q : ℕ) : Type 0 where
  pub answering : Along line follows last_write empty l last q
  pub timed : Along line on_time last_begin 0 l latest q

module _ (line : ℕ → Logged) (l : List ℕ) (last : Entry) (latest q : ℕ) (a : InOrder line l last latest q) where
  module _ (h : q < length l) (x : Logged) (p : x ≡ line (get_or l q 0)) where
    pub unanswered : (r : Bool) → r ≡ follows last x → r ≡ false → false ≡ answers line empty l && timely line 0 l
    unanswered r e f = rw (along_no line follows last_write empty l last q a.answering h x p (sym e ∙ f)) refl

    pub untimely : (r : Bool) → r ≡ on_time latest x → r ≡ false → false ≡ answers line empty l && timely line 0 l
    untimely r e f = no_right _ _ (along_no line on_time last_begin 0 l latest q a.timed h x p (sym e ∙ f))
      where
        no_right : (u v : Bool) → v ≡ false → false ≡ u && v
        no_right true v n = sym n
        no_right false v n = refl

    pub pass_more : (r t : Bool) → r ≡ follows last x → r ≡ true → t ≡ on_time latest x → t ≡ true
        → (e : Entry) (b : ℕ) → e ≡ last_write last x → b ≡ last_begin latest x → InOrder line l e b (q + 1)
    pass_more r t u f v g e b m n =
        record {
          answering = along_more line follows last_write empty l last q a.answering h x p (sym u ∙ f) e m;
          timed = along_more line on_time last_begin 0 l latest q a.timed h x p (sym v ∙ g) b n;
        }

  pub pass_end : length l ≤ q → true ≡ answers line empty l && timely line 0 l
  pass_end h = rw (along_end line follows last_write empty l last q a.answering h, along_end line on_time last_begin 0 l latest q a.timed h)

-- ---- the loop that lists an order in a buffer of m bytes: its first q numbers are written

pub record Listing (s : List ℕ) (m : ℕ) (o : List ℕ) (q : ℕ) : Type 0 where
  pub room : place_width * length s ≤ m
  pub bound : q ≤ length s
  pub is : o ≡ flat le16 (take q s) ++ replicate (m - place_width * q) 0

flat_append : (a b : List ℕ) → flat le16 (a ++ b) ≡ flat le16 a ++ flat le16 b
unfolding flat
flat_append [] b = refl
flat_append (x ∷ a) b = ap (λ (r : List ℕ). le16 x ++ r) (flat_append a b)

flat_one : (n : ℕ) → flat le16 (n ∷ []) ≡ le16 n
unfolding flat
flat_one n = refl

length_places : (l : List ℕ) → length (flat le16 l) ≡ length l * place_width
length_places l = length_flat le16 place_width (λ n. refl) l

drop_zeros : (k : ℕ) → 2 ≤ k → drop {A = ℕ} 2 (replicate k 0) ≡ replicate (k - 2) 0
drop_zeros zero h = absurd (omega arith)
drop_zeros (suc zero) h = absurd (omega arith)
drop_zeros (suc (suc k)) h = let e : k ≡ suc (suc k) - 2 = omega arith in ap (λ (j : ℕ). replicate {A = ℕ} j 0) e

put_zeros : (k n : ℕ) → 2 ≤ k → put (replicate k 0) 0 (le16 n) ≡ le16 n ++ replicate (k - 2) 0
unfolding put
put_zeros k n h = ap (λ (r : List ℕ). le16 n ++ r) (drop_zeros k h)

module _ (s : List ℕ) (m : ℕ) where
  pub list_start : (o : List ℕ) → place_width * length s ≤ m → o ≡ replicate m 0 → Listing s m o 0
  unfolding flat
  list_start o h e = record { room = h; bound = omega arith; is = e ∙ (let z : m ≡ m - place_width * 0 = omega arith in ap (λ (k : ℕ). replicate {A = ℕ} k 0) z) }

  module _ (o : List ℕ) (q : ℕ) (a : Listing s m o q) where
    done_length : length (flat le16 (take q s)) ≡ place_width * q
    done_length = let b = a.bound in let e = length_places (take q s) in let f = length-take q s in omega arith

    pub list_size : length o ≡ m
    list_size =
        let r = a.room in
        let b = a.bound in
        let e = done_length in
        let f = length-replicate {A = ℕ} (m - place_width * q) 0 in
        ap length a.is ∙ length-append (flat le16 (take q s)) (replicate (m - place_width * q) 0) ∙ (omega arith)

    module _ (h : q < length s) where
      abbrev n : ℕ
      n = get_or s q 0

      rest_more : put o (place_width * q) (le16 n) ≡ flat le16 (take q s) ++ (le16 n ++ replicate (m - place_width * q - 2) 0)
      rest_more =
          let r = a.room in
          let d : place_width * q ≡ length (flat le16 (take q s)) + 0 = omega (arith, done_length) in
          ap₂ (λ (x : List ℕ) (k : ℕ). put x k (le16 n)) a.is d
          ∙ put_right (flat le16 (take q s)) (replicate (m - place_width * q) 0) 0 (le16 n)
          ∙ ap (λ (x : List ℕ). flat le16 (take q s) ++ x) (put_zeros (m - place_width * q) n (omega arith))

      next_done : flat le16 (take (q + 1) s) ≡ flat le16 (take q s) ++ le16 n
      next_done =
          ap (λ (k : ℕ). flat le16 (take k s)) (add-one q)
          ∙ ap (flat le16) (take-suc s q 0 h)
          ∙ flat_append (take q s) (n ∷ [])
          ∙ ap (λ (x : List ℕ). flat le16 (take q s) ++ x) (flat_one n)

      pub list_more : (o₁ : List ℕ) → o₁ ≡ put o (place_width * q) (le16 n) → Listing s m o₁ (q + 1)
      list_more o₁ e =
          let z : m - place_width * q - 2 ≡ m - place_width * (q + 1) = omega arith in
          record {
            room = a.room;
            bound = omega arith;
            is =
                e ∙ rest_more ∙ sym (append_assoc (flat le16 (take q s)) (le16 n) (replicate (m - place_width * q - 2) 0))
                ∙ ap₂ (λ (x : List ℕ) (k : ℕ). x ++ replicate k 0) (sym next_done) z;
          }

    pub list_end : length s ≤ q → o ≡ order_bytes s m
    unfolding order_bytes
    list_end h =
        let b = a.bound in
        let e : q ≡ length s = omega arith in
        a.is ∙ ap₂ (λ (x : List ℕ) (k : ℕ). flat le16 x ++ replicate (m - place_width * k) 0) (take_all q s h) e
