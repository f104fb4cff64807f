-- A tally that takes newer answers is what the list of the answers says, `newer_closes`: the servers heard, the entry chosen of those
-- shown, and whether all carry it. The list goes from the newest to the oldest, as `chain` has it. Used by Same.
use Rattle.std.specs.Prelude.{ℕ, ◌-◌, ◌≤◌, ◌<◌, ◌^◌, Bool, ◌&&◌, ◌||◌, ◌≡◌, ◌⊎◌, List, [], ◌∷◌, ltb, leb, None, Some}
use Rattle.std.proofs.Common.{arith, ap, ◌∙◌, inl, inr, pow_mono, ltb-true, ltb-false, eqb-true, eq-eqb, ne_eqb, lt-ltb, le-ltb}
use Rattle.std.proofs.Math.Bool.{true, false, or-false, or_comm}
use Rattle.std.proofs.Math.Path.{refl, sym, ap₂}
use Rattle.std.proofs.Math.Dec.{eqb}
use Rattle.std.specs.Int.Bits.{bit_or, or_lt}
use Rattle.std.proofs.lemmas.Bool.{eqb-false, or_right, or_cases}
use Rattle.std.specs.Cmp.{first_so, second_so}
use Rattle.values.specs.declared.tally.Tally.{Tally}
use Rattle.protocol.specs.declared.Choice.{Choice}
use Rattle.protocol.specs.declared.Entry.{Entry}
use Rattle.protocol.specs.declared.Message.{Message}
use Rattle.protocol.specs.Tools.{if, within, any, all, holds}
use Rattle.protocol.specs.Sizes.{servers}
use Rattle.protocol.specs.Entries.{empty, count_of, writer_of, below, larger, largest, chosen, same, entry_fits}
use Rattle.protocol.specs.Worlds.{World, message}
use Rattle.protocol.specs.Chains.{tagged, heard, enough, shown, agreed}
use Rattle.protocol.proofs.Laws.Bits.{holds_or, holds_none}
use Rattle.protocol.proofs.Laws.Tests.{by_test, clash, within_true}
use Rattle.protocol.proofs.Laws.Entries.{same_is, is_same, largest_same, larger_one, all_one}
use Rattle.values.specs.Bits.{bit_in, bit_in_lem, bit_at, bit_held, count_same}
use Rattle.values.specs.Tallies.{first_answer, closes_at, choice}
use Rattle.phases.specs.Rules.{newer, count_answer}
use Rattle.phases.specs.Lists.{tally_in, valid_answer}

-- ---- the larger of three: no matter which two come first

below_on : (a b c : Entry) → below a b ≡ true → below b c ≡ true → below a c ≡ true
unfolding below
below_on a b c e f =
    go (or_cases (ltb (count_of a) (count_of b)) _ e) (or_cases (ltb (count_of b) (count_of c)) _ f)
  where
    less : (x y : Entry) → Type 0
    less x y = (ltb (count_of x) (count_of y) ≡ true) ⊎ ((eqb (count_of x) (count_of y) && ltb (writer_of x) (writer_of y)) ≡ true)

    first : count_of a < count_of c → (ltb (count_of a) (count_of c) || (eqb (count_of a) (count_of c) && ltb (writer_of a) (writer_of c))) ≡ true
    first h = rw (lt-ltb (count_of a) (count_of c) h) refl

    second : count_of a ≡ count_of c → writer_of a < writer_of c → (ltb (count_of a) (count_of c) || (eqb (count_of a) (count_of c) && ltb (writer_of a) (writer_of c))) ≡ true
    second h k = rw (le-ltb (count_of a) (count_of c) (omega arith), eq-eqb (count_of a) (count_of c) h, lt-ltb (writer_of a) (writer_of c) k) refl

    go : less a b → less b c → (ltb (count_of a) (count_of c) || (eqb (count_of a) (count_of c) && ltb (writer_of a) (writer_of c))) ≡ true
    go (inl h) (inl k) = first (omega (arith, ltb-true (count_of a) (count_of b) h, ltb-true (count_of b) (count_of c) k))
    go (inl h) (inr k) = first (omega (arith, ltb-true (count_of a) (count_of b) h, eqb-true (count_of b) (count_of c) (first_so (eqb (count_of b) (count_of c)) _ k)))
    go (inr h) (inl k) = first (omega (arith, ltb-true (count_of b) (count_of c) k, eqb-true (count_of a) (count_of b) (first_so (eqb (count_of a) (count_of b)) _ h)))
    go (inr h) (inr k) =
        second (omega (arith, eqb-true (count_of a) (count_of b) (first_so (eqb (count_of a) (count_of b)) _ h), eqb-true (count_of b) (count_of c) (first_so (eqb (count_of b) (count_of c)) _ k)))
        (omega (arith, ltb-true (writer_of a) (writer_of b) (second_so (eqb (count_of a) (count_of b)) _ h), ltb-true (writer_of b) (writer_of c) (second_so (eqb (count_of b) (count_of c)) _ k)))

-- the stamp of a is at least that of b
pub record AtLeast (a b : Entry) : Type 0 where
  pub count : count_of b ≤ count_of a
  pub writer : count_of a ≡ count_of b → writer_of b ≤ writer_of a

at_least : (a b : Entry) → below a b ≡ false → AtLeast a b
unfolding below
at_least a b e = go (ltb (count_of a) (count_of b)) (eqb (count_of a) (count_of b)) (ltb (writer_of a) (writer_of b)) refl refl refl e
  where
    go : (x y z : Bool) → ltb (count_of a) (count_of b) ≡ x → eqb (count_of a) (count_of b) ≡ y → ltb (writer_of a) (writer_of b) ≡ z → (x || (y && z)) ≡ false → AtLeast a b
    go true y z p q r f = clash refl f
    go false true true p q r f = clash refl f
    go false true false p q r f = record { count = ltb-false _ _ p; writer = λ h. ltb-false _ _ r }
    go false false z p q r f = record { count = ltb-false _ _ p; writer = λ h. absurd (eqb-false _ _ q h) }

not_below : (a b : Entry) → AtLeast a b → below a b ≡ false
unfolding below
not_below a b h =
    by_test (eqb (count_of a) (count_of b))
    (λ e. rw (le-ltb (count_of a) (count_of b) h.count, le-ltb (writer_of a) (writer_of b) (h.writer (eqb-true _ _ e)), e) refl)
    (λ e. rw (le-ltb (count_of a) (count_of b) h.count, e) refl)

at_least_on : {a b c : Entry} → AtLeast a b → AtLeast b c → AtLeast a c
at_least_on {a} {b} {c} h k =
    let x = h.count in
    let y = k.count in
    record { count = omega arith; writer = λ e. step (h.writer (omega arith)) (k.writer (omega arith)) }
  where
    step : writer_of b ≤ writer_of a → writer_of c ≤ writer_of b → writer_of c ≤ writer_of a
    step p q = omega arith

larger_assoc : (a b c : Entry) → larger a (larger b c) ≡ larger (larger a b) c
unfolding larger
larger_assoc a b c = go (below b c) (below a b) refl refl
  where
    go : (x y : Bool) → below b c ≡ x → below a b ≡ y
        → if (below a (if x c b)) (if x c b) a ≡ if (below (if y b a) c) c (if y b a)
    go true true p q = rw (below_on a b c q p, p) refl
    go true false p q = refl
    go false true p q = rw (q, p) refl
    go false false p q = rw (q, not_below a c (at_least_on (at_least a b q) (at_least b c p))) refl

-- the largest of a list, the first counted last
largest_last : (e x : Entry) (xs : List Entry) → largest (larger x e) xs ≡ larger (largest x xs) e
unfolding largest
largest_last e x [] = refl
largest_last e x (y ∷ ys) = ap (λ (z : Entry). largest z ys) (larger_assoc y x e) ∙ largest_last e (larger y x) ys

same_both : (a b : Entry) → same a b ≡ same b a
same_both a b =
    by_test (same a b) (λ e. e ∙ sym (is_same b a (sym (same_is a b e))))
    (λ e. by_test (same b a) (λ f. clash (is_same a b (sym (same_is b a f))) e) (λ f. e ∙ sym f))

-- all carry one entry, the first counted last
all_last : (e x : Entry) (xs : List Entry) → all (same e) (x ∷ xs) ≡ (all (same x) xs && same (largest x xs) e)
unfolding all
all_last e x xs = go (same e x) (all (same x) xs) refl refl
  where
    go : (a b : Bool) → same e x ≡ a → all (same x) xs ≡ b → (a && all (same e) xs) ≡ (b && same (largest x xs) e)
    go true true p q = rw (same_is e x p, largest_same x xs q, is_same x x refl, q) refl
    go true false p q = rw (same_is e x p, q) refl
    go false true p q = sym (rw (largest_same x xs q, same_both x e) p)
    go false false p q = refl

-- ---- one answer more

-- the bit of a server that there is
module _ (s : ℕ) (h : 1 ≤ s) (k : s ≤ servers) where
  bit_lt : bit_in s < 2 ^ 32
  bit_lt =
      let p : 2 ^ (s - 1) ≤ 2 ^ 31 = pow_mono {i = s - 1} {j = 31} (omega arith) in
      let e : bit_in s ≡ 2 ^ (s - 1) = bit_in_lem s k ∙ bit_at s h in
      omega (arith, e, p)

  own_bit : holds (bit_in s) s ≡ true
  own_bit = bit_held s s h k ∙ eq-eqb s s refl

  some_bit : (x : ℕ) → holds x s ≡ true → x ≡ 0 → ⊥
  some_bit x e z = clash e (rw z (holds_none s))

-- a tally that can be stored: its servers are 32 bits, its entry is in its range, and where nobody was heard it is `no_tally`
pub record TallyStorable (a : Tally) : Type 0 where
  pub small : a.seen.0 < 2 ^ 32
  pub fits : entry_fits a.best ≡ true
  pub quiet : a.seen.0 ≡ 0 → (a.best ≡ empty) × (a.one ≡ true)

module _ (a : Tally) (m : Message) (h : within 1 servers m.sender ≡ true) where
  low : 1 ≤ m.sender
  low = (within_true 1 servers m.sender h).0

  high : m.sender ≤ servers
  high = (within_true 1 servers m.sender h).1

  both_bits : bit_or a.seen.0 (bit_in m.sender) ≡ 0 → ⊥
  both_bits z =
      some_bit m.sender low high (bit_or a.seen.0 (bit_in m.sender))
      (holds_or a.seen.0 (bit_in m.sender) m.sender ∙ or_right (holds a.seen.0 m.sender) _ (own_bit m.sender low high)) z

  one_bit : bit_in m.sender ≡ 0 → ⊥
  one_bit z = some_bit m.sender low high (bit_in m.sender) (own_bit m.sender low high) z

  heard_now : (count_answer a m).seen.0 ≡ 0 → ⊥
  unfolding count_answer first_answer
  heard_now = go (eqb a.seen.0 0)
    where
      go : (b : Bool) → (if b (first_answer m) (newer a m)).seen.0 ≡ 0 → ⊥
      go true z = one_bit z
      go false z = both_bits z

  counted_sound : TallyStorable a → entry_fits m.entry ≡ true → TallyStorable (count_answer a m)
  unfolding count_answer first_answer
  counted_sound s e =
      record { small = small_now (eqb a.seen.0 0); fits = fits_now (eqb a.seen.0 0) (larger_one a.best m.entry); quiet = λ z. absurd (heard_now z) }
    where
      small_now : (b : Bool) → (if b (first_answer m) (newer a m)).seen.0 < 2 ^ 32
      small_now true = bit_lt m.sender low high
      small_now false = or_lt 32 a.seen.0 (bit_in m.sender) s.small (bit_lt m.sender low high)

      fits_now : (b : Bool) → (larger a.best m.entry ≡ a.best) ⊎ (larger a.best m.entry ≡ m.entry)
          → entry_fits (if b (first_answer m) (newer a m)).best ≡ true
      fits_now true d = e
      fits_now false (inl p) = ap entry_fits p ∙ s.fits
      fits_now false (inr p) = ap entry_fits p ∙ e

-- the tally of a list of answers can be stored
pub in_sound : (w : World) (t : ℕ) (ks : List ℕ) → all (valid_answer w) ks ≡ true → TallyStorable (tally_in w t ks)
unfolding tally_in all entry_fits
in_sound w t [] e = record { small = omega arith; fits = refl; quiet = λ z. (refl, refl) }
in_sound w t (k ∷ ks) e = go (tagged w t k) (in_sound w t ks (second_so (valid_answer w k) _ e))
  where
    one : valid_answer w k ≡ true
    one = first_so (valid_answer w k) _ e

    go : (b : Bool) → TallyStorable (tally_in w t ks) → TallyStorable (if b (count_answer (tally_in w t ks) (message w k)) (tally_in w t ks))
    go true s =
        counted_sound (tally_in w t ks) (message w k) (first_so (within 1 servers (message w k).sender) _ one) s
        (second_so (within 1 servers (message w k).sender) _ one)
    go false s = s

-- ---- what the tally says is what the list says

-- nobody was heard and nothing shown, or somebody was and something is
pub data State (n : ℕ) (es : List Entry) : Type 0 where
  nobody : n ≡ 0 → es ≡ [] → State n es
  somebody : (n ≡ 0 → ⊥) → (x : Entry) (xs : List Entry) → es ≡ x ∷ xs → State n es

pub record Tells (a : Tally) (from : ℕ → Bool) (es : List Entry) : Type 0 where
  pub seen : (s : ℕ) → 0 < s → s ≤ servers → holds a.seen.0 s ≡ from s
  pub best : a.best ≡ chosen es
  pub one : a.one ≡ all (same (chosen es)) es
  pub state : State a.seen.0 es

-- those heard, and the sender of m
abbrev also_from : (ℕ → Bool) → Message → ℕ → Bool
also_from from m s = eqb m.sender s || from s

module _ (a : Tally) (from : ℕ → Bool) (es : List Entry) (m : Message) (h : within 1 servers m.sender ≡ true) where
  tells_first : Tells a from es → a.seen.0 ≡ 0 → es ≡ [] → Tells (first_answer m) (also_from from m) (m.entry ∷ es)
  unfolding first_answer largest all
  tells_first t z n =
      record {
        seen = λ s l u. bit_held m.sender s l u ∙ sym (ap (λ (b : Bool). eqb m.sender s || b) (sym (t.seen s l u) ∙ rw z (holds_none s)) ∙ or-false _);
        best = rw n refl;
        one = rw (n, is_same m.entry m.entry refl) refl;
        state = somebody (one_bit a m h) m.entry es refl;
      }

  tells_newer : Tells a from es → (x : Entry) (xs : List Entry) → es ≡ x ∷ xs → Tells (newer a m) (also_from from m) (m.entry ∷ es)
  unfolding largest
  tells_newer t x xs n =
      let e : Entry = m.entry in
      let b : a.best ≡ largest x xs = t.best ∙ rw n refl in
      let o : a.one ≡ all (same x) xs = t.one ∙ rw n (all_one x xs) in
      record {
        seen = λ s l u. holds_or a.seen.0 (bit_in m.sender) s ∙ ap₂ (λ (p q : Bool). p || q) (t.seen s l u) (bit_held m.sender s l u) ∙ or_comm (from s) (eqb m.sender s);
        best = rw (n, b) (sym (largest_last e x xs));
        one = rw (n, b, o) (sym (all_one e (x ∷ xs) ∙ all_last e x xs));
        state = somebody (both_bits a m h) e es refl;
      }

  tells_more : Tells a from es → Tells (count_answer a m) (also_from from m) (m.entry ∷ es)
  unfolding count_answer
  tells_more t = go t.state
    where
      go : State a.seen.0 es → Tells (if (eqb a.seen.0 0) (first_answer m) (newer a m)) (also_from from m) (m.entry ∷ es)
      go (nobody z n) = rw (eq-eqb a.seen.0 0 z) (tells_first t z n)
      go (somebody z x xs n) = rw (ne_eqb a.seen.0 0 z) (tells_newer t x xs n)

pub in_tells : (w : World) (t : ℕ) (ks : List ℕ) → all (valid_answer w) ks ≡ true → Tells (tally_in w t ks) (heard w t ks) (shown w t ks)
unfolding tally_in heard any shown all
in_tells w t [] e = record { seen = λ s l u. holds_none s; best = refl; one = refl; state = nobody refl refl }
in_tells w t (k ∷ ks) e = go (tagged w t k) (in_tells w t ks (second_so (valid_answer w k) _ e))
  where
    go : (b : Bool) → Tells (tally_in w t ks) (heard w t ks) (shown w t ks)
        → Tells (if b (count_answer (tally_in w t ks) (message w k)) (tally_in w t ks)) (λ s. (b && eqb (message w k).sender s) || heard w t ks s)
        (if b ((message w k).entry ∷ shown w t ks) (shown w t ks))
    go true h =
        tells_more (tally_in w t ks) (heard w t ks) (shown w t ks) (message w k)
        (first_so (within 1 servers (message w k).sender) _ (first_so (valid_answer w k) _ e)) h
    go false h = h

-- a tally closes where there are enough answers of its view, with what is chosen of them: as the walk along the list does
pub newer_closes : (w : World) (t : ℕ) (ks : List ℕ) (size : ℕ) → all (valid_answer w) ks ≡ true
    → closes_at (tally_in w t ks) size ≡ if (enough w t ks size) (Some (choice w t ks)) None
unfolding closes_at enough agreed
newer_closes w t ks size e =
    let h = in_tells w t ks e in
    ap₂ (λ (n : ℕ) (c : Choice). if (leb size n) (Some c) None) (count_same (holds (tally_in w t ks).seen.0) (heard w t ks) servers h.seen)
    (ap₂ (λ (x : Entry) (b : Bool). record { entry = x; one = b }) h.best h.one)
