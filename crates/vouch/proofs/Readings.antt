-- Document 001 tests only the candidate with the largest stamp: "it selects the pair with the highest timestamp, provided that it
-- is not countermanded". The second choice, which drops every entry by its own test, comes to the same: `as_read`.
use Rattle.std.specs.Prelude.{ℕ, ◌≤◌, ◌<◌, Bool, true, false, ◌&&◌, ◌≡◌, refl, ◌⊎◌, List, ltb, eqb, Option, None, Some}
use Rattle.std.proofs.Common.{arith, ap, ◌∙◌, inl, inr, ltb-true, leb-true, eqb-true, lt-ltb, le-leb, eq-eqb}
use Rattle.std.proofs.lemmas.Bool.{not-true, and_from, or_cases, or_right}
use Rattle.std.specs.Cmp.{first_so, second_so}
use Rattle.protocol.specs.declared.Entry.{Entry}
use Rattle.protocol.specs.Tools.{if}
use Rattle.protocol.specs.Sizes.{servers}
use Rattle.protocol.specs.Entries.{count_of, writer_of, below}
use Rattle.protocol.proofs.Laws.Tests.{clash, some_passing, passing_some}
use Rattle.protocol.proofs.Laws.Counts.{count_mono}
use Rattle.vouch.specs.Answers.{answer_count, answerer, entry_shown, shows_by, shows, showing}
use Rattle.vouch.specs.Choices.{against, candidate, dropped, standing, outranks, best}
use Rattle.vouch.proofs.Best.{NotAbove, count, writer, value, not_above, level_one, Best, best_some, best_none}
use Rattle.vouch.specs.Readings.{provided}

-- a stamp below another, as numbers
data Less (a b : Entry) : Type 0 where
  by_count : count_of a < count_of b → Less a b
  by_writer : count_of a ≡ count_of b → writer_of a < writer_of b → Less a b

less : (a b : Entry) → below a b ≡ true → Less a b
unfolding below
less a b e = go (or_cases (ltb (count_of a) (count_of b)) _ e)
  where
    go : (ltb (count_of a) (count_of b) ≡ true) ⊎ ((eqb (count_of a) (count_of b) && ltb (writer_of a) (writer_of b)) ≡ true) → Less a b
    go (inl h) = by_count (ltb-true _ _ h)
    go (inr h) = by_writer (eqb-true _ _ (first_so _ _ h)) (ltb-true _ _ (second_so (eqb (count_of a) (count_of b)) _ h))

from_less : {a b : Entry} → Less a b → below a b ≡ true
unfolding below
from_less (by_count h) = simp (lt-ltb _ _ h)
from_less {a} {b} (by_writer e h) = or_right (ltb (count_of a) (count_of b)) _ (and_from _ _ (eq-eqb _ _ e) (lt-ltb _ _ h))

-- what is larger than a stamp is larger than one that is no larger
lower : {f e x : Entry} → NotAbove f e → Less e x → Less f x
lower (count h) (by_count k) = by_count (omega arith)
lower (count h) (by_writer p k) = by_count (omega arith)
lower (writer p h) (by_count k) = by_count (omega arith)
lower (writer p h) (by_writer q k) = by_writer (omega arith) (omega arith)
lower (value p q h) (by_count k) = by_count (omega arith)
lower (value p q h) (by_writer r k) = by_writer (omega arith) (omega arith)

-- a weaker test is passed by no fewer servers
showing_mono : (p q : Entry → Bool) (l : List ℕ) → ((x : Entry) → p x ≡ true → q x ≡ true) → showing p l ≤ showing q l
unfolding showing shows
showing_mono p q l h =
    count_mono (shows p l) (shows q l) servers
    (λ s _ _ t.
    let f = some_passing (shows_by p l s) (answer_count l) t in
    passing_some (shows_by q l s) (answer_count l) f.at f.low f.high
    (and_from (eqb (answerer l f.at) s) _ (first_so (eqb (answerer l f.at) s) (p (entry_shown l f.at)) f.test) (h (entry_shown l f.at) (second_so (eqb (answerer l f.at) s) _ f.test))))

-- what is against an entry is against every one that does not outrank it
carried : (l : List ℕ) (c : ℕ) (f e : Entry) → outranks f e ≡ false → dropped l c e ≡ true → dropped l c f ≡ true
carried l c f e o d =
    le-leb c (against l f)
    (omega (arith, leb-true c (against l e) d, showing_mono (below e) (below f) l (λ x t. from_less (lower (not_above o) (less e x t)))))

module _ (l : List ℕ) (c : ℕ) where
  -- of those that stand none is best, or the best is a candidate that is not outranked by the best candidate
  apart : (f e : Entry) → Best (standing l c) l (answer_count l) f → Best (candidate l c) l (answer_count l) e → outranks f e ≡ false
  apart f e b a = rw (← b.is) (a.top b.at b.low b.high (rw b.is (first_so (candidate l c f) _ b.qualifies)))

  nothing : best (candidate l c) l ≡ None → best (standing l c) l ≡ None
  nothing p = go (best (standing l c) l) refl
    where
      go : (r : Option Entry) → best (standing l c) l ≡ r → best (standing l c) l ≡ None
      go None e = e
      go (Some f) e =
          let b = best_some (standing l c) l (answer_count l) f e in
          clash (rw b.is (first_so (candidate l c f) _ b.qualifies)) (best_none (candidate l c) l (answer_count l) p b.at b.low b.high)

  gone : (e : Entry) → Best (candidate l c) l (answer_count l) e → dropped l c e ≡ true → best (standing l c) l ≡ None
  gone e a d = go (best (standing l c) l) refl
    where
      go : (r : Option Entry) → best (standing l c) l ≡ r → best (standing l c) l ≡ None
      go None p = p
      go (Some f) p =
          let b = best_some (standing l c) l (answer_count l) f p in
          clash (carried l c f e (apart f e b a) d) (not-true _ (second_so (candidate l c f) _ b.qualifies))

  stays : (e : Entry) → Best (candidate l c) l (answer_count l) e → dropped l c e ≡ false → best (standing l c) l ≡ Some e
  stays e a d = go (best (standing l c) l) refl
    where
      stands : standing l c e ≡ true
      stands = and_from _ _ a.qualifies (rw d refl)

      stands_there : standing l c (entry_shown l a.at) ≡ true
      stands_there = rw a.is stands

      go : (r : Option Entry) → best (standing l c) l ≡ r → best (standing l c) l ≡ Some e
      go None p = clash stands_there (best_none (standing l c) l (answer_count l) p a.at a.low a.high)
      go (Some f) p =
          let b = best_some (standing l c) l (answer_count l) f p in
          let o : outranks e f ≡ false = rw (← a.is) (b.top a.at a.low a.high stands_there) in
          p ∙ ap Some (level_one f e (apart f e b a) o)

  pub as_read : best (standing l c) l ≡ provided l c (best (candidate l c) l)
  as_read = go (best (candidate l c) l) refl
    where
      choose : (e : Entry) (t : Bool) → dropped l c e ≡ t → Best (candidate l c) l (answer_count l) e → best (standing l c) l ≡ if t None (Some e)
      choose e true d a = gone e a d
      choose e false d a = stays e a d

      go : (r : Option Entry) → best (candidate l c) l ≡ r → best (standing l c) l ≡ provided l c r
      go None p = nothing p
      go (Some e) p = choose e (dropped l c e) refl (best_some (candidate l c) l (answer_count l) e p)
