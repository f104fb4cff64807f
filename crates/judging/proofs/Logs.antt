-- `logged_fine` hands what the proofs ask of the lines of a well-formed log to Sound and Complete.
use Rattle.std.specs.Prelude.{ℕ, ◌-◌, ◌≤◌, ◌<◌, ◌^◌, Bool, true, false, not, ◌&&◌, ◌≡◌, refl, ◌⊎◌, List, ltb, leb, eqb}
use Rattle.std.proofs.Math.Decide.{dec_lt}
use native.Mathlib.Omega.{arith}
use Rattle.std.proofs.Common.{sym, inl, inr, ltb-true, leb-true, eqb-true, eq-eqb}
use Rattle.std.specs.Cmp.{first_so, second_so}
use Rattle.std.proofs.lemmas.Bool.{and_from, or_cases}
use Rattle.protocol.specs.Tools.{within}
use Rattle.protocol.specs.Sizes.{clients}
use Rattle.protocol.specs.Entries.{count_of, writer_of, entry_fits}
use Rattle.protocol.specs.Clients.{WRITES, READS}
use Rattle.protocol.proofs.Laws.Tests.{clash, within_true, all_to_at}
use Rattle.judging.specs.declared.Logged.{Logged}
use Rattle.judging.specs.Decision.{stamp_rank}
use Rattle.judging.proofs.Sorted.{Sane, Fine}
use Rattle.judging.specs.Logs.{most_lines, lines_of, logged_of, line_bytes, line_at, plain, in_values, ends_later, counted, numbers_apart, one_stamp, stamps_apart, line_fits, apart_before, lines_fit, well_logged}

-- ---- what a well-formed log tells

not_both : (b : Bool) → not b ≡ true → b ≡ true → ⊥
not_both true e f = clash e refl
not_both false e f = clash f refl

line_sane : (b : List ℕ) → line_fits b ≡ true → Sane (logged_of b)
unfolding line_fits in_values ends_later counted entry_fits
line_sane b e = record { begin = low; kind = kinds; writer = writers; spans = spans; counted = count }
  where
    x : Logged
    x = logged_of b

    fields : (in_values x && (ends_later x && counted x)) ≡ true
    fields = second_so (plain b) _ e

    values : in_values x ≡ true
    values = first_so _ _ fields

    rest : (leb x.end 65535 && (within WRITES READS x.kind && entry_fits x.entry)) ≡ true
    rest = second_so (within 1 65535 x.begin) _ values

    more : (within WRITES READS x.kind && entry_fits x.entry) ≡ true
    more = second_so (leb x.end 65535) _ rest

    low : x.begin < 2 ^ 16
    low = let p = within_true 1 65535 x.begin (first_so _ _ values) in omega arith

    kinds : (x.kind ≡ WRITES) ⊎ (x.kind ≡ READS)
    kinds = go (within_true WRITES READS x.kind (first_so _ _ more)) (dec_lt x.kind READS)
      where
        go : (WRITES ≤ x.kind) × (x.kind ≤ READS) → Dec (x.kind < READS) → (x.kind ≡ WRITES) ⊎ (x.kind ≡ READS)
        go p (yes q) = inl (omega arith)
        go p (no q) = inr (omega arith)

    writers : writer_of x.entry < 2 ^ 8
    writers =
        let p : writer_of x.entry ≤ clients = leb-true _ _ (first_so _ _ (second_so (ltb (count_of x.entry) (2 ^ 32)) _ (second_so (within WRITES READS x.kind) _ more))) in
        omega arith

    spans : 1 ≤ x.end → x.begin < x.end
    spans h = go (or_cases _ _ (first_so _ _ (second_so (in_values x) _ fields)))
      where
        go : (eqb x.end 0 ≡ true) ⊎ (ltb x.begin x.end ≡ true) → x.begin < x.end
        go (inl q) = let z : x.end ≡ 0 = eqb-true _ _ q in absurd (omega arith)
        go (inr q) = ltb-true _ _ q

    count : x.kind ≡ WRITES → 1 ≤ count_of x.entry
    count k = go (or_cases _ _ (second_so (ends_later x) _ (second_so (in_values x) _ fields)))
      where
        go : (not (eqb x.kind WRITES) ≡ true) ⊎ (ltb 0 (count_of x.entry) ≡ true) → 1 ≤ count_of x.entry
        go (inl q) = absurd (not_both (eqb x.kind WRITES) q (eq-eqb _ _ k))
        go (inr q) = ltb-true _ _ q

module _ (l : List ℕ) (w : well_logged l ≡ true) where
  tests : (i : ℕ) → 1 ≤ i → i ≤ lines_of l → (line_fits (line_bytes l i) && apart_before l i) ≡ true
  unfolding well_logged lines_fit
  tests i a b = all_to_at (λ i. line_fits (line_bytes l i) && apart_before l i) (lines_of l) i (second_so (leb (lines_of l) most_lines) _ w) a b

  sane : (i : ℕ) → 1 ≤ i → i ≤ lines_of l → Sane (line_at l i)
  unfolding line_at
  sane i a b = line_sane (line_bytes l i) (first_so _ _ (tests i a b))

  apart : (i j : ℕ) → 1 ≤ j → j < i → i ≤ lines_of l → (numbers_apart (line_at l j) (line_at l i) && stamps_apart (line_at l j) (line_at l i)) ≡ true
  unfolding apart_before
  apart i j a b c =
      all_to_at (λ j. numbers_apart (line_at l j) (line_at l i) && stamps_apart (line_at l j) (line_at l i)) (i - 1) j (second_so (line_fits (line_bytes l i)) _ (tests i (omega arith) c)) a
      (omega arith)

  one_begin : (i j : ℕ) → 1 ≤ j → j < i → i ≤ lines_of l → (line_at l j).begin ≡ (line_at l i).begin → ⊥
  unfolding numbers_apart
  one_begin i j a b c e = not_both (eqb (line_at l j).begin (line_at l i).begin) (first_so _ _ (first_so _ _ (apart i j a b c))) (eq-eqb _ _ e)

  one_stamp_lem : (i j : ℕ) → 1 ≤ j → j < i → i ≤ lines_of l → (line_at l i).kind ≡ WRITES → (line_at l j).kind ≡ WRITES
      → stamp_rank (line_at l i).entry ≡ stamp_rank (line_at l j).entry → ⊥
  unfolding stamps_apart stamp_rank
  one_stamp_lem i j a b c p q e =
      let u = (sane i (omega arith) c).writer in
      let v = (sane j a (omega arith)).writer in
      let count : count_of (line_at l j).entry ≡ count_of (line_at l i).entry = omega arith in
      let writer : writer_of (line_at l j).entry ≡ writer_of (line_at l i).entry = omega arith in
      not_both
      (eqb (line_at l j).kind WRITES && (eqb (line_at l i).kind WRITES && one_stamp (line_at l j).entry (line_at l i).entry))
      (second_so (numbers_apart (line_at l j) (line_at l i)) _ (apart i j a b c))
      (and_from _ _ (eq-eqb _ _ q) (and_from _ _ (eq-eqb _ _ p) (and_from _ _ (eq-eqb _ _ count) (eq-eqb _ _ writer))))

  pub logged_fine : Fine (line_at l) (lines_of l)
  logged_fine = record { sane = sane; begins = begins; stamps = stamps }
    where
      begins : (i j : ℕ) → 1 ≤ i → i ≤ lines_of l → 1 ≤ j → j ≤ lines_of l → (line_at l i).begin ≡ (line_at l j).begin → i ≡ j
      begins i j a b c d e = go (dec_lt i j) (dec_lt j i)
        where
          go : Dec (i < j) → Dec (j < i) → i ≡ j
          go (yes p) q = absurd (one_begin j i a p d e)
          go (no p) (yes q) = absurd (one_begin i j c q b (sym e))
          go (no p) (no q) = omega arith

      stamps : (i j : ℕ) → 1 ≤ i → i ≤ lines_of l → 1 ≤ j → j ≤ lines_of l → (line_at l i).kind ≡ WRITES → (line_at l j).kind ≡ WRITES
          → stamp_rank (line_at l i).entry ≡ stamp_rank (line_at l j).entry → i ≡ j
      stamps i j a b c d p q e = go (dec_lt i j) (dec_lt j i)
        where
          go : Dec (i < j) → Dec (j < i) → i ≡ j
          go (yes r) t = absurd (one_stamp_lem j i a r d q p (sym e))
          go (no r) (yes t) = absurd (one_stamp_lem i j c t b p q e)
          go (no r) (no t) = omega arith
