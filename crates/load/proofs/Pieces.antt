-- A piece of k steps is written behind the first of a load, of which left are left: all of it, `appended`, or its first m bytes, `cut`.
use Rattle.std.proofs.Common.{◌≡◌, ℕ, ◌+◌, ◌-◌, ◌≤◌, List, ◌++◌, Option, length, take, arith, sym, ap, ◌∙◌, subst}
use Rattle.std.proofs.lemmas.List.{take-append-le}
use Rattle.std.proofs.Math.Seq.{take-append-add}
use Rattle.std.proofs.KnownBytes.{Appends-trans}
use Rattle.std.specs.Io.KnownBytes.{Appends}
use Rattle.loads.specs.Load.{load_from, journal_split}

module _ (state steps left k : ℕ) (bs : List ℕ) (old mid new : Option (List ℕ)) (fits : left ≤ steps) (within : k ≤ left)
    (before : Appends old mid (load_from state (steps - left)).journal)
    (piece : bs ≡ (load_from (load_from state (steps - left)).state k).journal) where
  pub appended : Appends mid new bs → Appends old new (load_from state (steps - (left - k))).journal
  appended last =
      let e : steps - left + k ≡ steps - (left - k) = omega arith in
      subst (Appends old new)
      (ap (λ l. (load_from state (steps - left)).journal ++ l) piece ∙ sym (journal_split state (steps - left) k) ∙ ap (λ n. (load_from state n).journal) e)
      (Appends-trans old mid new _ bs before last)

  pub cut : (m : ℕ) → m ≤ length bs → Appends mid new (take m bs)
      → Appends old new (take (length (load_from state (steps - left)).journal + m) (load_from state steps).journal)
  cut m h last =
      let a = (load_from state (steps - left)).journal in
      let on = (load_from state (steps - left)).state in
      let rest = (load_from (load_from on k).state (left - k)).journal in
      let e : steps - left + (k + (left - k)) ≡ steps = omega arith in
      let whole : a ++ (bs ++ rest) ≡ (load_from state steps).journal =
      ap (λ l. a ++ l) (ap (λ l. l ++ rest) piece ∙ sym (journal_split on k (left - k)))
      ∙ sym (journal_split state (steps - left) (k + (left - k))) ∙ ap (λ n. (load_from state n).journal) e in
      subst (Appends old new)
      (ap (λ l. a ++ l) (sym (take-append-le m bs rest h)) ∙ sym (take-append-add a (bs ++ rest) m) ∙ ap (take (length a + m)) whole)
      (Appends-trans old mid new a (take m bs) before last)
