-- A turn of the loop over the answers: of that for the best, `chosen`, and of that for the servers seen, `seen`.
use Rattle.std.proofs.Common.{◌≡◌, ℕ, ◌+◌, ◌-◌, ◌≤◌, zero, suc, Bool, true, false, List, Option, arith, ap, ◌∙◌}
use Rattle.std.specs.Int.Bits.{bit_or}
use Rattle.protocol.specs.declared.Entry.{Entry}
use Rattle.values.specs.Bits.{bit_in}
use Rattle.vouch.specs.Answers.{answerer, entry_shown}
use Rattle.vouch.specs.Choices.{better, best_with, best_to}
use Rattle.vouch.specs.Seen.{seen_with, seen_to}

module _ (p : Entry → Bool) (l : List ℕ) where
  pub chosen : (k : ℕ) (x y : Option Entry) → 1 ≤ k → x ≡ best_to p l (k - 1) → y ≡ best_with p l k x → y ≡ best_to p l (k + 1 - 1)
  unfolding best_to
  chosen zero x y h e f = absurd (omega arith)
  chosen (suc k) x y h e f =
      let a : suc k - 1 ≡ k = omega arith in
      let b : suc k + 1 - 1 ≡ suc k = omega arith in
      rw b (f ∙ ap (best_with p l (suc k)) (e ∙ ap (best_to p l) a))

  pub seen : (k x y : ℕ) → 1 ≤ k → x ≡ seen_to p l (k - 1) → y ≡ seen_with p l k x → y ≡ seen_to p l (k + 1 - 1)
  unfolding seen_to
  seen zero x y h e f = absurd (omega arith)
  seen (suc k) x y h e f =
      let a : suc k - 1 ≡ k = omega arith in
      let b : suc k + 1 - 1 ≡ suc k = omega arith in
      rw b (f ∙ ap (seen_with p l (suc k)) (e ∙ ap (seen_to p l) a))

  module _ (k : ℕ) (e : Entry) (s : e ≡ entry_shown l k) (r : Bool) (t : r ≡ p e) where
    pub taken : (x y : Option Entry) → r ≡ true → y ≡ better x e → y ≡ best_with p l k x
    taken x y h g = rw (← s, ← t, h) g

    pub left : (x y : Option Entry) → r ≡ false → y ≡ x → y ≡ best_with p l k x
    left x y h g = rw (← s, ← t, h) g

    pub added : (x y a : ℕ) → r ≡ true → a ≡ answerer l k → y ≡ bit_or x (bit_in a) → y ≡ seen_with p l k x
    unfolding seen_with
    added x y a h b g = rw (← s, ← t, h, ← b) g

    pub skipped : (x y : ℕ) → r ≡ false → y ≡ x → y ≡ seen_with p l k x
    unfolding seen_with
    skipped x y h g = rw (← s, ← t, h) g
