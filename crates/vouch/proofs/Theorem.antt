-- The first choice yields a given write: `yields`. Lying and having taken the write are any sets of servers, of which neither the
-- definitions nor the code know anything.
use Prim.Native.Nat.{ℕ, zero, suc, ◌-◌, ◌≤◌, ◌<◌}
use native.Mathlib.Omega.{arith}
use Rattle.std.specs.Prelude.{Bool, true, not, ◌&&◌, ◌≡◌, refl, ◌⊎◌, List, leb, Option, None, Some, ◌*◌, ◌+◌}
use Rattle.std.proofs.Math.Bool.{false}
use Rattle.std.proofs.Math.Path.{ap}
use Rattle.std.proofs.Common.{◌∙◌}
use Rattle.std.proofs.Math.Logic.{inl, inr}
use Rattle.std.proofs.Math.Dec.{eqb}
use Rattle.std.specs.Cmp.{first_so, second_so}
use Rattle.std.proofs.lemmas.Bool.{and_from, cases_Bool}
use borrow.Author.Tests.{leb-true, le-leb, eqb-true, eq-eqb, not-true}
use Rattle.protocol.specs.declared.Entry.{Entry}
use Rattle.protocol.specs.Tools.{count_to, all_to, done, guard, some_to}
use Rattle.protocol.specs.Sizes.{servers}
use Rattle.protocol.specs.Entries.{below, same}
use Rattle.protocol.proofs.Laws.Tests.{all_to_at, within_true, clash, some_passing, passing_some}
use Rattle.protocol.proofs.Laws.Counts.{count_mono, Beyond, beyond}
use Rattle.protocol.proofs.Laws.Entries.{same_is, same_refl}
use Rattle.vouch.specs.Answers.{answer_count, answerer, entry_shown, shows_by, shows, showing}
use Rattle.vouch.specs.Choices.{support, vouchers, candidate, first_choice}
use Rattle.vouch.specs.Checks.{values_fit, not_before, answer_fits, sizes_fit, masking_quorum, list_fits, lengths_fit, vouch_on, answers_fit}
use Rattle.vouch.proofs.Counting.{shared, count_wider, count_within, one_more, some_none}
use Rattle.vouch.proofs.Best.{below_outranks, Best, best_some, best_none}
use Rattle.vouch.specs.Theorem.{Premises}

-- "n under 4b+1": a list that fits has a server
-- No proof cites it; it stands for who reads the definitions.
pub some_server : (l : List ℕ) (n b : ℕ) → list_fits l n b ≡ true → 1 ≤ n
unfolding list_fits
some_server l n b e =
    let s = first_so (sizes_fit n b) _ (second_so (answers_fit l n) _ e) in
    omega (arith, leb-true (4 * b + 1) n (second_so (leb n servers) _ s))

-- what the checks let through
record Sound (l : List ℕ) (n b : ℕ) : Type 0 where
  values : (k : ℕ) → 1 ≤ k → k ≤ answer_count l → answer_fits l n k ≡ true
  most : n ≤ servers
  enough : masking_quorum n b ≤ answer_count l

sound : (l : List ℕ) (n b : ℕ) → list_fits l n b ≡ true → Sound l n b
unfolding list_fits
sound l n b e =
    let r = second_so (all_to (answer_fits l n) (answer_count l)) _ e in
    record {
      values = λ k. all_to_at (answer_fits l n) (answer_count l) k (first_so _ _ e);
      most = leb-true _ _ (first_so (leb n servers) _ (first_so (sizes_fit n b) _ r));
      enough = leb-true _ _ (second_so (sizes_fit n b) _ r);
    }

-- the servers of the first m answers
abbrev answering : List ℕ → ℕ → ℕ → Bool
answering l m s = some_to (λ k. eqb (answerer l k) s) m

module _ (l : List ℕ) (n b : ℕ) (h : Sound l n b) where
  in_range : (k : ℕ) → 1 ≤ k → k ≤ answer_count l → (1 ≤ answerer l k) × (answerer l k ≤ n)
  unfolding answer_fits
  in_range k i j = within_true 1 n _ (second_so (not_before l k) _ (second_so (values_fit l k) _ (h.values k i j)))

  new : (m : ℕ) → suc m ≤ answer_count l → answering l m (answerer l (suc m)) ≡ false
  unfolding answer_fits not_before
  new m j =
      let p : suc m - 1 ≡ m = omega arith in
      some_none (λ i. eqb (answerer l i) (answerer l (suc m))) m
      (rw p at (first_so (not_before l (suc m)) _ (second_so (values_fit l (suc m)) _ (h.values (suc m) (omega arith) j))))

  -- m answers are of m servers
  as_many : (m : ℕ) → m ≤ answer_count l → m ≤ count_to (answering l m) n
  unfolding some_to
  as_many zero j = omega arith
  as_many (suc m) j =
      let r = in_range (suc m) (omega arith) j in
      omega (arith, as_many m (omega arith), one_more (answering l m) (answerer l (suc m)) n r.0 r.1 (new m j))

  -- no server over n shows anything
  outside : (p : Entry → Bool) (s : ℕ) → n < s → shows p l s ≡ false
  unfolding shows
  outside p s o = go (cases_Bool (shows p l s))
    where
      go : (shows p l s ≡ true) ⊎ (shows p l s ≡ false) → shows p l s ≡ false
      go (inl t) =
          let f = some_passing (shows_by p l s) (answer_count l) t in
          let e : answerer l f.at ≡ s = eqb-true _ _ (first_so _ _ f.test) in
          absurd (omega (arith, in_range f.at f.low f.high))
      go (inr t) = t

module _ (lying took : ℕ → Bool) (l : List ℕ) (n b : ℕ) (write : Entry) (h : Sound l n b) (p : Premises lying took l n b write) where
  -- the truthful ones of those that took the write and answered: at least b+1 servers
  abbrev witness : ℕ → Bool
  witness s = (answering l (answer_count l) s && took s) && not (lying s)

  enough_witnesses : vouchers b ≤ count_to witness n
  enough_witnesses =
      omega (arith, shared (answering l (answer_count l)) took lying n, as_many l n b h (answer_count l) (omega arith), h.enough, p.few, p.held)

  -- an answer with the write
  record Shown (s : ℕ) : Type 0 where
    at : ℕ
    low : 1 ≤ at
    high : at ≤ answer_count l
    by : answerer l at ≡ s
    is : entry_shown l at ≡ write

  witness_shows : (s : ℕ) → witness s ≡ true → Shown s
  witness_shows s t =
      let a = first_so (answering l (answer_count l) s && took s) _ t in
      let truthful : lying s ≡ false = not-true _ (second_so (answering l (answer_count l) s && took s) _ t) in
      let f = some_passing (λ k. eqb (answerer l k) s) (answer_count l) (first_so _ _ a) in
      let e : answerer l f.at ≡ s = eqb-true _ _ f.test in
      record {
        at = f.at;
        low = f.low;
        high = f.high;
        by = e;
        is = p.still f.at f.low f.high (ap lying e ∙ truthful) (ap took e ∙ second_so (answering l (answer_count l) s) _ a);
      }

  shows_write : (s : ℕ) → witness s ≡ true → shows (same write) l s ≡ true
  unfolding shows
  shows_write s t =
      let f = witness_shows s t in
      passing_some (shows_by (same write) l s) (answer_count l) f.at f.low f.high
      (and_from _ _ (eq-eqb _ _ f.by) (rw f.is (same_refl write)))

  -- the write is a candidate
  supported : candidate l (vouchers b) write ≡ true
  unfolding showing
  supported =
      le-leb (vouchers b) (support l write)
      (omega (arith, enough_witnesses, count_mono witness (shows (same write) l) n (λ s _ _. shows_write s), count_wider (shows (same write) l) n servers h.most))

  -- a candidate is the write, or its stamp is smaller: one truthful server shows it
  honest : (e : Entry) → candidate l (vouchers b) e ≡ true → Beyond (shows (same e) l) lying
  unfolding showing
  honest e c =
      beyond (shows (same e) l) lying n
      (omega (arith, leb-true (vouchers b) (support l e) c, p.few, count_within (shows (same e) l) n servers h.most (outside l n b h (same e))))

  contender : (e : Entry) → candidate l (vouchers b) e ≡ true → (e ≡ write) ⊎ (below e write ≡ true)
  unfolding shows
  contender e c =
      let s = honest e c in
      let f = some_passing (shows_by (same e) l s.at) (answer_count l) s.has in
      let this : e ≡ entry_shown l f.at = same_is _ _ (second_so (eqb (answerer l f.at) s.at) _ f.test) in
      let true_one : lying (answerer l f.at) ≡ false = ap lying (eqb-true _ _ (first_so _ _ f.test)) ∙ s.lacks in
      go this (p.newest f.at f.low f.high true_one) (cases_Bool (same e write))
    where
      go : {x : Entry} → e ≡ x → ((x ≡ write → ⊥) → below x write ≡ true) → (same e write ≡ true) ⊎ (same e write ≡ false)
          → (e ≡ write) ⊎ (below e write ≡ true)
      go i f (inl t) = inl (same_is _ _ t)
      go i f (inr t) = inr (rw i (f (λ q. clash (rw (i ∙ q) (same_refl write)) t)))

  -- so the best candidate is the write
  chosen_write : first_choice l b ≡ Some write
  chosen_write = go (first_choice l b) refl
    where
      s : Beyond witness lying
      s = beyond witness lying n (omega (arith, enough_witnesses, p.few))

      w : Shown s.at
      w = witness_shows s.at s.has

      shown_candidate : candidate l (vouchers b) (entry_shown l w.at) ≡ true
      shown_candidate = rw w.is supported

      pick : (e : Entry) → Best (candidate l (vouchers b)) l (answer_count l) e → (e ≡ write) ⊎ (below e write ≡ true) → e ≡ write
      pick e t (inl q) = q
      pick e t (inr q) = clash (rw w.is (below_outranks write e q)) (t.top w.at w.low w.high shown_candidate)

      go : (r : Option Entry) → first_choice l b ≡ r → first_choice l b ≡ Some write
      go None e = clash shown_candidate (best_none (candidate l (vouchers b)) l (answer_count l) e w.at w.low w.high)
      go (Some x) e =
          let t = best_some (candidate l (vouchers b)) l (answer_count l) x e in
          e ∙ ap Some (pick x t (contender x t.qualifies))

-- "The first choice yields a given write if ..": for all byte strings that the checks 1 and 14 let through
pub yields : (lying took : ℕ → Bool) (l : List ℕ) (n b : ℕ) (room : List ℕ) (write : Entry) → lengths_fit l room ≡ true → list_fits l n b ≡ true
    → Premises lying took l n b write → vouch_on l n b room ≡ done write
unfolding vouch_on guard
yields lying took l n b room write e f p = rw (e, f, chosen_write lying took l n b write (sound l n b f) p) refl
