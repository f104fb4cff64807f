-- The bits gathered name as many servers as show an entry that passes, `seen_showing`. Used by the functions that count.
use Rattle.std.specs.Prelude.{ℕ, zero, suc, ◌≤◌, ◌<◌, Bool, true, false, ◌&&◌, ◌||◌, ◌≡◌, List, eqb}
use Rattle.std.proofs.Common.{arith, sym, ap, ◌∙◌}
use Rattle.std.proofs.Math.Bool.{and-true, and-false, or-false}
use Rattle.std.specs.Int.Bits.{bit_or}
use Rattle.protocol.specs.declared.Entry.{Entry}
use Rattle.protocol.specs.Tools.{if, count_to, holds, some_to}
use Rattle.protocol.specs.Sizes.{servers}
use Rattle.protocol.proofs.Laws.Bits.{holds_or, holds_none}
use Rattle.values.specs.Bits.{bit_in, bit_held, count_same}
use Rattle.vouch.specs.Answers.{answer_count, answerer, entry_shown, shows_by, shows, showing}
use Rattle.vouch.specs.Seen.{seen_with, seen_to}

held : (t : Bool) (seen a s : ℕ) → 0 < s → s ≤ servers → holds (if t (bit_or seen (bit_in a)) seen) s ≡ holds seen s || (eqb a s && t)
held true seen a s h k = holds_or seen (bit_in a) s ∙ ap (λ (b : Bool). holds seen s || b) (bit_held a s h k ∙ sym (and-true (eqb a s)))
held false seen a s h k = sym (ap (λ (b : Bool). holds seen s || b) (and-false (eqb a s)) ∙ or-false (holds seen s))

seen_shows : (p : Entry → Bool) (l : List ℕ) (k s : ℕ) → 0 < s → s ≤ servers → holds (seen_to p l k) s ≡ some_to (shows_by p l s) k
unfolding seen_to seen_with some_to
seen_shows p l zero s h i = holds_none s
seen_shows p l (suc k) s h i =
    held (p (entry_shown l (suc k))) (seen_to p l k) (answerer l (suc k)) s h i
    ∙ ap (λ (b : Bool). b || shows_by p l s (suc k)) (seen_shows p l k s h i)

-- as many servers are seen as show an entry that passes
pub seen_showing : {r seen : ℕ} (p : Entry → Bool) (l : List ℕ) (m k : ℕ) → r ≡ count_to (holds seen) servers → seen ≡ seen_to p l k → m ≡ answer_count l → k ≤ m
    → m ≤ k → r ≡ showing p l
unfolding showing shows
seen_showing {r} {seen} p l m k c g e i j =
    let q : k ≡ answer_count l = omega arith in
    c ∙ count_same (holds seen) (shows p l) servers (λ s h b. rw (g, q) (seen_shows p l (answer_count l) s h b))
