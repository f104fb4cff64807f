-- Dropping the elements of a list one at a time, from the last to the first, where a test of the rest holds: `one_pass`; and
-- `passes`, again until a pass drops nothing. What they come to is in Minimal.antt, and how the loops of the code go on by them in
-- Trials.antt. Used by Journals.antt. Assumes nothing.
use Rattle.std.specs.Prelude.{ℕ, zero, suc, Bool, List, ◌++◌, length, take, drop, ltb}
use Rattle.protocol.specs.Tools.{if}

-- the list without its element at place i, counted from 0
unfoldable pub without : {A : Type 0} → List A → ℕ → List A
without l i = take i l ++ drop (suc i) l

-- "drop where the refusal remains": without the element at place i, if p holds of the rest
unfoldable pub dropped : {A : Type 0} → (List A → Bool) → List A → ℕ → List A
dropped p l i = if (p (without l i)) (without l i) l

-- "Go from last step to first": the places below n, the last of them first
unfoldable pub sweep : {A : Type 0} → (List A → Bool) → ℕ → List A → List A
sweep p zero l = l
sweep p (suc i) l = sweep p i (dropped p l i)

-- one pass over the whole list
abbrev pub one_pass : {A : Type 0} → (List A → Bool) → List A → List A
one_pass p l = sweep p (length l) l

-- "again until a pass drops nothing"; n passes at most
unfoldable pub passes : {A : Type 0} → (List A → Bool) → ℕ → List A → List A
passes p zero l = l
passes p (suc n) l = if (ltb (length (one_pass p l)) (length l)) (passes p n (one_pass p l)) (one_pass p l)
