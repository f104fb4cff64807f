-- A walk along links that ends meets no number twice. Assumes nothing.
use Rattle.std.specs.Prelude.{◌≡◌, refl, Bool, true, not, ◌⊎◌, List, [], ◌∷◌, ℕ, zero, suc, ◌≤◌, length, eqb}
use Rattle.std.proofs.Common.{ap, inl, inr, ⊎_elim, arith, eqb-true}
use Rattle.std.proofs.lemmas.Bool.{and_parts, and_from, or_cases}
use Rattle.protocol.specs.Tools.{any, all}
use Rattle.protocol.specs.Worlds.{World, message}
use Rattle.protocol.specs.Chains.{follow}
use Rattle.protocol.specs.Readable.{distinct}
use Rattle.protocol.proofs.Laws.Tests.{by_test, clash}

-- one more link allowed meets no more
pub record Ends (w : World) (left n : ℕ) : Type 0 where
  pub same : length (follow w (suc left) n) ≡ length (follow w left n)

abbrev next : World → ℕ → ℕ
next w n = (message w n).next.0

follow_zero : (w : World) (left : ℕ) → follow w left 0 ≡ []
unfolding follow
follow_zero w zero = refl
follow_zero w (suc left) = refl

pub length_follow : (w : World) (left n : ℕ) → length (follow w left n) ≤ left
unfolding follow
length_follow w zero n = omega arith
length_follow w (suc left) zero = omega arith
length_follow w (suc left) (suc n) = let ih = length_follow w left (next w (suc n)) in omega arith

stuck : {P : Type 0} (w : World) (n : ℕ) → Ends w 0 (suc n) → P
unfolding follow
stuck w n e = let q = e.same in absurd (omega arith)

onward : (w : World) (left n : ℕ) → Ends w (suc left) (suc n) → Ends w left (next w (suc n))
unfolding follow
onward w left n e = let q = e.same in record { same = omega arith }

-- a walk that ends goes no further with more links allowed
pub stable : (w : World) (left n more : ℕ) → Ends w left n → left ≤ more → follow w more n ≡ follow w left n
unfolding follow
stable w zero zero more e h = follow_zero w more
stable w zero (suc n) more e h = stuck w n e
stable w (suc left) zero more e h = follow_zero w more
stable w (suc left) (suc n) zero e h = absurd (omega arith)
stable w (suc left) (suc n) (suc more) e h = ap (λ (l : List ℕ). suc n ∷ l) (stable w left (next w (suc n)) more (onward w left n e) (omega arith))

-- from a number that is met the walk is no longer
shorter : (w : World) (left n more x : ℕ) → Ends w left n → left ≤ more → any (eqb x) (follow w left n) ≡ true
    → length (follow w more x) ≤ length (follow w left n)
unfolding follow any
shorter w zero zero more x e h i = clash i refl
shorter w (suc left) zero more x e h i = clash i refl
shorter w zero (suc n) more x e h i = stuck w n e
shorter w (suc left) (suc n) more x e h i =
    ⊎_elim
    (λ q. rw (eqb-true x (suc n) q) (let s = ap length (stable w (suc left) (suc n) more e h) in omega arith))
    (λ j. let ih = shorter w left (next w (suc n)) more x (onward w left n e) (omega arith) j in omega arith)
    (or_cases (eqb x (suc n)) (any (eqb x) (follow w left (next w (suc n)))) i)

-- "each one time"
pub once : (w : World) (left n : ℕ) → Ends w left n → distinct (follow w left n) ≡ true
unfolding follow distinct
once w zero n e = refl
once w (suc left) zero e = refl
once w (suc left) (suc n) e =
    let t = follow w left (next w (suc n)) in
    and_from _ _
    (by_test {P = not (any (eqb (suc n)) t) ≡ true} (any (eqb (suc n)) t)
    (λ i.
    let s = shorter w left (next w (suc n)) (suc left) (suc n) (onward w left n e) (omega arith) i in
    absurd (longer s))
    (λ i. rw i))
    (once w left (next w (suc n)) (onward w left n e))
  where
    longer : length (follow w (suc left) (suc n)) ≤ length (follow w left (next w (suc n))) → ⊥
    longer s = omega arith

-- the first number of a walk that ends is 0 or passes what all numbers met pass
pub first_met : (w : World) (p : ℕ → Bool) (left n : ℕ) → Ends w left n → all p (follow w left n) ≡ true → (n ≡ 0) ⊎ (p n ≡ true)
unfolding follow all
first_met w p left zero e a = inl refl
first_met w p zero (suc n) e a = stuck w n e
first_met w p (suc left) (suc n) e a = inr (and_parts (p (suc n)) (all p (follow w left (next w (suc n)))) a).0

-- and so is the number behind one that is met
pub next_met : (w : World) (p : ℕ → Bool) (left n x : ℕ) → Ends w left n → all p (follow w left n) ≡ true → any (eqb x) (follow w left n) ≡ true
    → (next w x ≡ 0) ⊎ (p (next w x) ≡ true)
unfolding follow all any
next_met w p zero zero x e a i = clash i refl
next_met w p (suc left) zero x e a i = clash i refl
next_met w p zero (suc n) x e a i = stuck w n e
next_met w p (suc left) (suc n) x e a i =
    let q = and_parts (p (suc n)) (all p (follow w left (next w (suc n)))) a in
    ⊎_elim
    (λ s. rw (eqb-true x (suc n) s) (first_met w p left (next w (suc n)) (onward w left n e) q.1))
    (λ j. next_met w p left (next w (suc n)) x (onward w left n e) q.1 j)
    (or_cases (eqb x (suc n)) (any (eqb x) (follow w left (next w (suc n)))) i)
