-- The laws of the two sizes of a view (`sizes`: all that the proofs use of them, for every permitted r; `covered`: where a read may end
-- in one exchange), document 01's marked sizes, and the permitted read sizes of four views. Assumes nothing.
use Rattle.std.specs.Prelude.{ℕ, zero, suc, ◌+◌, ◌*◌, ◌-◌, ◌≤◌, Bool, true, false, ◌&&◌, ◌||◌, ◌≡◌, refl, List, [], ◌∷◌, ◌++◌, map, ltb, leb, eqb}
use Rattle.std.proofs.Common.{arith, leb-true}
use Rattle.std.specs.Cmp.{first_so, second_so}
use Rattle.protocol.specs.Types.{View}
use Rattle.protocol.specs.Tools.{if, Result, refused, done, guard}
use Rattle.protocol.specs.Sizes.{size_rule, quorum, read_of, write_of, Both, quorum_size, size, sized, read_size, write_size, one_exchange}

-- a size of document 01's list: n, f
pub record Pair : Type 0 where
  pub n : ℕ
  pub f : ℕ

abbrev pub at : ℕ → ℕ → Pair
at n f = record { n = n; f = f }

abbrev both : ℕ → ℕ → Both
both reads writes = record { reads = reads; writes = writes }

abbrev alike : ℕ → Result Both
alike q = done (both q q)

-- "(1,0) 1; (2,0) 2; (3,0) 2; (4,1) 3; (5,1) 4; (6,1) 4; (7,2) 5; (10,3) 7; (32,10) 22; refused (0,0), (3,1), (32,11)", for r 0
pub marked : map (λ (p : Pair). quorum_size p.n p.f 0) (at 1 0 ∷ at 2 0 ∷ at 3 0 ∷ at 4 1 ∷ at 5 1 ∷ at 6 1 ∷ at 7 2 ∷ at 10 3 ∷ at 32 10 ∷ at 0 0 ∷ at 3 1 ∷ at 32 11 ∷ [])
    ≡ (alike 1 ∷ alike 2 ∷ alike 2 ∷ alike 3 ∷ alike 4 ∷ alike 4 ∷ alike 5 ∷ alike 7 ∷ alike 22 ∷ refused 8 ∷ refused 8 ∷ refused 8 ∷ [])
unfolding quorum_size quorum guard
marked = refl

-- a permitted read size other than 0, with both sizes
pub record Permitted : Type 0 where
  pub r : ℕ
  pub sizes : Both

abbrev with_sizes : ℕ → Result Both → List Permitted
with_sizes r (refused k) = []
with_sizes r (done b) = record { r = r; sizes = b } ∷ []

-- those of n and f from 1 to a number
unfoldable pub permitted_to : ℕ → ℕ → ℕ → List Permitted
permitted_to n f zero = []
permitted_to n f (suc r) = permitted_to n f r ++ with_sizes (suc r) (quorum_size n f (suc r))

abbrev closes_with_lem : ℕ → ℕ → ℕ → Permitted
closes_with_lem r reads writes = record { r = r; sizes = both reads writes }

-- of every u8, those permitted to (4,1), (7,2), (10,1) and (32,10); docs/SIZES.md works them out by hand
pub permitted : map (λ (p : Pair). permitted_to p.n p.f 255) (at 4 1 ∷ at 7 2 ∷ at 10 1 ∷ at 32 10 ∷ [])
    ≡ ((closes_with_lem 3 3 3 ∷ [])
    ∷ (closes_with_lem 5 5 5 ∷ [])
    ∷ (closes_with_lem 3 3 9 ∷ closes_with_lem 4 4 8 ∷ closes_with_lem 5 5 7 ∷ closes_with_lem 6 6 6 ∷ [])
    ∷ (closes_with_lem 21 21 22 ∷ [])
    ∷ [])
unfolding permitted_to quorum_size quorum guard
permitted = refl

-- a quorum is at least 2f+1 and at most n
pub quorum_bounds : (n f : ℕ) → 3 * f + 1 ≤ n → (2 * f + 1 ≤ quorum n f) × (quorum n f ≤ n)
unfolding quorum
quorum_bounds n f h = omega arith

-- where a read may end in one exchange, its answers are as many as close WRITE
pub covered : (v : View) → one_exchange v ≡ true → write_size v ≤ read_size v
unfolding one_exchange
covered v e = leb-true _ _ e

-- what every permitted r means for both sizes: they share n+f+1 answers, reads have no more than writes and more than 2f, and f servers
-- that are silent stop neither
pub record Sized (n f reads writes : ℕ) : Type 0 where
  pub meet : n + f + 1 ≤ reads + writes
  pub order : reads ≤ writes
  pub low : 2 * f + 1 ≤ reads
  pub high : writes + f ≤ n

-- by cases on 0 alone
pub two_sizes : (n f r : ℕ) → size_rule n f r ≡ true → Sized n f (read_of n f r) (write_of n f r)
unfolding quorum
two_sizes n f r e = go (eqb r 0) (second_so (leb (3 * f + 1) n) _ (second_so (leb 1 n) _ e))
  where
    enough : 3 * f + 1 ≤ n
    enough = leb-true _ _ (first_so _ _ (second_so (leb 1 n) _ e))

    go : (b : Bool) → (b || (leb (2 * f + 1) r && leb (2 * r) (n + f + 1))) ≡ true → Sized n f (if b (quorum n f) r) (if b (quorum n f) (n + f + 1 - r))
    go true p = let h = enough in record { meet = omega arith; order = omega arith; low = omega arith; high = omega arith }
    go false p =
        let h = enough in
        let a : 2 * f + 1 ≤ r = leb-true _ _ (first_so _ _ p) in
        let b : 2 * r ≤ n + f + 1 = leb-true _ _ (second_so (leb (2 * f + 1) r) _ p) in
        record { meet = omega arith; order = omega arith; low = a; high = omega arith }

-- what the sizes of a view that obeys the rule promise: with `covered` all that the proofs use of them, and that f silent servers stop
-- nobody
pub record Sizes (v : View) : Type 0 where
  pub meet : size v + v.f + 1 ≤ read_size v + write_size v
  pub twice : size v + v.f + 1 ≤ write_size v + write_size v
  pub read_one : v.f + 1 ≤ read_size v
  pub write_one : v.f + 1 ≤ write_size v
  pub spared : write_size v + v.f ≤ size v

pub sizes : (v : View) → sized v ≡ true → Sizes v
unfolding sized read_size write_size
sizes v e =
    let s : Sized (size v) v.f (read_size v) (write_size v) = two_sizes (size v) v.f v.r (second_so (ltb v.members.0 4294967296) _ e) in
    let m = s.meet in
    let o = s.order in
    let l = s.low in
    let h = s.high in
    record { meet = m; twice = omega arith; read_one = omega arith; write_one = omega arith; spared = h }
