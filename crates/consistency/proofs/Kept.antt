-- Readable images stay readable, on bytes: the fresh image (`fresh_readable`), what an accepted step leaves (`step_readable`), and
-- what any step (`left_readable`) leaves of a readable image. `began`: the world that a fresh image spells. Assumes nothing.
use Rattle.std.specs.Prelude.{ℕ, Bool, true, false, ◌≡◌, refl, List, [], ◌∷◌, length, eqb}
use Rattle.std.proofs.Common.{arith}
use Rattle.protocol.specs.Tools.{Result, refused, done, guard, passed}
use Rattle.protocol.specs.Worlds.{World, fresh}
use Rattle.protocol.specs.Steps.{After}
use Rattle.protocol.proofs.Laws.Refusals.{among_ranged, fresh_refuses}
use Rattle.codec.specs.Layout.{image_size}
use Rattle.readable.specs.Readable.{readable}
use Rattle.image.specs.Fresh.{outcome, fresh_on}
use Rattle.image.specs.Steps.{step_on, left_by}
use Rattle.image.specs.Worlds.{Spells, spells_readable, exactly_one}
use Rattle.preservation.proofs.Begun.{fresh_kept}
use Rattle.consistency.proofs.Worlds.{left_spelled}

-- what a fresh image that is not refused spells
pub record Fresh (members f r : ℕ) (i : List ℕ) : Type 0 where
  pub world : World
  pub from : fresh members f r ≡ done world
  pub spells : Spells i world

pub began : (buffer : List ℕ) (members f r : ℕ) → (fresh_on buffer members f r).refusal ≡ 0 → Fresh members f r (fresh_on buffer members f r).image
unfolding fresh_on guard
began buffer members f r e = go (eqb (length buffer) image_size) (fresh members f r) refl e
  where
    go : (b : Bool) (x : Result World) → fresh members f r ≡ x → (outcome buffer (guard b 1 x)).refusal ≡ 0 → Fresh members f r (outcome buffer (guard b 1 x)).image
    go true (done w) q e = record { world = w; from = q; spells = record { is = refl; formed = fresh_kept members f r w q } }
    go true (refused n) q e = absurd (let (l, u) = among_ranged 8 8 (8 ∷ []) n refl ((fresh_refuses members f r).numbers n q) in omega arith)
    go false x q e = absurd (omega arith)

pub fresh_readable : (buffer : List ℕ) (members f r : ℕ) → (fresh_on buffer members f r).refusal ≡ 0 → readable (fresh_on buffer members f r).image ≡ true
fresh_readable buffer members f r e = spells_readable (began buffer members f r e).spells

-- a step, accepted or not, leaves a readable image readable
pub left_readable : (i b : List ℕ) → readable i ≡ true → readable (left_by i (step_on i b)) ≡ true
left_readable i b h = spells_readable (left_spelled (exactly_one i h).0 b)

-- whatever the image: an accepted step leaves a readable one
pub step_readable : (i b : List ℕ) (a : After) → step_on i b ≡ done a → readable (left_by i (step_on i b)) ≡ true
unfolding step_on
step_readable i b a e =
    let (p, f) = passed _ _ _ _ e in
    let (q, g) = passed _ _ _ _ f in
    left_readable i b q
