-- What is lent to `shorten`, where 1 does not refuse it: `Lent`. Used by proofs/Ends and proofs/Promise. Assumes nothing.
use Prim.Native.Nat.{ℕ, ◌/◌, ◌%◌, ◌≤◌}
use Rattle.std.specs.Prelude.{◌≡◌}
use mathlib.Core.List.{List}
use Rattle.std.proofs.Math.ListN.{length}
use Rattle.protocol.specs.Runs.{step_width}
use Rattle.codec.specs.Layout.{image_size}
use Rattle.shorten.specs.Journals.{most_steps}

-- ---- the whole operation

-- what "1" leaves to the rest
pub record Lent (i j s : List ℕ) : Type 0 where
  pub image : length i ≡ image_size
  pub journal : length j % step_width ≡ 0
  pub few : length j / step_width ≤ most_steps
  pub shorter : length s ≡ length j
