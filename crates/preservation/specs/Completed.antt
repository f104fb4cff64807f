-- Who completes an operation. Assumes nothing.
use Rattle.std.specs.Prelude.{ℕ, ◌≤◌}
use Rattle.protocol.specs.Sizes.{clients}

-- no client, or one of the sixteen
pub data Told : ℕ → Type 0 where
  nobody : Told 0
  who : {c : ℕ} → 1 ≤ c → c ≤ clients → Told c
