-- The record of a phase along the steps of a world, in words: worlds of which it is the same, `SameSent`; and an answer that leaves its phase
-- open, `StaysOpen`. The laws are in proofs/Along. No code rests on it.
use Rattle.std.specs.Prelude.{ℕ, ◌≡◌, None}
use mathlib.Core.List.{List}
use Rattle.protocol.specs.Tools.{done}
use Rattle.protocol.specs.Worlds.{World, message}
use Rattle.protocol.specs.Chains.{chain}
use Rattle.protocol.specs.Steps.{moved, link, take}
use Rattle.protocol.proofs.Laws.Worlds.{sent}
use Rattle.phases.specs.Calls.{answer_on}
use Rattle.phases.specs.Same.{record_of, asked_of}

-- ---- the record asks only for what was sent

-- the worlds w and v have the same messages, but for their marks and links
pub record SameSent (w v : World) : Type 0 where
  pub each : (i : ℕ) → sent v i ≡ sent w i

-- the step leaves the phase open, and the record is then that of the world after it
pub record StaysOpen (w : World) (k : ℕ) (e : List ℕ) : Type 0 where
  pub step : take w k ≡ moved (link w k)
  pub told : answer_on (record_of w (message w k).request.0 (chain w (message w k).request.0)) (asked_of w k) e
      ≡ done (record { phase = record_of (link w k) (message w k).request.0 (chain (link w k) (message w k).request.0); choice = None })
