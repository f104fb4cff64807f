-- While END is open, its taken answers with the newest view come from fewer servers than close it. Assumes nothing.
use Rattle.std.specs.Prelude.{◌≡◌, Some}
use Rattle.std.proofs.Math.Bool.{false}
use Rattle.protocol.specs.declared.MessageNumber.{MessageNumber}
use Rattle.protocol.specs.Sizes.{write_size}
use Rattle.protocol.specs.Worlds.{World, view, newest}
use Rattle.protocol.specs.Chains.{chain, enough}

pub record Unclosed (w : World) : Type 0 where
  pub few : (r : MessageNumber) → w.administrator.ending ≡ Some r → enough w (newest w) (chain w r.0) (write_size (view w (newest w))) ≡ false
