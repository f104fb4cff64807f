-- Which requests wait for answers, by a search over all phases. Assumes nothing.
use Rattle.std.specs.Prelude.{ℕ, ◌≤◌, ◌≡◌}
use Rattle.protocol.specs.Sizes.{clients}
use Rattle.protocol.specs.Clients.{request_of, end_of}
use Rattle.protocol.specs.Worlds.{World, client}

-- the request r is "that of an open phase", some client's, or "the END number"
pub data Waits (w : World) (r : ℕ) : Type 0 where
  phase : (c : ℕ) → 1 ≤ c → c ≤ clients → request_of (client w c).phase ≡ r → Waits w r
  end : end_of w.administrator.ending ≡ r → Waits w r
