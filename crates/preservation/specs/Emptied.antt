-- A request with its chain. Assumes nothing.
use Rattle.std.specs.Prelude.{ℕ}
use Rattle.protocol.specs.Worlds.{World}
use Rattle.preservation.specs.Chained.{Chained}
use Rattle.preservation.specs.Links.{Short}

-- the request r of w, with its chain
pub record Rooted (w : World) (r : ℕ) : Type 0 where
  pub short : Short w r
  pub chain : Chained w r
