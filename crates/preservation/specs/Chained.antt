-- The clause of a request's chain. Assumes nothing.
use Rattle.std.specs.Prelude.{ℕ, suc, ◌≤◌, true, ◌≡◌, length, eqb}
use Rattle.protocol.specs.Tools.{any, all}
use Rattle.protocol.specs.Sizes.{messages}
use Rattle.protocol.specs.Worlds.{World, message}
use Rattle.protocol.specs.Chains.{follow, chain}
use Rattle.protocol.specs.Readable.{taken_answer, distinct}

-- "each chain holds only taken answers of its request, all of them, each one time", and it ends
pub record Chained (w : World) (r : ℕ) : Type 0 where
  pub ends : length (follow w (suc messages) (message w r).next.0) ≡ length (chain w r)
  pub only : all (taken_answer w r) (chain w r) ≡ true
  pub every : (k : ℕ) → 1 ≤ k → k ≤ w.used → taken_answer w r k ≡ true → any (eqb k) (chain w r) ≡ true
  pub once : distinct (chain w r) ≡ true
