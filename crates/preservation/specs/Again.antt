-- Answers taken again. Used by Cut alone. Assumes nothing.
use Rattle.std.specs.Prelude.{ℕ, List, [], ◌∷◌}
use Rattle.protocol.specs.Tools.{Result, then}
use Rattle.protocol.specs.Worlds.{World}
use Rattle.protocol.specs.Steps.{After, moved, take}

-- the answers ks, from the newest to the oldest, taken with no other step between, the oldest first
unfoldable pub retaken : World → List ℕ → Result After
retaken w [] = moved w
retaken w (k ∷ ks) = then (retaken w ks) (λ a. take a.world k)
