-- What a fresh world is; proofs/Begun.antt proves it. Assumes nothing.
use Rattle.std.specs.Prelude.{true, ◌≡◌}
use Rattle.protocol.specs.declared.View.{View}
use Rattle.protocol.specs.Sizes.{sized}
use Rattle.protocol.specs.Worlds.{fresh_world}
use Rattle.protocol.proofs.Laws.Formed.{Formed}

-- The fresh world of a view that keeps the size rule is readable.
abbrev pub FreshFormed : Type 0
FreshFormed = (v : View) (z : sized v ≡ true) → Formed (fresh_world v)
