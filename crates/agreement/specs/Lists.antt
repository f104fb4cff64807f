-- Lists in which each element stands in a relation to all that follow. Assumes nothing.
use Rattle.std.specs.Prelude.{List, [], ◌∷◌}
use Rattle.protocol.specs.Consistent.{In}

-- each element stands in R to all that follow
pub data Rising {A : Type 0} (R : A → A → Type 0) : List A → Type 0 where
  empty : Rising R []
  next : {x : A} {l : List A} → ((y : A) → In y l → R x y) → Rising R l → Rising R (x ∷ l)
