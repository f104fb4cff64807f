-- What holds of every result that is no refusal, by the form of a step. Assumes nothing.
use Rattle.std.specs.Prelude.{ℕ, Bool, ◌≡◌}
use Rattle.std.proofs.Common.{arith}
use Rattle.std.proofs.Math.Bool.{true, false}
use Rattle.std.proofs.Math.Path.{refl}
use Rattle.protocol.specs.Tools.{if, Result, refused, done, guard, then}
use Rattle.protocol.specs.Worlds.{World}
use Rattle.protocol.specs.Steps.{After, moved}
use Rattle.protocol.proofs.Laws.Moves.{is_done}

-- where x is done, P holds of what was done
pub record Yields (P : After → Type 0) (x : Result After) : Type 0 where
  pub told : (a : After) → x ≡ done a → P a

module _ {P : After → Type 0} where
  pub yields_no : (n : ℕ) → Yields P (refused n)
  yields_no n = record { told = λ a e. absurd (let z : ◌≡◌ {A = ℕ} 0 1 = cc in omega arith) }

  pub yields_done : (a : After) → P a → Yields P (done a)
  yields_done a p = record { told = λ b e. rw (is_done e) p }

  pub yields_guard : (b : Bool) (n : ℕ) (x : Result After) → (b ≡ true → Yields P x) → Yields P (guard b n x)
  unfolding guard
  yields_guard true n x f = f refl
  yields_guard false n x f = yields_no n

  pub yields_then : {A : Type 0} (x : Result A) (f : A → Result After) → ((a : A) → x ≡ done a → Yields P (f a)) → Yields P (then x f)
  yields_then (refused n) f g = yields_no n
  yields_then (done a) f g = g a refl

  pub yields_if : (b : Bool) (x y : Result After) → (b ≡ true → Yields P x) → (b ≡ false → Yields P y) → Yields P (if b x y)
  yields_if true x y f g = f refl
  yields_if false x y f g = g refl

  -- a step that completes nothing
  pub yields_moved : (w : World) → P (record { world = w; completed = 0 }) → Yields P (moved w)
  yields_moved w p = yields_done (record { world = w; completed = 0 }) p

  pub yields_room : (b : Bool) (w : World) → P (record { world = w; completed = 0 }) → Yields P (guard b 10 (moved w))
  yields_room b w p = yields_guard b 10 (moved w) (λ e. yields_moved w p)
