-- What a field takes is in its range: `drawn_fits`, `drawn_high`. A used value is the draw itself: `value_is_draw`. Used by Passes. Assumes
-- nothing.
use Rattle.std.specs.Prelude.{ℕ, ◌+◌, ◌*◌, ◌/◌, ◌%◌, ◌^◌, ◌≤◌, ◌<◌, Bool, ◌≡◌}
use Rattle.std.proofs.Common.{mod-lt, mod-eq_of_lt, add-zero, arith, ◌∙◌, le-leb}
use Rattle.std.proofs.Math.Bool.{true, false}
use Rattle.std.proofs.Math.Path.{refl}
use Rattle.std.proofs.lemmas.Nat.{xor_lt}
use Rattle.protocol.specs.declared.Range.{Range}
use Rattle.protocol.specs.Steps.{field}
use Rattle.protocol.specs.Steps.{value_range}
use Rattle.loads.specs.Draws.{mixed_left, mixed_right, draw, size_of, drawn}

-- a remainder by the size of a range, plus the lowest, is in the range
module _ (r : Range) (d : ℕ) (h : r.low ≤ r.high) where
  pub remainder_low : d % size_of r < size_of r
  remainder_low = mod-lt d (omega arith)

  pub remainder_high : d % size_of r + r.low ≤ r.high
  remainder_high = omega (arith, remainder_low)

pub drawn_fits : (used : Bool) (r : Range) (state : ℕ) → r.low ≤ r.high → field used r (drawn used r state).value ≡ true
unfolding drawn
drawn_fits true r state h = rw (le-leb r.low (draw state % size_of r + r.low) (omega arith), le-leb _ r.high (remainder_high r (draw state) h)) refl
drawn_fits false r state h = refl

-- a draw is a u32, so "a value" of a used field is the draw itself
left_low : (k x : ℕ) → x < 2 ^ 32 → mixed_left k x < 2 ^ 32
left_low k x h = xor_lt 32 x (x * 2 ^ k % 2 ^ 32) h (mod-lt (x * 2 ^ k) (omega arith))

right_low : (x : ℕ) → x < 2 ^ 32 → mixed_right 17 x < 2 ^ 32
right_low x h = xor_lt 32 x (x / 2 ^ 17) h (omega arith)

pub draw_low : (state : ℕ) → state < 2 ^ 32 → draw state < 2 ^ 32
unfolding draw
draw_low state h = left_low 5 _ (right_low _ (left_low 13 state h))

pub value_is_draw : (state : ℕ) → state < 2 ^ 32 → (drawn true value_range state).value ≡ draw state
unfolding drawn
value_is_draw state h = add-zero _ ∙ mod-eq_of_lt (draw_low state h)

pub drawn_high : (used : Bool) (r : Range) (state : ℕ) → r.low ≤ r.high → (drawn used r state).value ≤ r.high
unfolding drawn
drawn_high true r state h = remainder_high r (draw state) h
drawn_high false r state h = omega arith
