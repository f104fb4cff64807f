-- Draws, and the step that they make: `draw`, `drawn`, `drawn_step`. Used by the code of `draws` and `steps`, by Load, and by proofs/. Assumes
-- nothing.
use Rattle.std.specs.Prelude.{ℕ, ◌+◌, ◌-◌, ◌*◌, ◌/◌, ◌%◌, ◌^◌, Bool, eqb}
use Rattle.std.proofs.Math.Bool.{true, false}
use Rattle.std.specs.Int.Bits.{bit_xor}
use Rattle.protocol.specs.declared.Range.{Range}
use Rattle.protocol.specs.declared.Step.{Step}
use Rattle.protocol.specs.Tools.{if}
use Rattle.protocol.specs.Clients.{number}
use Rattle.protocol.specs.Steps.{write_step, give_up_step, VIEW, F, MESSAGE, SOURCE, VALUE, row_of, in_row}
use Rattle.protocol.specs.Steps.{range, view_range, message_range, source_range, value_range, who_named, who_range}

-- a number and its bits moved, joined by exclusive or; a u32 loses the bits that leave it
abbrev pub mixed_left : ℕ → ℕ → ℕ
mixed_left k x = bit_xor x (x * 2 ^ k % 2 ^ 32)

abbrev pub mixed_right : ℕ → ℕ → ℕ
mixed_right k x = bit_xor x (x / 2 ^ k)

-- "Marsaglia's 32-bit xorshift with shifts 13 left, 17 right, 5 left, a draw being the state after them"
unfoldable pub draw : ℕ → ℕ
draw state = mixed_left 5 (mixed_right 17 (mixed_left 13 state))

-- "a seed of 0 stands for 1"
unfoldable pub start : ℕ → ℕ
start seed = if (eqb seed 0) 1 seed

-- what a field takes, and the state after it
pub record Drawn : Type 0 where
  pub value : ℕ
  pub state : ℕ

-- a drawn step, and the state after it
pub record DrawnStep : Type 0 where
  pub step : Step
  pub state : ℕ

abbrev pub size_of : Range → ℕ
size_of r = r.high + 1 - r.low

-- "Each used field takes one draw ...: its remainder by the size of the field's range plus the lowest value"; an unused one takes none
-- and "is zero"
unfoldable pub drawn : Bool → Range → ℕ → Drawn
drawn true r state = record { value = draw state % size_of r + r.low; state = draw state }
drawn false r state = record { value = 0; state = state }

-- "kind (1 to 8) first"; "A new view's f is the remainder by 4."
abbrev pub load_kinds : Range
load_kinds = range write_step give_up_step

abbrev pub load_thresholds : Range
load_thresholds = range 0 3

-- "in the step's order, kind (1 to 8) first": who, view, f, message, source and value; a new view's who is its read size, "where request
-- 2's load puts 0 without a draw"
unfoldable pub drawn_step : ℕ → DrawnStep
drawn_step state =
    let kind : Drawn = drawn true load_kinds state in
    let row : ℕ = row_of kind.value in
    let who : Drawn = drawn (who_named row) (who_range row) kind.state in
    let view : Drawn = drawn (in_row row VIEW) view_range who.state in
    let f : Drawn = drawn (in_row row F) load_thresholds view.state in
    let message : Drawn = drawn (in_row row MESSAGE) message_range f.state in
    let source : Drawn = drawn (in_row row SOURCE) source_range message.state in
    let value : Drawn = drawn (in_row row VALUE) value_range source.state in
    record {
      step =
          record {
            kind = kind.value;
            who = who.value;
            view = record { 0 = view.value };
            f = f.value;
            message = number message.value;
            source = number source.value;
            value = value.value;
          };
      state = value.state;
    }
