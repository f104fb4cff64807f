-- What the check does not find alone.
use Rattle.std.proofs.Common.{arith, ◌≡◌, ℕ, ◌/◌, ◌%◌, refl}
use Rattle.loads.specs.Load.{spelled}
use Rattle.loads.proofs.journal.step_bytes.Goals as goal

third : (v : ℕ) → v / 65536 % 256 ≡ v / 256 / 256 % 256
third v = omega arith

fourth : (v : ℕ) → v / 16777216 % 256 ≡ v / 256 / 256 / 256 % 256
fourth v = omega arith

pub returns : goal.returns
unfolding spelled
returns c = rw (c.to_le_bytes.ensures, c.to_le_bytes-2.ensures, c.to_le_bytes-3.ensures) (rw (third c.args.st.value, fourth c.args.st.value) refl)
