-- What the check does not find alone.
use mathlib.Core.Path.{refl}
use native.Mathlib.Omega.{arith}
use Rattle.codec.specs.Lists.{wrote_none, wrote}
use Rattle.codec.specs.Records.{entry_bytes}
use Rattle.codec.proofs.records.write_entry.Goals as goal

pub returns : goal.returns
unfolding entry_bytes
returns c =
    let a = c.args in
    (wrote _ _ (wrote _ _ (wrote _ _ (wrote _ _ (wrote _ _ (wrote_none a.image.now a.at (omega arith))
    c.put32.ensures refl)
    c.put8.ensures refl)
    c.put_zeros.ensures refl) c.put32-2.ensures refl)
    c.put_zeros-2.ensures refl).all
