-- Parts of tests. Assumes nothing.
use Rattle.std.specs.Prelude.{◌≡◌, Bool, true, false}
use Rattle.protocol.specs.Tools.{if}

pub if_true : {A : Type 0} (b : Bool) (x y : A) → b ≡ true → if b x y ≡ x
if_true b x y e = rw e

pub if_false : {A : Type 0} (b : Bool) (x y : A) → b ≡ false → if b x y ≡ y
if_false b x y e = rw e
