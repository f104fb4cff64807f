-- What the check does not find alone.
use Prim.Native.Nat.{◌+◌, ◌-◌, ◌≤◌}
use Rattle.codec.specs.Images.{decode}
use Rattle.readable.specs.Walks.{Counted}
use Rattle.readable.proofs.sent.Opened.chains_fit.Given as goal

abbrev pub invariant-loop-n : goal.invariant-loop-n
invariant-loop-n l = (l.n ≤ l.n-end + 1) × Counted (decode l.self.image.now) (l.n - 1) l.sum l.taken
