-- What the check does not find alone.
use Rattle.std.proofs.Common.{◌≡◌, ◌-◌, Bool}
use Rattle.protocol.specs.declared.Entry.{Entry}
use Rattle.vouch.specs.Seen.{seen_to}
use Rattle.vouch.proofs.support.showing.Given as goal

abbrev pub invariant-loop-k : goal.invariant-loop-k
invariant-loop-k g l = (p : Entry → Bool) → ((e : Entry) (r : Bool) → goal.F-post g l.test e r → r ≡ p e) → l.seen.0 ≡ seen_to p l.answers (l.k - 1)
