-- What the check does not find alone.
use Rattle.std.proofs.Common.{◌≡◌, ◌-◌, Bool}
use Rattle.protocol.specs.declared.Entry.{Entry}
use Rattle.vouch.specs.Choices.{best_to}
use Rattle.vouch.proofs.choice.best.Given as goal

abbrev pub invariant-loop-k : goal.invariant-loop-k
invariant-loop-k g l = (q : Entry → Bool) → ((e : Entry) (r : Bool) → goal.F-post g l.qualifies e r → r ≡ q e) → l.chosen ≡ best_to q l.answers (l.k - 1)
