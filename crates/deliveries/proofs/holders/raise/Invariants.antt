-- What the check does not find alone.
use Rattle.std.proofs.Common.{◌≡◌, ◌+◌, ◌-◌, ◌≤◌}
use Rattle.protocol.specs.Sizes.{views}
use Rattle.deliveries.specs.Holders.{raised}
use Rattle.deliveries.proofs.holders.raise.Given as goal

abbrev pub invariant-loop-number : goal.invariant-loop-number
invariant-loop-number l =
    (1 ≤ l.number) × (l.number ≤ views + 1) × (l.image ≡ raised l.initial.image l.keys.0 (l.number - 1))

abbrev pub decreases-loop-number : goal.decreases-loop-number
decreases-loop-number l = views + 1 - l.number
