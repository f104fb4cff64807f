-- What the check does not find alone.
use Rattle.std.proofs.Common.{◌≡◌, ◌-◌}
use Rattle.image.specs.Fresh.{seeded}
use Rattle.image.proofs.fresh.store_servers.Given as goal

abbrev pub invariant-loop-s : goal.invariant-loop-s
invariant-loop-s l = l.image ≡ seeded l.initial.image l.members.0 (l.s - 1)
