-- What the check does not find alone.
use Rattle.std.proofs.Common.{◌≡◌, ◌+◌, ◌-◌, refl, arith}
use Rattle.image.specs.Fresh.{seeded, seeded_next}
use Rattle.image.proofs.fresh.store_servers.Goals as goal

pub loop-s-init : goal.loop-s-init
unfolding seeded
loop-s-init c = refl

pub loop-s-preserved : goal.loop-s-preserved
loop-s-preserved c =
    let a = c.args in
    let l = c.loop-s in
    let e : l.s + 1 - 1 ≡ l.s = omega arith in
    rw (e, seeded_next a.image.now a.members.0 l.s (omega arith), ← l.invariant, ← c.fresh_server.ensures) c.store_server.ensures
