-- Demand 3 on worlds (specs/Theorem.antt), by the order of a run's operations. Assumes nothing.
use Rattle.std.specs.Prelude.{true, ◌≡◌, map}
use Rattle.protocol.specs.Worlds.{premise}
use Rattle.protocol.specs.Consistent.{Consistent}
use Rattle.protocol.specs.Runs.{Run, run_from, operation, history}
use Rattle.agreement.specs.Carried.{Trusted}
use Rattle.agreement.proofs.Reached.{Reached, reached}
use Rattle.agreement.proofs.Order.{order, ordered}
use Rattle.agreement.specs.Theorem.{Linearizable}

pub trusted : (r : Run) → Reached r → premise r.world ≡ true → Trusted r.world
trusted r h p = record { inv = h.inv; sizes = h.sound.sized.sizes; premise = p }

unfoldable pub consistent : (r : Run) → Reached r → premise r.world ≡ true → Consistent (history r)
unfolding history
consistent r h p =
    let t = trusted r h p in
    record { order = map (operation r.world) (order t h.story); ordered = ordered t h.story }

unfoldable pub linearizable : Linearizable
unfolding consistent
linearizable members f r w e steps p = consistent (run_from w steps) (reached members f r w e steps) p
