-- What the check does not find alone:
-- The first i steps are written.
use Rattle.std.proofs.Common.{◌≡◌, ◌*◌, take}
use Rattle.protocol.specs.Runs.{step_width}
use Rattle.loads.specs.Load.{load_from}
use Rattle.loads.proofs.journal.fill.Given as goal

abbrev pub invariant-loop-i : goal.invariant-loop-i
invariant-loop-i l =
    (l.draws.state ≡ (load_from l.initial.draws.state l.i).state) × (take (step_width * l.i) l.journal ≡ (load_from l.initial.draws.state l.i).journal)
