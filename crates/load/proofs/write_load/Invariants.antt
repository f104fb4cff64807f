-- What the check does not find alone:
-- Each piece begins at the state where the one before it ended, and is appended behind it.
use Rattle.std.proofs.Common.{◌≡◌, ◌-◌, ◌≤◌}
use Rattle.std.specs.Io.KnownBytes.{Appends}
use Rattle.loads.specs.Load.{load_from}
use Rattle.load.proofs.write_load.Given as goal

abbrev pub invariant-loop-left : goal.invariant-loop-left
invariant-loop-left g l =
    (l.left ≤ l.steps) × (l.draws.state ≡ (load_from l.initial.draws.state (l.steps - l.left)).state)
    × Appends (g.W.Write.contents l.initial.output) (g.W.Write.contents l.output) (load_from l.initial.draws.state (l.steps - l.left)).journal

abbrev pub decreases-loop-left : goal.decreases-loop-left
decreases-loop-left g l = l.left
