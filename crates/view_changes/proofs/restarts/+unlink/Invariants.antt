-- What the check does not find alone.
use Rattle.view_changes.proofs.restarts.+unlink.Given as goal

abbrev pub decreases-unlink : goal.decreases-unlink
decreases-unlink l = l.left
