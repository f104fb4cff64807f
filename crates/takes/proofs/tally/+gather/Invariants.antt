-- What the check does not find alone.
use Rattle.takes.proofs.tally.+gather.Given as goal

abbrev pub decreases-gather : goal.decreases-gather
decreases-gather l = l.left
