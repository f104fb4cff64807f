-- What the check does not find alone.
use Rattle.readable.proofs.sent.Opened.+walk.Given as goal

abbrev pub decreases-walk : goal.decreases-walk
decreases-walk l = l.left
