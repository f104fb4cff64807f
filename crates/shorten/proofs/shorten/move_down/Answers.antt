-- What the check does not find alone.
use Rattle.std.proofs.Common.{arith, ◌∙◌}
use Rattle.shorten.specs.Buffers.{moved_all}
use Rattle.shorten.proofs.shorten.move_down.Goals as goal

pub returns : goal.returns
returns c = c.copy_within.ensures.after ∙ moved_all c.args.shorter.now c.args.at _ c.requires (omega arith)
