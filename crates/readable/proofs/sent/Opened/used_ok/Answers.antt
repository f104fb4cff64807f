-- What the check does not find alone.
use Rattle.std.proofs.Common.{rules}
use Rattle.codec.specs.Ranges.{all_below}
use Rattle.readable.specs.Scan.{message_ok}
use Rattle.readable.proofs.sent.Opened.used_ok.Goals as goal

pub returns : goal.returns
returns c =
    all_below (message_ok c.args.self.now.image.now) c.args.used _ _ _ c.all.ensures.ran (λ x b q k. search rules)
