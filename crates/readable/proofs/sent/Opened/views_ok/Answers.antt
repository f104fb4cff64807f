-- What the check does not find alone.
use Rattle.std.proofs.Common.{rules}
use Rattle.protocol.specs.Sizes.{views}
use Rattle.codec.specs.Ranges.{all_below}
use Rattle.readable.specs.Scan.{view_ok}
use Rattle.readable.proofs.sent.Opened.views_ok.Goals as goal

pub returns : goal.returns
returns c =
    all_below (view_ok c.args.self.now.image.now) views _ _ _ c.all.ensures.ran (λ x b q k. search rules)
