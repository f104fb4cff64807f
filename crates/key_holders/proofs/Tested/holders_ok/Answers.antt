-- What the check does not find alone.
use Rattle.std.proofs.Common.{rules}
use Rattle.protocol.specs.Sizes.{views}
use Rattle.key_holders.specs.Holders.{holder_ok}
use Rattle.codec.specs.Ranges.{all_below}
use Rattle.key_holders.proofs.Tested.holders_ok.Goals as goal

pub returns : goal.returns
returns c =
    all_below (holder_ok c.args.self.now.image.now) views _ _ _ c.all.ensures.ran (λ x b q k. search rules)
