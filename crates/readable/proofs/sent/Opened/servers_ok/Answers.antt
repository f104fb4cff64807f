-- What the check does not find alone.
use Rattle.std.proofs.Common.{rules}
use Rattle.protocol.specs.Sizes.{servers}
use Rattle.codec.specs.Ranges.{all_below}
use Rattle.readable.specs.Scan.{server_ok}
use Rattle.readable.proofs.sent.Opened.servers_ok.Goals as goal

pub returns : goal.returns
returns c =
    all_below (server_ok c.args.self.now.image.now) servers _ _ _ c.all.ensures.ran (λ x b q k. search rules)
