-- What the check does not find alone.
use Rattle.std.proofs.Common.{rules}
use Rattle.protocol.specs.Sizes.{clients}
use Rattle.codec.specs.Ranges.{all_below}
use Rattle.readable.specs.Scan.{client_ok}
use Rattle.readable.proofs.sent.Opened.clients_ok.Goals as goal

pub returns : goal.returns
returns c =
    all_below (client_ok c.args.self.now.image.now) clients _ _ _ c.all.ensures.ran (λ x b q k. search rules)
