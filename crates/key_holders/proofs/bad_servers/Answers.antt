-- What the check does not find alone.
use Rattle.std.proofs.Common.{rules}
use borrow.Author.Tests.{tests}
use Rattle.protocol.specs.Sizes.{servers}
use Rattle.protocol.specs.Worlds.{bad}
use Rattle.codec.specs.Images.{decode}
use Rattle.codec.specs.Ranges.{count_below}
use Rattle.key_holders.proofs.bad_servers.Goals as goal

pub returns : goal.returns
returns c =
    let a = c.args in
    count_below (bad (decode a.image.now) a.t.0) servers _ _ _
    c.filter.ensures.source c.filter.ensures.closure c.count.ensures.ran (λ x b q k. search (rules, tests))
