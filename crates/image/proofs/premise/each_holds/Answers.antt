-- What the check does not find alone.
use Rattle.std.proofs.Common.{rules, ◌+◌}
use Rattle.codec.specs.Ranges.{all_below}
use Rattle.image.specs.Premise.{few_hold, group}
use Rattle.image.proofs.premise.each_holds.Goals as goal

pub returns : goal.returns
returns c =
    let a = c.args in
    all_below (λ j. few_hold a.image.now (a.k + j)) group _ _ _ c.all.ensures.ran (λ x b q k. search rules)
