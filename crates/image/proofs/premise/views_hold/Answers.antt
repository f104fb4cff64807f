-- What the check does not find alone.
use Rattle.std.proofs.Common.{rules, ◌+◌, ◌-◌, ◌*◌, ◌∙◌}
use Rattle.protocol.specs.Tools.{all_to}
use Rattle.codec.specs.Ranges.{all_below}
use Rattle.image.specs.Premise.{few_hold, group, all_groups}
use Rattle.image.proofs.premise.views_hold.Goals as goal

pub returns : goal.returns
returns c =
    let i = c.args.image.now in
    all_below (λ g. all_to (λ j. few_hold i (group * (g - 1) + j)) group) 8 _ _ _ c.all.ensures.ran (λ x b q k. search rules)
    ∙ all_groups (few_hold i) 8
