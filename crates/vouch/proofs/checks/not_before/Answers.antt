-- What the check does not find alone.
use Rattle.std.proofs.Common.{◌-◌, ◌∙◌, rules, refl}
use Rattle.std.proofs.lemmas.Iterator.{YieldsList-from_range}
use Rattle.std.proofs.lemmas.Iterator.Search.{all_from_yields_List}
use Rattle.codec.specs.Ranges.{all_range}
use Rattle.vouch.specs.Checks.{not_before, other}
use Rattle.vouch.proofs.checks.not_before.Goals as goal

pub returns : goal.returns
unfolding not_before
returns c =
    all_from_yields_List (other c.args.answers.now c.args.k) _ _ _ c.all.ensures.ran (YieldsList-from_range 1 c.args.k (c.args.k - 1) refl refl)
    (λ x b q k. search rules)
    ∙ all_range _ _
