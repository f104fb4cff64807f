-- What the check does not find alone.
use Rattle.std.proofs.Common.{◌+◌, ◌∙◌, rules, arith, refl}
use Rattle.std.proofs.lemmas.Iterator.{YieldsList-from_range}
use Rattle.std.proofs.lemmas.Iterator.Search.{all_from_yields_List}
use Rattle.codec.specs.Ranges.{all_range}
use Rattle.vouch.specs.Answers.{answer_count}
use Rattle.vouch.specs.Checks.{answer_fits}
use Rattle.vouch.proofs.checks.answers_fit.Goals as goal

pub returns : goal.returns
returns c =
    let e = c.count.ensures in
    all_from_yields_List (answer_fits c.args.answers.now c.args.n) _ _ _ c.all.ensures.ran
    (YieldsList-from_range 1 (c.count.result + 1) (answer_count c.args.answers.now) refl (omega arith)) (λ x b q k. search rules)
    ∙ all_range _ _
