-- What the check does not find alone.
use Rattle.std.proofs.Common.{◌-◌, ◌&&◌, ◌∙◌, rules, refl}
use Rattle.std.proofs.lemmas.Iterator.{YieldsList-from_range}
use Rattle.std.proofs.lemmas.Iterator.Search.{all_from_yields_List}
use Rattle.codec.specs.Ranges.{all_range}
use Rattle.judging.specs.Logs.{apart_before, numbers_apart, stamps_apart, line_at}
use Rattle.judging.proofs.formed.apart_before.Goals as goal

pub returns : goal.returns
unfolding apart_before
returns c =
    let line = line_at c.args.log.now in
    all_from_yields_List (λ j. numbers_apart (line j) (line c.args.i) && stamps_apart (line j) (line c.args.i)) _ _ _ c.all.ensures.ran
    (YieldsList-from_range 1 c.args.i (c.args.i - 1) refl refl) (λ x b q k. search rules)
    ∙ all_range _ _
