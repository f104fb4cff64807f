-- What the check does not find alone.
use Rattle.std.proofs.Common.{◌+◌, ◌&&◌, ◌∙◌, rules, arith, refl}
use Rattle.std.proofs.lemmas.Iterator.{YieldsList-from_range}
use Rattle.std.proofs.lemmas.Iterator.Search.{all_from_yields_List}
use Rattle.codec.specs.Ranges.{all_range}
use Rattle.judging.specs.Logs.{lines_fit, line_fits, line_bytes, apart_before, lines_of}
use Rattle.judging.proofs.formed.lines_fit.Goals as goal

pub returns : goal.returns
unfolding lines_fit
returns c =
    let log = c.args.log.now in
    all_from_yields_List (λ i. line_fits (line_bytes log i) && apart_before log i) _ _ _ c.all.ensures.ran
    (YieldsList-from_range 1 (c.args.n + 1) (lines_of log) refl (omega arith)) (λ x b q k. search rules)
    ∙ all_range _ _
