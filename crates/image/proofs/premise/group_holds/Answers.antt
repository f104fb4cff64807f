-- What the check does not find alone.
use Rattle.std.proofs.Common.{sym, ◌∙◌, eq-eqb}
use Rattle.image.specs.Premise.{none_held}
use Rattle.image.proofs.premise.group_holds.Goals as goal

pub returns-then-get32-eq0 : goal.returns-then-get32-eq0
returns-then-get32-eq0 c =
    let a = c.args in
    eq-eqb _ _ c.if-get32-eq0.true ∙ sym (none_held a.image.now a.k (sym c.get32.ensures ∙ c.if-get32-eq0.true))
