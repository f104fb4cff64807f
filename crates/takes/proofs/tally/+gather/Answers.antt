-- What the check does not find alone.
use native.Mathlib.Omega.{arith}
use Rattle.std.proofs.lemmas.Bool.{eqb-false, eqb-true, not-true, not-false}
use Rattle.std.proofs.Common.{sym, ◌∙◌}
use Rattle.codec.specs.Images.{decode}
use Rattle.takes.specs.Takes.{walk_low, walk_on}
use Rattle.takes.specs.Gathered.{gathers_zero, gathers_none, gathers_other, gathers_on}
use Rattle.takes.proofs.tally.+gather.Goals.{then-n-eq0-via-then-n-eq0, then-n-eq0-via-else-n-eq0+then-left-eq0}
use Rattle.takes.proofs.tally.+gather.Goals as goal

pub returns-then-n-eq0 : goal.returns-then-n-eq0
returns-then-n-eq0 t c =
    let a = c.args in
    elim c.then-n-eq0.branch [
      | then-n-eq0-via-then-n-eq0 w ↦ gathers_zero (decode a.image.now) a.t.0 a.left a.n.0 a.g.bits a.g.fits w.if-n-eq0.true
      | then-n-eq0-via-else-n-eq0+then-left-eq0 w ↦ gathers_none (decode a.image.now) a.t.0 a.left a.n.0 a.g.bits a.g.fits w.if-left-eq0.true
    ]

pub load_message-m-requires : goal.load_message-m-requires
load_message-m-requires t c = walk_low c.requires (omega arith) (omega arith)

pub gather-requires : goal.gather-requires
gather-requires t c =
    (omega arith, walk_on c.requires (omega arith) (omega arith) _ c.load_message-m.ensures)

pub returns-then-ne : goal.returns-then-ne
returns-then-ne t c =
    let a = c.args in
    gathers_other c.requires (omega arith) (omega arith) _ c.load_message-m.ensures a.t.0 _ a.g.bits (eqb-false _ _ (not-true _ (sym c.ne.ensures ∙ c.if-ne.true))) c.gather.ensures

pub with_answer-requires : goal.with_answer-requires
with_answer-requires t c =
    (walk_low c.requires (omega arith) (omega arith), c.load_message-m.ensures)

pub gather-requires-2 : goal.gather-requires-2
gather-requires-2 t c =
    (omega arith, walk_on c.requires (omega arith) (omega arith) _ c.load_message-m.ensures)

pub returns : goal.returns
returns t c =
    let a = c.args in
    gathers_on c.requires (omega (arith, c.if-left-eq0.false)) (omega (arith, c.if-n-eq0.false)) _
    c.load_message-m.ensures a.t.0 _ a.g.bits (eqb-true _ _ (not-false _ (sym c.ne.ensures ∙ c.if-ne.false))) _ c.with_answer.ensures c.gather-2.ensures
