-- What the check does not find alone.
use Rattle.std.proofs.Common.{ℕ, List, ◌/◌, ◌^◌, arith, ap, ap₂, ◌∙◌}
use Rattle.codec.specs.Lists.{put}
use Rattle.codec.specs.Bytes.{le32}
use Rattle.zemawulo.specs.Answers.{first_in, first_put, first_kept, first_told, number_is}
use Rattle.zemawulo.proofs.write_first.Goals.{then-stop-eq1-via-then-stop-eq1, then-stop-eq1-via-else-stop-eq1+then-stop-eq2}
use Rattle.zemawulo.proofs.write_first.Goals as goal

pub returns-then-stop-eq1 : goal.returns-then-stop-eq1
returns-then-stop-eq1 c =
    let s = c.stopped_by-stop.ensures in
    elim c.then-stop-eq1.branch [
      | then-stop-eq1-via-then-stop-eq1 w ↦ first_kept c.args.first.now _ _ (omega (arith, s, w.if-stop-eq1.true)) (omega (arith, s, w.if-stop-eq1.true))
      | then-stop-eq1-via-else-stop-eq1+then-stop-eq2 w ↦ first_kept c.args.first.now _ _ (omega (arith, s, w.if-stop-eq2.true)) (omega (arith, s, w.if-stop-eq2.true))
    ]

pub returns : goal.returns
returns c =
    let a = c.args in
    let n = c.unwrap_or-n.result in
    c.put32-2.ensures
    ∙ ap (λ (i : List ℕ). put i 4 (le32 (n / 2 ^ 32))) c.put32.ensures
    ∙ first_put a.first.now n c.told-first
    ∙ first_told a.first.now c.stopped_by-stop.result n c.if-stop-eq1.false c.if-stop-eq2.false
    ∙ ap₂ (first_in a.first.now) c.stopped_by-stop.ensures (c.unwrap_or-n.ensures ∙ number_is a.done.first)
