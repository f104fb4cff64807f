-- What the check does not find alone:
-- A turn that goes on is one step more; the last turn ends the input.
use Rattle.std.proofs.Common.{◌≡◌, arith, subst}
use Rattle.archive_run.specs.Loop.{Led, none, more, ended, led_on}
use Rattle.archive_run.proofs.steps.Goals as goal

pub loop-steps-init : goal.loop-steps-init
loop-steps-init g c = none

pub next-requires : goal.next-requires
next-requires g c = led_on c.requires c.loop-steps.invariant

pub loop-steps-preserved : goal.loop-steps-preserved
loop-steps-preserved g c = more c.loop-steps.invariant (rw c.in-Ok-true.field-0-test at c.in-Ok-true.ensures)

pub returns : goal.returns
returns g c =
    let e : c.loop-steps.steps ≡ 18446744073709551615 = omega (arith, c.loop-steps.auto.steps-end, c.loop-steps-test.false) in
    (subst (λ n. Led c.args.image.now n c.loop-steps.image) e c.loop-steps.invariant, ended)
