-- What the check does not find alone.
use Rattle.journal.specs.Replays.{going_on}
use Rattle.journal.proofs.Watches.{watching_start, watching_on, watching_stop, watching_end}
use Rattle.journal.proofs.watch.observe.Goals as goal

pub loop-steps-init : goal.loop-steps-init
loop-steps-init c = watching_start _ _ c.requires

pub advance-requires : goal.advance-requires
advance-requires c = c.loop-steps.invariant.going.legible

pub returns-in-Err : goal.returns-in-Err
returns-in-Err c =
    let l = c.loop-steps in watching_stop l.invariant c.loop-steps-test.true (c.told-journal l.steps c.loop-steps-test.true) _ _ _ c.in-Err.is c.advance.ensures

pub notice-first-requires : goal.notice-first-requires
notice-first-requires c =
    let l = c.loop-steps in
    (going_on l.invariant.going c.loop-steps-test.true (c.told-journal l.steps c.loop-steps-test.true) _ _ _ c.in_default.is c.advance.ensures).legible

pub loop-steps-preserved : goal.loop-steps-preserved
loop-steps-preserved c =
    let l = c.loop-steps in
    watching_on l.invariant c.loop-steps-test.true (c.told-journal l.steps c.loop-steps-test.true) _ _ _ _ c.in_default.is c.advance.ensures c.notice-first.ensures

pub returns : goal.returns
returns c = watching_end c.loop-steps.invariant c.loop-steps.auto.steps-end c.loop-steps-test.false
