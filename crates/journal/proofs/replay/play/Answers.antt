-- What the check does not find alone.
use Rattle.journal.specs.Replays.{going_start, going_on, going_stop, going_end}
use Rattle.journal.proofs.replay.play.Goals as goal

pub loop-steps-init : goal.loop-steps-init
loop-steps-init c = going_start _ _ c.requires

pub advance-requires : goal.advance-requires
advance-requires c = c.loop-steps.invariant.legible

pub returns-in-Err : goal.returns-in-Err
returns-in-Err c =
    let l = c.loop-steps in going_stop l.invariant c.loop-steps-test.true (c.told-journal l.steps c.loop-steps-test.true) _ _ _ c.in-Err.is c.advance.ensures

pub loop-steps-preserved : goal.loop-steps-preserved
loop-steps-preserved c =
    let l = c.loop-steps in going_on l.invariant c.loop-steps-test.true (c.told-journal l.steps c.loop-steps-test.true) _ _ _ c.in_default.is c.advance.ensures

pub returns : goal.returns
returns c = going_end c.loop-steps.invariant c.loop-steps.auto.steps-end c.loop-steps-test.false
