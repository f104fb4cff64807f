-- What the check does not find alone.
use Rattle.world.specs.Performs.{wrong_image, wrong_step}
use Rattle.world.proofs.step.step.Goals as goal

pub returns-in_default : goal.returns-in_default
returns-in_default c = wrong_image c.args.image.now c.args.bytes.now c.in_default.ensures.cases

pub returns-in_default-as_array : goal.returns-in_default-as_array
returns-in_default-as_array c =
    let h = c.in-Some.ensures.cases in
    rw (h.same) (wrong_step c.args.image.now c.args.bytes.now h.long c.in_default-as_array.ensures.cases)

pub returns : goal.returns
returns c =
    let h = c.in-Some.ensures.cases in let k = c.in-Some-as_array.ensures.cases in
    rw (← h.same, ← k.same) c.tested.ensures
