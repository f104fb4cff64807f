-- What the check does not find alone.
use Rattle.std.proofs.Common.{sym, ap, ◌∙◌}
use Rattle.protocol.specs.Steps.{step}
use Rattle.codec.specs.Images.{decode}
use Rattle.mail.specs.Stored.{by}
use Rattle.world.specs.Performs.{unfit, fit}
use Rattle.world.proofs.step.advance.Goals as goal

pub returns-then-not-fields_fit : goal.returns-then-not-fields_fit
returns-then-not-fields_fit c =
    by (ap (step (decode c.args.image.now)) (sym c.read_step-st.ensures)) (unfit c.read_step-st.result (sym c.if-not-fields_fit.ensures))

pub returns : goal.returns
returns c =
    by
    (ap (step (decode c.args.image.now)) (sym c.read_step-st.ensures)
    ∙ fit (decode c.args.image.now) c.read_step-st.result (sym c.if-not-fields_fit.ensures))
    c.perform.ensures
