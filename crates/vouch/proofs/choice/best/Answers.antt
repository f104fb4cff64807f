-- What the check does not find alone.
use Rattle.std.proofs.Common.{refl, arith, ◌∙◌}
use Rattle.vouch.specs.Choices.{best_to}
use Rattle.vouch.proofs.Turns.{chosen, taken, left}
use Rattle.vouch.proofs.choice.best.Goals.{then-qualifies, else-qualifies}
use Rattle.vouch.proofs.choice.best.Goals as goal

pub loop-k-init : goal.loop-k-init
unfolding best_to
loop-k-init g c = λ q h. refl

pub loop-k-preserved : goal.loop-k-preserved
loop-k-preserved g c = λ q h.
    chosen q _ _ _ _ (omega arith) (c.loop-k.invariant q h)
    (elim c.if-qualifies.branch [
      | then-qualifies w ↦ taken q _ _ _ c.entry_shown-e.ensures _ (h _ _ c.qualifies.ensures) _ _ w.if-qualifies.true (w.chosen-is ∙ w.better-chosen.ensures)
      | else-qualifies w ↦ left q _ _ _ c.entry_shown-e.ensures _ (h _ _ c.qualifies.ensures) _ _ w.if-qualifies.false w.chosen-is
    ])
