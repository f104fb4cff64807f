-- What the check does not find alone.
use Rattle.std.proofs.Common.{refl, arith, ap, ◌∙◌}
use Rattle.vouch.specs.Seen.{seen_to}
use Rattle.vouch.proofs.Seen.{seen_showing}
use Rattle.vouch.proofs.Turns.{seen, added, skipped}
use Rattle.vouch.proofs.support.showing.Goals.{then-test, else-test}
use Rattle.vouch.proofs.support.showing.Goals as goal

pub loop-k-init : goal.loop-k-init
unfolding seen_to
loop-k-init g c = λ p h. refl

pub loop-k-preserved : goal.loop-k-preserved
loop-k-preserved g c = λ p h.
    seen p _ _ _ _ (omega arith) (c.loop-k.invariant p h)
    (elim c.if-test.branch [
      | then-test w ↦ added p _ _ _ c.entry_shown.ensures _ (h _ _ c.test.ensures) _ _ _ w.if-test.true w.answerer.ensures (ap (λ s. s.0) (w.seen-is ∙ w.with-seen.ensures))
      | else-test w ↦ skipped p _ _ _ c.entry_shown.ensures _ (h _ _ c.test.ensures) _ _ w.if-test.false (ap (λ s. s.0) w.seen-is)
    ])

pub returns : goal.returns
returns g c = λ p h. seen_showing p _ _ _ c.servers_in.ensures (c.loop-k.invariant p h) c.count-k-end.ensures (omega arith) (omega arith)
