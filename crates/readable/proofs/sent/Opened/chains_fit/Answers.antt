-- What the check does not find alone.
use Rattle.std.proofs.Common.{◌≡◌, ◌+◌, ◌-◌, arith}
use Rattle.codec.specs.Images.{decode}
use Rattle.readable.specs.Walks.{counted_none, counted_more, counted_all}
use Rattle.readable.proofs.sent.Opened.chains_fit.Goals as goal
use Rattle.readable.proofs.sent.Opened.chains_fit.Goals.{else-loop-n-test, then-loop-n-test+in-Some+else-n-n-end}

pub loop-n-init : goal.loop-n-init
loop-n-init c = (omega arith, counted_none (decode c.args.self.now.image.now))

pub loop-n-preserved : goal.loop-n-preserved
loop-n-preserved c =
    let e : c.loop-n.n + 1 - 1 ≡ c.loop-n.n = omega arith in
    (omega arith, rw e (counted_more _ _ _ _ _ _ (omega arith) c.loop-n.invariant.1 c.in-Some.ensures c.taken_bit-taken.ensures))

pub returns : goal.returns
returns c =
    let t = c.loop-n-test in
    let u = c.load_used-n-end.result in
    counted_all c.args.self.now.image.now u c.load_used-n-end.ensures t.sum t.taken
    (elim c.loop-n-test.branch [
      | else-loop-n-test w ↦
          let e : c.loop-n.n - 1 ≡ u = omega arith in
          rw (w.sum-is, w.taken-is, ← e) c.loop-n.invariant.1
      | then-loop-n-test+in-Some+else-n-n-end w ↦
          let e : c.loop-n.n ≡ u = omega arith in
          rw (w.sum-is, w.taken-is, ← e)
          (counted_more _ _ _ _ _ _ (omega arith) c.loop-n.invariant.1 w.in-Some.ensures w.taken_bit-taken.ensures)
    ])
