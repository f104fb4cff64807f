-- What the check does not find alone.
use Rattle.std.proofs.Common.{◌≡◌, ◌-◌, ◌≤◌, arith, ap, sym, subst, ◌∙◌}
use Rattle.std.proofs.KnownBytes.{Appends-nil}
use Rattle.std.proofs.Math.Seq.{take-length}
use Rattle.std.specs.Io.KnownBytes.{Appends}
use Rattle.loads.specs.Load.{load_from, split_none, split_more}
use Rattle.load.proofs.Pieces.{appended, cut}
use Rattle.load.proofs.write_load.Goals as goal

pub loop-left-init : goal.loop-left-init
unfolding load_from
loop-left-init g c = let e : c.args.steps - c.args.steps ≡ 0 = omega arith in (omega arith, split_none _ _, rw e (Appends-nil _))

pub returns-then-not-write_all-clause-part : goal.returns-then-not-write_all-clause-part
returns-then-not-write_all-clause-part g c =
    let piece = c.fill.ensures.journal ∙ ap (λ s. (load_from s c.min-n.result).journal) c.loop-left.invariant.1 in
    let (m, h, last) = c.write_all.ensures.part in
    (_, cut _ _ _ _ _ _ _ _ c.loop-left.invariant.0 (omega arith) c.loop-left.invariant.2 piece m h last)

pub loop-left-preserved : goal.loop-left-preserved
loop-left-preserved g c =
    let within : c.min-n.result ≤ c.loop-left.left = omega arith in
    let piece = c.fill.ensures.journal ∙ ap (λ s. (load_from s c.min-n.result).journal) c.loop-left.invariant.1 in (
      omega arith,
      split_more _ _ _ _ _ _ c.loop-left.invariant.0 within c.loop-left.invariant.1 c.fill.ensures.state,
      appended _ _ _ _ _ _ _ _ c.loop-left.invariant.0 within c.loop-left.invariant.2 piece (c.write_all.ensures.all c.if-not-write_all.false),
    )

pub returns-clause-part : goal.returns-clause-part
returns-clause-part g c =
    let e : c.args.steps - c.loop-left.left ≡ c.args.steps = omega arith in
    (_, subst (Appends _ _) (ap (λ n. (load_from c.args.draws.now.state n).journal) e ∙ sym (take-length _)) c.loop-left.invariant.2)
