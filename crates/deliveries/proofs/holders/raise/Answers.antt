-- What the check does not find alone.
use Rattle.std.proofs.Common.{ℕ, List, ◌≡◌, ◌+◌, ◌-◌, arith, sym, ap}
use Rattle.codec.specs.Places.{holder_at}
use Rattle.deliveries.specs.Holders.{raised, raised_start, raised_more, raised_low, raise_fits}
use Rattle.deliveries.proofs.holders.raise.Goals as goal

pub loop-number-init : goal.loop-number-init
loop-number-init c =
    let a = c.args in
    (omega arith, omega arith, sym (raised_start a.image.now a.keys.0))

pub overflow_add-n : goal.overflow_add-n
overflow_add-n c =
    let l = c.loop-number in
    let low = raised_low c.requires c.args.keys.0 (l.number - 1) (omega (arith, l.invariant)) (omega (arith, l.invariant, c.loop-number-test.true)) in
    let same : l.number - 1 + 1 ≡ l.number = omega (arith, l.invariant) in
    record {
      fits = raise_fits c.load_holders-n.result c.has.result
          (omega (
            arith,
            low,
            c.load_holders-n.ensures,
            ap (λ (i : List ℕ). holder_at i l.number) l.invariant.2,
            ap (λ (k : ℕ). holder_at (raised c.args.image.now c.args.keys.0 (l.number - 1)) k) same,
          ));
    }

pub loop-number-preserved : goal.loop-number-preserved
loop-number-preserved c =
    let a = c.args in
    let l = c.loop-number in
    let n = l.number - 1 in
    let next : l.number + 1 - 1 ≡ n + 1 = omega (arith, l.invariant) in
    let same : n + 1 ≡ l.number = omega (arith, l.invariant) in (
      omega arith,
      omega (arith, l.invariant, c.loop-number-test.true),
      rw (next, raised_more a.image.now a.keys.0 n, same, ← l.invariant.2, ← c.load_holders-n.ensures, ← c.has.ensures) c.store_holders.ensures,
    )
