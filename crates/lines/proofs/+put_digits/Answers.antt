use Prim.Native.Nat.{◌-◌, ◌/◌}
use native.Mathlib.Omega.{arith}
use Rattle.lines.proofs.Digits.{length_digits, digits_none, digits_last, digits_more}
use Rattle.lines.proofs.+put_digits.Goals as goal

pub returns-then-most-eq0 : goal.returns-then-most-eq0
returns-then-most-eq0 t c = digits_none c.args.out.now c.args.at c.args.most c.args.n c.if-most-eq0.true

pub returns-then-n-lt10 : goal.returns-then-n-lt10
returns-then-n-lt10 t c =
    digits_last c.args.out.now _ c.args.at
    c.args.most c.args.n
    c.if-most-eq0.false c.if-n-lt10.true c.put_bytes.ensures

pub put_bytes-requires-2 : goal.put_bytes-requires-2
put_bytes-requires-2 t c = omega (arith, length_digits (c.args.most - 1) (c.args.n / 10), c.put_digits-next.ensures.0, c.put_digits-next.auto.out, c.requires)

pub overflow_add-result-2 : goal.overflow_add-result-2
overflow_add-result-2 t c = record { fits = omega (arith, length_digits (c.args.most - 1) (c.args.n / 10), c.put_digits-next.ensures.0, c.requires, c.well_formed.0.0) }

pub returns : goal.returns
returns t c =
    digits_more c.args.out.now _ _
    c.args.at _
    c.args.most
    c.args.n
    c.if-most-eq0.false c.if-n-lt10.false
    (omega arith) c.put_digits-next.ensures.0 c.put_digits-next.ensures.1
    c.put_bytes-2.ensures
