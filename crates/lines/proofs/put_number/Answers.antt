use native.Mathlib.Omega.{arith}
use Rattle.lines.specs.Lines.{most_digits}
use Rattle.lines.proofs.Digits.{length_digits, number_put}
use Rattle.lines.proofs.put_number.Goals as goal

pub put_bytes-requires : goal.put_bytes-requires
put_bytes-requires c = omega (arith, length_digits most_digits c.args.n, c.put_digits-next.ensures.0, c.put_digits-next.auto.out)

pub overflow_add-result : goal.overflow_add-result
overflow_add-result c = record { fits = omega (arith, length_digits most_digits c.args.n, c.put_digits-next.ensures.0, c.well_formed.0.0) }

pub returns : goal.returns
returns c =
    number_put c.args.out.now _ _
    c.args.at _
    c.args.n
    c.args.then (omega arith)
    c.put_digits-next.ensures.0 c.put_digits-next.ensures.1
    c.put_bytes.ensures
