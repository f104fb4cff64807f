-- What the check does not find alone.
use Rattle.std.proofs.Common.{arith, sym}
use Rattle.shorten.proofs.Promise.{short_journal_lem}
use Rattle.zemawulo.proofs.zw_shorten.Goals as goal

pub overflow_mul-result : goal.overflow_mul-result
overflow_mul-result c =
    let a = c.args in
    omega (arith, (short_journal_lem a.image.now a.members a.f a.r a.journal.now a.shorter.now _ (sym c.in-Ok.ensures.answer)).most)
