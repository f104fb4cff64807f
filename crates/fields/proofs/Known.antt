use Rattle.std.proofs.Common.{◌≡◌, ℕ, arith}
use Rattle.std.proofs.lemmas.Bool.Decides.{nat_tests}
use Rattle.std.specs.Result.{is_ok}
use Rattle.protocol.specs.Kinds.{named_step}
use Rattle.protocol.specs.Tools.{within}
use Rattle.protocol.specs.Steps.{write_step, restart_step}

pub known : (n : ℕ) → is_ok (named_step n) ≡ within write_step restart_step n
known n = grind (arith, nat_tests)
