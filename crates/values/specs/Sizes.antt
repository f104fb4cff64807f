-- Both sizes as an answer, and the bound on a view's size. Assumes nothing.
use Rattle.std.specs.Prelude.{◌≤◌, ◌≡◌, ℕ, ◌+◌, ◌*◌, true, leb}
use Rattle.std.proofs.Common.{arith, leb-true}
use Rattle.std.specs.Cmp.{first_so, second_so}
use Rattle.values.specs.declared.sizes.QuorumSize.{QuorumSize}
use Rattle.protocol.specs.Tools.{holds}
use Rattle.protocol.specs.Sizes.{servers, Both, size, size_rule}
use Rattle.protocol.specs.declared.View.{View}
use Rattle.protocol.proofs.Laws.Counts.{count_le}

-- both sizes, as the rules name them
abbrev pub sizing : QuorumSize → Both
sizing q = record { reads = q.read; writes = q.write }

pub size_le : (v : View) → size v ≤ servers
unfolding size
size_le v = count_le (holds v.members.0) servers

-- a view that obeys the size rule has an f of a byte
-- No proof cites it; it stands for who reads the definitions.
pub rule_threshold : (n f r : ℕ) → n ≤ servers → size_rule n f r ≡ true → f ≤ 255
rule_threshold n f r h e =
    let k : 3 * f + 1 ≤ n = leb-true _ _ (first_so _ _ (second_so (leb 1 n) _ e)) in
    omega arith
