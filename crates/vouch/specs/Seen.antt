-- The servers that show an entry that passes, gathered as bits: `seen_to`. Used by the functions that count.
use Rattle.std.specs.Prelude.{ℕ, zero, suc, Bool, List}
use Rattle.std.specs.Int.Bits.{bit_or}
use Rattle.protocol.specs.declared.Entry.{Entry}
use Rattle.protocol.specs.Tools.{if}
use Rattle.values.specs.Bits.{bit_in}
use Rattle.vouch.specs.Answers.{answerer, entry_shown}

-- a set of servers with that of answer number k where its entry passes
unfoldable pub seen_with : (Entry → Bool) → List ℕ → ℕ → ℕ → ℕ
seen_with p l k seen = if (p (entry_shown l k)) (bit_or seen (bit_in (answerer l k))) seen

-- the servers of those of the first k answers whose entry passes
unfoldable pub seen_to : (Entry → Bool) → List ℕ → ℕ → ℕ
seen_to p l zero = 0
seen_to p l (suc k) = seen_with p l (suc k) (seen_to p l k)
