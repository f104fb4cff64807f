-- What is asked of the servers, `Premises`, for the first choice to yield a given write. Lying and having taken the write are any sets of
-- servers, of which neither the definitions nor the code know anything.
use Prim.Native.Nat.{ℕ, ◌≤◌}
use Rattle.std.specs.Prelude.{Bool, true, ◌≡◌, List}
use Rattle.std.proofs.Math.Bool.{false}
use Rattle.protocol.specs.declared.Entry.{Entry}
use Rattle.protocol.specs.Tools.{count_to}
use Rattle.protocol.specs.Entries.{below}
use Rattle.vouch.specs.Answers.{answer_count, answerer, entry_shown}
use Rattle.vouch.specs.Checks.{masking_quorum}

-- what is asked of the servers: "at most b of the n servers lie, ⌈(n+2b+1)/2⌉ servers took that write, every truthful one of
-- these still shows it, and no truthful server shows another entry with a stamp as large"
pub record Premises (lying took : ℕ → Bool) (l : List ℕ) (n b : ℕ) (write : Entry) : Type 0 where
  pub few : count_to lying n ≤ b
  pub held : masking_quorum n b ≤ count_to took n
  pub still : (k : ℕ) → 1 ≤ k → k ≤ answer_count l → lying (answerer l k) ≡ false → took (answerer l k) ≡ true → entry_shown l k ≡ write
  pub newest : (k : ℕ) → 1 ≤ k → k ≤ answer_count l → lying (answerer l k) ≡ false → (entry_shown l k ≡ write → ⊥) → below (entry_shown l k) write ≡ true
