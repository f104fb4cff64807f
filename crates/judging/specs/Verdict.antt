-- The answer to a log and a lent order buffer: `judged` computes it, `Promise` says what it means, free of the search. The function `judge`
-- and the C interface cite these.
use Rattle.std.specs.Prelude.{ℕ, ◌*◌, ◌-◌, ◌%◌, ◌≤◌, Bool, ◌&&◌, ◌≡◌, ◌↔◌, List, ◌++◌, map, length, replicate, eqb, Result as Outcome}
use Rattle.std.proofs.Math.Bool.{true, false}
use Rattle.protocol.specs.declared.refusals.Refusal.{Refusal}
use Rattle.protocol.specs.Refusals.{outcome}
use Rattle.protocol.specs.Tools.{Result, refused, done, guard}
use Rattle.protocol.specs.Consistent.{Operation, In}
use Rattle.codec.specs.Bytes.{le16}
use Rattle.codec.specs.Lists.{flat}
use Rattle.judging.specs.Orders.{logged_operation, operations, OrderOf}
use Rattle.judging.specs.Decision.{sorted, passes}
use Rattle.judging.specs.Logs.{line_width, lines_of, line_at, well_logged}

-- an order is 2 bytes a log line
abbrev pub place_width : ℕ
place_width = 2

-- whole lines, and an order buffer of the right length
abbrev pub lengths_fit : List ℕ → ℕ → Bool
lengths_fit log m = eqb (length log % line_width) 0 && eqb m (place_width * lines_of log)

-- "13, no order exists"; else the numbers of the lines in an order
unfoldable pub decided : List ℕ → Result (List ℕ)
decided log = guard (passes (line_at log) (lines_of log)) 13 (done (sorted (line_at log) (lines_of log)))

-- "Checks: 14, malformed ...; then 13"
unfoldable pub judged : List ℕ → ℕ → Result (List ℕ)
judged log m = guard (lengths_fit log m) 1 (guard (well_logged log) 14 (decided log))

-- the number of operations in an order
abbrev pub operations_in : Result (List ℕ) → Result ℕ
operations_in (refused n) = refused n
operations_in (done s) = done (length s)

-- "A refusal changes nothing"; else line numbers from 1, u16, "zero after"
unfoldable pub order_bytes : List ℕ → ℕ → List ℕ
order_bytes s m = flat le16 s ++ replicate (m - place_width * length s) 0

abbrev pub listed_in : List ℕ → Result (List ℕ) → List ℕ
listed_in before (refused n) = before
listed_in before (done s) = order_bytes s (length before)

-- a result as the code answers it, with the buffer before and after
pub record Judges (a : Outcome ℕ Refusal) (before after : List ℕ) (r : Result (List ℕ)) : Type 0 where
  pub answer : outcome a ≡ operations_in r
  pub buffer : after ≡ listed_in before r

-- ---- what the answer means

-- the operations of a log
abbrev pub log_operations : List ℕ → List Operation
log_operations log = operations (line_at log) (lines_of log)

-- the buffer lists an order of the log: k lines of it
pub record ListsOrder (log after : List ℕ) (k : ℕ) : Type 0 where
  pub lines : List ℕ
  pub count : length lines ≡ k
  pub bytes : after ≡ order_bytes lines (place_width * lines_of log)
  pub within : (i : ℕ) → In i lines → (1 ≤ i) × (i ≤ lines_of log)
  pub order : OrderOf (log_operations log) (map (λ i. logged_operation (line_at log i)) lines)

-- the log can be judged
pub record Judgeable (log before : List ℕ) : Type 0 where
  pub lengths : lengths_fit log (length before) ≡ true
  pub formed : well_logged log ≡ true

pub record Answered (a : Result ℕ) : Type 0 where
  pub count : ℕ
  pub is : a ≡ done count

pub record Promise (log before after : List ℕ) (a : Result ℕ) : Type 0 where
  pub lengths : (a ≡ refused 1) ↔ (lengths_fit log (length before) ≡ false)
  pub malformed : (a ≡ refused 14) ↔ ((lengths_fit log (length before) ≡ true) × (well_logged log ≡ false))
  -- "A yes shows the order."
  pub yes : (k : ℕ) → a ≡ done k → Judgeable log before × ListsOrder log after k
  pub some : Judgeable log before → (order : List Operation) → OrderOf (log_operations log) order → Answered a
  -- "A no means that none exists, by a definition free of the search."
  pub no : (a ≡ refused 13) ↔ (Judgeable log before × ((order : List Operation) → OrderOf (log_operations log) order → ⊥))
  pub kept : (n : ℕ) → a ≡ refused n → after ≡ before
