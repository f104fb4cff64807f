-- The two choices of request 10: support of an entry, who is a candidate, the better of two, the best of the candidates, and the
-- drop test of the second choice. `first_choice`, `second_choice`; their laws are in Best.antt.
use Rattle.std.specs.Prelude.{ℕ, zero, suc, ◌+◌, Bool, not, ◌&&◌, ◌||◌, List, ltb, leb, Option, None, Some}
use Rattle.protocol.specs.declared.Entry.{Entry}
use Rattle.protocol.specs.Tools.{if}
use Rattle.protocol.specs.Entries.{below, same}
use Rattle.vouch.specs.Answers.{answer_count, entry_shown, showing}

-- the servers that show an entry, equal in every field
abbrev pub support : List ℕ → Entry → ℕ
support l e = showing (same e) l

-- the servers that show a larger stamp
abbrev pub against : List ℕ → Entry → ℕ
against l e = showing (below e) l

-- "at least b+1 servers": one more than can lie
abbrev pub vouchers : ℕ → ℕ
vouchers b = b + 1

-- "entries shown by at least b+1 servers": by at least c
abbrev pub candidate : List ℕ → ℕ → Entry → Bool
candidate l c e = leb c (support l e)

-- "drops an entry against which that many servers show larger stamps"
abbrev pub dropped : List ℕ → ℕ → Entry → Bool
dropped l c e = leb c (against l e)

-- "the largest stamp, for equal stamps the smaller value": e is better than d
unfoldable pub outranks : Entry → Entry → Bool
outranks e d = below d e || (not (below e d) && ltb e.value d.value)

abbrev pub better : Option Entry → Entry → Option Entry
better None e = Some e
better (Some d) e = Some (if (outranks e d) e d)

-- the better of what was found before and the entry of answer number k, if that qualifies
abbrev pub best_with : (Entry → Bool) → List ℕ → ℕ → Option Entry → Option Entry
best_with q l k before = if (q (entry_shown l k)) (better before (entry_shown l k)) before

-- the best of those entries of answers 1 to k that qualify
unfoldable pub best_to : (Entry → Bool) → List ℕ → ℕ → Option Entry
best_to q l zero = None
best_to q l (suc k) = best_with q l (suc k) (best_to q l k)

abbrev pub best : (Entry → Bool) → List ℕ → Option Entry
best q l = best_to q l (answer_count l)

-- "among entries shown by at least b+1 servers the largest stamp, for equal stamps the smaller value"
abbrev pub first_choice : List ℕ → ℕ → Option Entry
first_choice l b = best (candidate l (vouchers b)) l

-- "the largest permitted b plus 1 in place of b+1 and drops an entry"
abbrev pub standing : List ℕ → ℕ → Entry → Bool
standing l c e = candidate l c e && not (dropped l c e)

abbrev pub second_choice : List ℕ → ℕ → Option Entry
second_choice l largest = best (standing l (vouchers largest)) l
