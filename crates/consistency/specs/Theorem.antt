-- Demand 3 on the bytes, for runs and for journals; proofs/Theorem.antt proves both. What runs, histories and journals are stands in
-- Runs.antt, Journals.antt and image/specs/Steps.antt; what `Consistent` is, in protocol/specs/Consistent.antt. Assumes nothing.
use Rattle.std.specs.Prelude.{ℕ, true, ◌≡◌, List}
use Rattle.protocol.specs.Tools.{done}
use Rattle.protocol.specs.Consistent.{Consistent}
use Rattle.image.specs.Fresh.{fresh_on}
use Rattle.image.specs.Premise.{premise_on}
use Rattle.image.specs.Steps.{replay_on}
use Rattle.consistency.specs.Runs.{run_from, history}
use Rattle.consistency.specs.Journals.{steps_done}

-- For every buffer, member bits, f and r that are not refused, and every list of byte strings of any length, each a step on the
-- image that the last one left: if the premise report of the last image says that the premise holds, the operations of the run
-- have one order in which each read returns the last write before it.
abbrev pub LinearizableImages : Type 0
LinearizableImages =
    (buffer : List ℕ) (members f r : ℕ) → (fresh_on buffer members f r).refusal ≡ 0 → (steps : List (List ℕ))
    → premise_on (run_from (fresh_on buffer members f r).image steps).image ≡ done true → Consistent (history (run_from (fresh_on buffer members f r).image steps))

-- For every buffer, member bits, f and r that are not refused, and every journal of any bytes and any length: if the premise report of
-- the image that its replay on the fresh image leaves says that the premise holds, so have the operations of the steps done.
abbrev pub LinearizableJournals : Type 0
LinearizableJournals =
    (buffer : List ℕ) (members f r : ℕ) → (fresh_on buffer members f r).refusal ≡ 0 → (journal : List ℕ)
    → premise_on (replay_on (fresh_on buffer members f r).image journal).image ≡ done true
    → Consistent (history (run_from (fresh_on buffer members f r).image (steps_done (fresh_on buffer members f r).image journal)))
