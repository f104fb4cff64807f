-- The record of a phase says what the step take does, in words: `record_of` is the record of the answers that were taken to a request,
-- `verdict_of` what it says, and `ByRecord` what the step does. The law is `take_by_record` in proofs/Same. No code rests on it.
use Prim.Native.Nat.{ℕ}
use Rattle.std.specs.Prelude.{◌≡◌, Option, None, Some}
use mathlib.Core.List.{List, ◌++◌}
use Rattle.std.proofs.Math.Dec.{eqb}
use Rattle.values.specs.declared.tally.Tally.{Tally}
use Rattle.protocol.specs.declared.Choice.{Choice}
use Rattle.protocol.specs.Tools.{if, Result, done}
use Rattle.protocol.specs.Sizes.{views}
use Rattle.protocol.specs.Servers.{END}
use Rattle.protocol.specs.Worlds.{World, view, message}
use Rattle.protocol.specs.Chains.{chain}
use Rattle.protocol.specs.Steps.{After, moved, link, taken_with, closes, starts, take}
use Rattle.codec.specs.Records.{view_bytes, message_bytes}
use Rattle.codec.specs.Lists.{flat}
use Rattle.protocol.specs.Worlds.{list_to}
use Rattle.phases.specs.declared.phase_record.Head.{Head}
use Rattle.phases.specs.Records.{head, head_bytes}
use Rattle.phases.specs.Records.{tally_bytes}
use Rattle.phases.specs.Rules.{record_closes}
use Rattle.phases.specs.Calls.{RecordTold, head_left, answer_on}
use Rattle.phases.specs.Lists.{tally_in}

-- what is open in a world, r being its request: "END (3) of its view"; a READ and a WRITE name no view
abbrev pub head_in : World → ℕ → Head
head_in w r = head (message w r).kind (message w r).view.0 r

-- the record of a phase: its head and a tally for each view
unfoldable pub phase_bytes : Head → (ℕ → Tally) → List ℕ
phase_bytes h g = head_bytes h ++ flat tally_bytes (list_to g views)

-- the record of the answers ks to request r, from the newest to the oldest
abbrev pub record_of : World → ℕ → List ℕ → List ℕ
record_of w r ks = phase_bytes (head_in w r) (λ t. tally_in w t ks)

-- what it says of the answers ks, the first of which has view t
abbrev pub verdict_of : World → ℕ → ℕ → List ℕ → Option Choice
verdict_of w r t ks = record_closes (head_in w r) (tally_in w t ks) t (view w t)

-- what the step does once it is known whether the phase closes: "the answer either closes its phase or leaves it open"
abbrev pub carried : World → ℕ → ℕ → Option Choice → Result After
carried w k r None = moved (link w k)
carried w k r (Some x) = if (eqb (message w r).kind END) (starts w k x.entry) (closes w k (message w r).sender x.entry x.one)

-- ---- the answer and its view as they are lent

-- message k, then the view that it is tagged with
abbrev pub asked_of : World → ℕ → List ℕ
asked_of w k = message_bytes (message w k) ++ view_bytes (view w (message w k).view.0)

-- the record of the answers ks and of what closes them
abbrev pub told_of : World → ℕ → ℕ → List ℕ → RecordTold
told_of w r t ks = record { phase = head_left (record_of w r ks) (verdict_of w r t ks); choice = verdict_of w r t ks }

-- "Take": in a readable world the step that takes an answer, its first tests passed, does what the record of its phase says
pub record ByRecord (w : World) (k : ℕ) (e : List ℕ) : Type 0 where
  pub told : answer_on (record_of w (message w k).request.0 (chain w (message w k).request.0)) (asked_of w k) e
      ≡ done (told_of w (message w k).request.0 (message w k).view.0 (taken_with w k))
  pub step : take w k ≡ carried w k (message w k).request.0 (verdict_of w (message w k).request.0 (message w k).view.0 (taken_with w k))
