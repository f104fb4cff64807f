-- The refusals of the code by their numbers, and its answers as those of the rules. Assumes nothing.
use Rattle.std.specs.Prelude.{ℕ, ◌≡◌, Result as Outcome, Ok, Err}
use Rattle.std.proofs.Common.{arith}
use Rattle.protocol.specs.declared.refusals.Refusal.{Refusal}
use Rattle.protocol.specs.declared.refusals.Refusal.TheVariants.{WrongLength, Unreadable, Unfit, Busy, NoMessage, FaultState, NotApplicable, WrongSize, NoKey, NoNumber, NoCount, Idle, NoOrder, Malformed, NoRefusal, Unvouched}
use Rattle.protocol.specs.Tools.{Result, refused, done}

abbrev pub refusal_number : Refusal → ℕ
refusal_number WrongLength = 1
refusal_number Unreadable = 2
refusal_number Unfit = 3
refusal_number Busy = 4
refusal_number NoMessage = 5
refusal_number FaultState = 6
refusal_number NotApplicable = 7
refusal_number WrongSize = 8
refusal_number NoKey = 9
refusal_number NoNumber = 10
refusal_number NoCount = 11
refusal_number Idle = 12
refusal_number NoOrder = 13
refusal_number Malformed = 14
refusal_number NoRefusal = 15
refusal_number Unvouched = 16

-- a refusal has a number, and 0 is none's
pub refusal_some : (r : Refusal) → 0 ≡ refusal_number r → ⊥
refusal_some r e = grind (arith, e)

-- an answer of the code: the refusal by its number, or what was done, as f shows it
abbrev pub outcome_by : {A B : Type 0} → (A → B) → Outcome A Refusal → Result B
outcome_by f (Ok a) = done (f a)
outcome_by f (Err r) = refused (refusal_number r)

abbrev pub outcome : {A : Type 0} → Outcome A Refusal → Result A
outcome (Ok a) = done a
outcome (Err r) = refused (refusal_number r)

-- the number of an answer of the code: 0 means done
abbrev pub code : {A : Type 0} → Outcome A Refusal → ℕ
code (Ok a) = 0
code (Err r) = refusal_number r
