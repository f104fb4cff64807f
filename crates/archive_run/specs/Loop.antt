-- What the program's loop does: the steps that it counts (`Led`), where it stops (`Stops`), and what a turn says of it (`Says`). Used by
-- the contracts of the program's loop. Assumes nothing.
use Rattle.std.specs.Prelude.{ℕ, ◌+◌, ◌≡◌, refl, List, Bool, true, false, Result as Outcome, Ok, Err}
use Rattle.std.proofs.Common.{arith, ap, ◌∙◌}
use Rattle.protocol.specs.Tools.{Result, refused, done, passed}
use Rattle.protocol.specs.Steps.{After}
use Rattle.protocol.specs.declared.refusals.Refusal.{Refusal}
use Rattle.protocol.specs.Refusals.{refusal_number}
use Rattle.protocol.specs.Runs.{step_of}
use Rattle.preservation.proofs.Kept.{step_kept}
use Rattle.codec.specs.Images.{encode, decode}
use Rattle.image.specs.Steps.{step_on, left_by}
use Rattle.mail.specs.Images.{Legible}
use Rattle.journal.specs.Replays.{spelled}
use Rattle.archive_run.specs.Turns.{lined}

-- a record was accepted as a step on the image l, and left l'
pub record Accepted (l l' : List ℕ) : Type 0 where
  pub bytes : List ℕ
  pub after : After
  pub step : step_on l bytes ≡ done after
  pub image : l' ≡ encode after.world

-- n records, one after another, were accepted from the image l on, and left l'
pub data Led (l : List ℕ) : ℕ → List ℕ → Type 0 where
  none : Led l 0 l
  more : {n : ℕ} {m l' : List ℕ} → Led l n m → Accepted m l' → Led l (n + 1) l'

-- "refusal of the stop or 0": on the image l the input or the turns ended, or a record was refused
pub data Stops (l : List ℕ) : ℕ → Type 0 where
  ended : Stops l 0
  refuses : {n : ℕ} (b : List ℕ) → step_on l b ≡ refused n → Stops l n

-- what the answer of a turn says of the images before and after it: a record was accepted, or none was left, or it was refused
abbrev pub Says : Outcome Bool Refusal → List ℕ → List ℕ → Type 0
Says (Ok true) l l' = Accepted l l'
Says (Ok false) l l' = (l' ≡ l) × Stops l 0
Says (Err n) l l' = (l' ≡ l) × Stops l (refusal_number n)

-- ---- a turn

pub says_end : (l : List ℕ) → Says (Ok false) l l
says_end l = (refl, ended)

pub says_refused : (l l' b : List ℕ) (n : Refusal) → refused (refusal_number n) ≡ lined (step_on l b) → l' ≡ left_by l (step_on l b) → Says (Err n) l l'
says_refused l l' b n e q = go (step_on l b) refl e q
  where
    go : (x : Result After) → step_on l b ≡ x → refused (refusal_number n) ≡ lined x → l' ≡ left_by l x → (l' ≡ l) × Stops l (refusal_number n)
    go (refused m) f e q = let s : m ≡ refusal_number n = cc in (q, refuses b (f ∙ ap refused s))
    go (done a) f e q = let z : ◌≡◌ {A = ℕ} 0 1 = cc in absurd (omega arith)

-- ---- the loop

-- an accepted record leaves a readable image
accepted_on : {l l' : List ℕ} → Legible l → Accepted l l' → Legible l'
unfolding step_on
accepted_on {l} {l'} h t =
    let (p, f) = passed _ _ _ _ t.step in
    let (o, g) = passed _ _ _ _ f in
    spelled t.after.world (step_kept (decode l) h.formed (step_of t.bytes) t.after g) l' t.image

pub led_on : {l m : List ℕ} {n : ℕ} → Legible l → Led l n m → Legible m
led_on h none = h
led_on h (more p a) = accepted_on (led_on h p) a
