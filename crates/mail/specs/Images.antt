-- A step's answer and the image that it leaves. Assumes nothing.
use Rattle.std.specs.Prelude.{ℕ, zero, suc, true, ◌≡◌, List, length, Option, None, Some, Result as Outcome, Ok, Err, ltb, ◌+◌}
use Rattle.protocol.specs.declared.refusals.Refusal.{Refusal}
use Rattle.protocol.specs.declared.refusals.Refusal.TheVariants.{NoNumber}
use Rattle.protocol.specs.declared.MessageNumber.{MessageNumber}
use Rattle.protocol.specs.Sizes.{messages}
use Rattle.protocol.specs.declared.Message.{Message}
use Rattle.protocol.specs.Tools.{if, Result, refused, done}
use Rattle.protocol.specs.Refusals.{outcome}
use Rattle.protocol.specs.Steps.{After}
use Rattle.protocol.specs.Readable.{well_formed}
use Rattle.codec.specs.Layout.{image_size}
use Rattle.codec.specs.Places.{put_used, put_message}
use Rattle.codec.specs.Images.{encode, decode}
pub use Rattle.image.specs.Steps.{left_by, answered}

-- a step's answer: a refusal, or the client whose operation it completed, if it completed one
abbrev pub Stepped : Type 0
Stepped = Outcome (Option ℕ) Refusal

-- a number, where the rules say 0 for none
abbrev pub some_of : ℕ → Option ℕ
some_of zero = None
some_of (suc c) = Some (suc c)

abbrev pub told : Result ℕ → Result (Option ℕ)
told (refused n) = refused n
told (done c) = done (some_of c)

-- the image l of a readable world
pub record Legible (l : List ℕ) : Type 0 where
  pub size : length l ≡ image_size
  pub image : encode (decode l) ≡ l
  pub formed : well_formed (decode l) ≡ true

-- a function on the image l answered r and left l', as the step x of its world
pub record Does (r : Stepped) (l l' : List ℕ) (x : Result After) : Type 0 where
  pub answer : outcome r ≡ told (answered x)
  pub image : l' ≡ left_by l x

-- the number after the last used, u; "10, all 1,023 message numbers used"
abbrev pub number_left : ℕ → Outcome MessageNumber Refusal
number_left u = if (ltb u messages) (Ok (record { 0 = u + 1 })) (Err NoNumber)

-- the message m is put at the number n, the last used
unfoldable pub put_sent : List ℕ → ℕ → Message → List ℕ
put_sent l n m = put_message (put_used l n) n m
