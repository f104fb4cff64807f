-- What a step and a journal do to an image, for every byte string: `step_on`, `replay_on` and `resume_on`, with the refusals in the
-- order tested. `left_by` is the image that a step leaves, `answered` what it tells; a replay's answer and image are a `Played`.
-- `world`, `journal`, the program and the C interface promise them, and the claim in `consistency` is about them. Assumes nothing.
use Rattle.std.specs.Prelude.{ℕ, zero, suc, ◌*◌, ◌/◌, ◌%◌, ◌&&◌, List, [], ◌∷◌, length, take, drop, eqb, leb}
use Rattle.protocol.specs.Tools.{if, Result, refused, done, guard}
use Rattle.protocol.specs.Steps.{After, step}
use Rattle.protocol.specs.Runs.{step_width, step_of, Replayed, replay}
use Rattle.codec.specs.Layout.{image_size}
use Rattle.codec.specs.Images.{encode, decode}
use Rattle.readable.specs.Readable.{readable}

-- "Any step: 1, image or step of wrong length; 2, unreadable; 3 ... Then by kind"
unfoldable pub step_on : List ℕ → List ℕ → Result After
step_on i b =
    guard (eqb (length i) image_size && eqb (length b) step_width) 1 (guard (readable i) 2 (step (decode i) (step_of b)))

-- "A refusal changes no byte"; else the image of the world after it
abbrev pub left_by : List ℕ → Result After → List ℕ
left_by i (refused n) = i
left_by i (done a) = encode a.world

-- the refusal of a step, or the client whose operation it completed, or 0
abbrev pub answered : Result After → Result ℕ
answered (refused n) = refused n
answered (done a) = done a.completed

-- the steps of a journal, each 12 bytes: n of them
unfoldable pub steps_in : ℕ → List ℕ → List (List ℕ)
steps_in zero j = []
steps_in (suc n) j = take step_width j ∷ steps_in n (drop step_width j)

unfoldable pub steps_of : List ℕ → List (List ℕ)
steps_of j = steps_in (length j / step_width) j

-- the answer of a replay and the image that it leaves
pub record Played : Type 0 where
  pub steps : ℕ
  pub refusal : ℕ
  pub image : List ℕ

abbrev pub played : Replayed → Played
played r = record { steps = r.steps; refusal = r.refusal; image = encode r.world }

abbrev pub unplayed : List ℕ → ℕ → Played
unplayed i n = record { steps = 0; refusal = n; image = i }

-- "Replay (image, journal): 1, journal not a multiple of 12 or image length wrong; 2. It stops at the first refused step and
-- returns the number of steps done and the refusal; the image holds the accepted ones."
unfoldable pub replay_on : List ℕ → List ℕ → Played
replay_on i j =
    if (eqb (length i) image_size && eqb (length j % step_width) 0)
    (if (readable i) (played (replay (decode i) (steps_of j))) (unplayed i 2))
    (unplayed i 1)

-- "The rest of the journal after the last accepted step can be replayed": what is left of j after n steps; 1, it has fewer
unfoldable pub resume_on : List ℕ → List ℕ → ℕ → Played
resume_on i j n = if (leb n (length j / step_width)) (replay_on i (drop (n * step_width) j)) (unplayed i 1)
