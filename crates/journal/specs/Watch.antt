-- "A second form of replay": what it does to an image, for every image and every journal (`watch_on`). It is a replay, and it names a
-- step by the premise after each one, which is the full count of all servers against all views (`premise` of protocol). The code of
-- `watch` and the C interface promise it. Assumes nothing.
use Rattle.std.specs.Prelude.{ℕ, suc, ◌%◌, ◌&&◌, List, [], ◌∷◌, length, eqb}
use Rattle.protocol.specs.Tools.{if, Result, refused, done}
use Rattle.protocol.specs.Worlds.{World, premise}
use Rattle.protocol.specs.Steps.{After}
use Rattle.protocol.specs.Runs.{step_width, step_bytes}
use Rattle.codec.specs.Layout.{image_size}
use Rattle.codec.specs.Images.{decode}
use Rattle.readable.specs.Readable.{readable}
use Rattle.image.specs.Steps.{steps_of, Played, replay_on}

-- "the first accepted step after which the premise does not hold, or 0": n steps were done before these, and led to w
abbrev pub broken_by : ℕ → Result After → (World → ℕ) → ℕ
broken_by n (refused k) go = 0
broken_by n (done a) go = if (premise a.world) (go a.world) n

unfoldable pub broken_from : ℕ → World → List (List ℕ) → ℕ
broken_from n w [] = 0
broken_from n w (b ∷ bs) = broken_by (suc n) (step_bytes w b) (λ v. broken_from (suc n) v bs)

-- a replay, and the step that it names beside it
pub record Watched : Type 0 where
  pub played : Played
  pub first : ℕ

-- "A second form of replay also names, beside a stop too, the first accepted step after which the premise does not hold, or 0."
unfoldable pub watch_on : List ℕ → List ℕ → Watched
watch_on i j =
    record {
      played = replay_on i j;
      first = if (eqb (length i) image_size && (eqb (length j % step_width) 0 && readable i)) (broken_from 0 (decode i) (steps_of j)) 0;
    }
