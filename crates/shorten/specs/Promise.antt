-- What the caller finds in what was lent, in words: `Given`. That it is so is `short_journal_lem` in proofs/Promise. Assumes nothing.
use Rattle.std.specs.Prelude.{ℕ, ◌*◌, ◌-◌, ◌≤◌, List, drop}
use Rattle.std.proofs.Math.Path.{◌≡◌}
use Rattle.std.proofs.Math.ListN.{length, replicate}
use Rattle.protocol.specs.Tools.{done}
use Rattle.protocol.specs.Worlds.{World, fresh}
use Rattle.protocol.specs.Runs.{step_width}
use Rattle.codec.specs.Images.{encode}
use Rattle.image.specs.Steps.{steps_in, steps_of}
use Rattle.shorten.specs.Journals.{most_steps, Short}

-- from the fresh world of these member bits, f and read size and from the journal j: the image i, and the buffer s with a short journal of k steps
pub record Given (bits f reads : ℕ) (j : List ℕ) (k : ℕ) (i s : List ℕ) : Type 0 where
  pub world : World
  pub begins : fresh bits f reads ≡ done world
  pub image : i ≡ encode world
  pub short : Short world (steps_of j) (steps_in k s)
  pub most : k ≤ most_steps
  pub zero_after : drop (k * step_width) s ≡ replicate (length s - k * step_width) 0
