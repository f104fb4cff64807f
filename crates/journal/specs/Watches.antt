-- What the code of `watch` answers, in words: `Watches`, and `noticed`, the step named so far. Assumes nothing.
use Rattle.std.specs.Prelude.{ℕ, ◌≡◌, List, Option, None, Some}
use Rattle.protocol.specs.Tools.{if}
use Rattle.protocol.specs.Worlds.{World, premise}
use Rattle.codec.specs.Images.{decode}
use Rattle.readable.specs.Readable.{readable}
use Rattle.mail.specs.Images.{some_of}
use Rattle.journal.specs.declared.Watched.{Watched as Answer}
use Rattle.journal.specs.Replays.{Plays, replay_steps}
use Rattle.journal.specs.Watch.{Watched, broken_from}

-- the function answered r and left the image l, as p
pub record Watches (r : Answer) (l : List ℕ) (p : Watched) : Type 0 where
  pub replay : Plays r.replayed l p.played
  pub first : r.first ≡ some_of p.first

-- the step named so far, or, after a step that led to w, this one
abbrev pub noticed : World → Option ℕ → ℕ → Option ℕ
noticed w None n = if (premise w) None (Some n)
noticed w (Some m) n = Some m

-- whole steps on the bytes of an image
abbrev pub watch_steps : List ℕ → List (List ℕ) → Watched
watch_steps l bs = record { played = replay_steps l bs; first = if (readable l) (broken_from 0 (decode l) bs) 0 }
