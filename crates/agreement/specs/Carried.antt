-- What is known of the last world of a run, and when an entry is held and seen there. Assumes nothing.
use Rattle.std.specs.Prelude.{ℕ, ◌≤◌, ◌<◌, true, false, ◌≡◌}
use Rattle.protocol.specs.declared.Entry.{Entry}
use Rattle.protocol.specs.Sizes.{sized, read_size, write_size}
use Rattle.protocol.specs.Servers.{END}
use Rattle.protocol.specs.Worlds.{World, view, server, newest, premise}
use Rattle.protocol.proofs.Laws.Entries.{◌≼◌}
use Rattle.protocol.proofs.Laws.Worlds.{sent}
use Rattle.protocol.proofs.Laws.Change.{lying, Votes}
use Rattle.agreement.specs.Invariants.{Inv}

-- the last world of a run: its invariants, and the premise
pub record Trusted (w : World) : Type 0 where
  pub inv : Inv w
  pub sizes : (t : ℕ) → 1 ≤ t → t ≤ newest w → sized (view w t) ≡ true
  pub premise : premise w ≡ true

-- an answer before b that is to no END and, unless its server may lie, shows a stamp no smaller than that of e
pub record Holds (w : World) (e : Entry) (b t s k : ℕ) : Type 0 where
  pub before : k ≤ b
  pub other : (sent w (sent w k).request.0).kind ≡ END → ⊥
  pub shows : lying (server w s) t ≡ false → e ≼ (sent w k).entry

-- e is held by enough servers of a view, as their answers up to message b show
pub record Held (w : World) (e : Entry) (b : ℕ) : Type 0 where
  pub tag : ℕ
  pub low : 1 ≤ tag
  pub high : tag ≤ newest w
  pub votes : Votes w tag (write_size (view w tag)) (λ s k. Holds w e b tag s k)

-- an answer after b whose stamp is at most that of e
pub record Seen (w : World) (e : Entry) (b k : ℕ) : Type 0 where
  pub after : b < k
  pub covered : (sent w k).entry ≼ e

-- e is the largest of what enough servers of a view showed after message b
pub record Read (w : World) (e : Entry) (b : ℕ) : Type 0 where
  pub tag : ℕ
  pub low : 1 ≤ tag
  pub high : tag ≤ newest w
  pub votes : Votes w tag (read_size (view w tag)) (λ s k. Seen w e b k)
