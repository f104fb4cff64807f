-- Which operations of a run stand in its order. Assumes nothing.
use Rattle.std.specs.Prelude.{ℕ, Bool, not, ◌&&◌, ◌||◌, List, ltb, eqb}
use Rattle.protocol.specs.declared.Entry.{Entry}
use Rattle.protocol.specs.Tools.{any}
use Rattle.protocol.specs.Entries.{same}
use Rattle.protocol.specs.Clients.{WRITES, READS}
use Rattle.protocol.specs.Worlds.{World}
use Rattle.protocol.specs.Runs.{Tracked, unfinished}
use Rattle.agreement.specs.Carried.{Trusted}
use Rattle.agreement.specs.Operations.{Story, shows as entry_at}

-- ---- the operations l of a run that ends in w

module _ {w : World} {place : ℕ} {l : List Tracked} (t : Trusted w) (s : Story w place l) where
  abbrev shows : Tracked → Entry
  shows o = entry_at w o

  -- a completed read returned the entry of o
  abbrev pub returned : Tracked → Bool
  returned o = any (λ x. not (unfinished x) && (eqb x.kind READS && same (shows x) (shows o))) l

  -- o stands in the order
  unfoldable pub stands : Tracked → Bool
  stands o = not (unfinished o) || (eqb o.kind WRITES && (ltb 0 o.write && returned o))
