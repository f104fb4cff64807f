-- The operations of a run and the worlds they meet: what each one has sent, seen and made sure of. Assumes nothing.
use Rattle.std.specs.Prelude.{ℕ, ◌+◌, ◌≤◌, ◌<◌, true, false, ◌≡◌, ◌⊎◌, List, eqb}
use Rattle.protocol.specs.declared.Entry.{Entry}
use Rattle.protocol.specs.declared.Phase.TheVariants.{Reading, Writing}
use Rattle.protocol.specs.Tools.{if}
use Rattle.protocol.specs.Entries.{count_of, writer_of}
use Rattle.protocol.specs.Servers.{WRITE}
use Rattle.protocol.specs.Clients.{WRITES, READS, number, is_idle}
use Rattle.protocol.specs.Worlds.{World, client}
use Rattle.protocol.specs.Consistent.{In}
use Rattle.protocol.specs.Runs.{Tracked}
use Rattle.protocol.proofs.Laws.Worlds.{sent}
use Rattle.agreement.specs.Lists.{Rising}
use Rattle.agreement.specs.Invariants.{Origin}
use Rattle.agreement.specs.Carried.{Held, Read}

-- ---- the entry of an operation: that which it returned, or while it is unfinished that of its WRITE

abbrev pub shows : World → Tracked → Entry
shows w o = if (eqb o.end 0) (sent w o.write).entry o.entry

-- H2: an operation whose WRITE is sent has seen enough answers to its READ; it carries the chosen entry, or one with a count
-- above it and the client's own number
pub record Wrote (w : World) (who kind read write : ℕ) : Type 0 where
  pub after : read < write
  pub below : write ≤ w.used
  pub is : (sent w write).kind ≡ WRITE
  pub chosen : Entry
  pub seen : Read w chosen read
  pub origin : Origin w write chosen
  pub back : kind ≡ READS → (sent w write).entry ≡ chosen
  pub above : kind ≡ WRITES → count_of chosen < count_of (sent w write).entry
  pub own : kind ≡ WRITES → writer_of (sent w write).entry ≡ who

-- a read that ended in one exchange returned the entry that it chose
pub record Exchanged (w : World) (o : Tracked) : Type 0 where
  pub read : o.kind ≡ READS
  pub seen : Read w o.entry o.read
  pub origin : Origin w (w.used + 1) o.entry

-- H3: an ended operation made sure of its entry before any later one began to read; it is that of its WRITE, if it sent one
pub record Done (w : World) (l : List Tracked) (o : Tracked) : Type 0 where
  pub entry : 1 ≤ o.write → o.entry ≡ (sent w o.write).entry
  pub once : o.write ≡ 0 → Exchanged w o
  pub bound : ℕ
  pub below : bound ≤ w.used
  pub held : Held w o.entry bound
  pub later : (x : Tracked) → In x l → o.end < x.begin → bound < x.read

-- H1: an open phase is that of its client's open operation
pub data Open (w : World) (who read write : ℕ) : Type 0 where
  reading : (client w who).phase ≡ Reading (number read) → write ≡ 0 → Open w who read write
  writing : (client w who).phase ≡ Writing (number write) → 1 ≤ write → (client w who).entry ≡ (sent w write).entry → Open w who read write

-- a write operation whose WRITE is sent
pub record Own (o : Tracked) : Type 0 where
  pub write : o.kind ≡ WRITES
  pub sent : 1 ≤ o.write

pub record Fits (w : World) (place : ℕ) (l : List Tracked) (o : Tracked) : Type 0 where
  pub low : 1 ≤ o.client
  pub kind : (o.kind ≡ WRITES) ⊎ (o.kind ≡ READS)
  pub read : o.read ≤ w.used
  pub began : o.begin < place
  pub ends : o.end < place
  pub spans : 1 ≤ o.end → o.begin < o.end
  pub wrote : 1 ≤ o.write → Wrote w o.client o.kind o.read o.write
  pub phase : o.active ≡ true → Open w o.client o.read o.write
  pub alike : o.active ≡ true → (client w o.client).kind ≡ o.kind
  pub going : o.active ≡ true → o.end ≡ 0
  pub given : Own o → count_of (sent w o.write).entry ≤ (client w o.client).given.0
  pub done : 1 ≤ o.end → Done w l o

-- an operation that has an entry chose one that enough servers showed, and returned it or wrote above it
pub record Chose (w : World) (o : Tracked) : Type 0 where
  pub chosen : Entry
  pub seen : Read w chosen o.read
  pub at : ℕ
  pub below : at ≤ w.used + 1
  pub origin : Origin w at chosen
  pub back : o.kind ≡ READS → shows w o ≡ chosen
  pub above : o.kind ≡ WRITES → count_of chosen < count_of (shows w o)
  pub own : o.kind ≡ WRITES → writer_of (shows w o) ≡ o.client

-- operations in the order of their beginning; of one client's the earlier is over, and the later write has the larger count
pub record Earlier (w : World) (a b : Tracked) : Type 0 where
  pub read : a.read < b.read
  pub begin : a.begin < b.begin
  pub over : a.client ≡ b.client → a.active ≡ false
  pub counts : a.client ≡ b.client → Own a → Own b → count_of (sent w a.write).entry < count_of (sent w b.write).entry

-- an operation of the list of which P holds
pub record Some (l : List Tracked) (P : Tracked → Type 0) : Type 0 where
  pub of : Tracked
  pub member : In of l
  pub has : P of

pub record Story (w : World) (place : ℕ) (l : List Tracked) : Type 0 where
  pub fits : (o : Tracked) → In o l → Fits w place l o
  pub order : Rising (Earlier w) l
  pub opener : (c : ℕ) → 1 ≤ c → is_idle (client w c).phase ≡ false → Some l (λ o. (o.client ≡ c) × (o.active ≡ true))
  pub writer : (j : ℕ) → 1 ≤ j → j ≤ w.used → (sent w j).kind ≡ WRITE → Some l (λ o. o.write ≡ j)
