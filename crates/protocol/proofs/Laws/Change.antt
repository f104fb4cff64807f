-- What every accepted step does to a world, in one statement: the invariants of runs are proved from it, and look at no step.
-- Assumes nothing.
use Rattle.std.specs.Prelude.{ℕ, ◌+◌, ◌≤◌, Bool, true, false, ◌&&◌, ◌≡◌, ◌⊎◌}
use Rattle.protocol.specs.Types.{Entry, Server, Message, Idle, Reading, Writing}
use Rattle.protocol.specs.Tools.{count_to, holds}
use Rattle.protocol.specs.Sizes.{servers, read_size, write_size}
use Rattle.protocol.specs.Entries.{empty}
use Rattle.protocol.specs.Servers.{WRITE, END, START, ANSWER, is_request}
use Rattle.protocol.specs.Clients.{READS, number, to_write, given_by}
use Rattle.protocol.specs.Worlds.{World, view, server, client, newest, member}
use Rattle.protocol.proofs.Laws.Entries.{◌≼◌}
use Rattle.protocol.proofs.Laws.Worlds.{sent}

-- a server may lie under a key that it holds
abbrev pub lying : Server → ℕ → Bool
lying a t = a.faulty && holds a.keys.0 t

-- ---- evidence that enough servers answered

-- an answer of server s with view t, of which P holds
pub record Vote (w : World) (t s : ℕ) (P : ℕ → Type 0) : Type 0 where
  pub at : ℕ
  pub below : at ≤ w.used
  pub is : (sent w at).kind ≡ ANSWER
  pub who : (sent w at).sender ≡ s
  pub tag : (sent w at).view.0 ≡ t
  pub fact : P at

pub record Votes (w : World) (t size : ℕ) (P : ℕ → ℕ → Type 0) : Type 0 where
  pub seen : ℕ → Bool
  pub enough : size ≤ count_to seen servers
  pub vote : (s : ℕ) → seen s ≡ true → Vote w t s (P s)

-- answer k is to request r, and its stamp is at most that of e
pub record To (w : World) (r : ℕ) (e : Entry) (k : ℕ) : Type 0 where
  pub request : (sent w k).request.0 ≡ r
  pub covered : (sent w k).entry ≼ e

-- e is the entry of an answer with view t to request r
pub record Chosen (w : World) (t r : ℕ) (e : Entry) : Type 0 where
  pub at : ℕ
  pub below : at ≤ w.used
  pub is : (sent w at).kind ≡ ANSWER
  pub tag : (sent w at).view.0 ≡ t
  pub request : (sent w at).request.0 ≡ r
  pub entry : (sent w at).entry ≡ e

-- ---- servers

-- a message of the kind k was sent with the number n
pub record Sent (w : World) (kind n : ℕ) : Type 0 where
  pub below : n ≤ w.used
  pub is : (sent w n).kind ≡ kind

-- a server stays in its view, or joins one by START
pub data Joined (w : World) (a b : Server) : Type 0 where
  stay : b.view.0 ≡ a.view.0 → Joined w a b
  join : (n : ℕ) → Sent w START n → (sent w n).view.0 ≡ b.view.0 → (sent w n).entry ≼ b.entry → Joined w a b

-- a key of view t comes from START of t, and goes to a member of it
pub record Given (w : World) (t s : ℕ) : Type 0 where
  pub by : ℕ
  pub sent_by : Sent w START by
  pub tag : (sent w by).view.0 ≡ t
  pub to : member w t s ≡ true

-- an entry was sent in a WRITE or START
pub data Carried (w : World) (e : Entry) : Type 0 where
  written : (n : ℕ) → Sent w WRITE n → (sent w n).entry ≡ e → Carried w e
  begun : (n : ℕ) → Sent w START n → (sent w n).entry ≡ e → Carried w e

-- a server only goes on: its view and stamp rise, a key given up comes back to no server that cannot lie with it, and who
-- could lie still can
pub record Grew (w : World) (s : ℕ) (a b : Server) : Type 0 where
  pub view : a.view.0 ≤ b.view.0
  pub entry : a.entry ≼ b.entry
  pub lost : (t : ℕ) → t ≤ a.view.0 → holds a.keys.0 t ≡ false → lying b t ≡ false → holds b.keys.0 t ≡ false
  pub fair : (t : ℕ) → lying b t ≡ false → lying a t ≡ false
  pub keys : (t : ℕ) → holds b.keys.0 t ≡ true → (holds a.keys.0 t ≡ true) ⊎ Given w t s
  pub joined : Joined w a b
  pub source : (b.entry ≡ a.entry) ⊎ Carried w b.entry

-- ---- the new message, m

-- what an answer of a server that is then b owes, unless it may lie
pub record Honest (w : World) (m : Message) (b : Server) : Type 0 where
  pub home : m.view.0 ≡ b.view.0
  pub current : m.entry ≡ b.entry
  pub write : (sent w m.request.0).kind ≡ WRITE → (sent w m.request.0).entry ≼ m.entry
  pub ended : (sent w m.request.0).kind ≡ END → holds b.keys.0 m.view.0 ≡ false

-- the request of an answer
pub record Asked (w : World) (r : ℕ) : Type 0 where
  pub low : 1 ≤ r
  pub below : r ≤ w.used
  pub is : is_request (sent w r).kind ≡ true

-- "the empty entry or the entry of any WRITE sent", or that of its server
pub data Shows (w : World) (e own : Entry) : Type 0 where
  nothing : e ≡ empty → Shows w e own
  old : (n : ℕ) → Sent w WRITE n → (sent w n).entry ≡ e → Shows w e own
  its : e ≡ own → Shows w e own

pub record Said (w v : World) (m : Message) : Type 0 where
  pub held : holds (server w m.sender).keys.0 m.view.0 ≡ true
  pub asked : Asked w m.request.0
  pub shows : Shows w m.entry (server v m.sender).entry
  pub honest : lying (server v m.sender) m.view.0 ≡ false → Honest w m (server v m.sender)

-- START of the view after t: enough servers of t answered one END, and its entry is the largest that they showed
pub record Started (w v : World) (m : Message) : Type 0 where
  pub tag : m.view.0 ≡ newest w + 1
  pub raised : newest v ≡ newest w + 1
  pub end : ℕ
  pub ends : (sent w end).kind ≡ END
  pub votes : Votes w (newest w) (write_size (view w (newest w))) (λ s k. To w end m.entry k)
  pub chosen : Chosen w (newest w) end m.entry

-- a READ phase closed: its WRITE carries the chosen entry, or one with a count above it
pub record Closed (w v : World) (c r : ℕ) : Type 0 where
  pub tag : ℕ
  pub entry : Entry
  pub votes : Votes w tag (read_size (view w tag)) (λ s k. To w r entry k)
  pub chosen : Chosen w tag r entry
  pub writes : (sent v v.used).kind ≡ WRITE
  pub sender : (sent v v.used).sender ≡ c
  pub carries : (sent v v.used).entry ≡ to_write (client w c) c entry
  pub given : (client v c).given ≡ given_by (client w c) entry

-- a WRITE phase closed
pub record Kept (w : World) (r : ℕ) : Type 0 where
  pub tag : ℕ
  pub entry : Entry
  pub votes : Votes w tag (write_size (view w tag)) (λ s k. To w r entry k)
  pub chosen : Chosen w tag r entry

-- answer k is to request r, and shows e
pub record Showed (w : World) (r : ℕ) (e : Entry) (k : ℕ) : Type 0 where
  pub request : (sent w k).request.0 ≡ r
  pub shows : (sent w k).entry ≡ e

-- a READ phase closed on answers that show one entry, as many as a WRITE needs
pub record Agreed (w : World) (r : ℕ) (e : Entry) : Type 0 where
  pub tag : ℕ
  pub votes : Votes w tag (read_size (view w tag)) (λ s k. Showed w r e k)
  pub covers : write_size (view w tag) ≤ read_size (view w tag)
  pub chosen : Chosen w tag r e
  pub other : (sent w r).kind ≡ END → ⊥

-- ---- clients

-- what a step that completed `done` and began an operation of `starter` (0 for none) does to client c
pub data Acted (w v : World) (done starter kind c : ℕ) : Type 0 where
  same : client v c ≡ client w c → (done ≡ c → ⊥) → (starter ≡ c → ⊥) → Acted w v done starter kind c
  began : starter ≡ c → (done ≡ c → ⊥) → v.used ≡ w.used + 1 → (client w c).phase ≡ Idle → (client v c).phase ≡ Reading (number v.used)
      → (client v c).kind ≡ kind → (client v c).given ≡ (client w c).given → Acted w v done starter kind c
  wrote : (r : ℕ) → (done ≡ c → ⊥) → (starter ≡ c → ⊥) → v.used ≡ w.used + 1 → (client w c).phase ≡ Reading (number r)
      → (client v c).phase ≡ Writing (number v.used) → (client v c).kind ≡ (client w c).kind → (client v c).entry ≡ (sent v v.used).entry
      → Closed w v c r → Acted w v done starter kind c
  ended : (r : ℕ) → done ≡ c → (starter ≡ c → ⊥) → (client w c).phase ≡ Writing (number r) → (client v c).phase ≡ Idle
      → (client v c).entry ≡ (client w c).entry → (client v c).given ≡ (client w c).given → Kept w r → Acted w v done starter kind c
  exchanged : (r : ℕ) → done ≡ c → (starter ≡ c → ⊥) → (client w c).phase ≡ Reading (number r) → (client w c).kind ≡ READS → (client v c).phase ≡ Idle
      → (client v c).given ≡ (client w c).given → Agreed w r (client v c).entry → Acted w v done starter kind c
  gave_up : (done ≡ c → ⊥) → (starter ≡ c → ⊥) → (client v c).phase ≡ Idle → (client v c).given ≡ (client w c).given → Acted w v done starter kind c

-- a WRITE is sent by a client whose READ phase closed
pub record Writer (w v : World) (m : Message) : Type 0 where
  pub low : 1 ≤ m.sender
  pub was : ℕ
  pub reading : (client w m.sender).phase ≡ Reading (number was)
  pub writing : (client v m.sender).phase ≡ Writing (number v.used)

-- ---- the whole

pub record New (w v : World) (m : Message) : Type 0 where
  pub answer : m.kind ≡ ANSWER → Said w v m
  pub start : m.kind ≡ START → Started w v m
  pub write : m.kind ≡ WRITE → Writer w v m

-- a step sends one message or none; a START is the only way to a new newest view
pub data Posted (w v : World) : Type 0 where
  none : v.used ≡ w.used → newest v ≡ newest w → Posted w v
  one : v.used ≡ w.used + 1 → New w v (sent v v.used) → (newest v ≡ newest w) ⊎ ((sent v v.used).kind ≡ START) → Posted w v

pub record Change (w v : World) : Type 0 where
  pub old : (i : ℕ) → i ≤ w.used → sent v i ≡ sent w i
  pub posted : Posted w v
  pub views : (t : ℕ) → t ≤ newest w → view v t ≡ view w t
  pub grew : (s : ℕ) → Grew w s (server w s) (server v s)

-- and what it does to each client
pub record Moved (w v : World) (done starter kind : ℕ) : Type 0 where
  pub change : Change w v
  pub acted : (c : ℕ) → 1 ≤ c → Acted w v done starter kind c
