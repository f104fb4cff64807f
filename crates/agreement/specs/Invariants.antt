-- What holds of every world that a run reaches. Assumes nothing.
use Rattle.std.specs.Prelude.{ℕ, ◌+◌, ◌≤◌, ◌<◌, true, false, ◌≡◌}
use Rattle.protocol.specs.declared.Entry.{Entry}
use Rattle.protocol.specs.declared.Message.{Message}
use Rattle.protocol.specs.Tools.{holds}
use Rattle.protocol.specs.Sizes.{write_size}
use Rattle.protocol.specs.Entries.{empty}
use Rattle.protocol.specs.Servers.{WRITE, END, START, ANSWER}
use Rattle.protocol.specs.Worlds.{World, view, server, newest, member}
use Rattle.protocol.proofs.Laws.Entries.{◌≼◌}
use Rattle.protocol.proofs.Laws.Worlds.{sent}
use Rattle.protocol.proofs.Laws.Change.{lying, Votes, To}

-- ---- what is said of an answer m

-- m is an answer
abbrev pub IsAnswer : Message → Type 0
IsAnswer m = m.kind ≡ ANSWER

-- an answer of a server that cannot lie with its view
pub record Fair (w : World) (m : Message) : Type 0 where
  pub is : IsAnswer m
  pub good : lying (server w m.sender) m.view.0 ≡ false

-- n is an answer of the same server with the same view
pub record Again (m n : Message) : Type 0 where
  pub is : IsAnswer n
  pub who : n.sender ≡ m.sender
  pub tag : n.view.0 ≡ m.view.0

-- s is a member of view t, which is no later than the newest
pub record Keyed (w : World) (t s : ℕ) : Type 0 where
  pub low : 1 ≤ t
  pub high : t ≤ newest w
  pub to : member w t s ≡ true

-- a START of view t before message n, whose stamp is at most that of e
pub record Root (w : World) (n t : ℕ) (e : Entry) : Type 0 where
  pub at : ℕ
  pub below : at < n
  pub is : (sent w at).kind ≡ START
  pub tag : (sent w at).view.0 ≡ t
  pub under : (sent w at).entry ≼ e

-- an entry of view t, before message n, comes from START of t, unless t is the first view
pub data Based (w : World) (n t : ℕ) (e : Entry) : Type 0 where
  early : t ≤ 1 → Based w n t e
  rooted : Root w n t e → Based w n t e

-- a START of view t before message n
pub record Opened (w : World) (n t : ℕ) : Type 0 where
  pub at : ℕ
  pub below : at < n
  pub is : (sent w at).kind ≡ START
  pub tag : (sent w at).view.0 ≡ t

-- an entry is empty, or that of a WRITE before message n
pub data Origin (w : World) (n : ℕ) (e : Entry) : Type 0 where
  blank : e ≡ empty → Origin w n e
  from : (k : ℕ) → k < n → (sent w k).kind ≡ WRITE → (sent w k).entry ≡ e → Origin w n e

-- answer k, before START m, is to the request r and has a stamp at most that of m's entry
pub record Before (w : World) (m r k : ℕ) : Type 0 where
  pub before : k < m
  pub to : To w r (sent w m).entry k

-- START m: enough servers of the view before it answered one END
pub record StartOf (w : World) (m : ℕ) : Type 0 where
  pub tag : ℕ
  pub low : 1 ≤ tag
  pub next : (sent w m).view.0 ≡ tag + 1
  pub high : tag + 1 ≤ newest w
  pub end : ℕ
  pub asks : end < m
  pub ends : (sent w end).kind ≡ END
  pub votes : Votes w tag (write_size (view w tag)) (λ s k. Before w m end k)

-- ---- the invariants; W1 to W12 are the numbers of docs/PROOF.md

pub record Inv (w : World) : Type 0 where
  pub low : 1 ≤ newest w
  pub first : (sent w 0).kind ≡ 0
  -- W1
  pub later : (k : ℕ) → k ≤ w.used → IsAnswer (sent w k) → (sent w k).request.0 < k
  pub tagged : (k : ℕ) → k ≤ w.used → IsAnswer (sent w k) → Keyed w (sent w k).view.0 (sent w k).sender
  -- W2
  pub keyed : (s t : ℕ) → holds (server w s).keys.0 t ≡ true → Keyed w t s
  -- W4
  pub stamped : (k : ℕ) → k ≤ w.used → Fair w (sent w k) → (sent w k).entry ≼ (server w (sent w k).sender).entry
  pub viewed : (k : ℕ) → k ≤ w.used → Fair w (sent w k) → (sent w k).view.0 ≤ (server w (sent w k).sender).view.0
  -- W5
  pub rising : (i j : ℕ) → i < j → j ≤ w.used → Fair w (sent w i) → Again (sent w i) (sent w j) → (sent w i).entry ≼ (sent w j).entry
  -- W6
  pub paid : (k : ℕ) → k ≤ w.used → Fair w (sent w k) → (sent w (sent w k).request.0).kind ≡ WRITE → (sent w (sent w k).request.0).entry ≼ (sent w k).entry
  -- W7
  pub lost : (k : ℕ) → k ≤ w.used → Fair w (sent w k) → (sent w (sent w k).request.0).kind ≡ END → holds (server w (sent w k).sender).keys.0 (sent w k).view.0 ≡ false
  -- W8
  pub closed : (i j : ℕ) → i < j → j ≤ w.used → Fair w (sent w i) → (sent w (sent w i).request.0).kind ≡ END → Again (sent w i) (sent w j) → ⊥
  -- W9
  pub opened : (t : ℕ) → 2 ≤ t → t ≤ newest w → Opened w (w.used + 1) t
  pub after : (k : ℕ) → k ≤ w.used → IsAnswer (sent w k) → (t : ℕ) → 2 ≤ t → t ≤ (sent w k).view.0 → Opened w k t
  -- W10
  pub based : (s : ℕ) → Based w (w.used + 1) (server w s).view.0 (server w s).entry
  pub rooted : (k : ℕ) → k ≤ w.used → Fair w (sent w k) → Based w (w.used + 1) (sent w k).view.0 (sent w k).entry
  -- W11
  pub started : (m : ℕ) → m ≤ w.used → (sent w m).kind ≡ START → StartOf w m
  -- W12
  pub kept : (s : ℕ) → Origin w (w.used + 1) (server w s).entry
  pub shown : (k : ℕ) → k ≤ w.used → IsAnswer (sent w k) → Origin w k (sent w k).entry
  pub carried : (m : ℕ) → m ≤ w.used → (sent w m).kind ≡ START → Origin w m (sent w m).entry
