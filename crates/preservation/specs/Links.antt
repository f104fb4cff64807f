-- Answers that are taken and that are not, and requests. Assumes nothing.
use Rattle.std.specs.Prelude.{ℕ, suc, ◌≤◌, ◌≡◌}
use Rattle.std.proofs.Math.Bool.{true, false}
use Rattle.std.proofs.Math.ListN.{length}
use Rattle.protocol.specs.Sizes.{messages}
use Rattle.protocol.specs.Servers.{ANSWER, is_request}
use Rattle.protocol.specs.Worlds.{World, message}

-- the answer k of w, not taken yet, to request r
pub record Untaken (w : World) (k r : ℕ) : Type 0 where
  pub low : 1 ≤ k
  pub below : k ≤ w.used
  pub is : (message w k).kind ≡ ANSWER
  pub free : (message w k).taken ≡ false
  pub request : (message w k).request.0 ≡ r
  pub from : 1 ≤ r
  pub to : r ≤ w.used
  pub asked : is_request (message w r).kind ≡ true
  pub full : w.used ≤ messages
  pub count : length w.message_list ≡ suc messages

-- what taken answers are
pub record Is (w : World) (r j : ℕ) : Type 0 where
  pub low : 1 ≤ j
  pub below : j ≤ w.used
  pub is : (message w j).kind ≡ ANSWER
  pub taken : (message w j).taken ≡ true
  pub request : (message w j).request.0 ≡ r

-- a chain of different taken answers is shorter than the messages used, so it ends
pub record Short (w : World) (q : ℕ) : Type 0 where
  pub low : 1 ≤ q
  pub below : q ≤ w.used
  pub full : w.used ≤ messages
  pub asked : is_request (message w q).kind ≡ true
