-- "Wherever the cut falls, START has been sent and nothing changes, or the old view is newest and the answers that would have closed
-- END, taken again with no other step between, still do.": `Cut`, for a world and a restart. Assumes nothing.
use Rattle.std.specs.Prelude.{ℕ, ◌+◌, Bool, ◌&&◌, ◌||◌, ◌≡◌, None, Some}
use Rattle.std.proofs.Math.Bool.{true, false}
use mathlib.Core.List.{List, ◌++◌}
use Rattle.std.proofs.Math.Dec.{eqb}
use Rattle.protocol.specs.declared.MessageNumber.{MessageNumber}
use Rattle.protocol.specs.declared.Step.{Step}
use Rattle.protocol.specs.Tools.{all, refused, done}
use Rattle.protocol.specs.Sizes.{sized}
use Rattle.protocol.specs.Clients.{keeps_view}
use Rattle.protocol.specs.Worlds.{World, message, newest, present}
use Rattle.protocol.specs.Chains.{chain}
use Rattle.protocol.specs.Steps.{After, moved, planned, view_asked, step}
use Rattle.preservation.specs.Again.{retaken}

-- j is an answer of w to the request r
abbrev pub answers_to : World → ℕ → ℕ → Bool
answers_to w r j = present w j && eqb (message w j).request.0 r

-- Where the cut falls in w, for a restart st. `past`: nothing is being ended, START of the newest view has been sent if it is not the
-- first, and 7 changes nothing. `before`: END is open, the old view newest, and stays so; to whatever answers js to END would lead, START
-- or not, those taken so far and js, taken again, lead, up to the pending view's record if st has a new one. `unsized`: END is open, and 8
-- changes nothing.
pub data Cut (w : World) (st : Step) : Type 0 where
  past : w.administrator.ending ≡ None → step w st ≡ refused 7 → Cut w st
  unsized : (r : MessageNumber) → w.administrator.ending ≡ Some r → (keeps_view (view_asked st) || sized (view_asked st)) ≡ false → step w st ≡ refused 8 → Cut w st
  before : (r : MessageNumber) → w.administrator.ending ≡ Some r → (u : World) → step w st ≡ moved u → u.administrator ≡ w.administrator
      → ((js : List ℕ) → all (answers_to w r.0) js ≡ true → (a : After) → retaken w js ≡ done a
      → retaken u (js ++ chain w r.0) ≡ done (record { world = planned a.world (newest w + 1) (view_asked st); completed = a.completed }))
      → Cut w st
