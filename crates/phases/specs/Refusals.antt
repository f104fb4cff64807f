-- "0 means done": by which numbers the two calls refuse, none of them 0, for all bytes. `Refuses ns x`: every refusal of x is one of
-- ns. Nobody rests on it.
use Rattle.std.specs.Prelude.{ℕ, refl, List, [], ◌∷◌}
use Rattle.protocol.specs.declared.Message.{Message}
use Rattle.protocol.specs.declared.View.{View}
use Rattle.protocol.specs.Tools.{done}
use Rattle.protocol.specs.Sizes.{sized}
use Rattle.protocol.proofs.Laws.Refusals.{Refuses, refuses_done, refuses_guard, refuses_then}
use Rattle.checked.specs.Rules.{take_rule}
use Rattle.phases.specs.Calls.{open_on, may_take, answer_on}

pub open_numbers : (p : List ℕ) (kind t r : ℕ) → Refuses (1 ∷ 3 ∷ []) (open_on p kind t r)
unfolding open_on
open_numbers p kind t r = refuses_guard _ _ _ _ refl (refuses_guard _ _ _ _ refl (refuses_done _ _))

take_refuses : (m : Message) (r : ℕ) → Refuses (1 ∷ 3 ∷ 5 ∷ 7 ∷ 8 ∷ []) (take_rule m r)
unfolding take_rule
take_refuses m r = refuses_guard _ _ _ _ refl (refuses_guard _ _ _ _ refl (refuses_guard _ _ _ _ refl (refuses_done _ _)))

may_refuses : (p : List ℕ) (m : Message) (v : View) → Refuses (1 ∷ 3 ∷ 5 ∷ 7 ∷ 8 ∷ []) (may_take p m v)
unfolding may_take
may_refuses p m v =
    refuses_guard _ _ _ _ refl (refuses_then _ _ _ (take_refuses _ _) (λ x. refuses_guard _ (sized v) 8 (done x) refl (refuses_done _ _)))

pub answer_numbers : (p b e : List ℕ) → Refuses (1 ∷ 3 ∷ 5 ∷ 7 ∷ 8 ∷ []) (answer_on p b e)
unfolding answer_on
answer_numbers p b e =
    refuses_guard _ _ _ _ refl (refuses_guard _ _ _ _ refl (refuses_then _ _ _ (may_refuses _ _ _) (λ x. refuses_done _ _)))
