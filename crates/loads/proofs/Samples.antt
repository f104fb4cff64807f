-- Draws and steps computed on the definitions. Assumes nothing.
use Rattle.std.specs.Prelude.{ℕ, zero, suc, ◌≡◌, refl, List, [], ◌∷◌}
use Rattle.protocol.specs.Steps.{row_of}
use Rattle.loads.specs.Draws.{draw, start, drawn, drawn_step}
use Rattle.loads.specs.Load.{spelled, longer, load_from, journal_of}

-- the first n draws from a state
abbrev draws : ℕ → ℕ → List ℕ
draws state zero = []
draws state (suc n) = draw state ∷ draws (draw state) n

-- the draws of seed 1; the first steps of seeds 0 and 1, a read and a false answer; the first two of seed 2, a delivery and a new view
pub samples : (draws 1 4 ≡ 270369 ∷ 67634689 ∷ 2647435461 ∷ 307599695 ∷ [])
    × (journal_of 0 2 ≡ 2 ∷ 2 ∷ 0 ∷ 0 ∷ 0 ∷ 0 ∷ 0 ∷ 0 ∷ 0 ∷ 0 ∷ 0 ∷ 0 ∷ 6 ∷ 16 ∷ 18 ∷ 0 ∷ 111 ∷ 2 ∷ 26 ∷ 3 ∷ 0 ∷ 0 ∷ 0 ∷ 0 ∷ [])
    × (journal_of 1 2 ≡ journal_of 0 2)
    × (journal_of 2 2 ≡ 3 ∷ 3 ∷ 0 ∷ 0 ∷ 83 ∷ 1 ∷ 0 ∷ 0 ∷ 0 ∷ 0 ∷ 0 ∷ 0 ∷ 7 ∷ 0 ∷ 0 ∷ 2 ∷ 0 ∷ 0 ∷ 0 ∷ 0 ∷ 35 ∷ 115 ∷ 208 ∷ 48 ∷ [])
unfolding journal_of load_from longer spelled drawn_step drawn start draw row_of
samples = (refl, refl, refl, refl)
