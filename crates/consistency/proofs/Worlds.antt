-- A run of images is the run of worlds that they spell, place by place: `Same`. Key laws: `left_spelled`, what a step leaves spells
-- what it leaves of the world; `run_from_same` and `history_same`, whole runs and their operations. By them the theorem on worlds
-- (`agreement`) becomes that on images, in Theorem.antt. Assumes nothing.
use Rattle.std.specs.Prelude.{ℕ, ◌+◌, ◌≡◌, refl, List, [], ◌∷◌, ◌++◌, map}
use Rattle.std.proofs.Common.{sym, ap, subst, ◌∙◌}
use Rattle.protocol.specs.Tools.{Result, refused, done}
use Rattle.protocol.specs.Worlds.{World}
use Rattle.protocol.specs.Steps.{After}
use Rattle.protocol.specs.Runs.{step_of, step_bytes, left, tracked, started, operation}
use Rattle.protocol.specs.Runs as W
use Rattle.codec.specs.Images.{encode}
use Rattle.image.specs.Steps.{step_on, left_by}
use Rattle.image.specs.Worlds.{Spells, spells_decode, step_spelled}
use Rattle.preservation.proofs.Begun.{left_kept}
use Rattle.consistency.specs.Runs.{Run, operations_on, noted, run, run_from, history}

-- what a step leaves of it
pub left_spelled : {i : List ℕ} {w : World} → Spells i w → (b : List ℕ) → Spells (left_by i (step_on i b)) (left w (step_bytes w b))
left_spelled {i} {w} h b = record { is = ap (left_by i) (step_spelled h b) ∙ go (step_bytes w b); formed = left_kept w h.formed b }
  where
    go : (x : Result After) → left_by i x ≡ encode (left w x)
    go (refused n) = h.is
    go (done a) = refl

-- the run r of images is the run u of worlds
pub record Same (r : Run) (u : W.Run) : Type 0 where
  pub image : Spells r.image u.world
  pub place : r.place ≡ u.place
  pub operations : r.operations ≡ u.operations

noted_same : (r : Run) (u : W.Run) (b : List ℕ) → Same r u → Same (noted r b) (W.noted u b (step_bytes u.world b))
unfolding noted
noted_same r u b h = go (step_bytes u.world b) (step_spelled h.image b) (left_spelled h.image b)
  where
    i : List ℕ
    i = r.image

    made : (x : Result After) → Spells (left_by i x) (left u.world x)
        → Same (record { image = left_by i x; place = r.place + 1; operations = operations_on r.operations (left_by i x) r.place b x }) (W.noted u b x)
    made (refused n) s = record { image = s; place = ap (λ (n : ℕ). n + 1) h.place; operations = h.operations }
    made (done a) s =
        record {
          image = s;
          place = ap (λ (n : ℕ). n + 1) h.place;
          operations = λ k.
              map (tracked (spells_decode s k) (h.place k) a.completed) (h.operations k) ++ started (spells_decode s k) (h.place k) (step_of b);
        }

    go : (x : Result After) → step_on i b ≡ x → Spells (left_by i (step_on i b)) (left u.world x)
        → Same (record { image = left_by i (step_on i b); place = r.place + 1; operations = operations_on r.operations (left_by i (step_on i b)) r.place b (step_on i b) }) (W.noted u b x)
    go x e s =
        subst (λ (y : Result After). Same (record { image = left_by i y; place = r.place + 1; operations = operations_on r.operations (left_by i y) r.place b y }) (W.noted u b x)) (sym e)
        (made x (subst (λ (y : Result After). Spells (left_by i y) (left u.world x)) e s))

pub run_same : (r : Run) (u : W.Run) (bs : List (List ℕ)) → Same r u → Same (run r bs) (W.run u bs)
unfolding run W.run
run_same r u [] h = h
run_same r u (b ∷ bs) h = run_same (noted r b) (W.noted u b (step_bytes u.world b)) bs (noted_same r u b h)

pub run_from_same : (i : List ℕ) (w : World) (bs : List (List ℕ)) → Spells i w → Same (run_from i bs) (W.run_from w bs)
unfolding run_from W.run_from
run_from_same i w bs h = run_same _ _ bs (record { image = h; place = refl; operations = refl })

-- and their operations are the same
pub history_same : (r : Run) (u : W.Run) → Same r u → history r ≡ W.history u
unfolding history W.history
history_same r u h = λ k. map (operation (spells_decode h.image k)) (h.operations k)
