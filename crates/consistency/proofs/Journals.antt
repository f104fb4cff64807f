-- A replay is a run of the steps that it did (`steps_done`), so that what holds of runs holds of journals: `replay_runs`, for every
-- readable image and every journal. `replay_readable` and `resume_readable`: they leave the image readable. Used by Theorem.antt.
-- Assumes nothing.
use Rattle.std.specs.Prelude.{ℕ, ◌+◌, ◌*◌, ◌/◌, ◌%◌, Bool, true, false, ◌≡◌, refl, List, [], ◌∷◌, length, take, drop, leb, eqb}
use Rattle.std.proofs.Common.{add-one, sym, ap, ◌∙◌, eqb-true, eq-eqb}
use Rattle.protocol.specs.Tools.{if, Result, refused, done}
use Rattle.protocol.specs.Steps.{After}
use Rattle.protocol.specs.Runs.{step_width, step_bytes, Replayed, onward, replay}
use Rattle.protocol.specs.Runs as W
use Rattle.codec.specs.Layout.{image_size}
use Rattle.codec.specs.Images.{encode, decode}
use Rattle.readable.specs.Readable.{readable, read}
use Rattle.image.specs.Steps.{steps_of, unplayed, replay_on, resume_on}
use Rattle.image.specs.Worlds.{spells_readable, exactly_one}
use Rattle.journal.specs.Replays.{whole_replay}
use Rattle.consistency.specs.Runs.{run, run_from}
use Rattle.consistency.proofs.Worlds.{run_from_same}
use Rattle.consistency.specs.Journals.{steps_done}

take_next : {A : Type 0} (n : ℕ) (x : A) (l : List A) → take (n + 1) (x ∷ l) ≡ x ∷ take n l
take_next n x l = rw (add-one n) refl

-- on worlds
replay_run : (u : W.Run) (bs : List (List ℕ)) → (W.run u (take (replay u.world bs).steps bs)).world ≡ (replay u.world bs).world
unfolding replay W.run
replay_run u [] = refl
replay_run u (b ∷ bs) = go (step_bytes u.world b) refl (λ v. replay_run v bs)
  where
    stop : Replayed
    stop = record { world = u.world; steps = 0; refusal = 0 }

    go : (x : Result After) → step_bytes u.world b ≡ x → ((v : W.Run) → (W.run v (take (replay v.world bs).steps bs)).world ≡ (replay v.world bs).world)
        → (W.run u (take (onward x stop (λ v. replay v bs)).steps (b ∷ bs))).world ≡ (onward x stop (λ v. replay v bs)).world
    go (refused n) e ih = refl
    go (done a) e ih =
        ap (λ (l : List (List ℕ)). (W.run u l).world) (take_next (replay a.world bs).steps b bs)
        ∙ ap (λ (x : Result After). (W.run (W.noted u b x) (take (replay a.world bs).steps bs)).world) e
        ∙ ih (W.noted u b (done a))

-- a journal of whole steps
whole_runs : (i j : List ℕ) → readable i ≡ true → length j % step_width ≡ 0 → (replay_on i j).image ≡ (run_from i (steps_done i j)).image
unfolding W.run_from
whole_runs i j h k =
    let e = whole_replay i j (read i h).size k h in
    let s = run_from_same i (decode i) (take (replay (decode i) (steps_of j)).steps (steps_of j)) (exactly_one i h).0 in
    rw e (sym (s.image.is ∙ ap encode (replay_run (record { world = decode i; place = 1; operations = [] }) (steps_of j))))

-- one that is cut short does nothing
pub replay_runs : (i j : List ℕ) → readable i ≡ true → (replay_on i j).image ≡ (run_from i (steps_done i j)).image
unfolding replay_on run_from run
replay_runs i j h = go (eqb (length j % step_width) 0) refl
  where
    go : (b : Bool) → eqb (length j % step_width) 0 ≡ b → (replay_on i j).image ≡ (run_from i (steps_done i j)).image
    go true e = whole_runs i j h (eqb-true _ _ e)
    go false e = rw (eq-eqb (length i) image_size (read i h).size, e) refl

pub replay_readable : (i j : List ℕ) → readable i ≡ true → readable (replay_on i j).image ≡ true
replay_readable i j h =
    ap readable (replay_runs i j h) ∙ spells_readable (run_from_same i (decode i) (steps_done i j) (exactly_one i h).0).image

pub resume_readable : (i j : List ℕ) (n : ℕ) → readable i ≡ true → readable (resume_on i j n).image ≡ true
unfolding resume_on
resume_readable i j n h = go (leb n (length j / step_width))
  where
    go : (b : Bool) → readable (if b (replay_on i (drop (n * step_width) j)) (unplayed i 1)).image ≡ true
    go true = replay_readable i (drop (n * step_width) j) h
    go false = h
