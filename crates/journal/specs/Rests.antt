-- "The rest of the journal after the last accepted step can be replayed on the same image with the same end." Assumes nothing.
use Rattle.std.specs.Prelude.{ℕ, zero, suc, ◌+◌, ◌*◌, ◌-◌, ◌/◌, ◌%◌, ◌≤◌, Bool, true, false, ◌≡◌, refl, List, [], ◌∷◌, drop, eqb}
use Rattle.std.proofs.Common.{arith, sym, ap₂, ◌∙◌, drop-drop, eqb-true}
use Rattle.std.proofs.Math.Path.{ap}
use Rattle.std.proofs.Math.ListN.{length, length-drop}
use Rattle.protocol.specs.Tools.{Result, refused, done}
use Rattle.protocol.specs.Worlds.{World}
use Rattle.protocol.specs.Readable.{well_formed}
use Rattle.protocol.specs.Steps.{After}
use Rattle.protocol.specs.Runs.{step_width, step_bytes, left, Replayed, onward, replay}
use Rattle.codec.specs.Layout.{image_size}
use Rattle.codec.specs.Images.{encode, decode}
use Rattle.readable.specs.Readable.{readable, Read, read, world_decode, world_readable}
use Rattle.preservation.proofs.Begun.{left_kept}
use Rattle.image.specs.Steps.{steps_in, steps_of, played, unplayed, replay_on, resume_on}
use Rattle.journal.specs.Replays.{beyond, rest_stops, whole_replay, rest_some}

-- a replay leaves a readable world
pub replay_kept : (w : World) (bs : List (List ℕ)) → well_formed w ≡ true → well_formed (replay w bs).world ≡ true
unfolding replay
replay_kept w [] h = h
replay_kept w (b ∷ bs) h = go (step_bytes w b) refl (left_kept w h b) (λ v. replay_kept v bs)
  where
    stop : Replayed
    stop = record { world = w; steps = 0; refusal = 0 }

    go : (x : Result After) → step_bytes w b ≡ x → well_formed (left w (step_bytes w b)) ≡ true → ((v : World) → well_formed v ≡ true → well_formed (replay v bs).world ≡ true)
        → well_formed (onward x stop (λ v. replay v bs)).world ≡ true
    go (refused n) e k ih = h
    go (done a) e k ih = ih a.world (ap (λ (x : Result After). well_formed (left w x)) (sym e) ∙ k)

-- it does no more steps than there are
replay_most : (w : World) (bs : List (List ℕ)) → (replay w bs).steps ≤ length bs
unfolding replay
replay_most w [] = omega arith
replay_most w (b ∷ bs) = go (step_bytes w b) (λ v. replay_most v bs)
  where
    stop : Replayed
    stop = record { world = w; steps = 0; refusal = 0 }

    go : (x : Result After) → ((v : World) → (replay v bs).steps ≤ length bs) → (onward x stop (λ v. replay v bs)).steps ≤ length (b ∷ bs)
    go (refused n) ih = omega arith
    go (done a) ih = let h = ih a.world in omega arith

pub length_steps : (n : ℕ) (j : List ℕ) → length (steps_in n j) ≡ n
unfolding steps_in
length_steps zero j = refl
length_steps (suc n) j = let h = length_steps n (drop step_width j) in omega arith

pub steps_count : (j : List ℕ) → length (steps_of j) ≡ length j / step_width
unfolding steps_of
steps_count j = length_steps (length j / step_width) j

-- the steps of the rest are the rest of the steps
steps_beyond : (k n : ℕ) (j : List ℕ) → k ≤ n → steps_in (n - k) (drop (k * step_width) j) ≡ beyond k (steps_in n j)
unfolding steps_in beyond
steps_beyond zero n j h = let e : n - 0 ≡ n = omega arith in ap (λ (m : ℕ). steps_in m j) e
steps_beyond (suc k) zero j h = absurd (omega arith)
steps_beyond (suc k) (suc n) j h =
    let fewer : suc n - suc k ≡ n - k = omega arith in
    let more : suc k * step_width ≡ step_width + k * step_width = omega arith in
    ap₂ (λ (m : ℕ) (r : List ℕ). steps_in m r) fewer (ap (λ (m : ℕ). drop m j) more ∙ sym (drop-drop (k * step_width) step_width j)) ∙ steps_beyond k n (drop step_width j) (omega arith)

module _ (i j : List ℕ) (size : length i ≡ image_size) (whole : length j % step_width ≡ 0) (r : Read i) where
  abbrev end : Replayed
  end = replay (decode i) (steps_of j)

  most : end.steps ≤ length j / step_width
  most = let h = replay_most (decode i) (steps_of j) in let e = steps_count j in omega arith

  formed : well_formed end.world ≡ true
  formed = replay_kept (decode i) (steps_of j) r.world

  abbrev rest : List ℕ
  rest = drop (end.steps * step_width) j

  rest_steps : steps_of rest ≡ beyond end.steps (steps_of j)
  unfolding steps_of
  rest_steps =
      let fewer : length rest / step_width ≡ length j / step_width - end.steps = (let h = most in let e = length-drop (end.steps * step_width) j in omega arith) in
      ap (λ (m : ℕ). steps_in m rest) fewer ∙ steps_beyond end.steps (length j / step_width) j most

  rest_whole : length rest % step_width ≡ 0
  rest_whole = let h = most in let e = length-drop (end.steps * step_width) j in omega arith

  readable_rest : resume_on (encode end.world) j end.steps ≡ record { steps = 0; refusal = end.refusal; image = encode end.world }
  readable_rest =
      let h = read (encode end.world) (world_readable end.world formed) in
      rest_some (encode end.world) j end.steps most
      ∙ whole_replay (encode end.world) rest h.size rest_whole (world_readable end.world formed)
      ∙ ap₂ (λ (w : World) (bs : List (List ℕ)). played (replay w bs)) (world_decode end.world formed) rest_steps
      ∙ ap played (rest_stops (decode i) (steps_of j))

-- for every image and every journal: nothing more is done, and the same refusal comes again
abbrev pub Same : List ℕ → List ℕ → Type 0
Same i j = resume_on (replay_on i j).image j (replay_on i j).steps ≡ record { steps = 0; refusal = (replay_on i j).refusal; image = (replay_on i j).image }

refused_same : (i j : List ℕ) (n : ℕ) → replay_on i j ≡ unplayed i n → Same i j
refused_same i j n e = rw e (rest_some i j 0 (omega arith) ∙ e)

-- No proof cites it; it stands for who reads the definitions.
pub rest_same : (i j : List ℕ) → Same i j
unfolding replay_on
rest_same i j = go (eqb (length i) image_size) (eqb (length j % step_width) 0) (readable i) refl refl refl
  where
    go : (a b c : Bool) → eqb (length i) image_size ≡ a → eqb (length j % step_width) 0 ≡ b → readable i ≡ c → Same i j
    go false b c p q s = refused_same i j 1 (rw p refl)
    go true false c p q s = refused_same i j 1 (rw (p, q) refl)
    go true true false p q s = refused_same i j 2 (rw (p, q, s) refl)
    go true true true p q s =
        let size = eqb-true (length i) image_size p in
        let whole = eqb-true (length j % step_width) 0 q in
        rw (whole_replay i j size whole s) (readable_rest i j size whole (read i s))
