-- A step left out of a replay, and a journal's passes in the lent buffer: what the functions of shorten/src do between two calls.
-- `trial_stops` and `trial_ends`: the replay of a journal in two parts is that without the step between them; `step_stays` and
-- `step_goes`: one step tried; `Sweeping` and `Passing`: what the two loops keep. Used by the proofs of shorten/src. Assumes nothing.
use Prim.Native.Nat.{ℕ, zero, suc, ◌+◌, ◌*◌, ◌-◌, ◌/◌, ◌%◌, ◌≤◌, ◌<◌}
use native.Mathlib.Omega.{arith}
use Rattle.std.specs.Simd.{first_chunks}
use Rattle.std.specs.Prelude.{Bool, true, false, ◌≡◌, refl, ltb, eqb, Option}
use Rattle.protocol.specs.declared.refusals.Refusal.{Refusal}
use Rattle.protocol.specs.Refusals.{refusal_number}
use Rattle.std.proofs.Math.Path.{sym, ap, ap₂}
use Rattle.std.proofs.lemmas.Bool.{eqb-false}
use borrow.Author.Tests.{eqb-true}
use Rattle.std.proofs.Common.{◌∙◌, take_at, drop_at, take-add, eq-eqb, ne_eqb, lt-ltb, le-ltb, subst, drop-drop}
use mathlib.Core.List.{List, [], ◌∷◌}
use Rattle.std.proofs.Math.ListN.{length, take, drop, length-take, length-drop}
use Rattle.std.proofs.Math.Seq.{take_all}
use Rattle.protocol.specs.declared.View.{View}
use Rattle.protocol.specs.Tools.{if}
use Rattle.protocol.specs.Worlds.{World, fresh_world}
use Rattle.protocol.specs.Readable.{well_formed}
use Rattle.protocol.specs.Runs.{step_width, Replayed, replay}
use Rattle.preservation.proofs.Begun.{fresh_kept}
use Rattle.codec.specs.Images.{encode, decode}
use Rattle.readable.specs.Readable.{world_decode}
use Rattle.image.specs.Steps.{steps_in, steps_of, played}
use Rattle.mail.specs.Images.{Legible}
use Rattle.journal.specs.declared.Replayed.{Replayed as Answer}
use Rattle.journal.specs.Replays.{Plays, spelled, stopped_by, chunks_are}
use Rattle.journal.specs.Rests.{replay_kept, length_steps}
use Rattle.shorten.specs.Passes.{without, dropped, sweep, one_pass, passes}
use Rattle.shorten.specs.Minimal.{Part, part_length, without_length, dropped_part, sweep_part}
use Rattle.shorten.specs.Journals.{stops_with}
use Rattle.shorten.specs.Buffers.{Wide, wide_part, wide_steps, Held, Leaves, left_length, left_steps, left_held, held_leaves, removed, removed_step}
use Rattle.shorten.specs.Lent.{Begins, replay_on_lem, replay_stops}

-- ---- the steps of a part

steps_take : (k n : ℕ) (j : List ℕ) → k ≤ n → n * step_width ≤ length j → steps_in k (take (k * step_width) j) ≡ take k (steps_in n j)
unfolding steps_in
steps_take zero n j h g = refl
steps_take (suc k) zero j h g = absurd (omega arith)
steps_take (suc k) (suc n) j h g =
    let e : suc k * step_width ≡ step_width + k * step_width = omega arith in
    let l : length (take step_width j) ≡ step_width = length-take step_width j ∙ omega arith in
    let d = length-drop step_width j in
    let r : List ℕ = take (k * step_width) (drop step_width j) in
    ap (λ (m : ℕ). steps_in (suc k) (take m j)) e
    ∙ ap (λ (x : List ℕ). steps_in (suc k) x) (take-add step_width (k * step_width) j)
    ∙ ap₂ (λ (x y : List ℕ). x ∷ steps_in k y) (take_at (take step_width j) r step_width l) (drop_at (take step_width j) r step_width l)
    ∙ ap (λ (x : List (List ℕ)). take step_width j ∷ x) (steps_take k n (drop step_width j) (omega arith) (omega arith))

-- those of the rest are the rest of them
steps_drop : (k n : ℕ) (j : List ℕ) → k ≤ n → steps_in (n - k) (drop (k * step_width) j) ≡ drop k (steps_in n j)
unfolding steps_in
steps_drop zero n j h = let e : n - 0 ≡ n = omega arith in ap (λ (m : ℕ). steps_in m j) e
steps_drop (suc k) zero j h = absurd (omega arith)
steps_drop (suc k) (suc n) j h =
    let fewer : suc n - suc k ≡ n - k = omega arith in
    let more : suc k * step_width ≡ step_width + k * step_width = omega arith in
    ap₂ (λ (m : ℕ) (r : List ℕ). steps_in m r) fewer (ap (λ (m : ℕ). drop m j) more ∙ sym (drop-drop (k * step_width) step_width j)) ∙ steps_drop k n (drop step_width j) (omega arith)

-- the first n steps of a buffer
pub steps_taken : (n : ℕ) (s : List ℕ) → n * step_width ≤ length s → steps_of (take (n * step_width) s) ≡ steps_in n s
unfolding steps_of
steps_taken n s h =
    let d = length-take (n * step_width) s in
    let e : length (take (n * step_width) s) / step_width ≡ n = omega arith in
    let k = length_steps n s in
    ap (λ (m : ℕ). steps_in m (take (n * step_width) s)) e ∙ steps_take n n s (omega arith) h ∙ take_all n (steps_in n s) (omega arith)

-- what is lent of it
module _ (s : List ℕ) (n : ℕ) (held : Held s n) where
  pub held_steps : {bs : List (List ℕ)} → bs ≡ first_chunks step_width (length (take (n * step_width) s) / step_width) (take (n * step_width) s) → bs ≡ steps_in n s
  unfolding steps_of
  held_steps e = e ∙ chunks_are (length (take (n * step_width) s) / step_width) (take (n * step_width) s) ∙ steps_taken n s held.fits

  pub held_below : {bs : List (List ℕ)} → bs ≡ steps_in n s → (k : ℕ) → k < n → k < length bs
  held_below e k b = let l = ap (λ (x : List (List ℕ)). length x) e ∙ length_steps n s in omega arith

  -- No proof cites it; it stands for who reads the definitions.
  pub held_room : (k : ℕ) → k < n → k * step_width + step_width ≤ length s
  held_room k b = let f = held.fits in omega arith

-- ---- replays on the image of a readable world

pub played_legible : (i : List ℕ) (bs : List (List ℕ)) (r : Answer) (i' : List ℕ) → Legible i → Plays r i' (played (replay (decode i) bs)) → Legible i'
played_legible i bs r i' h p = spelled (replay (decode i) bs).world (replay_kept (decode i) bs h.formed) i' p.image

module _ (v : View) (b : Begins v) (i : List ℕ) (e : i ≡ encode (fresh_world v)) where
  formed : well_formed (fresh_world v) ≡ true
  formed = fresh_kept v.members.0 v.f v.r (fresh_world v) b.begins

  pub begun_legible : Legible i
  begun_legible = spelled (fresh_world v) formed i e

  -- what a replay leaves of it
  pub begun_played : (bs : List (List ℕ)) (r : Answer) (i' : List ℕ) → Plays r i' (played (replay (decode i) bs)) → Legible i'
  begun_played bs r i' p = played_legible i bs r i' begun_legible p

  pub begun_world : decode i ≡ fresh_world v
  begun_world = ap decode e ∙ world_decode (fresh_world v) formed

  module _ (bs : List (List ℕ)) (place : ℕ) (below : place < length bs) where
    abbrev before : List (List ℕ)
    before = take place bs

    abbrev behind : List (List ℕ)
    behind = drop (suc place) bs

    before_count : length before ≡ place
    before_count = let d = length-take place bs in omega arith

    -- as the code lends them
    behind_is : take (length bs - (place + 1)) (drop (place + 1) bs) ≡ behind
    behind_is =
        let d = length-drop (place + 1) bs in
        let e : place + 1 ≡ suc place = omega arith in
        take_all (length bs - (place + 1)) (drop (place + 1) bs) (omega arith) ∙ ap (λ (n : ℕ). drop n bs) e

    module _ (r : Answer) (i' : List ℕ) (p : Plays r i' (played (replay (decode i) before))) where
      first_is : replay (decode i) before ≡ replay (fresh_world v) before
      first_is = ap (λ (w : World). replay w before) begun_world

      first_count : r.steps ≡ (replay (fresh_world v) before).steps
      first_count = p.steps ∙ ap (λ (x : Replayed). x.steps) first_is

      -- the first part stopped
      pub trial_stops : r.steps < place → stopped_by r.refusal ≡ (replay (fresh_world v) (without bs place)).refusal
      unfolding without
      trial_stops h =
          p.refusal ∙ ap (λ (x : Replayed). x.refusal) first_is
          ∙ sym (replay_stops (fresh_world v) before behind (let c = before_count in let k = first_count in omega arith))

      -- it did not, and the rest follows
      pub trial_ends : place ≤ r.steps → (r' : Answer) (i'' : List ℕ)
          → Plays r' i'' (played (replay (decode i') (take (length bs - (place + 1)) (drop (place + 1) bs))))
          → stopped_by r'.refusal ≡ (replay (fresh_world v) (without bs place)).refusal
      unfolding without
      trial_ends h r' i'' q =
          let there : decode i' ≡ (replay (fresh_world v) before).world =
          ap decode (p.image ∙ ap (λ (x : Replayed). encode x.world) first_is) ∙ world_decode (replay (fresh_world v) before).world (replay_kept (fresh_world v) before formed) in
          q.refusal
          ∙ ap₂ (λ (w : World) (x : List (List ℕ)). (replay w x).refusal) there behind_is
          ∙ sym (replay_on_lem (fresh_world v) before behind (let c = before_count in let k = first_count in omega arith))

  -- the same of the bytes of a journal, cut before and behind a step
  module _ (j : List ℕ) (place : ℕ) (whole : length j % step_width ≡ 0) (below : place < length j / step_width) where
    abbrev next : ℕ
    next = place * step_width + step_width

    few : place < length (steps_of j)
    unfolding steps_of
    few = let l = length_steps (length j / step_width) j in omega arith

    first_steps : steps_of (take (place * step_width) j) ≡ take place (steps_of j)
    unfolding steps_of
    first_steps =
        let d = length-take (place * step_width) j in
        let c : length (take (place * step_width) j) / step_width ≡ place = omega arith in
        ap (λ (m : ℕ). steps_in m (take (place * step_width) j)) c ∙ steps_take place (length j / step_width) j (omega arith) (omega arith)

    rest_steps : steps_of (take (length j - next) (drop next j)) ≡ drop (suc place) (steps_of j)
    unfolding steps_of
    rest_steps =
        let d = length-drop next j in
        let t : take (length j - next) (drop next j) ≡ drop next j = take_all (length j - next) (drop next j) (omega arith) in
        let g : next ≡ suc place * step_width = omega arith in
        let c : length (drop next j) / step_width ≡ length j / step_width - suc place = omega arith in
        ap (λ (l : List ℕ). steps_in (length l / step_width) l) t
        ∙ ap (λ (m : ℕ). steps_in m (drop next j)) c
        ∙ ap (λ (m : ℕ). steps_in (length j / step_width - suc place) (drop m j)) g
        ∙ steps_drop (suc place) (length j / step_width) j (omega arith)

    module _ (r : Answer) (i' : List ℕ) (p : Plays r i' (played (replay (decode i) (steps_of (take (place * step_width) j))))) where
      first_plays : Plays r i' (played (replay (decode i) (take place (steps_of j))))
      first_plays = subst (λ (x : List (List ℕ)). Plays r i' (played (replay (decode i) x))) first_steps p

      -- No proof cites it; it stands for who reads the definitions.
      pub parts_stop : r.steps < place → stopped_by r.refusal ≡ (replay (fresh_world v) (without (steps_of j) place)).refusal
      parts_stop = trial_stops (steps_of j) place few r i' first_plays

      -- No proof cites it; it stands for who reads the definitions.
      pub parts_end : place ≤ r.steps → (r' : Answer) (i'' : List ℕ) → Plays r' i'' (played (replay (decode i') (steps_of (take (length j - next) (drop next j)))))
          → stopped_by r'.refusal ≡ (replay (fresh_world v) (without (steps_of j) place)).refusal
      parts_end h r' i'' q =
          trial_ends (steps_of j) place few r i' first_plays h r' i''
          (subst (λ (x : List (List ℕ)). Plays r' i'' (played (replay (decode i') x))) (rest_steps ∙ sym (behind_is (steps_of j) place few)) q)

-- ---- one step tried

module _ (w : World) (y : Refusal) (s : List ℕ) (n place : ℕ) (held : Held s n) (below : place < n) (o : Option Refusal)
    {bs : List (List ℕ)} (is : bs ≡ steps_in n s) (tried : stopped_by o ≡ (replay w (without bs place)).refusal) where
  tried_is : stopped_by o ≡ (replay w (without (steps_in n s) place)).refusal
  tried_is = tried ∙ ap (λ (x : List (List ℕ)). (replay w (without x place)).refusal) is

  pub step_stays : false ≡ eqb (stopped_by o) (refusal_number y) → Leaves n s (length s) (dropped (stops_with w (refusal_number y)) (steps_in n s) place)
  unfolding dropped
  step_stays h = rw (ne_eqb (replay w (without (steps_in n s) place)).refusal (refusal_number y) (λ e. eqb-false _ _ (sym h) (tried_is ∙ e))) (held_leaves s n held)

  pub step_goes : (s' : List ℕ) → true ≡ eqb (stopped_by o) (refusal_number y) → s' ≡ removed s (place * step_width)
      → Leaves (n - 1) s' (length s) (dropped (stops_with w (refusal_number y)) (steps_in n s) place)
  unfolding dropped
  step_goes s' h e =
      let k = length_steps n s in
      let c = without_length (steps_in n s) place (omega arith) in
      rw (eq-eqb (replay w (without (steps_in n s) place)).refusal (refusal_number y) (sym tried_is ∙ eqb-true _ _ (sym h)))
      (record {
        steps = omega arith;
        bytes =
            e ∙ ap (λ (l : List ℕ). removed l (place * step_width)) held.bytes
            ∙ removed_step (steps_in n s) (wide_steps n s held.fits) (length s) place (let f = held.fits in omega arith) (omega arith);
      })

-- ---- the steps left are part of those before

module _ (n : ℕ) (s : List ℕ) (held : Held s n) (r : ℕ) (s' : List ℕ) (bs : List (List ℕ)) (part : Part bs (steps_in n s)) (h : Leaves r s' (length s) bs) where
  wide : Wide bs
  wide = wide_part part (wide_steps n s held.fits)

  fewer : length bs ≤ n
  fewer = let k = length_steps n s in let c = part_length part in omega arith

  room : length bs * step_width ≤ length s
  room = let k = fewer in let f = held.fits in omega arith

  pub still_held : Held s' r
  still_held = left_held r s' (length s) bs wide room h

  pub still_long : length s' ≡ length s
  still_long = left_length r s' (length s) bs wide room h

  pub still_steps : steps_in r s' ≡ bs
  still_steps = left_steps r s' (length s) bs wide room h

-- ---- one pass

-- the steps from place on were tried, and left of the n steps in the buffer s₀ are those in s
pub record Sweeping (p : List (List ℕ) → Bool) (s₀ : List ℕ) (n : ℕ) (s : List ℕ) (left place : ℕ) : Type 0 where
  pub held : Held s left
  pub long : length s ≡ length s₀
  pub below : place ≤ left
  pub goes : sweep p n (steps_in n s₀) ≡ sweep p place (steps_in left s)

-- No proof cites it; it stands for who reads the definitions.
pub sweeping_start : (p : List (List ℕ) → Bool) (s : List ℕ) (n : ℕ) → Held s n → Sweeping p s n s n n
sweeping_start p s n h = record { held = h; long = refl; below = omega arith; goes = refl }

sweep_next : (p : List (List ℕ) → Bool) (place : ℕ) (bs : List (List ℕ)) → 0 < place → sweep p place bs ≡ sweep p (place - 1) (dropped p bs (place - 1))
unfolding sweep
sweep_next p zero bs h = absurd (omega arith)
sweep_next p (suc i) bs h = let e : i ≡ suc i - 1 = omega arith in ap (λ (k : ℕ). sweep p k (dropped p bs k)) e

sweep_none : (p : List (List ℕ) → Bool) (place : ℕ) (bs : List (List ℕ)) → place ≤ 0 → sweep p place bs ≡ bs
unfolding sweep
sweep_none p zero bs h = refl
sweep_none p (suc i) bs h = absurd (omega arith)

dropped_most : (p : List (List ℕ) → Bool) (bs : List (List ℕ)) (i : ℕ) → i < length bs → i ≤ length (dropped p bs i)
unfolding dropped
dropped_most p bs i h = go (p (without bs i))
  where
    go : (b : Bool) → i ≤ length (if b (without bs i) bs)
    go true = let e = without_length bs i h in omega arith
    go false = omega arith

pub sweeping_next : {p : List (List ℕ) → Bool} {s₀ : List ℕ} {n : ℕ} {s : List ℕ} {left place : ℕ} → Sweeping p s₀ n s left place → 0 < place → (r : ℕ) (s' : List ℕ)
    → Leaves r s' (length s) (dropped p (steps_in left s) (place - 1)) → Sweeping p s₀ n s' r (place - 1)
sweeping_next {p} {s₀} {n} {s} {left} {place} g h r s' d =
    let bs : List (List ℕ) = dropped p (steps_in left s) (place - 1) in
    let part : Part bs (steps_in left s) = dropped_part p (steps_in left s) (place - 1) in
    let long : length s' ≡ length s = still_long left s g.held r s' bs part d in
    let same : steps_in r s' ≡ bs = still_steps left s g.held r s' bs part d in
    let most = dropped_most p (steps_in left s) (place - 1) (let k = length_steps left s in let b = g.below in omega arith) in
    record {
      held = still_held left s g.held r s' bs part d;
      long = long ∙ g.long;
      below = (let k = d.steps in omega arith);
      goes = g.goes ∙ sweep_next p place (steps_in left s) h ∙ ap (sweep p (place - 1)) (sym same);
    }

pub sweeping_end : {p : List (List ℕ) → Bool} {s₀ : List ℕ} {n : ℕ} {s : List ℕ} {left place : ℕ} → Sweeping p s₀ n s left place → place ≤ 0
    → Leaves left s (length s₀) (sweep p n (steps_in n s₀))
sweeping_end {p} {s₀} {n} {s} {left} {place} g h = rw (g.goes, sweep_none p place (steps_in left s) h, ← g.long) (held_leaves s left g.held)

-- ---- passes

passes_next : (p : List (List ℕ) → Bool) (fuel : ℕ) (bs : List (List ℕ)) → length bs ≤ fuel
    → passes p fuel bs ≡ if (ltb (length (one_pass p bs)) (length bs)) (passes p (fuel - 1) (one_pass p bs)) (one_pass p bs)
unfolding passes sweep
passes_next p zero [] h = refl
passes_next p zero (b ∷ bs) h = absurd (omega arith)
passes_next p (suc n) bs h =
    let e : n ≡ suc n - 1 = omega arith in
    ap (λ (k : ℕ). if (ltb (length (one_pass p bs)) (length bs)) (passes p k (one_pass p bs)) (one_pass p bs)) e

-- of the n steps in the buffer s₀ those in s are left by the passes so far, the last of which began with `before` steps
pub record Passing (p : List (List ℕ) → Bool) (s₀ : List ℕ) (n : ℕ) (s : List ℕ) (left before : ℕ) : Type 0 where
  pub held : Held s left
  pub long : length s ≡ length s₀
  pub fuel : ℕ
  pub enough : left < before → left ≤ fuel
  pub goes : passes p n (steps_in n s₀) ≡ if (ltb left before) (passes p fuel (steps_in left s)) (steps_in left s)

pub passing_start : (p : List (List ℕ) → Bool) (s : List ℕ) (n : ℕ) → Held s n → Passing p s n s n (n + 1)
passing_start p s n h = record { held = h; long = refl; fuel = n; enough = λ l. omega arith; goes = rw (lt-ltb n (n + 1) (omega arith)) refl }

pub passing_next : {p : List (List ℕ) → Bool} {s₀ : List ℕ} {n : ℕ} {s : List ℕ} {left before : ℕ} → Passing p s₀ n s left before → left < before → (r : ℕ) (s' : List ℕ)
    → Leaves r s' (length s) (sweep p left (steps_in left s)) → Passing p s₀ n s' r left
passing_next {p} {s₀} {n} {s} {left} {before} g h r s' d =
    let bs : List (List ℕ) = sweep p left (steps_in left s) in
    let part : Part bs (steps_in left s) = sweep_part p left (steps_in left s) in
    let same : steps_in r s' ≡ bs = still_steps left s g.held r s' bs part d in
    let count : length (steps_in left s) ≡ left = length_steps left s in
    let most = g.enough h in
    let steps : r ≡ length bs = d.steps in
    record {
      held = still_held left s g.held r s' bs part d;
      long = still_long left s g.held r s' bs part d ∙ g.long;
      fuel = g.fuel - 1;
      enough = λ l. omega arith;
      goes =
          g.goes ∙ rw (lt-ltb left before h)
          (passes_next p g.fuel (steps_in left s) (omega arith)
          ∙ ap (λ (k : ℕ). if (ltb (length (sweep p k (steps_in left s))) k) (passes p (g.fuel - 1) (sweep p k (steps_in left s))) (sweep p k (steps_in left s))) count
          ∙ ap₂ (λ (k : ℕ) (x : List (List ℕ)). if (ltb k left) (passes p (g.fuel - 1) x) x) (sym steps) (sym same));
    }

pub passing_end : {p : List (List ℕ) → Bool} {s₀ : List ℕ} {n : ℕ} {s : List ℕ} {left before : ℕ} → Passing p s₀ n s left before → before ≤ left
    → Leaves left s (length s₀) (passes p n (steps_in n s₀))
passing_end {p} {s₀} {n} {s} {left} {before} g h = rw (g.goes, le-ltb left before h, ← g.long) (held_leaves s left g.held)
