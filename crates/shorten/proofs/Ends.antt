-- The ways out of `reduce` and `shorten`: `none_left` for 15 and `some_left` when done; `lent_wrong` for 1, `not_fresh` for 8, and
-- `from_fresh` for what `reduce` did. Used by the proofs of shorten/src and by Promise.antt. Assumes nothing.
use Prim.Native.Nat.{ℕ, ◌*◌, ◌-◌, ◌/◌, ◌%◌}
use native.Mathlib.Omega.{arith}
use Rattle.std.specs.Prelude.{Bool, true, false, ◌≡◌, eqb, leb, None, Some, Result as Outcome, Ok, Err}
use Rattle.std.proofs.Math.Path.{refl, sym, ap, ap₂}
use Rattle.std.proofs.Common.{◌∙◌, drop_of_length-le, take_all}
use mathlib.Core.List.{List, ◌++◌, append-nil}
use Rattle.std.proofs.Math.ListN.{length}
use borrow.Author.Tests.{eqb-true, eq-eqb, ne_eqb, leb-true, lt-ltb}
use Rattle.std.specs.Simd.{first_chunks}
use Rattle.std.proofs.lemmas.Bool.{and_parts}
use Rattle.std.proofs.Math.Nat.{pos_of_ne-zero}
use Rattle.protocol.specs.declared.View.{View}
use Rattle.protocol.specs.Tools.{refused, done, guard}
use Rattle.protocol.specs.Sizes.{view_with}
use Rattle.protocol.specs.Worlds.{World, fresh_world, fresh}
use Rattle.protocol.specs.Runs.{step_width, replay}
use Rattle.codec.specs.Layout.{image_size}
use Rattle.codec.specs.Lists.{put}
use Rattle.codec.specs.Images.{encode, decode}
use Rattle.image.specs.Fresh.{fresh_on}
use Rattle.image.specs.Steps.{steps_in, steps_of, played}
use Rattle.journal.specs.declared.Replayed.{Replayed as Answer}
use Rattle.journal.specs.Replays.{Plays, stopped_by, chunks_are}
use Rattle.journal.specs.Rests.{length_steps}
use Rattle.protocol.specs.declared.refusals.Refusal.{Refusal}
use Rattle.protocol.specs.declared.refusals.Refusal.TheVariants.{WrongLength, NoRefusal}
use Rattle.protocol.specs.Refusals.{refusal_number, refusal_some}
use Rattle.shorten.specs.Passes.{passes}
use Rattle.shorten.specs.Journals.{Shortening, most_steps, filled, stops_with, short_journal, shortened, ended, steps_lent, lent_well, shorten_on}
use Rattle.shorten.specs.Buffers.{bytes_steps, Held, Leaves}
use Rattle.shorten.specs.Lent.{Shortens, Begins, started, fresh_begins, fresh_refused, fresh_stays}
use Rattle.shorten.specs.Trials.{begun_world}
use Rattle.shorten.specs.Ends.{Lent}

-- ---- from the fresh world

-- the journal copied into the buffer
put_whole : (s j : List ℕ) → length s ≡ length j → put s 0 j ≡ j
unfolding put
put_whole s j h = ap (λ (l : List ℕ). j ++ l) (drop_of_length-le s {i = length j} (omega arith)) ∙ append-nil j

-- a journal of whole steps is held
pub whole_held : (j : List ℕ) → length j % step_width ≡ 0 → Held j (length j / step_width)
unfolding filled
whole_held j h =
    let k = length_steps (length j / step_width) j in
    let z : length j - length (steps_in (length j / step_width) j) * step_width ≡ 0 = omega arith in
    record {
      fits = omega arith;
      bytes =
          sym (take_all (length j / step_width * step_width) j (omega arith))
          ∙ sym (bytes_steps (length j / step_width) j)
          ∙ sym (rw z (append-nil _));
    }

pub copied_held : (s j s' : List ℕ) {n : ℕ} → n ≡ length j / step_width → length j % step_width ≡ 0 → length s ≡ length j → s' ≡ put s 0 j → Held s' n
copied_held s j s' m w h e = rw (m, e ∙ put_whole s j h) (whole_held j w)

module _ (v : View) (b : Begins v) (i j s : List ℕ) (e : i ≡ encode (fresh_world v)) {bs : List (List ℕ)} (cut : bs ≡ first_chunks step_width (length j / step_width) j)
    (r : Answer) (i' : List ℕ) (p : Plays r i' (played (replay (decode i) bs))) where
  refusal_is : stopped_by r.refusal ≡ (replay (fresh_world v) (steps_of j)).refusal
  unfolding steps_of
  refusal_is =
      p.refusal ∙ ap₂ (λ (w : World) (x : List (List ℕ)). (replay w x).refusal) (begun_world v b i e) (cut ∙ chunks_are (length j / step_width) j)

  -- "15, the replay stops on no refusal"
  pub none_left : (i'' : List ℕ) → r.refusal ≡ None → i'' ≡ encode (fresh_world v) → Shortens (Err NoRefusal) i'' s (ended (fresh_world v) s (shortened (fresh_world v) (steps_of j)))
  unfolding shortened guard
  none_left i'' z h = rw (sym refusal_is ∙ ap stopped_by z) (record { answer = refl; image = h; shorter = refl })

  pub some_left : (k : ℕ) (i'' s' s'' : List ℕ) (y : Refusal) → r.refusal ≡ Some y → length s ≡ length j → s' ≡ put s 0 j → length bs ≡ length j / step_width
      → Leaves k s'' (length s') (passes (stops_with (fresh_world v) (refusal_number y)) (length bs) (steps_in (length bs) s'))
      → i'' ≡ encode (fresh_world v) → Shortens (Ok k) i'' s'' (ended (fresh_world v) s (shortened (fresh_world v) (steps_of j)))
  unfolding shortened short_journal steps_of guard
  some_left k i'' s' s'' y z same c m d h =
      let stop : refusal_number y ≡ (replay (fresh_world v) (steps_of j)).refusal = sym (ap stopped_by z) ∙ refusal_is in
      let n : ℕ = length j / step_width in
      let copied : s' ≡ j = c ∙ put_whole s j same in
      let long : length s' ≡ length s = ap (λ (l : List ℕ). length l) copied ∙ sym same in
      let count : n ≡ length (steps_in n j) = sym (length_steps n j) in
      let left : passes (stops_with (fresh_world v) (refusal_number y)) (length bs) (steps_in (length bs) s')
      ≡ passes (stops_with (fresh_world v) (replay (fresh_world v) (steps_in n j)).refusal) (length (steps_in n j)) (steps_in n j) =
      ap (λ (x : ℕ). passes (stops_with (fresh_world v) (refusal_number y)) x (steps_in x s')) m
      ∙ ap₂ (λ (x : ℕ) (l : List ℕ). passes (stops_with (fresh_world v) x) n (steps_in n l)) stop copied
      ∙ ap (λ (x : ℕ). passes (stops_with (fresh_world v) (replay (fresh_world v) (steps_in n j)).refusal) x (steps_in n j)) count in
      rw (lt-ltb 0 (replay (fresh_world v) (steps_in n j)).refusal (pos_of_ne-zero (λ e. refusal_some y (sym (stop ∙ e)))))
      (record { answer = ap done (d.steps ∙ ap (λ (x : List (List ℕ)). length x) left); image = h; shorter = d.bytes ∙ ap₂ filled long left })

-- on the bytes of an image
pub lent_image : (i j s : List ℕ) → length i ≡ image_size → (b : Bool) → b ≡ steps_lent j s → b ≡ lent_well i j s
lent_image i j s h b e = rw (eq-eqb (length i) image_size h) e

pub lent_well_lem : (i j s : List ℕ) → lent_well i j s ≡ true → Lent i j s
lent_well_lem i j s e =
    let a = and_parts (eqb (length i) image_size) _ e in
    let b = and_parts (eqb (length j % step_width) 0) _ a.1 in
    let c = and_parts (leb (length j / step_width) most_steps) _ b.1 in
    record {
      image = eqb-true (length i) image_size a.0;
      journal = eqb-true (length j % step_width) 0 b.0;
      few = leb-true (length j / step_width) most_steps c.0;
      shorter = eqb-true (length s) (length j) c.1;
    }

module _ (i j s : List ℕ) (e : true ≡ lent_well i j s) where
  lent : Lent i j s
  lent = lent_well_lem i j s (sym e)

  pub lent_whole : length j % step_width ≡ 0
  lent_whole = lent.journal

  pub lent_same : length s ≡ length j
  lent_same = lent.shorter

module _ (i : List ℕ) (bits f reads : ℕ) (j s : List ℕ) where
  pub lent_wrong : false ≡ lent_well i j s → Shortens (Err WrongLength) i s (shorten_on i bits f reads j s)
  unfolding shorten_on guard
  lent_wrong e = rw (← e) (record { answer = refl; image = refl; shorter = refl })

  pub wrong_image : (length i ≡ image_size → ⊥) → Shortens (Err WrongLength) i s (shorten_on i bits f reads j s)
  wrong_image e = lent_wrong (rw (ne_eqb (length i) image_size e) refl)

  module _ (e : true ≡ lent_well i j s) where
    size : length i ≡ image_size
    size = (lent i j s e).image

    pub not_fresh : (y : Refusal) (i' : List ℕ) → refusal_number y ≡ (fresh_on i bits f reads).refusal → i' ≡ (fresh_on i bits f reads).image → Shortens (Err y) i' s (shorten_on i bits f reads j s)
    unfolding shorten_on guard
    not_fresh y i' k q =
        let no : fresh bits f reads ≡ refused (refusal_number y) = fresh_refused i size bits f reads y k in
        rw (← e, no) (record { answer = refl; image = q ∙ fresh_stays i size bits f reads (refusal_number y) no; shorter = refl })

    module _ (answer : 0 ≡ (fresh_on i bits f reads).refusal) where
      pub lent_begins : Begins (view_with bits f reads)
      lent_begins = fresh_begins i size bits f reads answer

      pub lent_fresh : (i' : List ℕ) → i' ≡ (fresh_on i bits f reads).image → i' ≡ encode (fresh_world (view_with bits f reads))
      lent_fresh i' q = started i size (view_with bits f reads) i' lent_begins q

      pub from_fresh : (r : Outcome ℕ Refusal) (i' s' : List ℕ)
          → Shortens r i' s' (ended (fresh_world (view_with bits f reads)) s (shortened (fresh_world (view_with bits f reads)) (steps_of j))) → Shortens r i' s' (shorten_on i bits f reads j s)
      unfolding shorten_on guard
      from_fresh r i' s' h = rw (← e, lent_begins.begins) h

-- a refusal that is handed on
pub passed : {i s : List ℕ} {p : Shortening} {y : Refusal} {r : Outcome ℕ Refusal} → (z : Refusal) × (r ≡ Err z) × (z ≡ y) → Shortens (Err y) i s p → Shortens r i s p
passed (z, p, q) d = rw (p, q) d
