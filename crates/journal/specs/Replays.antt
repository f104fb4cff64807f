-- Replays one after another, and the loop of `replay` and `resume`: what their code answers is `replay_on` and `resume_on` of
-- image/specs/Steps.antt (`Plays`). `rest_stops`: after a stop the rest of a journal stops again; `Going`: what the loop keeps;
-- `whole_replay`: a replay on a readable image is its world's. Used by the proofs of journal/src and by Rests.antt. Assumes nothing.
use Rattle.std.specs.Simd.{first_chunks}
use Rattle.std.specs.Prelude.{ℕ, zero, suc, ◌+◌, ◌*◌, ◌-◌, ◌/◌, ◌%◌, ◌≤◌, ◌<◌, true, false, ◌≡◌, eqb, length, get_or, drop, Option, None, Some, Ok, Err}
use Rattle.std.proofs.Common.{add-one, arith, sym, subst, ◌∙◌, take_all}
use Rattle.std.proofs.lemmas.List.{drop_more, drop_all}
use Rattle.std.proofs.Math.Path.{refl, ap}
use mathlib.Core.List.{List, [], ◌∷◌}
use Rattle.std.proofs.Math.ListN.{take, length-drop}
use borrow.Author.Tests.{eqb-true, eqb-false, eq-eqb, ne_eqb, le-leb, lt-leb}
use Rattle.protocol.specs.Tools.{if, Result, refused, done, guard}
use Rattle.protocol.specs.Worlds.{World}
use Rattle.protocol.specs.Readable.{well_formed}
use Rattle.protocol.specs.Steps.{After, step}
use Rattle.protocol.specs.Runs.{step_width, step_of, step_bytes, Replayed, onward, replay}
use Rattle.codec.specs.Layout.{image_size}
use Rattle.codec.specs.Images.{encode, decode}
use Rattle.readable.specs.Readable.{readable, Read, read, world_decode, world_readable}
use Rattle.preservation.proofs.Kept.{step_kept}
use Rattle.image.specs.Steps.{left_by, answered, steps_in, steps_of, Played, played, unplayed, replay_on, resume_on}
use Rattle.journal.specs.declared.Replayed.{Replayed as Answer}
use Rattle.protocol.specs.declared.refusals.Refusal.{Refusal}
use Rattle.protocol.specs.Refusals.{refusal_number, outcome}
use Rattle.mail.specs.Images.{Stepped, told, Legible, Does}

-- the refusal that stopped a replay, by its number, or 0
abbrev pub stopped_by : Option Refusal → ℕ
stopped_by None = 0
stopped_by (Some r) = refusal_number r

-- what a replay answers: the steps done, and the refusal that stopped it, if one did
abbrev pub stopped_at : ℕ → Option Refusal → Answer
stopped_at n r = record { steps = n; refusal = r }

-- the function answered r and left the image l, as p
pub record Plays (r : Answer) (l : List ℕ) (p : Played) : Type 0 where
  pub steps : r.steps ≡ p.steps
  pub refusal : stopped_by r.refusal ≡ p.refusal
  pub image : l ≡ p.image

-- ---- replays one after another

-- a replay after n steps that were done
abbrev pub after : ℕ → Replayed → Replayed
after n r = record { world = r.world; steps = r.steps + n; refusal = r.refusal }

-- one step done, then the rest
pub replay_done : (w : World) (b : List ℕ) (bs : List (List ℕ)) (a : After) → step_bytes w b ≡ done a → replay w (b ∷ bs) ≡ after 1 (replay a.world bs)
unfolding replay
replay_done w b bs a e = rw e refl

-- a step refused
pub replay_refused : (w : World) (b : List ℕ) (bs : List (List ℕ)) (n : ℕ) → step_bytes w b ≡ refused n → replay w (b ∷ bs) ≡ record { world = w; steps = 0; refusal = n }
unfolding replay
replay_refused w b bs n e = rw e refl

pub replay_none : (w : World) → replay w [] ≡ record { world = w; steps = 0; refusal = 0 }
unfolding replay
replay_none w = refl

-- the list without its first n elements
unfoldable pub beyond : {A : Type 0} → ℕ → List A → List A
beyond zero l = l
beyond (suc n) [] = []
beyond (suc n) (x ∷ l) = beyond n l

beyond_next : {A : Type 0} (n : ℕ) (x : A) (l : List A) → beyond (n + 1) (x ∷ l) ≡ beyond n l
unfolding beyond
beyond_next n x l = rw (add-one n) refl

-- "The rest of the journal after the last accepted step can be replayed on the same image with the same end."
pub rest_stops : (w : World) (bs : List (List ℕ)) → replay (replay w bs).world (beyond (replay w bs).steps bs) ≡ record { world = (replay w bs).world; steps = 0; refusal = (replay w bs).refusal }
unfolding replay beyond
rest_stops w [] = refl
rest_stops w (b ∷ bs) = go (step_bytes w b) refl (λ v. rest_stops v bs)
  where
    stop : Replayed
    stop = record { world = w; steps = 0; refusal = 0 }

    go : (x : Result After) → step_bytes w b ≡ x → ((v : World) → replay (replay v bs).world (beyond (replay v bs).steps bs)
        ≡ record { world = (replay v bs).world; steps = 0; refusal = (replay v bs).refusal })
        → replay (onward x stop (λ v. replay v bs)).world (beyond (onward x stop (λ v. replay v bs)).steps (b ∷ bs))
        ≡ record { world = (onward x stop (λ v. replay v bs)).world; steps = 0; refusal = (onward x stop (λ v. replay v bs)).refusal }
    go (refused n) e ih = replay_refused w b bs n e
    go (done a) e ih = ap (replay (replay a.world bs).world) (beyond_next (replay a.world bs).steps b bs) ∙ ih a.world

-- ---- a replay that goes on

abbrev pub legible : (l : List ℕ) → Read l → Legible l
legible l r = record { size = r.size; image = r.image; formed = r.world }

-- the image of a readable world
pub spelled : (w : World) → well_formed w ≡ true → (l : List ℕ) → l ≡ encode w → Legible l
spelled w h l e = subst Legible (sym e) (legible (encode w) (read (encode w) (world_readable w h)))

-- an accepted step leaves a readable image
pub advanced : (r : Stepped) (l l' : List ℕ) (b : List ℕ) → Legible l → length b ≡ step_width → Does r l l' (step (decode l) (step_of b)) → Legible l'
advanced r l l' b h k d = go (step (decode l) (step_of b)) refl d.image
  where
    go : (x : Result After) → step (decode l) (step_of b) ≡ x → l' ≡ left_by l x → Legible l'
    go (refused n) e q = subst Legible (sym q) h
    go (done a) e q = spelled a.world (step_kept (decode l) h.formed (step_of b) a e) l' q

-- the first n steps bs, which began on the image l₀, were done, and led to the image l
pub record Going (l₀ : List ℕ) (bs : List (List ℕ)) (l : List ℕ) (n : ℕ) : Type 0 where
  pub legible : Legible l
  pub rest : replay (decode l₀) bs ≡ after n (replay (decode l) (drop n bs))

pub going_start : (l : List ℕ) (bs : List (List ℕ)) → Legible l → Going l bs l 0
going_start l bs h = record { legible = h; rest = from_none (replay (decode l) bs) }
  where
    from_none : (r : Replayed) → r ≡ after 0 r
    from_none r = let e : r.steps ≡ r.steps + 0 = omega arith in λ i. record { world = r.world; steps = e i; refusal = r.refusal }

pub step_whole : (w : World) (b : List ℕ) → length b ≡ step_width → step_bytes w b ≡ step w (step_of b)
unfolding step_bytes guard
step_whole w b e = rw (eq-eqb (length b) step_width e) refl

-- what follows from the next step
module _ {l₀ l : List ℕ} {bs : List (List ℕ)} {n : ℕ} (g : Going l₀ bs l n) (below : n < length bs) (twelve : length (get_or bs n []) ≡ step_width) where
  abbrev b : List ℕ
  b = get_or bs n []

  ahead : replay (decode l₀) bs ≡ after n (replay (decode l) (b ∷ drop (n + 1) bs))
  ahead = g.rest ∙ ap (λ (x : List (List ℕ)). after n (replay (decode l) x)) (drop_more bs n [] below)

  pub going_stop : (r : Stepped) (y : Refusal) (l' : List ℕ) → r ≡ Err y → Does r l l' (step (decode l) (step_of b))
      → Plays (stopped_at n (Some y)) l' (played (replay (decode l₀) bs))
  going_stop r y l' q d = go (step (decode l) (step_of b)) refl (ap outcome (sym q) ∙ d.answer) d.image
    where
      go : (x : Result After) → step (decode l) (step_of b) ≡ x → refused (refusal_number y) ≡ told (answered x) → l' ≡ left_by l x
          → Plays (stopped_at n (Some y)) l' (played (replay (decode l₀) bs))
      go (done a) e r i = let z : ◌≡◌ {A = ℕ} 0 1 = cc in absurd (omega arith)
      go (refused m) e r i =
          let same : refusal_number y ≡ m = cc in
          let all : replay (decode l₀) bs ≡ record { world = decode l; steps = 0 + n; refusal = m } = ahead ∙ ap (after n)
          (replay_refused (decode l) b (drop (n + 1) bs) m (step_whole (decode l) b twelve ∙ e)) in
          rw all (record { steps = omega arith; refusal = same; image = i ∙ sym g.legible.image })

  pub going_on : (r : Stepped) (c : Option ℕ) (l' : List ℕ) → r ≡ Ok c → Does r l l' (step (decode l) (step_of b)) → Going l₀ bs l' (n + 1)
  going_on r c l' q d =
      record {
        legible = advanced r l l' b g.legible twelve d;
        rest = go (step (decode l) (step_of b)) refl (ap outcome (sym q) ∙ d.answer) d.image;
      }
    where
      more : (r : Replayed) → after n (after 1 r) ≡ after (n + 1) r
      more r = let e : r.steps + 1 + n ≡ r.steps + (n + 1) = omega arith in λ i. record { world = r.world; steps = e i; refusal = r.refusal }

      go : (x : Result After) → step (decode l) (step_of b) ≡ x → done c ≡ told (answered x) → l' ≡ left_by l x
          → replay (decode l₀) bs ≡ after (n + 1) (replay (decode l') (drop (n + 1) bs))
      go (refused m) e r i = let z : ◌≡◌ {A = ℕ} 0 1 = cc in absurd (omega arith)
      go (done a) e r i =
          let here : a.world ≡ decode l' = sym (world_decode a.world (step_kept (decode l) g.legible.formed (step_of b) a e)) ∙ ap decode (sym i) in
          ahead
          ∙ ap (after n) (replay_done (decode l) b (drop (n + 1) bs) a (step_whole (decode l) b twelve ∙ e))
          ∙ more (replay a.world (drop (n + 1) bs))
          ∙ ap (λ (w : World). after (n + 1) (replay w (drop (n + 1) bs))) here

-- none is left
pub going_end : {l₀ l : List ℕ} {bs : List (List ℕ)} {n : ℕ} → Going l₀ bs l n → n ≤ length bs → length bs ≤ n → Plays (stopped_at (length bs) None) l (played (replay (decode l₀) bs))
going_end {l₀} {l} {bs} {n} g h k = rw all (record { steps = omega arith; refusal = refl; image = sym g.legible.image })
  where
    all : replay (decode l₀) bs ≡ record { world = decode l; steps = 0 + n; refusal = 0 }
    all = g.rest ∙ ap (λ (x : List (List ℕ)). after n (replay (decode l) x)) (drop_all n bs k) ∙ ap (after n) (replay_none (decode l))

-- ---- any image and any journal

-- a replay that did not begin
pub unbegun : (y : Refusal) (l : List ℕ) {r : Answer} {p : Played} → r ≡ stopped_at 0 (Some y) → p ≡ unplayed l (refusal_number y) → Plays r l p
unbegun y l q e = rw (q, e) (record { steps = refl; refusal = refl; image = refl })

-- a rest that is not empty
pub not_whole : {n m : ℕ} → n ≡ m → false ≡ eqb n 0 → m ≡ 0 → ⊥
not_whole {n} e f z = eqb-false n 0 (sym f) (e ∙ z)

-- whole steps on the bytes of an image: "2"
abbrev pub replay_steps : List ℕ → List (List ℕ) → Played
replay_steps l bs = if (readable l) (played (replay (decode l) bs)) (unplayed l 2)

module _ (l : List ℕ) (bs : List (List ℕ)) where
  pub scanned_steps : readable l ≡ true → replay_steps l bs ≡ played (replay (decode l) bs)
  scanned_steps e = rw e refl

  pub unscanned_steps : readable l ≡ false → replay_steps l bs ≡ unplayed l 2
  unscanned_steps e = rw e refl

-- a journal that is cut into steps
pub chunks_are : (n : ℕ) (j : List ℕ) → first_chunks step_width n j ≡ steps_in n j
unfolding steps_in
chunks_are zero j = refl
chunks_are (suc n) j = ap (λ (r : List (List ℕ)). take step_width j ∷ r) (chunks_are n (drop step_width j))

module _ (l j : List ℕ) where
  pub wrong_image : (length l ≡ image_size → ⊥) → replay_on l j ≡ unplayed l 1
  unfolding replay_on
  wrong_image e = rw (ne_eqb (length l) image_size e) refl

  pub wrong_journal : length l ≡ image_size → (length j % step_width ≡ 0 → ⊥) → replay_on l j ≡ unplayed l 1
  unfolding replay_on
  wrong_journal h e = rw (eq-eqb (length l) image_size h, ne_eqb (length j % step_width) 0 e) refl

  pub whole_steps : length l ≡ image_size → length j % step_width ≡ 0 → replay_on l j ≡ replay_steps l (steps_of j)
  unfolding replay_on
  whole_steps h k = rw (eq-eqb (length l) image_size h, eq-eqb (length j % step_width) 0 k) refl

  pub whole_chunks : {n : ℕ} {bs : List (List ℕ)} → length l ≡ image_size → n ≡ length j % step_width → true ≡ eqb n 0
      → bs ≡ first_chunks step_width (length j / step_width) j → replay_on l j ≡ replay_steps l bs
  unfolding steps_of
  whole_chunks {n} h e k q =
      whole_steps h (sym e ∙ eqb-true n 0 (sym k)) ∙ ap (replay_steps l) (sym (q ∙ chunks_are (length j / step_width) j))

  pub whole_replay : length l ≡ image_size → length j % step_width ≡ 0 → readable l ≡ true → replay_on l j ≡ played (replay (decode l) (steps_of j))
  whole_replay h k e = whole_steps h k ∙ rw e refl

-- ---- the rest of a journal

module _ (l j : List ℕ) (n : ℕ) where
  pub rest_none : length j / step_width < n → resume_on l j n ≡ unplayed l 1
  unfolding resume_on
  rest_none e = rw (lt-leb n (length j / step_width) e) refl

  pub rest_some : n ≤ length j / step_width → resume_on l j n ≡ replay_on l (drop (n * step_width) j)
  unfolding resume_on
  rest_some e = rw (le-leb n (length j / step_width) e) refl

  -- what is lent of it
  pub rest_lent : n ≤ length j / step_width → replay_on l (take (length j - n * step_width) (drop (n * step_width) j)) ≡ resume_on l j n
  rest_lent e =
      let d = length-drop (n * step_width) j in
      ap (replay_on l) (take_all (length j - n * step_width) (drop (n * step_width) j) (omega arith)) ∙ sym (rest_some e)
