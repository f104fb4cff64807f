-- The loop of `watch`: what its code answers is `watch_on` (`Watches`). `Watching` is what the loop keeps: the replay's part (`Going`),
-- and the step named so far, or what the rest of the journal will name. Assumes nothing.
use Rattle.std.specs.Simd.{first_chunks}
use Rattle.std.proofs.lemmas.List.{drop_more, drop_all}
use Rattle.std.specs.Prelude.{ℕ, zero, suc, ◌+◌, ◌/◌, ◌%◌, ◌≤◌, ◌<◌, Bool, true, false, ◌≡◌, List, [], length, get_or, drop, eqb, Option, None, Some, Ok, Err}
use Rattle.std.proofs.Common.{arith, sym, ◌∙◌}
use Rattle.std.proofs.Math.Path.{refl, ap}
use borrow.Author.Tests.{eqb-true, eq-eqb, ne_eqb}
use Rattle.protocol.specs.Tools.{if, Result, refused, done}
use Rattle.protocol.specs.Worlds.{World, premise}
use Rattle.protocol.specs.Steps.{After, step}
use Rattle.protocol.specs.Runs.{step_width, step_of, replay}
use Rattle.codec.specs.Layout.{image_size}
use Rattle.codec.specs.Images.{decode}
use Rattle.readable.specs.Readable.{readable, read_back, world_decode}
use Rattle.image.specs.Steps.{left_by, answered, steps_of, played, unplayed, replay_on}
use Rattle.preservation.proofs.Kept.{step_kept}
use Rattle.protocol.specs.declared.refusals.Refusal.{Refusal}
use Rattle.protocol.specs.Refusals.{refusal_number, outcome}
use Rattle.mail.specs.Images.{Stepped, told, some_of, Legible, Does}
use Rattle.journal.specs.Replays.{Going, stopped_at, step_whole, going_start, going_on, going_stop, going_end, unbegun, chunks_are, whole_chunks}
use Rattle.journal.specs.Watch.{Watched, broken_by, broken_from, watch_on}
use Rattle.journal.specs.declared.Watched.{Watched as Answer}
use Rattle.journal.specs.Watches.{Watches, noticed, watch_steps}

pub legible_readable : {l : List ℕ} → Legible l → readable l ≡ true
legible_readable {l} h = read_back l (record { size = h.size; image = h.image; world = h.formed })

-- what is named: a step or, where none is, what the rest names
abbrev pub or_rest : Option ℕ → ℕ → Option ℕ
or_rest None x = some_of x
or_rest (Some m) x = Some m

-- the first n steps bs, which began on the image l₀, were done, led to the image l, and named a step or none
pub record Watching (l₀ : List ℕ) (bs : List (List ℕ)) (l : List ℕ) (n : ℕ) (named : Option ℕ) : Type 0 where
  pub going : Going l₀ bs l n
  pub first : some_of (broken_from 0 (decode l₀) bs) ≡ or_rest named (broken_from n (decode l) (drop n bs))

pub watching_start : (l : List ℕ) (bs : List (List ℕ)) → Legible l → Watching l bs l 0 None
watching_start l bs h = record { going = going_start l bs h; first = refl }

-- a step named, or none named by the rest
named_still : (named : Option ℕ) (x : ℕ) → x ≡ 0 → named ≡ or_rest named x
named_still None x e = sym (ap some_of e)
named_still (Some n) x e = refl

-- what is named after one more step, t being the premise after it, n its number, and y what the rest names
next_named : (named k : Option ℕ) (n x y : ℕ) (w : World) → (n ≡ 0 → ⊥) → k ≡ noticed w named n → x ≡ if (premise w) y n → or_rest named x ≡ or_rest k y
next_named None k n x y w h p q = rw p (go (premise w) q)
  where
    go : (t : Bool) → x ≡ if t y n → some_of x ≡ or_rest (if t None (Some n)) y
    go true q = ap some_of q
    go false q = ap some_of q ∙ named n h
      where
        named : (m : ℕ) → (m ≡ 0 → ⊥) → some_of m ≡ Some m
        named zero h = absurd (h refl)
        named (suc m) h = refl
next_named (Some m) k n x y w h p q = rw p refl

module _ {l₀ l : List ℕ} {bs : List (List ℕ)} {n : ℕ} {named : Option ℕ} (g : Watching l₀ bs l n named) (below : n < length bs) (twelve : length (get_or bs n []) ≡ step_width) where
  abbrev b : List ℕ
  b = get_or bs n []

  abbrev rest : List (List ℕ)
  rest = drop (n + 1) bs

  -- what the next step makes of the rest
  ahead : (x : Result After) → step (decode l) (step_of b) ≡ x
      → broken_from n (decode l) (drop n bs) ≡ broken_by (suc n) x (λ v. broken_from (suc n) v rest)
  unfolding broken_from
  ahead x e =
      ap (broken_from n (decode l)) (drop_more bs n [] below)
      ∙ ap (λ (y : Result After). broken_by (suc n) y (λ v. broken_from (suc n) v rest)) (step_whole (decode l) b twelve ∙ e)

  pub watching_stop : (r : Stepped) (y : Refusal) (l' : List ℕ) → r ≡ Err y → Does r l l' (step (decode l) (step_of b))
      → Watches (record { replayed = stopped_at n (Some y); first = named }) l' (record { played = played (replay (decode l₀) bs); first = broken_from 0 (decode l₀) bs })
  watching_stop r y l' q d =
      record { replay = going_stop g.going below twelve r y l' q d; first = go (step (decode l) (step_of b)) refl (ap outcome (sym q) ∙ d.answer) }
    where
      go : (x : Result After) → step (decode l) (step_of b) ≡ x → refused (refusal_number y) ≡ told (answered x) → named ≡ some_of (broken_from 0 (decode l₀) bs)
      go (done a) e r = let z : ◌≡◌ {A = ℕ} 0 1 = cc in absurd (omega arith)
      go (refused m) e r = named_still named _ (ahead (refused m) e) ∙ sym g.first

  pub watching_on : (r : Stepped) (c : Option ℕ) (l' : List ℕ) (k : Option ℕ) → r ≡ Ok c → Does r l l' (step (decode l) (step_of b))
      → k ≡ noticed (decode l') named (n + 1) → Watching l₀ bs l' (n + 1) k
  watching_on r c l' k q d p =
      record { going = going_on g.going below twelve r c l' q d; first = g.first ∙ go (step (decode l) (step_of b)) refl (ap outcome (sym q) ∙ d.answer) d.image }
    where
      go : (x : Result After) → step (decode l) (step_of b) ≡ x → done c ≡ told (answered x) → l' ≡ left_by l x
          → or_rest named (broken_from n (decode l) (drop n bs)) ≡ or_rest k (broken_from (n + 1) (decode l') rest)
      go (refused m) e r i = let z : ◌≡◌ {A = ℕ} 0 1 = cc in absurd (omega arith)
      go (done a) e r i =
          let same : a.world ≡ decode l' = sym (world_decode a.world (step_kept (decode l) g.going.legible.formed (step_of b) a e)) ∙ ap decode (sym i) in
          let next : suc n ≡ n + 1 = omega arith in
          next_named named k (n + 1) _ (broken_from (n + 1) (decode l') rest) (decode l') (λ z. omega arith) p
          (ahead (done a) e
          ∙ ap (λ (x : ℕ). if (premise a.world) (broken_from x a.world rest) x) next
          ∙ ap (λ (w : World). if (premise w) (broken_from (n + 1) w rest) (n + 1)) same)

pub watching_end : {l₀ l : List ℕ} {bs : List (List ℕ)} {n : ℕ} {named : Option ℕ} → Watching l₀ bs l n named → n ≤ length bs → length bs ≤ n
    → Watches (record { replayed = stopped_at (length bs) None; first = named }) l (record { played = played (replay (decode l₀) bs); first = broken_from 0 (decode l₀) bs })
unfolding broken_from
watching_end {l₀} {l} {bs} {n} {named} g h k =
    record { replay = going_end g.going h k; first = named_still named _ (ap (broken_from n (decode l)) (drop_all n bs k)) ∙ sym g.first }

-- ---- any image and any journal

-- a replay that did not begin
pub unwatched : (y : Refusal) (l : List ℕ) {r : Answer} {p : Watched} → r ≡ record { replayed = stopped_at 0 (Some y); first = None }
    → p.played ≡ unplayed l (refusal_number y) → p.first ≡ 0 → Watches r l p
unwatched y l q e f = rw q (record { replay = unbegun y l refl e; first = sym (ap some_of f) })

module _ (l : List ℕ) (bs : List (List ℕ)) where
  pub scanned_watch : readable l ≡ true → watch_steps l bs ≡ record { played = played (replay (decode l) bs); first = broken_from 0 (decode l) bs }
  scanned_watch e = rw e refl

  pub unscanned_watch : readable l ≡ false → (watch_steps l bs).first ≡ 0
  unscanned_watch e = rw e refl

module _ (l j : List ℕ) where
  pub wrong_image_watch : (length l ≡ image_size → ⊥) → (watch_on l j).first ≡ 0
  unfolding watch_on
  wrong_image_watch e = rw (ne_eqb (length l) image_size e) refl

  pub wrong_journal_watch : length l ≡ image_size → (length j % step_width ≡ 0 → ⊥) → (watch_on l j).first ≡ 0
  unfolding watch_on
  wrong_journal_watch h e = rw (eq-eqb (length l) image_size h, ne_eqb (length j % step_width) 0 e) refl

  pub watch_played : (watch_on l j).played ≡ replay_on l j
  unfolding watch_on
  watch_played = refl

  pub whole_watch : {n : ℕ} {bs : List (List ℕ)} → length l ≡ image_size → n ≡ length j % step_width → true ≡ eqb n 0
      → bs ≡ first_chunks step_width (length j / step_width) j → watch_on l j ≡ watch_steps l bs
  unfolding watch_on steps_of
  whole_watch {n} {bs} h e k q =
      let whole = sym e ∙ eqb-true n 0 (sym k) in
      let same : steps_of j ≡ bs = sym (q ∙ chunks_are (length j / step_width) j) in
      rw (whole_chunks l j h e k q, eq-eqb (length l) image_size h, eq-eqb (length j % step_width) 0 whole, same) refl
