-- What the functions of shorten/src are handed and hand back. `Begins`: a view that obeys the size rule; `started`, `fresh_begins`,
-- `fresh_refused` and `fresh_stays`: what `fresh` did; `replay_stops` and `replay_on_lem`: the replay of two parts, one after the other.
-- Used by Trials.antt and Ends.antt. Assumes nothing.
use Rattle.std.specs.Prelude.{ℕ, suc, ◌≤◌, ◌<◌, Bool, List, [], ◌∷◌, ◌++◌, length, Result as Answer}
use Rattle.protocol.specs.declared.refusals.Refusal.{Refusal}
use Rattle.protocol.specs.Refusals.{refusal_number, refusal_some, outcome as answered}
use Rattle.std.proofs.Common.{arith, sym, ◌∙◌, eq-eqb}
use Rattle.std.proofs.Math.Bool.{true, false}
use Rattle.std.proofs.Math.Path.{◌≡◌, refl, ap}
use Rattle.protocol.specs.declared.View.{View}
use Rattle.protocol.specs.Tools.{Result, refused, done, guard}
use Rattle.protocol.specs.Sizes.{view_with, sized}
use Rattle.protocol.specs.Worlds.{World, fresh_world, fresh}
use Rattle.protocol.specs.Steps.{After}
use Rattle.protocol.specs.Runs.{step_bytes, Replayed, onward, replay}
use Rattle.codec.specs.Layout.{image_size}
use Rattle.codec.specs.Images.{encode}
use Rattle.image.specs.Fresh.{outcome, fresh_on}
use Rattle.shorten.specs.Journals.{Shortening}

-- the function answered r and left the image i and the buffer s, as p
pub record Shortens (r : Answer ℕ Refusal) (i s : List ℕ) (p : Shortening) : Type 0 where
  pub answer : answered r ≡ p.answer
  pub image : i ≡ p.image
  pub shorter : s ≡ p.shorter

-- the world of this view is fresh: the arguments of `fresh` are kept together
pub record Begins (v : View) : Type 0 where
  pub begins : fresh v.members.0 v.f v.r ≡ done (fresh_world v)

-- ---- the fresh world

module _ (i : List ℕ) (size : length i ≡ image_size) where
  fresh_image : (v : View) → Begins v → (fresh_on i v.members.0 v.f v.r).image ≡ encode (fresh_world v)
  unfolding fresh_on guard
  fresh_image v h = rw (eq-eqb (length i) image_size size, h.begins) refl

  pub started : (v : View) (i' : List ℕ) → Begins v → i' ≡ (fresh_on i v.members.0 v.f v.r).image → i' ≡ encode (fresh_world v)
  started v i' h e = e ∙ fresh_image v h

  pub fresh_begins : (bits f reads : ℕ) → 0 ≡ (fresh_on i bits f reads).refusal → Begins (view_with bits f reads)
  unfolding fresh_on guard fresh
  fresh_begins bits f reads e = go (sized (view_with bits f reads)) refl
    where
      go : (b : Bool) → sized (view_with bits f reads) ≡ b → Begins (view_with bits f reads)
      go true h = record { begins = rw h refl }
      go false h = let k : ◌≡◌ {A = ℕ} 0 8 = e ∙ rw (eq-eqb (length i) image_size size, h) refl in absurd (omega arith)

  pub fresh_refused : (bits f reads : ℕ) (y : Refusal) → refusal_number y ≡ (fresh_on i bits f reads).refusal → fresh bits f reads ≡ refused (refusal_number y)
  unfolding fresh_on guard
  fresh_refused bits f reads y e = go (fresh bits f reads) (e ∙ ap (λ (b : Bool). (outcome i (guard b 1 (fresh bits f reads))).refusal) (eq-eqb (length i) image_size size))
    where
      go : (x : Result World) → refusal_number y ≡ (outcome i x).refusal → x ≡ refused (refusal_number y)
      go (refused m) k = ap refused (sym k)
      go (done w) k = absurd (refusal_some y (sym k))

  pub fresh_stays : (bits f reads n : ℕ) → fresh bits f reads ≡ refused n → (fresh_on i bits f reads).image ≡ i
  unfolding fresh_on guard
  fresh_stays bits f reads n e = rw (eq-eqb (length i) image_size size, e) refl

-- ---- a replay in two parts

-- it goes on from where the first part ended, unless that stopped
pub replay_on_lem : (w : World) (cs bs : List (List ℕ)) → length cs ≤ (replay w cs).steps → (replay w (cs ++ bs)).refusal ≡ (replay (replay w cs).world bs).refusal
unfolding replay
replay_on_lem w [] bs e = refl
replay_on_lem w (a ∷ cs) bs e = go (step_bytes w a) e (λ v. replay_on_lem v cs bs)
  where
    stop : Replayed
    stop = record { world = w; steps = 0; refusal = 0 }

    go : (x : Result After) → suc (length cs) ≤ (onward x stop (λ v. replay v cs)).steps
        → ((v : World) → length cs ≤ (replay v cs).steps → (replay v (cs ++ bs)).refusal ≡ (replay (replay v cs).world bs).refusal)
        → (onward x stop (λ v. replay v (cs ++ bs))).refusal ≡ (replay (onward x stop (λ v. replay v cs)).world bs).refusal
    go (refused n) h ih = absurd (omega arith)
    go (done a) h ih = ih a.world (omega arith)

pub replay_stops : (w : World) (cs bs : List (List ℕ)) → (replay w cs).steps < length cs → (replay w (cs ++ bs)).refusal ≡ (replay w cs).refusal
unfolding replay
replay_stops w [] bs e = absurd (omega arith)
replay_stops w (a ∷ cs) bs e = go (step_bytes w a) e (λ v. replay_stops v cs bs)
  where
    stop : Replayed
    stop = record { world = w; steps = 0; refusal = 0 }

    go : (x : Result After) → (onward x stop (λ v. replay v cs)).steps < suc (length cs)
        → ((v : World) → (replay v cs).steps < length cs → (replay v (cs ++ bs)).refusal ≡ (replay v cs).refusal)
        → (onward x stop (λ v. replay v (cs ++ bs))).refusal ≡ (onward x stop (λ v. replay v cs)).refusal
    go (refused n) h ih = refl
    go (done a) h ih = ih a.world (omega arith)
