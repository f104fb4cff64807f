-- "The short journal behind a refusal": `shortened` of a world and the steps of a journal, and `shorten_on` of all that is lent, with
-- the refusals in the order tested. `Short` is what the request promises, and `is_short` that it is kept: the same refusal number,
-- lost when any single step is dropped, and a part of the journal. `shorten` promises `shorten_on`. Assumes nothing.
use Rattle.std.specs.Prelude.{ℕ, ◌*◌, ◌-◌, ◌/◌, ◌%◌, ◌<◌, Bool, true, ◌&&◌, ◌≡◌, refl, List, ◌++◌, length, replicate, eqb, leb, ltb}
use Rattle.std.proofs.Common.{le_refl, subst, ◌∙◌, eq-eqb, eqb-true, ltb-true}
use Rattle.std.proofs.lemmas.Bool.{eqb-false}
use Rattle.protocol.specs.Tools.{Result, refused, done, guard, passed}
use Rattle.protocol.specs.Worlds.{World, fresh}
use Rattle.protocol.specs.Runs.{step_width, replay}
use Rattle.codec.specs.Layout.{image_size}
use Rattle.codec.specs.Lists.{flat}
use Rattle.codec.specs.Images.{encode}
use Rattle.image.specs.Steps.{steps_of}
use Rattle.shorten.specs.Passes.{without, passes}
use Rattle.shorten.specs.Minimal.{Part, passes_part, passes_holds, passes_minimal}

-- "From a fresh world and at most 512 steps"
abbrev pub most_steps : ℕ
most_steps = 512

-- ---- the short journal

-- the replay of these steps stops with the refusal n
abbrev pub stops_with : World → ℕ → List (List ℕ) → Bool
stops_with w n bs = eqb (replay w bs).refusal n

-- "Go from last step to first, drop where the refusal remains, again until a pass drops nothing."
unfoldable pub short_journal : World → ℕ → List (List ℕ) → List (List ℕ)
short_journal w n bs = passes (stops_with w n) (length bs) bs

-- "15, the replay stops on no refusal"
unfoldable pub shortened : World → List (List ℕ) → Result (List (List ℕ))
shortened w bs = guard (ltb 0 (replay w bs).refusal) 15 (done (short_journal w (replay w bs).refusal bs))

-- "a journal whose replay stops with the same refusal number and loses it when any single step is dropped"
pub record Short (w : World) (bs short : List (List ℕ)) : Type 0 where
  pub part : Part short bs
  pub refusal : (replay w short).refusal ≡ (replay w bs).refusal
  pub stops : 0 < (replay w short).refusal
  pub loses : (i : ℕ) → i < length short → (replay w (without short i)).refusal ≡ (replay w short).refusal → ⊥

pub is_short : (w : World) (bs short : List (List ℕ)) → shortened w bs ≡ done short → Short w bs short
unfolding shortened short_journal
is_short w bs short e = subst (Short w bs) short_is (record { part = passes_part p (length bs) bs; refusal = same; stops = rw same (ltb-true 0 n s.0); loses = other })
  where
    n : ℕ
    n = (replay w bs).refusal

    p : List (List ℕ) → Bool
    p = stops_with w n

    s : (ltb 0 n ≡ true) × (done (passes p (length bs) bs) ≡ done short)
    s = passed (ltb 0 n) 15 (done (passes p (length bs) bs)) short e

    short_is : passes p (length bs) bs ≡ short
    short_is = let d = s.1 in cc

    same : (replay w (passes p (length bs) bs)).refusal ≡ n
    same = eqb-true (replay w (passes p (length bs) bs)).refusal n (passes_holds p (length bs) bs (eq-eqb n n refl))

    other : (i : ℕ) → i < length (passes p (length bs) bs) → (replay w (without (passes p (length bs) bs) i)).refusal ≡ (replay w (passes p (length bs) bs)).refusal → ⊥
    other i h r = eqb-false (replay w (without (passes p (length bs) bs) i)).refusal n (passes_minimal p (length bs) bs (le_refl (length bs)) i h) (r ∙ same)

-- ---- what is lent

-- a buffer of m bytes: these steps, "zero after the short journal"
unfoldable pub filled : ℕ → List (List ℕ) → List ℕ
filled m bs = flat (λ b. b) bs ++ replicate (m - length bs * step_width) 0

-- the answer (a refusal, or the number of steps), the image and the journal buffer
pub record Shortening : Type 0 where
  pub answer : Result ℕ
  pub image : List ℕ
  pub shorter : List ℕ

-- "1, over 512 steps or a buffer of wrong length": the journal j, and the buffer s "as long as the first"
abbrev pub steps_lent : List ℕ → List ℕ → Bool
steps_lent j s = eqb (length j % step_width) 0 && (leb (length j / step_width) most_steps && eqb (length s) (length j))

-- and the image i
abbrev pub lent_well : List ℕ → List ℕ → List ℕ → Bool
lent_well i j s = eqb (length i) image_size && steps_lent j s

-- "When done, and after 15, the image holds the fresh world; 15 is the one refusal that writes the image"
abbrev pub ended : World → List ℕ → Result (List (List ℕ)) → Shortening
ended w s (refused n) = record { answer = refused n; image = encode w; shorter = s }
ended w s (done bs) = record { answer = done (length bs); image = encode w; shorter = filled (length s) bs }

-- "8; then 15"
abbrev pub begun_from : Result World → List ℕ → List ℕ → List ℕ → Shortening
begun_from (refused n) i j s = record { answer = refused n; image = i; shorter = s }
begun_from (done w) i j s = ended w s (shortened w (steps_of j))

-- the whole operation, from the fresh world of these member bits, f and read size
unfoldable pub shorten_on : List ℕ → ℕ → ℕ → ℕ → List ℕ → List ℕ → Shortening
shorten_on i bits f reads j s = begun_from (guard (lent_well i j s) 1 (fresh bits f reads)) i j s
