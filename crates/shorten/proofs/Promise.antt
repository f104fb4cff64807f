-- What the caller finds in what was lent, for all inputs. `short_journal_lem`: when done, the image is the fresh world's and the buffer
-- begins with a journal that is `Short`, of as many steps as are returned, and is zero after it; `refused_stays`: beside a refusal
-- the buffer is as it was, and so is the image but for 15. Assumes nothing.
use Rattle.std.specs.Prelude.{ℕ, ◌*◌, ◌-◌, ◌/◌, ◌≤◌, Bool, true, false, List, drop, ltb, Ok}
use native.Mathlib.Omega.{arith}
use Rattle.std.proofs.Math.Path.{◌≡◌, refl, ap, subst}
use Rattle.std.proofs.Common.{sym, ◌∙◌}
use Rattle.std.proofs.Math.ListN.{length, replicate}
use Rattle.std.proofs.Math.Seq.{drop_at}
use Rattle.protocol.specs.Tools.{Result, refused, done, guard, passed}
use Rattle.protocol.specs.Worlds.{World, fresh}
use Rattle.protocol.specs.Runs.{step_width, replay}
use Rattle.codec.specs.Images.{encode}
use Rattle.image.specs.Steps.{steps_in, steps_of}
use Rattle.journal.specs.Rests.{steps_count}
use Rattle.shorten.specs.Minimal.{part_length}
use Rattle.shorten.specs.Journals.{most_steps, Short, is_short, filled, short_journal, shortened, lent_well, ended, begun_from, shorten_on}
use Rattle.shorten.specs.Buffers.{Wide, wide_part, wide_steps, bytes_of, bytes_length, filled_length, left_steps}
use Rattle.shorten.specs.Lent.{Shortens}
use Rattle.shorten.specs.Ends.{Lent}
use Rattle.shorten.proofs.Ends.{lent_well_lem}
use Rattle.shorten.specs.Promise.{Given}

module _ (i : List ℕ) (bits f reads : ℕ) (j s : List ℕ) (lent : Lent i j s) (w : World) (e : fresh bits f reads ≡ done w) (bs : List (List ℕ)) (h : shortened w (steps_of j) ≡ done bs) where
  shorts : Short w (steps_of j) bs
  shorts = is_short w (steps_of j) bs h

  wide : Wide bs
  unfolding steps_of
  wide = wide_part shorts.part (wide_steps (length j / step_width) j (omega arith))

  fewer : length bs ≤ length j / step_width
  fewer = let c = steps_count j in let p = part_length shorts.part in omega arith

  room : length bs * step_width ≤ length s
  room = let c = fewer in let e = lent.shorter in omega arith

  steps_are : steps_in (length bs) (filled (length s) bs) ≡ bs
  steps_are = left_steps (length bs) (filled (length s) bs) (length s) bs wide room (record { steps = refl; bytes = refl })

  zeros : drop (length bs * step_width) (filled (length s) bs) ≡ replicate (length (filled (length s) bs) - length bs * step_width) 0
  unfolding filled
  zeros =
      let c = bytes_length bs wide in
      let g = filled_length (length s) bs wide room in
      let z : length s - length bs * step_width ≡ length (filled (length s) bs) - length bs * step_width = omega arith in
      drop_at (bytes_of bs) (replicate (length s - length bs * step_width) 0) (length bs * step_width) c ∙ ap (λ (n : ℕ). replicate n 0) z

  pub given : Given bits f reads j (length bs) (encode w) (filled (length s) bs)
  given = record { world = w; begins = e; image = refl; short = subst (Short w (steps_of j)) (sym steps_are) shorts; most = (let c = fewer in let e = lent.few in omega arith); zero_after = zeros }

-- the one refusal of a journal's steps
only_15 : (w : World) (bs : List (List ℕ)) (m : ℕ) → shortened w bs ≡ refused m → m ≡ 15
unfolding shortened guard
only_15 w bs m e = go (ltb 0 (replay w bs).refusal) e
  where
    go : (b : Bool) → guard b 15 (done (short_journal w (replay w bs).refusal bs)) ≡ refused m → m ≡ 15
    go true q = let z : ◌≡◌ {A = ℕ} 0 1 = cc in absurd (omega arith)
    go false q = cc

module _ (i : List ℕ) (bits f reads : ℕ) (j s : List ℕ) where
  pub short_journal_lem : (k : ℕ) → (shorten_on i bits f reads j s).answer ≡ done k → Given bits f reads j k (shorten_on i bits f reads j s).image (shorten_on i bits f reads j s).shorter
  unfolding shorten_on
  short_journal_lem k a = first (guard (lent_well i j s) 1 (fresh bits f reads)) refl a
    where
      second : (w : World) → guard (lent_well i j s) 1 (fresh bits f reads) ≡ done w → (x : Result (List (List ℕ))) → shortened w (steps_of j) ≡ x
          → (ended w s x).answer ≡ done k → Given bits f reads j k (ended w s x).image (ended w s x).shorter
      second w e (refused n) q b = let z : ◌≡◌ {A = ℕ} 0 1 = cc in absurd (omega arith)
      second w e (done bs) q b =
          let p = passed (lent_well i j s) 1 (fresh bits f reads) w e in
          let same : length bs ≡ k = cc in
          subst (λ (n : ℕ). Given bits f reads j n (encode w) (filled (length s) bs)) same (given i bits f reads j s (lent_well_lem i j s p.0) w p.1 bs q)

      first : (x : Result World) → guard (lent_well i j s) 1 (fresh bits f reads) ≡ x → (begun_from x i j s).answer ≡ done k
          → Given bits f reads j k (begun_from x i j s).image (begun_from x i j s).shorter
      first (refused n) e b = let z : ◌≡◌ {A = ℕ} 0 1 = cc in absurd (omega arith)
      first (done w) e b = second w e (shortened w (steps_of j)) refl b

  -- what is returned is at most 512
  pub steps_few : (k : ℕ) (i' s' : List ℕ) → Shortens (Ok k) i' s' (shorten_on i bits f reads j s) → k ≤ most_steps
  steps_few k i' s' h = (short_journal_lem k (sym h.answer)).most

  -- "15 is the one refusal that writes the image, and every other lent byte stays as it was"
  pub refused_stays : (n : ℕ) → (shorten_on i bits f reads j s).answer ≡ refused n → ((shorten_on i bits f reads j s).shorter ≡ s) × ((n ≡ 15 → ⊥) → (shorten_on i bits f reads j s).image ≡ i)
  unfolding shorten_on
  refused_stays n a = first (guard (lent_well i j s) 1 (fresh bits f reads)) a
    where
      second : (w : World) (x : Result (List (List ℕ))) → shortened w (steps_of j) ≡ x → (ended w s x).answer ≡ refused n → ((ended w s x).shorter ≡ s) × ((n ≡ 15 → ⊥) → (ended w s x).image ≡ i)
      second w (refused m) q b = (refl, λ h. absurd (h (let same : n ≡ m = cc in same ∙ only_15 w (steps_of j) m q)))
      second w (done bs) q b = let z : ◌≡◌ {A = ℕ} 0 1 = cc in absurd (omega arith)

      first : (x : Result World) → (begun_from x i j s).answer ≡ refused n → ((begun_from x i j s).shorter ≡ s) × ((n ≡ 15 → ⊥) → (begun_from x i j s).image ≡ i)
      first (refused m) b = (refl, λ h. refl)
      first (done w) b = second w (shortened w (steps_of j)) refl b
