-- The journal buffer: steps in bytes, zero after them. `Held s n`: the buffer s holds n steps, which are `steps_in n s`, and is zero
-- after them; `left_held` makes it, `removed_step` keeps it when a step is dropped. Used by Trials.antt, Ends.antt
-- and Promise.antt. Assumes nothing.
use Rattle.std.specs.Prelude.{ℕ, zero, suc, ◌+◌, ◌*◌, ◌-◌, ◌≤◌, ◌<◌, ◌≡◌, refl, List, [], ◌∷◌, ◌++◌, take, drop, replicate}
use Rattle.std.proofs.Common.{arith, sym, ap, ap₂, ◌∙◌, append_assoc, append-nil, length-append, length-take, length-drop, drop_of_length-le, take_at, drop_at, take-add, take_all}
use Rattle.std.proofs.Math.ListN.{length}
use Rattle.std.proofs.lemmas.List.{length-replicate, replicate-append-replicate}
use Rattle.std.proofs.Math.Seq.{take-append-add, drop-append-add, paste}
use borrow.Rule.Slice.PartMut.{put_mid}
use Rattle.protocol.specs.Runs.{step_width}
use Rattle.codec.specs.Lists.{flat}
use Rattle.image.specs.Steps.{steps_in}
use Rattle.journal.specs.Rests.{length_steps}
use Rattle.shorten.specs.Passes.{without}
use Rattle.shorten.specs.Minimal.{Part, none, less, both}
use Rattle.shorten.specs.Journals.{filled}

-- each of the steps is 12 bytes
pub data Wide : List (List ℕ) → Type 0 where
  none_wide : Wide []
  one_wide : {b : List ℕ} {bs : List (List ℕ)} → length b ≡ step_width → Wide bs → Wide (b ∷ bs)

pub wide_part : {bs cs : List (List ℕ)} → Part bs cs → Wide cs → Wide bs
wide_part none none_wide = none_wide
wide_part (less h) (one_wide e k) = wide_part h k
wide_part (both h) (one_wide e k) = one_wide e (wide_part h k)

pub wide_steps : (n : ℕ) (j : List ℕ) → n * step_width ≤ length j → Wide (steps_in n j)
unfolding steps_in
wide_steps zero j h = none_wide
wide_steps (suc n) j h = one_wide (length-take step_width j ∙ omega arith) (wide_steps n (drop step_width j) (let e = length-drop step_width j in omega arith))

abbrev pub bytes_of : List (List ℕ) → List ℕ
bytes_of bs = flat (λ b. b) bs

pub bytes_length : (bs : List (List ℕ)) → Wide bs → length (bytes_of bs) ≡ length bs * step_width
unfolding flat
bytes_length [] none_wide = refl
bytes_length (b ∷ bs) (one_wide e k) = let h = bytes_length bs k in let g = length-append b (bytes_of bs) in omega arith

-- the steps of what was written are the steps
pub steps_bytes : (bs : List (List ℕ)) → Wide bs → (r : List ℕ) → steps_in (length bs) (bytes_of bs ++ r) ≡ bs
unfolding steps_in flat
steps_bytes [] none_wide r = refl
steps_bytes (b ∷ bs) (one_wide e k) r =
    simp (append_assoc, take_at b (bytes_of bs ++ r) step_width e, drop_at b (bytes_of bs ++ r) step_width e, steps_bytes bs k r)

-- and what is written of a journal's steps is the journal
pub bytes_steps : (n : ℕ) (j : List ℕ) → bytes_of (steps_in n j) ≡ take (n * step_width) j
unfolding steps_in flat
bytes_steps zero j = refl
bytes_steps (suc n) j =
    let e : step_width + n * step_width ≡ suc n * step_width = omega arith in
    ap (λ (l : List ℕ). take step_width j ++ l) (bytes_steps n (drop step_width j)) ∙ sym (take-add step_width (n * step_width) j) ∙ ap (λ (k : ℕ). take k j) e

-- ---- a buffer with steps

pub filled_length : (m : ℕ) (bs : List (List ℕ)) → Wide bs → length bs * step_width ≤ m → length (filled m bs) ≡ m
unfolding filled
filled_length m bs h k = simp (length-append, bytes_length bs h, length-replicate) (omega arith)

-- the buffer s holds n steps, and zero after them
pub record Held (s : List ℕ) (n : ℕ) : Type 0 where
  pub fits : n * step_width ≤ length s
  pub bytes : s ≡ filled (length s) (steps_in n s)

-- the function answered n and left the buffer s of m bytes with the steps bs
pub record Leaves (n : ℕ) (s : List ℕ) (m : ℕ) (bs : List (List ℕ)) : Type 0 where
  pub steps : n ≡ length bs
  pub bytes : s ≡ filled m bs

module _ (n : ℕ) (s : List ℕ) (m : ℕ) (bs : List (List ℕ)) (wide : Wide bs) (fits : length bs * step_width ≤ m) (h : Leaves n s m bs) where
  pub left_length : length s ≡ m
  left_length = ap (λ (l : List ℕ). length l) h.bytes ∙ filled_length m bs wide fits

  pub left_steps : steps_in n s ≡ bs
  unfolding filled
  left_steps = rw (h.steps, h.bytes) (steps_bytes bs wide (replicate (m - length bs * step_width) 0))

  pub left_held : Held s n
  left_held = record { fits = (let e = h.steps in let g = left_length in omega arith); bytes = h.bytes ∙ sym (ap₂ filled left_length left_steps) }

-- a buffer held stays
pub held_leaves : (s : List ℕ) (n : ℕ) → Held s n → Leaves n s (length s) (steps_in n s)
held_leaves s n h = record { steps = sym (length_steps n s); bytes = h.bytes }

-- ---- a step dropped

-- all behind the step that begins at a byte moved to its place; the last 12 bytes stay
unfoldable pub moved_down : List ℕ → ℕ → List ℕ
moved_down s at = take at s ++ (drop (at + step_width) s ++ drop (length s - step_width) s)

-- the same with zero in the last 12 bytes
unfoldable pub removed : List ℕ → ℕ → List ℕ
removed s at = take at s ++ (drop (at + step_width) s ++ replicate step_width 0)

-- all of them moved
pub moved_all : (d : List ℕ) (at i : ℕ) → at + step_width ≤ length d → i ≡ length d - step_width - at → paste d at (drop (at + step_width) d) i ≡ moved_down d at
unfolding moved_down
moved_all d at i h e =
    let s : List ℕ = drop (at + step_width) d in
    let l = length-drop (at + step_width) d in
    let q : at + i ≡ length d - step_width = omega arith in
    ap₂ (λ (x : List ℕ) (k : ℕ). take at d ++ x ++ drop k d) (take_all i s (omega arith)) q
    ∙ append_assoc (take at d) s (drop (length d - step_width) d)

moved_length : (d : List ℕ) (at : ℕ) → at + step_width ≤ length d → length (moved_down d at) ≡ length d
unfolding moved_down
moved_length d at h = simp (length-append, length-take, length-drop) (omega arith)

-- the last 12 bytes cleared
moved_cleared : (d : List ℕ) (at : ℕ) → at + step_width ≤ length d → take (length d - step_width) (moved_down d at) ++ replicate step_width 0 ≡ removed d at
unfolding moved_down removed
moved_cleared d at h =
    let s : List ℕ = drop (at + step_width) d in
    let a = length-take at d in
    let l = length-drop (at + step_width) d in
    let k : length (take at d ++ s) ≡ length d - step_width = length-append (take at d) s ∙ omega arith in
    ap (λ (x : List ℕ). take (length d - step_width) x ++ replicate step_width 0) (sym (append_assoc (take at d) s (drop (length d - step_width) d)))
    ∙ ap (λ (x : List ℕ). x ++ replicate step_width 0) (take_at (take at d ++ s) (drop (length d - step_width) d) (length d - step_width) k)
    ∙ append_assoc (take at d) s (replicate step_width 0)

-- as the code clears them: the part from there on is lent, and put back
pub cleared : (d x z : List ℕ) (at : ℕ) → at + step_width ≤ length d → x ≡ moved_down d at
    → z ≡ replicate (length (take (length x - (length x - step_width)) (drop (length x - step_width) x))) 0
    → put_mid (length x - step_width) (length x - (length x - step_width)) x z ≡ removed d at
cleared d x z at h e q =
    let long : length x ≡ length d = ap (λ (l : List ℕ). length l) e ∙ moved_length d at h in
    let n : ℕ = length x - step_width in
    let k : ℕ = length x - n in
    let dropped = length-drop n x in
    let lent = length-take k (drop n x) in
    let width : length (take k (drop n x)) ≡ step_width = omega arith in
    let after : drop k (drop n x) ≡ [] = drop_of_length-le (drop n x) {i = k} (omega arith) in
    let same : n ≡ length d - step_width = omega arith in
    ap₂ (λ (y r : List ℕ). take n x ++ (y ++ r)) (q ∙ ap (λ (m : ℕ). replicate m 0) width) after
    ∙ ap (λ (y : List ℕ). take n x ++ y) (append-nil (replicate step_width 0))
    ∙ ap₂ (λ (m : ℕ) (y : List ℕ). take m y ++ replicate step_width 0) same e
    ∙ moved_cleared d at h

filled_more : (m : ℕ) (b : List ℕ) (bs : List (List ℕ)) → filled (step_width + m) (b ∷ bs) ≡ b ++ filled m bs
unfolding filled flat
filled_more m b bs = let e : step_width + m - suc (length bs) * step_width ≡ m - length bs * step_width = omega arith in rw e (append_assoc b (bytes_of bs) (replicate (m - length bs * step_width) 0))

removed_first : (b s : List ℕ) → length b ≡ step_width → removed (b ++ s) 0 ≡ s ++ replicate step_width 0
unfolding removed
removed_first b s e = ap (λ (l : List ℕ). l ++ replicate step_width 0) (drop_at b s step_width e)

removed_next : (b s : List ℕ) (at : ℕ) → length b ≡ step_width → removed (b ++ s) (step_width + at) ≡ b ++ removed s at
unfolding removed
removed_next b s at e =
    let g : step_width + at ≡ length b + at = omega arith in
    let k : step_width + at + step_width ≡ length b + (at + step_width) = omega arith in
    ap₂ (λ (x y : List ℕ). x ++ (y ++ replicate step_width 0)) (ap (λ (n : ℕ). take n (b ++ s)) g ∙ take-append-add b s at) (ap (λ (n : ℕ). drop n (b ++ s)) k ∙ drop-append-add b s (at + step_width))
    ∙ append_assoc b (take at s) (drop (at + step_width) s ++ replicate step_width 0)

filled_longer : (m : ℕ) (bs : List (List ℕ)) → length bs * step_width ≤ m → filled m bs ++ replicate step_width 0 ≡ filled (step_width + m) bs
unfolding filled
filled_longer m bs h =
    let e : m - length bs * step_width + step_width ≡ step_width + m - length bs * step_width = omega arith in
    append_assoc (bytes_of bs) (replicate (m - length bs * step_width) 0) (replicate step_width 0)
    ∙ ap (λ (l : List ℕ). bytes_of bs ++ l) (replicate-append-replicate (m - length bs * step_width) step_width 0 ∙ ap (λ (k : ℕ). replicate k 0) e)

pub removed_step : (bs : List (List ℕ)) → Wide bs → (m i : ℕ) → length bs * step_width ≤ m → i < length bs → removed (filled m bs) (i * step_width) ≡ filled m (without bs i)
unfolding without
removed_step [] none_wide m i h k = absurd (omega arith)
removed_step (b ∷ bs) (one_wide e w) m zero h k =
    let q : m ≡ step_width + (m - step_width) = omega arith in
    ap (λ (n : ℕ). removed (filled n (b ∷ bs)) 0) q
    ∙ ap (λ (l : List ℕ). removed l 0) (filled_more (m - step_width) b bs)
    ∙ removed_first b (filled (m - step_width) bs) e
    ∙ filled_longer (m - step_width) bs (omega arith)
    ∙ ap (λ (n : ℕ). filled n bs) (sym q)
removed_step (b ∷ bs) (one_wide e w) m (suc i) h k =
    let q : m ≡ step_width + (m - step_width) = omega arith in
    let g : suc i * step_width ≡ step_width + i * step_width = omega arith in
    ap₂ (λ (n at : ℕ). removed (filled n (b ∷ bs)) at) q g
    ∙ ap (λ (l : List ℕ). removed l (step_width + i * step_width)) (filled_more (m - step_width) b bs)
    ∙ removed_next b (filled (m - step_width) bs) (i * step_width) e
    ∙ ap (λ (l : List ℕ). b ++ l) (removed_step bs w (m - step_width) i (omega arith) (omega arith))
    ∙ sym (filled_more (m - step_width) b (without bs i))
    ∙ ap (λ (n : ℕ). filled n (b ∷ without bs i)) (sym q)
