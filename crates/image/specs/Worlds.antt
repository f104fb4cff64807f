-- "Every readable image is exactly one world." `Spells i w`: i is the image of the readable world w. Key laws: `exactly_one`;
-- `spells_decode` and `spells_readable`, what an image that spells a world decodes to, and that it is readable; `step_spelled`, that
-- a step on it is the world's. The crates above `image` speak of images by them. Assumes nothing.
use Rattle.std.specs.Prelude.{ℕ, true, ◌≡◌, refl, List, length, eqb}
use Rattle.std.proofs.Common.{sym, ap, ◌∙◌, eq-eqb}
use Rattle.protocol.specs.Tools.{guard}
use Rattle.protocol.specs.Worlds.{World}
use Rattle.protocol.specs.Readable.{well_formed}
use Rattle.protocol.specs.Runs.{step_bytes}
use Rattle.codec.specs.Layout.{image_size}
use Rattle.codec.specs.Images.{encode, decode}
use Rattle.readable.specs.Readable.{readable, read, world_decode, world_readable}
use Rattle.image.specs.Steps.{step_on}

-- the image of a readable world
pub record Spells (i : List ℕ) (w : World) : Type 0 where
  pub is : i ≡ encode w
  pub formed : well_formed w ≡ true

pub spells_decode : {i : List ℕ} {w : World} → Spells i w → decode i ≡ w
spells_decode {i} {w} h = ap decode h.is ∙ world_decode w h.formed

pub spells_readable : {i : List ℕ} {w : World} → Spells i w → readable i ≡ true
spells_readable {i} {w} h = ap readable h.is ∙ world_readable w h.formed

-- a readable image spells the world that it decodes to, and no other
pub exactly_one : (i : List ℕ) → readable i ≡ true → Spells i (decode i) × ((w : World) → Spells i w → w ≡ decode i)
exactly_one i e = let r = read i e in (record { is = sym r.image; formed = r.world }, λ w h. sym (spells_decode h))

-- a step on it is the world's
pub step_spelled : {i : List ℕ} {w : World} → Spells i w → (b : List ℕ) → step_on i b ≡ step_bytes w b
unfolding step_on step_bytes guard
step_spelled {i} {w} h b =
    let e : eqb (length i) image_size ≡ true = eq-eqb _ _ (read i (spells_readable h)).size in
    rw (e, spells_readable h, spells_decode h) refl
