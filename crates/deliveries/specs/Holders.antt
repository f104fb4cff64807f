-- The bytes of the faulty key holders along a server's step. `raised` is an image in which one more faulty server holds each of some
-- keys. A server's record and these bytes make the image of the world with that server: `server_kept` where none changes, which is so
-- of a correct server that stays correct; `server_raised` where the server holds keys more, or all its keys as a faulty one. Used by
-- Delivers and by the code of `holders`. Assumes nothing.
use Prim.Native.Nat.{ℕ, zero, suc, ◌+◌, ◌≤◌, ◌<◌}
use Rattle.std.proofs.Common.{add-one, ◌∙◌}
use native.Mathlib.Omega.{arith}
use Rattle.std.proofs.Math.Decide.{dec_lt}
use Rattle.std.specs.Prelude.{Bool, true, false, ◌&&◌, ◌≡◌}
use Rattle.std.proofs.Math.Path.{refl, sym, ap}
use mathlib.Core.List.{List}
use Rattle.std.proofs.Math.ListN.{length}
use Rattle.protocol.specs.declared.Server.{Server}
use Rattle.protocol.specs.Tools.{if, bit, holds, nth, replace}
use Rattle.protocol.specs.Sizes.{servers, views}
use Rattle.protocol.specs.Worlds.{World, server, bad, with_server}
use Rattle.protocol.proofs.Laws.Worlds.{length_replace, nth_same, nth_other, server_same, server_other}
use Rattle.codec.specs.Lists.{list_to_nth}
use Rattle.codec.specs.Places.{holder_at, put_holder, put_server}
use Rattle.codec.specs.Images.{holders, holder_list, image_with, encode, decode}
use Rattle.codec.specs.Laws.{Full, full_server, holder_image, put_holder_lem, put_server_lem, length_holder_list, nth_holder_list}
use Rattle.values.specs.Bits.{bit_in}
use Rattle.key_holders.specs.Counts.{count_but}
use Rattle.key_holders.specs.Holders.{holders_low}
use Rattle.mail.specs.Images.{Legible}
use Rattle.mail.specs.Stored.{Image, image_of}

-- a faulty server that holds key t
abbrev pub holding : Server → ℕ → Bool
holding a t = a.faulty && holds a.keys.0 t

-- one more faulty server holds each of these keys: the bytes of the views 1 to n
unfoldable pub raised : List ℕ → ℕ → ℕ → List ℕ
raised l keys zero = l
raised l keys (suc n) = put_holder (raised l keys n) (suc n) (holder_at (raised l keys n) (suc n) + bit (holds keys (suc n)))

-- the same on their numbers
more : List ℕ → ℕ → ℕ → List ℕ
more c keys zero = c
more c keys (suc n) = replace (more c keys n) (suc n) (nth (more c keys n) (suc n) 0 + bit (holds keys (suc n)))

length_more : (c : List ℕ) (keys n : ℕ) → length (more c keys n) ≡ length c
unfolding more
length_more c keys zero = refl
length_more c keys (suc n) = length_replace (more c keys n) (suc n) _ ∙ length_more c keys n

nth_above : (c : List ℕ) (keys n t : ℕ) → n < t → nth (more c keys n) t 0 ≡ nth c t 0
unfolding more
nth_above c keys zero t h = refl
nth_above c keys (suc n) t h = nth_other (more c keys n) (suc n) _ 0 t (λ e. omega arith) ∙ nth_above c keys n t (omega arith)

nth_more : (c : List ℕ) (keys n t : ℕ) → n ≤ length c → 1 ≤ t → t ≤ n → nth (more c keys n) t 0 ≡ nth c t 0 + bit (holds keys t)
unfolding more
nth_more c keys zero t h a b = absurd (omega arith)
nth_more c keys (suc n) t h a b =
    elim (dec_lt t (suc n)) [
      | yes l ↦ nth_other (more c keys n) (suc n) _ 0 t (λ e. omega arith) ∙ nth_more c keys n t (omega arith) a (omega arith)
      | no l ↦
          let e : t ≡ suc n = omega arith in
          rw e
          (nth_same (more c keys n) (suc n) _ 0 (omega arith) (omega (arith, length_more c keys n))
          ∙ ap (λ (x : ℕ). x + bit (holds keys (suc n))) (nth_above c keys n (suc n) (omega arith)))
    ]

-- a server's record after START of view t is b: where it is faulty, it holds that key too
unfoldable pub gained : List ℕ → Server → ℕ → List ℕ
gained l b t = if b.faulty (raised l (bit_in t) views) l

pub gained_key : (l : List ℕ) (b : Server) (t : ℕ) → b.faulty ≡ true → gained l b t ≡ raised l (bit_in t) views
unfolding gained
gained_key l b t e = rw e refl

pub gained_none : (l : List ℕ) (b : Server) (t : ℕ) → b.faulty ≡ false → gained l b t ≡ l
unfolding gained
gained_none l b t e = rw e refl

-- ---- on the image of a world

module _ (w : World) (c : List ℕ) (h : Full w) (k : length c ≡ views) (keys : ℕ) where
  raised_image : (n : ℕ) → n ≤ views → raised (image_with w c) keys n ≡ image_with w (more c keys n)
  unfolding raised more
  raised_image zero l = refl
  raised_image (suc n) l =
      let e : length (more c keys n) ≡ views = length_more c keys n ∙ k in
      rw (raised_image n (omega arith))
      (ap (λ (x : ℕ). put_holder (image_with w (more c keys n)) (suc n) (x + bit (holds keys (suc n)))) (holder_image w (more c keys n) h e (suc n) (omega arith) l)
      ∙ put_holder_lem w (more c keys n) h e (suc n) (omega arith) l _)

module _ {l : List ℕ} (h : Legible l) (keys n : ℕ) (b : n ≤ views) where
  raised_is : raised l keys n ≡ image_with (decode l) (more (holder_list (decode l)) keys n)
  unfolding encode
  raised_is =
      ap (λ (i : List ℕ). raised i keys n) (image_of h).is
      ∙ raised_image (decode l) (holder_list (decode l)) (image_of h).full (length_holder_list (decode l)) keys n b

  -- the number that is raised next
  pub raised_low : n < views → holder_at (raised l keys n) (n + 1) ≤ servers
  raised_low a =
      let m = length_more (holder_list (decode l)) keys n ∙ length_holder_list (decode l) in
      let e = ap (λ (i : List ℕ). holder_at i (n + 1)) raised_is
      ∙ holder_image (decode l) (more (holder_list (decode l)) keys n) (image_of h).full m (n + 1) (omega arith) (omega arith)
      ∙ nth_above (holder_list (decode l)) keys n (n + 1) (omega arith)
      ∙ nth_holder_list (decode l) (n + 1) (omega arith) (omega arith) in
      omega (arith, e, holders_low (decode l) (n + 1))

-- it fits a byte
pub raise_fits : (n : ℕ) (b : Bool) → n ≤ servers → n + bit b < 256
raise_fits n true h = omega arith
raise_fits n false h = omega arith

pub raised_start : (l : List ℕ) (keys : ℕ) → raised l keys 0 ≡ l
unfolding raised
raised_start l keys = refl

pub raised_more : (l : List ℕ) (keys n : ℕ) → raised l keys (n + 1) ≡ put_holder (raised l keys n) (n + 1) (holder_at (raised l keys n) (n + 1) + bit (holds keys (n + 1)))
unfolding raised
raised_more l keys n = rw add-one

-- ---- a server's record replaced

module _ (w : World) (h : Full w) (s : ℕ) (a : 1 ≤ s) (b : s ≤ servers) (v : Server) where
  -- the count of a view beside that of the world before
  holders_with : (t : ℕ) → holders (with_server w s v) t + bit (holding (server w s) t) ≡ holders w t + bit (holding v t)
  unfolding holders bad
  holders_with t =
      rw (← ap (λ (x : Server). holding x t) (server_same w s v a (omega (arith, h.server))))
      (count_but (λ k. holding (server (with_server w s v) k) t) (λ k. holding (server w k) t) s servers a b
      (λ k e. ap (λ (x : Server). holding x t) (server_other w s v k e)))

  holders_kept : ((t : ℕ) → holding v t ≡ holding (server w s) t) → holder_list (with_server w s v) ≡ holder_list w
  unfolding holder_list
  holders_kept e =
      list_to_nth (holders (with_server w s v)) (holder_list w) 0 views (length_holder_list w)
      (λ t x y. let g = holders_with t in let f = ap (λ (z : Bool). bit z) (e t) in sym (nth_holder_list w t x y ∙ (let q : holders w t ≡ holders (with_server w s v) t = omega arith in q)))

  holders_raised : (keys : ℕ) → ((t : ℕ) → bit (holding v t) ≡ bit (holding (server w s) t) + bit (holds keys t))
      → holder_list (with_server w s v) ≡ more (holder_list w) keys views
  unfolding holder_list
  holders_raised keys e =
      list_to_nth (holders (with_server w s v)) (more (holder_list w) keys views) 0 views (length_more (holder_list w) keys views ∙ length_holder_list w)
      (λ t x y.
      let g = holders_with t in
      let f = e t in
      let n = nth_more (holder_list w) keys views t (omega (arith, length_holder_list w)) x y in
      let m = nth_holder_list w t x y in
      omega arith)

-- a server that counts for the same views as before
pub server_kept : {l : List ℕ} {w : World} → Image l w → (s : ℕ) → 1 ≤ s → s ≤ servers → (v : Server) → ((t : ℕ) → holding v t ≡ holding (server w s) t) → Image (put_server l s v) (with_server w s v)
unfolding encode
server_kept {l} {w} h s a b v e =
    record {
      is = ap (λ (i : List ℕ). put_server i s v) h.is
          ∙ put_server_lem w (holder_list w) h.full (length_holder_list w) s a b v
          ∙ ap (image_with (with_server w s v)) (sym (holders_kept w h.full s a b v e));
      full = full_server w h.full s v;
    }

-- a server that counts for the views of these keys too
pub server_raised : {l : List ℕ} → Legible l → (s : ℕ) → 1 ≤ s → s ≤ servers → (v : Server) (keys : ℕ)
    → ((t : ℕ) → bit (holding v t) ≡ bit (holding (server (decode l) s) t) + bit (holds keys t)) → put_server (raised l keys views) s v ≡ encode (with_server (decode l) s v)
unfolding encode
server_raised {l} h s a b v keys e =
    let w : World = decode l in
    let c : List ℕ = holder_list w in
    ap (λ (i : List ℕ). put_server i s v) (raised_is h keys views (omega arith))
    ∙ put_server_lem w (more c keys views) (image_of h).full (length_more c keys views ∙ length_holder_list w) s a b v
    ∙ ap (image_with (with_server w s v)) (sym (holders_raised w (image_of h).full s a b v keys e))
