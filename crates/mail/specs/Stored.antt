-- What the records of a readable image are, and what storing them makes of it. Assumes nothing.
use Rattle.std.specs.Prelude.{ℕ, ◌+◌, ◌≤◌, ◌<◌, true, false, ◌≡◌, zero, suc, Some, Ok, Err, Bool, ltb}
use Rattle.std.proofs.Common.{arith, sym, subst, ◌∙◌, lt-ltb, le-ltb}
use Rattle.std.proofs.Math.Path.{refl, ap}
use mathlib.Core.List.{List}
use Rattle.protocol.specs.declared.Client.{Client}
use Rattle.protocol.specs.declared.View.{View}
use Rattle.protocol.specs.declared.Message.{Message}
use Rattle.protocol.specs.declared.Administrator.{Administrator}
use Rattle.protocol.specs.Tools.{Result, refused, done}
use Rattle.protocol.specs.Sizes.{clients, servers, views, messages}
use Rattle.protocol.specs.Worlds.{World, view, server, client, message, room, with_client, with_view, with_message, with_administrator, send}
use Rattle.protocol.specs.Steps.{After}
use Rattle.codec.specs.Places.{used_at, put_used, administrator_at, put_administrator, view_at, put_view, server_at, client_at, put_client, message_at, put_message}
use Rattle.codec.specs.Images.{encode, decode}
use Rattle.codec.specs.Laws.{Full, put_view_lem, put_client_lem, put_message_lem, put_administrator_lem, put_send, full_view, full_client, full_message, full_administrator, full_send, used_decode, administrator_decode, decode_full, view_decode, server_decode, client_decode, message_decode}
use Rattle.protocol.proofs.Laws.Formed.{Formed, formed}
use Rattle.protocol.specs.declared.refusals.Refusal.{Refusal}
use Rattle.protocol.specs.declared.refusals.Refusal.TheVariants.{NoNumber}
use Rattle.protocol.specs.declared.MessageNumber.{MessageNumber}
use Rattle.protocol.specs.Tools.{if}
use Rattle.protocol.specs.Clients.{number}
use borrow.Author.Tests.{ltb-true, ltb-false}
use Rattle.protocol.specs.Refusals.{refusal_number}
use Rattle.mail.specs.Images.{number_left, Stepped, some_of, told, answered, left_by, Legible, Does, put_sent}

-- a refusal
pub refuses : (r : Refusal) (l : List ℕ) (x : Result After) → x ≡ refused (refusal_number r) → Does (Err r) l l x
refuses r l x q = record { answer = sym (ap (λ (y : Result After). told (answered y)) q); image = sym (ap (left_by l) q) }

-- a refusal that is handed on
pub passed_on : {l l' : List ℕ} {x : Result After} {y : Refusal} {r : Stepped} → (z : Refusal) × (r ≡ Err z) × (z ≡ y) → Does (Err y) l l' x → Does r l l' x
passed_on (z, p, q) d = rw (p, q) d

-- a step that comes to the same
pub by : {r : Stepped} {l l' : List ℕ} {x y : Result After} → y ≡ x → Does r l l' x → Does r l l' y
by {r} {l} {l'} e d = subst (Does r l l') (sym e) d

-- a step done
pub does : (c : ℕ) (w : World) (l l' : List ℕ) (x : Result After) → x ≡ done (record { world = w; completed = c }) → l' ≡ encode w → Does (Ok (some_of c)) l l' x
does c w l l' x p q = record { answer = sym (ap (λ (y : Result After). told (answered y)) p); image = q ∙ sym (ap (left_by l) p) }

-- a step done that completes the operation of client c
pub does_for : (c : ℕ) → 1 ≤ c → (w : World) (l l' : List ℕ) (x : Result After) → x ≡ done (record { world = w; completed = c }) → l' ≡ encode w → Does (Ok (Some c)) l l' x
does_for zero h w l l' x p q = absurd (omega arith)
does_for (suc c) h w l l' x p q = does (suc c) w l l' x p q

-- ---- what a readable image holds

module _ {l : List ℕ} (h : Legible l) where
  pub whole : Formed (decode l)
  whole = formed (decode l) h.formed

  pub used_is : used_at l ≡ (decode l).used
  used_is = sym (used_decode l)

  pub used_low : used_at l ≤ messages
  used_low = omega (arith, whole.full, used_decode l)

  pub administrator_is : administrator_at l ≡ (decode l).administrator
  administrator_is = sym (administrator_decode l)

  pub view_is : (t : ℕ) → 1 ≤ t → t ≤ views → view_at l t ≡ view (decode l) t
  view_is t a b = sym (view_decode l t a b)

  pub server_is : (s : ℕ) → 1 ≤ s → s ≤ servers → server_at l s ≡ server (decode l) s
  server_is s a b = sym (server_decode l s a b)

  pub client_is : (c : ℕ) → 1 ≤ c → c ≤ clients → client_at l c ≡ client (decode l) c
  client_is c a b = sym (client_decode l c a b)

  pub message_is : (n : ℕ) → n ≤ messages → message_at l n ≡ message (decode l) n
  message_is n a = sym (message_decode l n a)

-- ---- what storing makes of the image of a world

-- l is the image of w, whose lists are full
pub record Image (l : List ℕ) (w : World) : Type 0 where
  pub is : l ≡ encode w
  pub full : Full w

pub image_of : {l : List ℕ} → Legible l → Image l (decode l)
image_of {l} h = record { is = sym h.image; full = decode_full l }

module _ {l : List ℕ} {w : World} (h : Image l w) where
  pub with_client_lem : (c : ℕ) → 1 ≤ c → c ≤ clients → (b : Client) → Image (put_client l c b) (with_client w c b)
  with_client_lem c a d b = record { is = ap (λ (k : List ℕ). put_client k c b) h.is ∙ put_client_lem w h.full c a d b; full = full_client w h.full c b }

  pub with_view_lem : (t : ℕ) → 1 ≤ t → t ≤ views → (v : View) → Image (put_view l t v) (with_view w t v)
  with_view_lem t a b v = record { is = ap (λ (k : List ℕ). put_view k t v) h.is ∙ put_view_lem w h.full t a b v; full = full_view w h.full t v }

  pub with_message_lem : (n : ℕ) → n ≤ messages → (m : Message) → Image (put_message l n m) (with_message w n m)
  with_message_lem n a m = record { is = ap (λ (k : List ℕ). put_message k n m) h.is ∙ put_message_lem w h.full n a m; full = full_message w h.full n m }

  pub with_administrator_lem : (a : Administrator) → Image (put_administrator l a) (with_administrator w a)
  with_administrator_lem a = record { is = ap (λ (k : List ℕ). put_administrator k a) h.is ∙ put_administrator_lem w a; full = full_administrator w h.full a }

  -- the message after the last used
  pub with_sent : (n : ℕ) (m : Message) → n ≡ w.used + 1 → w.used < messages → Image (put_sent l n m) (send w m)
  unfolding put_sent
  with_sent n m e u = record { is = sent; full = full_send w h.full m }
    where
      sent : put_message (put_used l n) n m ≡ encode (send w m)
      sent = ap (λ (k : ℕ). put_message (put_used l k) k m) e ∙ ap (λ (k : List ℕ). put_message (put_used k (w.used + 1)) (w.used + 1) m) h.is ∙ put_send w h.full u m

-- "10, all 1,023 message numbers used", or a number is left
pub room_none : (w : World) → messages ≤ w.used → room w ≡ false
unfolding room
room_none w h = le-ltb _ _ h

pub room_some : (w : World) → w.used < messages → room w ≡ true
unfolding room
room_some w h = lt-ltb _ _ h

module _ {l : List ℕ} (h : Legible l) where
  pub room_yes : used_at l < messages → room (decode l) ≡ true
  room_yes e = room_some (decode l) (omega (arith, used_decode l))

  pub room_no : messages ≤ used_at l → room (decode l) ≡ false
  room_no e = room_none (decode l) (omega (arith, used_decode l))

-- the number after the last used, and that none is left
pub numbered : (u : ℕ) (n : MessageNumber) → number_left u ≡ Ok n → (u < messages) × (n.0 ≡ u + 1)
numbered u n e = go (ltb u messages) refl e
  where
    go : (b : Bool) → ltb u messages ≡ b → if b (Ok (number (u + 1))) (Err NoNumber) ≡ Ok n → (u < messages) × (n.0 ≡ u + 1)
    go true p e = (ltb-true u messages p, let q : number (u + 1) ≡ n = cc in ap (λ (m : MessageNumber). m.0) (sym q))
    go false p e = absurd (let q : Err NoNumber ≡ Ok n = e in cc)

pub unnumbered : (u : ℕ) (r : Refusal) → number_left u ≡ Err r → (messages ≤ u) × (r ≡ NoNumber)
unnumbered u r e = go (ltb u messages) refl e
  where
    go : (b : Bool) → ltb u messages ≡ b → if b (Ok (number (u + 1))) (Err NoNumber) ≡ Err r → (messages ≤ u) × (r ≡ NoNumber)
    go true p e = absurd (let q : Ok (number (u + 1)) ≡ Err r = e in cc)
    go false p e = (ltb-false u messages p, cc)
