-- Readable images: each is the image of exactly one world. Assumes nothing.
use Rattle.std.specs.Prelude.{◌≡◌, refl, Bool, false, not, ◌&&◌, ◌||◌, ◌⊎◌, List, [], ◌∷◌, length, ltb, leb, eqb, None, Some}
use Rattle.std.proofs.Common.{sym, ap, ◌∙◌, ⊎_elim, lt_of_lt_of_le, arith, pow_mono, eqb-true, eq-eqb, ltb-true}
use Rattle.std.proofs.Math.Bool.{true}
use Prim.Native.Nat.{ℕ, zero, suc, ◌≤◌, ◌<◌, ◌^◌}
use Rattle.std.proofs.Math.Decide.{dec_lt}
use Rattle.std.proofs.lemmas.Bool.{lt-leb, and_parts, and_from, or_cases}
use Rattle.protocol.specs.declared.Entry.{Entry}
use Rattle.protocol.specs.declared.Phase.{Phase}
use Rattle.protocol.specs.declared.Phase.TheVariants.{Idle, Reading, Writing}
use Rattle.protocol.specs.declared.Client.{Client}
use Rattle.protocol.specs.Types.{Ending}
use Rattle.protocol.specs.declared.Message.{Message}
use Rattle.protocol.specs.Tools.{within, any, bit_of}
use Rattle.protocol.specs.Sizes.{views, messages, sized, size_rule, size}
use Rattle.protocol.specs.Entries.{count_of, writer_of, same, empty, entry_fits}
use Rattle.protocol.specs.Servers.{READ, WRITE, END, ANSWER, is_request}
use Rattle.protocol.specs.Clients.{WRITES, READS, request_of, end_of}
use Rattle.protocol.specs.Worlds.{World, view, server, client, message, newest, present}
use Rattle.protocol.specs.Chains.{chain}
use Rattle.protocol.specs.Readable.{is_sent, ending_fits, last_view, zero_view, view_fits, server_fits, phase_fits, client_range, client_fits, sent_fits, zero_message, message_fits, taken_answer, well_formed}
use Rattle.codec.specs.Layout.{image_size}
use Rattle.codec.specs.Records.{EntryFits, ViewFits, ServerFits, ClientFits, MessageFits, entry_fits_lem}
use Rattle.codec.specs.Images.{encode, decode}
use Rattle.codec.specs.Laws.{Storable, length_encode, decode_encode}
use Rattle.protocol.proofs.Laws.Tests.{by_test, clash, all_to_at, implies}
use Rattle.readable.specs.Tests.{if_true, if_false}
use Rattle.readable.specs.Links.{first_met, next_met}
use Rattle.protocol.proofs.Laws.Formed.{Formed, formed}
use Rattle.protocol.proofs.Laws.Moves.{present_is}
use Rattle.readable.specs.Formed.{full_lists, in_present, sent_at, taken_answer_lem}
use Rattle.readable.specs.Chains.{chain_parts, taken_parts}

-- equal in every byte
unfoldable pub same_bytes : List ℕ → List ℕ → Bool
same_bytes [] [] = true
same_bytes [] (y ∷ b) = false
same_bytes (x ∷ a) [] = false
same_bytes (x ∷ a) (y ∷ b) = eqb x y && same_bytes a b

-- "An image is readable if ...": of the right length, the image of the world that it spells, and that world well formed
unfoldable pub readable : List ℕ → Bool
readable i = eqb (length i) image_size && (same_bytes (encode (decode i)) i && well_formed (decode i))

pub same_true : (a b : List ℕ) → same_bytes a b ≡ true → a ≡ b
unfolding same_bytes
same_true [] [] e = refl
same_true [] (y ∷ b) e = clash e refl
same_true (x ∷ a) [] e = clash e refl
same_true (x ∷ a) (y ∷ b) e =
    let p = and_parts (eqb x y) (same_bytes a b) e in
    rw (eqb-true x y p.0, same_true a b p.1)

same_refl : (a : List ℕ) → same_bytes a a ≡ true
unfolding same_bytes
same_refl [] = refl
same_refl (x ∷ a) = and_from _ _ (eq-eqb x x refl) (same_refl a)

pub true_same : (a b : List ℕ) → a ≡ b → same_bytes a b ≡ true
true_same a b e = rw e (same_refl b)

-- ---- what a readable image has

pub record Read (i : List ℕ) : Type 0 where
  pub size : length i ≡ image_size
  -- "Every readable image is the image of" a world
  pub image : encode (decode i) ≡ i
  pub world : well_formed (decode i) ≡ true

pub read : (i : List ℕ) → readable i ≡ true → Read i
unfolding readable
read i e =
    let a = and_parts (eqb (length i) image_size) (same_bytes (encode (decode i)) i && well_formed (decode i)) e in
    let b = and_parts (same_bytes (encode (decode i)) i) (well_formed (decode i)) a.1 in
    record { size = eqb-true (length i) image_size a.0; image = same_true (encode (decode i)) i b.0; world = b.1 }

pub read_back : (i : List ℕ) → Read i → readable i ≡ true
unfolding readable
read_back i r = and_from _ _ (eq-eqb (length i) image_size r.size) (and_from _ _ (true_same (encode (decode i)) i r.image) r.world)

-- ---- a well-formed world can be stored

same_empty : (e : Entry) → same e empty ≡ true → EntryFits e
unfolding same
same_empty e p =
    let a = and_parts (eqb (count_of e) 0) (eqb (writer_of e) 0 && eqb e.value 0) p in
    let b = and_parts (eqb (writer_of e) 0) (eqb e.value 0) a.1 in
    let x = eqb-true (count_of e) 0 a.0 in
    let y = eqb-true e.value 0 b.1 in
    record { count = omega arith; value = omega arith }

sent_below : (w : World) → w.used ≤ messages → (n kind sender : ℕ) → is_sent w n kind sender ≡ true → n < 2 ^ 16
unfolding is_sent
sent_below w h n kind sender e =
    let p = present_is w n (and_parts (present w n) (eqb (message w n).kind kind && eqb (message w n).sender sender) e).0 in
    omega arith

ending_below : (w : World) → w.used ≤ messages → (x : Ending) → ending_fits w x ≡ true → end_of x < 2 ^ 16
ending_below w h None e = omega arith
ending_below w h (Some r) e =
    let a = and_parts (ltb (newest w) views) (is_sent w r.0 END 0 && eqb (message w r.0).view.0 (newest w)) e in
    sent_below w h r.0 END 0 (and_parts (is_sent w r.0 END 0) (eqb (message w r.0).view.0 (newest w)) a.1).0

phase_below : (w : World) → w.used ≤ messages → (c : ℕ) (a : Client) (x : Phase) → phase_fits w c a x ≡ true → request_of x < 2 ^ 16
phase_below w h c a Idle e = omega arith
phase_below w h c a (Reading r) e =
    let p = and_parts (within WRITES READS a.kind) (is_sent w r.0 READ c && (eqb (count_of a.entry) 0 && (eqb (writer_of a.entry) 0 && (eqb a.kind WRITES || eqb a.entry.value 0)))) e in
    sent_below w h r.0 READ c (and_parts (is_sent w r.0 READ c) (eqb (count_of a.entry) 0 && (eqb (writer_of a.entry) 0 && (eqb a.kind WRITES || eqb a.entry.value 0))) p.1).0
phase_below w h c a (Writing r) e =
    let p = and_parts (within WRITES READS a.kind) (is_sent w r.0 WRITE c && same a.entry (message w r.0).entry) e in
    sent_below w h r.0 WRITE c (and_parts (is_sent w r.0 WRITE c) (same a.entry (message w r.0).entry) p.1).0

view_below : (w : World) (t : ℕ) → view_fits w t ≡ true → ViewFits (view w t)
unfolding view_fits sized
view_below w t e =
    by_test (leb t (last_view w))
    (λ q.
    let f = sym (if_true (leb t (last_view w)) (ltb (view w t).members.0 (2 ^ 32) && size_rule (size (view w t)) (view w t).f (view w t).r) (zero_view (view w t)) q) ∙ e in
    record { members = ltb-true (view w t).members.0 (2 ^ 32) (and_parts (ltb (view w t).members.0 (2 ^ 32)) (size_rule (size (view w t)) (view w t).f (view w t).r) f).0 })
    (λ q.
    let f = sym (if_false (leb t (last_view w)) (ltb (view w t).members.0 (2 ^ 32) && size_rule (size (view w t)) (view w t).f (view w t).r) (zero_view (view w t)) q) ∙ e in
    let z = eqb-true (view w t).members.0 0 (and_parts (eqb (view w t).members.0 0) (eqb (view w t).f 0 && eqb (view w t).r 0) f).0 in
    record { members = omega arith })

server_below : (w : World) → newest w ≤ views → (s : ℕ) → server_fits w s ≡ true → ServerFits (server w s)
unfolding server_fits
server_below w h s e =
    let a = and_parts (leb (server w s).view.0 (newest w)) (ltb (server w s).keys.0 (2 ^ newest w) &&
    (((server w s).faulty || (eqb (server w s).keys.0 0 || eqb (server w s).keys.0 (bit_of (server w s).view.0))) && entry_fits (server w s).entry)) e in
    let b = and_parts (ltb (server w s).keys.0 (2 ^ newest w)) (((server w s).faulty || (eqb (server w s).keys.0 0 || eqb (server w s).keys.0 (bit_of (server w s).view.0))) && entry_fits
    (server w s).entry) a.1 in
    let c = and_parts ((server w s).faulty || (eqb (server w s).keys.0 0 || eqb (server w s).keys.0 (bit_of (server w s).view.0))) (entry_fits (server w s).entry) b.1 in
    record {
      keys = lt_of_lt_of_le (ltb-true (server w s).keys.0 (2 ^ newest w) b.0) (pow_mono {i = newest w} {j = 32} h);
      entry = entry_fits_lem (server w s).entry c.1;
    }

client_below : (w : World) → w.used ≤ messages → (c : ℕ) → client_fits w c ≡ true → ClientFits (client w c)
unfolding client_fits client_range
client_below w h c e =
    let a = and_parts (client_range (client w c)) (phase_fits w c (client w c) (client w c).phase) e in
    let b = and_parts (entry_fits (client w c).entry) (ltb (client w c).given.0 (2 ^ 32)) a.0 in
    record {
      request = phase_below w h c (client w c) (client w c).phase a.1;
      entry = entry_fits_lem (client w c).entry b.0;
      given = ltb-true (client w c).given.0 (2 ^ 32) b.1;
    }

zero_below : (m : Message) → zero_message m ≡ true → MessageFits m
unfolding zero_message
zero_below m e =
    let a = and_parts (eqb m.kind 0) (eqb m.sender 0 && (eqb m.view.0 0 && (not m.taken && (eqb m.request.0 0 && (eqb m.next.0 0 && same m.entry empty))))) e in
    let b = and_parts (eqb m.sender 0) (eqb m.view.0 0 && (not m.taken && (eqb m.request.0 0 && (eqb m.next.0 0 && same m.entry empty)))) a.1 in
    let c = and_parts (eqb m.view.0 0) (not m.taken && (eqb m.request.0 0 && (eqb m.next.0 0 && same m.entry empty))) b.1 in
    let d = and_parts (not m.taken) (eqb m.request.0 0 && (eqb m.next.0 0 && same m.entry empty)) c.1 in
    let f = and_parts (eqb m.request.0 0) (eqb m.next.0 0 && same m.entry empty) d.1 in
    let g = and_parts (eqb m.next.0 0) (same m.entry empty) f.1 in
    let x = eqb-true m.request.0 0 f.0 in
    let y = eqb-true m.next.0 0 g.0 in
    record { request = omega arith; next = omega arith; entry = same_empty m.entry g.1 }

module _ (w : World) (h : Formed w) where
  in_used : w.used ≤ messages
  in_used = h.full

  fits_at : (n : ℕ) → 1 ≤ n → n ≤ w.used → message_fits w n ≡ true
  fits_at n l m = let u = in_used in h.mail n l (omega arith)

  -- a link leads to a taken answer or to zero
  taken_below : (r n : ℕ) → (n ≡ 0) ⊎ (taken_answer w r n ≡ true) → n < 2 ^ 16
  taken_below r n c =
      let u = in_used in
      ⊎_elim (λ e. omega arith) (λ t. let p = present_is w n (taken_parts w r n t).present in omega arith) c

  head_below : (n : ℕ) → 1 ≤ n → n ≤ w.used → is_request (message w n).kind ≡ true → (message w n).next.0 < 2 ^ 16
  unfolding chain
  head_below n l m q =
      let c = chain_parts w n (h.chained n l m) q in
      taken_below n (message w n).next.0 (first_met w (taken_answer w n) messages (message w n).next.0 c.ended c.only)

  link_below : (n : ℕ) → 1 ≤ n → n ≤ w.used → (message w n).taken ≡ true → (message w n).next.0 < 2 ^ 16
  unfolding chain taken_answer
  link_below n l m t =
      let a = taken_answer_lem w (message w n) (sent_at w n m (fits_at n l m)).request t in
      let r : ℕ = (message w n).request.0 in
      let p = present_is w r a.present in
      let c = chain_parts w r (h.chained r p.0 p.1) a.request in
      let x : taken_answer w r n ≡ true = and_from _ _ (in_present w n l m) (and_from _ _ (eq-eqb (message w n).kind ANSWER a.kind) (and_from _ _ t (eq-eqb r r refl))) in
      let y = implies (taken_answer w r n) (any (eqb n) (chain w r)) (all_to_at _ w.used n c.every l m) x in
      taken_below r (message w n).next.0 (next_met w (taken_answer w r) messages (message w r).next.0 n c.ended c.only y)

  next_below : (n : ℕ) → 1 ≤ n → n ≤ w.used → (message w n).next.0 < 2 ^ 16
  next_below n l m =
      let s = (sent_at w n m (fits_at n l m)).next in
      ⊎_elim
      (λ q. ⊎_elim (head_below n l m) (link_below n l m) (or_cases (is_request (message w n).kind) (message w n).taken q))
      (λ z. let e = eqb-true (message w n).next.0 0 z in omega arith)
      (or_cases (is_request (message w n).kind || (message w n).taken) (eqb (message w n).next.0 0) s)

  request_below : (n : ℕ) → 1 ≤ n → n ≤ w.used → (message w n).request.0 < 2 ^ 16
  request_below n l m =
      let s = (sent_at w n m (fits_at n l m)).request in
      let k : ℕ = (message w n).kind in
      let r : ℕ = (message w n).request.0 in
      let u = in_used in
      by_test (eqb (message w n).kind ANSWER)
      (λ q.
      let f = sym (if_true (eqb (message w n).kind ANSWER) (present w (message w n).request.0 && is_request (message w (message w n).request.0).kind)
      (not (message w n).taken && eqb (message w n).request.0 0) q) ∙ s in
      let p = present_is w r (and_parts (present w (message w n).request.0) (is_request (message w (message w n).request.0).kind) f).0 in
      omega arith)
      (λ q.
      let f = sym (if_false (eqb (message w n).kind ANSWER) (present w (message w n).request.0 && is_request (message w (message w n).request.0).kind)
      (not (message w n).taken && eqb (message w n).request.0 0) q) ∙ s in
      let z = eqb-true (message w n).request.0 0 (and_parts (not (message w n).taken) (eqb (message w n).request.0 0) f).1 in
      omega arith)

  beyond_below : (n : ℕ) → w.used < n → n ≤ messages → MessageFits (message w n)
  unfolding message_fits
  beyond_below n l m =
      zero_below (message w n)
      (sym (if_false (leb n w.used) (sent_fits w (message w n)) (zero_message (message w n)) (lt-leb n w.used l))
      ∙ h.mail n (omega arith) m)

  message_below : (n : ℕ) → n ≤ messages → MessageFits (message w n)
  message_below zero m = zero_below (message w 0) h.zero
  message_below (suc n) m =
      elim (dec_lt w.used (suc n)) [
        | yes q ↦ beyond_below (suc n) q m
        | no q ↦
            let l : 1 ≤ suc n = omega arith in
            let u : suc n ≤ w.used = omega arith in
            record {
              request = request_below (suc n) l u;
              next = next_below (suc n) l u;
              entry = entry_fits_lem (message w (suc n)).entry (sent_at w (suc n) u (fits_at (suc n) l u)).entry;
            }
      ]

  pub storable : Storable w
  storable =
      record {
        full = full_lists h;
        used = let u = in_used in omega arith;
        administrator = record { ending = ending_below w in_used w.administrator.ending h.ending };
        view = λ t a b. view_below w t (h.viewed t a b);
        server = λ s a b. server_below w h.high s (h.served s a b);
        client = λ c a b. client_below w in_used c (h.client c a b);
        message = message_below;
      }

-- ---- each well-formed world has a readable image, and is what that image spells

module _ (w : World) (e : well_formed w ≡ true) where
  pub world_storable : Storable w
  world_storable = storable w (formed w e)

  pub world_decode : decode (encode w) ≡ w
  world_decode = decode_encode w world_storable

  pub world_readable : readable (encode w) ≡ true
  world_readable =
      read_back (encode w)
      (record { size = length_encode w (full_lists (formed w e)); image = ap encode world_decode; world = ap well_formed world_decode ∙ e })
