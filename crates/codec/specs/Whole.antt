-- An image whose records are plain is the image of the world that it spells. Assumes nothing.
use Rattle.std.specs.Prelude.{◌≡◌, refl, Bool, true, List, [], ◌∷◌, ◌++◌, ℕ, zero, suc, ◌+◌, ◌*◌, ◌-◌, ◌≤◌, length}
use Rattle.std.proofs.Common.{sym, ap, ◌∙◌, zero-mul, suc-mul, mul-suc, mul-zero, not-suc-le-zero, arith, take_all, lit<}
use Rattle.protocol.specs.Sizes.{clients, servers, views, messages}
use Rattle.protocol.specs.Worlds.{list_to}
use Rattle.codec.specs.Layout.{image_size, header_width, used_place, administrator_place, administrator_width, view_width, holder_width, server_width, client_width, message_width, views_at, holders_at, servers_at, clients_at, messages_at, view_place, holder_place, server_place, client_place, message_place}
use Rattle.codec.specs.Lists.{part, part_one, part_part, flat, length_part, get_d_part, part_add}
use Rattle.codec.specs.Bytes.{Bytes, bytes_part}
use Rattle.codec.specs.Records.{view_bytes, holder_bytes, server_bytes, client_bytes, message_bytes, header_bytes, header_plain, view_plain, server_plain, client_plain, message_plain}
use Rattle.codec.specs.Places.{used_at, administrator_at, view_at, holder_at, server_at, client_at, message_at}
use Rattle.codec.specs.Images.{holders, holder_list, image_with, encode, decode}
use Rattle.codec.specs.Laws.{decode_full, part_header, holder_encode, part_view, part_server, part_client, part_message, view_decode, server_decode, client_decode, message_decode}
use Rattle.codec.specs.Spelling.{header_of, header_plain_lem, plain_header, view_plain_lem, plain_view, server_plain_lem, plain_server, client_plain_lem, plain_client, message_plain_lem, plain_message}

-- ---- the tests of an image

abbrev pub view_plain_at : List ℕ → ℕ → Bool
view_plain_at l t = view_plain (part l (view_place t) view_width)

abbrev pub server_plain_at : List ℕ → ℕ → Bool
server_plain_at l s = server_plain (part l (server_place s) server_width)

abbrev pub client_plain_at : List ℕ → ℕ → Bool
client_plain_at l c = client_plain (part l (client_place c) client_width)

abbrev pub message_plain_at : List ℕ → ℕ → Bool
message_plain_at l n = message_plain (part l (message_place n) message_width)

-- "every field has its stated value": spare bytes, flags and the version; "an image whose byte differs from that is unreadable"
pub record Plain (l : List ℕ) : Type 0 where
  pub header : header_plain (part l 0 header_width) ≡ true
  pub view : (t : ℕ) → 1 ≤ t → t ≤ views → view_plain_at l t ≡ true
  pub holder : (t : ℕ) → 1 ≤ t → t ≤ views → holder_at l t ≡ holders (decode l) t
  pub server : (s : ℕ) → 1 ≤ s → s ≤ servers → server_plain_at l s ≡ true
  pub client : (c : ℕ) → 1 ≤ c → c ≤ clients → client_plain_at l c ≡ true
  pub message : (n : ℕ) → n ≤ messages → message_plain_at l n ≡ true

-- ---- records read one after another and written out again

part_none : (l : List ℕ) (at : ℕ) → part l at 0 ≡ []
unfolding part
part_none l at = refl

rejoin : {A : Type 0} (f : A → List ℕ) (g : ℕ → A) (l : List ℕ) (w at n : ℕ)
    → ((k : ℕ) → 1 ≤ k → k ≤ n → f (g k) ≡ part l (at + w * (k - 1)) w)
    → flat f (list_to g n) ≡ part l at (n * w)
unfolding flat list_to
rejoin f g l w at zero h = rw zero-mul (sym (part_none l at))
rejoin f g l w at (suc n) h =
    let e1 : at + w * (1 - 1) ≡ at = omega (arith, mul-zero w) in
    let e2 : suc n * w ≡ w + n * w = omega (arith, suc-mul n w) in
    rw (e2, part_add l at w (n * w))
    (ap (λ (r : List ℕ). r ++ flat f (list_to (λ i. g (suc i)) n)) (h 1 (omega arith) (omega arith) ∙ ap (λ (k : ℕ). part l k w) e1)
    ∙ ap (λ (r : List ℕ). part l at w ++ r) (rejoin f (λ i. g (suc i)) l w (at + w) n (λ k a b. h (suc k) (omega arith) (omega arith) ∙ ap (λ (j : ℕ). part l j w) (shift k a))))
  where
    shift : (k : ℕ) → 1 ≤ k → at + w * (suc k - 1) ≡ at + w + w * (k - 1)
    shift zero a = absurd (not-suc-le-zero a)
    shift (suc k) a =
        let x : suc (suc k) - 1 ≡ suc k = omega arith in
        let y : suc k - 1 ≡ k = omega arith in
        rw (x, y) (omega (arith, mul-suc w k))

all : (l : List ℕ) → length l ≡ image_size → part l 0 image_size ≡ l
unfolding part
all l s = take_all image_size l (omega arith)

-- an image is its header and its groups of records, message 0 apart
whole : (l : List ℕ) → length l ≡ image_size
    → part l 0 header_width
    ++ (part l views_at (views * view_width)
    ++ (part l holders_at (views * holder_width)
    ++ (part l servers_at (servers * server_width)
    ++ (part l clients_at (clients * client_width) ++ (part l messages_at message_width ++ part l (message_place 1) (messages * message_width))))))
    ≡ l
whole l s =
    sym
    (sym (all l s)
    ∙ part_add l 0 header_width (image_size - views_at)
    ∙ ap (λ (r : List ℕ). part l 0 header_width ++ r)
    (part_add l views_at (views * view_width) (image_size - holders_at)
    ∙ ap (λ (r : List ℕ). part l views_at (views * view_width) ++ r)
    (part_add l holders_at (views * holder_width) (image_size - servers_at)
    ∙ ap (λ (r : List ℕ). part l holders_at (views * holder_width) ++ r)
    (part_add l servers_at (servers * server_width) (image_size - clients_at)
    ∙ ap (λ (r : List ℕ). part l servers_at (servers * server_width) ++ r)
    (part_add l clients_at (clients * client_width) (image_size - messages_at)
    ∙ ap (λ (r : List ℕ). part l clients_at (clients * client_width) ++ r)
    (part_add l messages_at message_width (messages * message_width)))))))

header_same : (l : List ℕ) → header_bytes (used_at l) (administrator_at l) ≡ header_of (part l 0 header_width)
unfolding used_at administrator_at
header_same l =
    rw (
      get_d_part l 0 header_width used_place (lit< tt),
      get_d_part l 0 header_width (used_place + 1) (lit< tt),
      part_part l 0 header_width administrator_place administrator_width (omega arith),
    )

head : (l : List ℕ) → header_bytes (decode l).used (decode l).administrator ≡ header_of (part l 0 header_width)
unfolding decode
head l = header_same l

-- the numbers of faulty key holders
held : (l : List ℕ) → length l ≡ image_size → Plain l → flat holder_bytes (holder_list (decode l)) ≡ part l holders_at (views * holder_width)
unfolding holder_list holder_bytes holder_at
held l s p =
    rejoin holder_bytes (holders (decode l)) l holder_width holders_at views
    (λ k a b. ap (λ (n : ℕ). n ∷ []) (sym (p.holder k a b)) ∙ sym (part_one l (holder_place k) (omega arith)))

-- the image of the world that it spells
pub encode_decode : (l : List ℕ) → length l ≡ image_size → Bytes l → Plain l → encode (decode l) ≡ l
unfolding encode image_with decode flat view_at server_at client_at message_at
encode_decode l s y p =
    let size : (a n : ℕ) → a + n ≤ image_size → length (part l a n) ≡ n = λ a n h. length_part l a n (omega arith) in
    let eh = header_same l ∙ header_plain_lem (part l 0 header_width) (size 0 header_width (omega arith)) (bytes_part l 0 header_width y) p.header in
    let ev = rejoin view_bytes (view_at l) l view_width views_at views
    (λ k a b. view_plain_lem (part l (view_place k) view_width) (size (view_place k) view_width (omega arith)) (bytes_part l (view_place k) view_width y) (p.view k a b)) in
    let eb = held l s p in
    let es = rejoin server_bytes (server_at l) l server_width servers_at servers
    (λ k a b. server_plain_lem (part l (server_place k) server_width) (size (server_place k) server_width (omega arith)) (bytes_part l (server_place k) server_width y) (p.server k a b)) in
    let ec = rejoin client_bytes (client_at l) l client_width clients_at clients
    (λ k a b. client_plain_lem (part l (client_place k) client_width) (size (client_place k) client_width (omega arith)) (bytes_part l (client_place k) client_width y) (p.client k a b)) in
    let plain : (n : ℕ) → n ≤ messages → message_bytes (message_at l n) ≡ part l (message_place n) message_width
    = λ n b. message_plain_lem (part l (message_place n) message_width) (size (message_place n) message_width (omega arith)) (bytes_part l (message_place n) message_width y) (p.message n b) in
    let e0 = plain 0 (omega arith) in
    let em = rejoin message_bytes (message_at l) l message_width (message_place 1) messages
    (λ k a b. plain k b ∙ ap (λ (j : ℕ). part l j message_width) (let q : message_place k ≡ message_place 1 + message_width * (k - 1) = omega arith in q)) in
    rw (eh, ev, eb, es, ec, e0, em) (whole l s)

-- and only then
pub plain_image : (l : List ℕ) → encode (decode l) ≡ l → Plain l
unfolding view_at server_at client_at message_at
plain_image l e =
    let f = decode_full l in
    let back : (a n : ℕ) → part l a n ≡ part (encode (decode l)) a n = λ a n. ap (λ (i : List ℕ). part i a n) (sym e) in
    record {
      header = plain_header (part l 0 header_width) (sym (back 0 header_width ∙ part_header (decode l) ∙ head l));
      view = λ t a b. plain_view (part l (view_place t) view_width) (sym (back (view_place t) view_width ∙ part_view (decode l) f t a b ∙ ap view_bytes (view_decode l t a b)));
      holder = λ t a b. ap (λ (i : List ℕ). holder_at i t) (sym e) ∙ holder_encode (decode l) f t a b;
      server = λ s a b.
          plain_server (part l (server_place s) server_width) (sym (back (server_place s) server_width ∙ part_server (decode l) f s a b ∙ ap server_bytes (server_decode l s a b)));
      client = λ c a b.
          plain_client (part l (client_place c) client_width) (sym (back (client_place c) client_width ∙ part_client (decode l) f c a b ∙ ap client_bytes (client_decode l c a b)));
      message = λ n b.
          plain_message (part l (message_place n) message_width) (sym (back (message_place n) message_width ∙ part_message (decode l) f n b ∙ ap message_bytes (message_decode l n b)));
    }
