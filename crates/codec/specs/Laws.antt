-- The laws of worlds and their images: a record of the image is that of the world, and a record put into the image is put into
-- the world. A server's record stands beside the bytes of the faulty key holders, which `put_server_lem` leaves as they are: it is said
-- of `image_with`, and so is `put_holder_lem`. Assumes nothing.
use Rattle.std.specs.Prelude.{◌≡◌, length}
use Rattle.std.proofs.Math.Path.{refl, sym, ap}
use Rattle.std.proofs.Common.{◌∙◌, add-zero, arith, length-append}
use mathlib.Core.List.{List, [], ◌∷◌, ◌++◌, append_assoc, append-nil}
use Prim.Native.Nat.{ℕ, zero, suc, ◌+◌, ◌*◌, ◌≤◌, ◌<◌, ◌^◌}
use Rattle.std.proofs.Math.ListN.{get_or, length-set}
use Rattle.protocol.specs.declared.View.{View}
use Rattle.protocol.specs.declared.Server.{Server}
use Rattle.protocol.specs.declared.Client.{Client}
use Rattle.protocol.specs.declared.Administrator.{Administrator}
use Rattle.protocol.specs.declared.Message.{Message}
use Rattle.protocol.specs.Tools.{nth, replace}
use Rattle.protocol.specs.Sizes.{clients, servers, views, messages}
use Rattle.protocol.specs.Worlds.{World, view, server, client, message, bad, with_view, with_server, with_client, with_message, with_administrator, send, list_to, no_view, no_server, no_client, no_message}
use Rattle.protocol.proofs.Laws.Lists.{length_list_to}
use Rattle.protocol.proofs.Laws.Worlds.{length_replace}
use Rattle.codec.specs.Layout.{image_size, header_width, views_at, holders_at, servers_at, clients_at, messages_at, view_place, holder_place, server_place, client_place, message_place, view_width, holder_width, server_width, client_width, message_width}
use Rattle.codec.specs.Lists.{part, put, flat, get_d_part, length_flat, part_group, put_group, part_number, put_number, nth_list_to, list_to_nth, get_d_cons}
use Rattle.codec.specs.Bytes.{half_le16}
use Rattle.codec.specs.Records.{header_bytes, view_bytes, holder_bytes, server_bytes, client_bytes, message_bytes, administrator_bytes, view_of, server_of, client_of, message_of, length_header_bytes, length_view_bytes, length_holder_bytes, length_server_bytes, length_client_bytes, length_message_bytes, view_of_bytes, server_of_bytes, client_of_bytes, message_of_bytes, administrator_of_bytes, ViewFits, ServerFits, ClientFits, MessageFits, AdministratorFits}
use Rattle.codec.specs.Places.{used_at, put_used, administrator_at, put_administrator, view_at, put_view, holder_at, put_holder, server_at, put_server, client_at, put_client, message_at, put_message}
use Rattle.codec.specs.Images.{holders, holder_list, image_with, encode, decode}

listed : (g : ℕ → Message) (xs : List Message) → length xs ≡ suc messages → ((n : ℕ) → n ≤ messages → g n ≡ get_or xs n no_message)
    → g 0 ∷ list_to g messages ≡ xs
listed g [] e h = absurd (omega arith)
listed g (x ∷ xs) e h =
    rw (h 0 (omega arith))
    (ap (λ (r : List Message). x ∷ r) (list_to_nth g xs no_message messages (omega arith) (λ k l m. h k m ∙ get_d_cons x xs k no_message l)))

-- the lists have their full lengths
pub record Full (w : World) : Type 0 where
  pub view : length w.view_list ≡ views
  pub server : length w.server_list ≡ servers
  pub client : length w.client_list ≡ clients
  pub message : length w.message_list ≡ suc messages

-- and every record of them can be read back
pub record Storable (w : World) : Type 0 where
  pub full : Full w
  pub used : w.used < 2 ^ 16
  pub administrator : AdministratorFits w.administrator
  pub view : (t : ℕ) → 1 ≤ t → t ≤ views → ViewFits (view w t)
  pub server : (s : ℕ) → 1 ≤ s → s ≤ servers → ServerFits (server w s)
  pub client : (c : ℕ) → 1 ≤ c → c ≤ clients → ClientFits (client w c)
  pub message : (n : ℕ) → n ≤ messages → MessageFits (message w n)

-- "messages used"
unfoldable pub with_used : World → ℕ → World
with_used w n =
    record { used = n; administrator = w.administrator; view_list = w.view_list; server_list = w.server_list; client_list = w.client_list; message_list = w.message_list }

-- what lies before and behind each group of records, c being the numbers of faulty key holders
before_holders : World → List ℕ
before_holders w = header_bytes w.used w.administrator ++ flat view_bytes w.view_list

before_servers : World → List ℕ → List ℕ
before_servers w c = header_bytes w.used w.administrator ++ (flat view_bytes w.view_list ++ flat holder_bytes c)

before_clients : World → List ℕ → List ℕ
before_clients w c = header_bytes w.used w.administrator ++ (flat view_bytes w.view_list ++ (flat holder_bytes c ++ flat server_bytes w.server_list))

before_messages : World → List ℕ → List ℕ
before_messages w c =
    header_bytes w.used w.administrator
    ++ (flat view_bytes w.view_list ++ (flat holder_bytes c ++ (flat server_bytes w.server_list ++ flat client_bytes w.client_list)))

behind_clients : World → List ℕ
behind_clients w = flat message_bytes w.message_list

behind_servers : World → List ℕ
behind_servers w = flat client_bytes w.client_list ++ flat message_bytes w.message_list

behind_holders : World → List ℕ
behind_holders w = flat server_bytes w.server_list ++ (flat client_bytes w.client_list ++ flat message_bytes w.message_list)

behind_views : World → List ℕ → List ℕ
behind_views w c =
    flat holder_bytes c ++ (flat server_bytes w.server_list ++ (flat client_bytes w.client_list ++ flat message_bytes w.message_list))

by_holders : (w : World) (c : List ℕ) → image_with w c ≡ before_holders w ++ (flat holder_bytes c ++ behind_holders w)
unfolding image_with before_holders behind_holders
by_holders w c = simp append_assoc

by_servers : (w : World) (c : List ℕ) → image_with w c ≡ before_servers w c ++ (flat server_bytes w.server_list ++ behind_servers w)
unfolding image_with before_servers behind_servers
by_servers w c = simp append_assoc

by_clients : (w : World) (c : List ℕ) → image_with w c ≡ before_clients w c ++ (flat client_bytes w.client_list ++ behind_clients w)
unfolding image_with before_clients behind_clients
by_clients w c = simp append_assoc

by_messages : (w : World) (c : List ℕ) → image_with w c ≡ before_messages w c ++ (flat message_bytes w.message_list ++ [])
unfolding image_with before_messages
by_messages w c = simp (append_assoc, append-nil)

-- one number for each view
pub length_holder_list : (w : World) → length (holder_list w) ≡ views
unfolding holder_list
length_holder_list w = length_list_to (holders w) views

pub nth_holder_list : (w : World) (t : ℕ) → 1 ≤ t → t ≤ views → nth (holder_list w) t 0 ≡ holders w t
unfolding holder_list
nth_holder_list w t a b = nth_list_to (holders w) views t 0 a b

module _ (w : World) (c : List ℕ) (h : Full w) (n : length c ≡ views) where
  length_views : length (flat view_bytes w.view_list) ≡ views * view_width
  length_views = omega (arith, length_flat view_bytes view_width length_view_bytes w.view_list, h.view)

  length_holders : length (flat holder_bytes c) ≡ views * holder_width
  length_holders = omega (arith, length_flat holder_bytes holder_width length_holder_bytes c, n)

  length_servers : length (flat server_bytes w.server_list) ≡ servers * server_width
  length_servers = omega (arith, length_flat server_bytes server_width length_server_bytes w.server_list, h.server)

  length_clients : length (flat client_bytes w.client_list) ≡ clients * client_width
  length_clients = omega (arith, length_flat client_bytes client_width length_client_bytes w.client_list, h.client)

  length_messages : length (flat message_bytes w.message_list) ≡ suc messages * message_width
  length_messages = omega (arith, length_flat message_bytes message_width length_message_bytes w.message_list, h.message)

  at_holders : length (before_holders w) ≡ holders_at
  unfolding before_holders
  at_holders = simp (length-append, length_views, length_header_bytes)

  at_servers : length (before_servers w c) ≡ servers_at
  unfolding before_servers
  at_servers = simp (length-append, length_views, length_holders, length_header_bytes)

  at_clients : length (before_clients w c) ≡ clients_at
  unfolding before_clients
  at_clients = simp (length-append, length_views, length_holders, length_servers, length_header_bytes)

  at_messages : length (before_messages w c) ≡ messages_at
  unfolding before_messages
  at_messages = simp (length-append, length_views, length_holders, length_servers, length_clients, length_header_bytes)

  -- the image, 21,744 bytes
  pub length_image : length (image_with w c) ≡ image_size
  unfolding image_with
  length_image = simp (length-append, length_views, length_holders, length_servers, length_clients, length_messages, length_header_bytes)

  -- a number of faulty key holders, and one put into the image
  pub holder_image : (t : ℕ) → 1 ≤ t → t ≤ views → holder_at (image_with w c) t ≡ nth c t 0
  unfolding holder_at holder_bytes
  holder_image t l m =
      ap (λ (k : ℕ). get_or (image_with w c) k 0) (sym (add-zero (holder_place t)))
      ∙ sym (get_d_part (image_with w c) (holder_place t) holder_width 0 (omega arith))
      ∙ ap (λ (i : List ℕ). get_or (part i (holder_place t) holder_width) 0 0) (by_holders w c)
      ∙ ap (λ (b : List ℕ). get_or b 0 0)
      (part_number holder_bytes holder_width length_holder_bytes (before_holders w) c (behind_holders w) holders_at t 0 at_holders l (omega (arith, n)))

  pub put_holder_lem : (t : ℕ) → 1 ≤ t → t ≤ views → (x : ℕ) → put_holder (image_with w c) t x ≡ image_with w (replace c t x)
  unfolding put_holder
  put_holder_lem t l m x =
      ap (λ (i : List ℕ). put i (holder_place t) (holder_bytes x)) (by_holders w c)
      ∙ put_number holder_bytes holder_width length_holder_bytes (before_holders w) c (behind_holders w) holders_at t x at_holders l (omega (arith, n))
      ∙ sym (by_holders w (replace c t x))

  -- a record put into the image is put into the world
  pub put_view_with : (t : ℕ) → 1 ≤ t → t ≤ views → (v : View) → put_view (image_with w c) t v ≡ image_with (with_view w t v) c
  unfolding put_view image_with with_view behind_views
  put_view_with t l m v =
      put_number view_bytes view_width length_view_bytes (header_bytes w.used w.administrator) w.view_list (behind_views w c) views_at t v
      (length_header_bytes w.used w.administrator) l (omega (arith, h.view))

  pub put_server_lem : (s : ℕ) → 1 ≤ s → s ≤ servers → (v : Server) → put_server (image_with w c) s v ≡ image_with (with_server w s v) c
  unfolding put_server with_server before_servers behind_servers
  put_server_lem s l m v =
      ap (λ (i : List ℕ). put i (server_place s) (server_bytes v)) (by_servers w c)
      ∙ put_number server_bytes server_width length_server_bytes (before_servers w c) w.server_list (behind_servers w) servers_at s v at_servers l
      (omega (arith, h.server))
      ∙ sym (by_servers (with_server w s v) c)

module _ (w : World) (h : Full w) where
  pub length_encode : length (encode w) ≡ image_size
  unfolding encode
  length_encode = length_image w (holder_list w) h (length_holder_list w)

  -- the numbers of faulty key holders of the image are those of the world
  pub holder_encode : (t : ℕ) → 1 ≤ t → t ≤ views → holder_at (encode w) t ≡ holders w t
  unfolding encode
  holder_encode t l m = holder_image w (holder_list w) h (length_holder_list w) t l m ∙ nth_holder_list w t l m

  -- the bytes of a record
  pub part_view : (t : ℕ) → 1 ≤ t → t ≤ views → part (encode w) (view_place t) view_width ≡ view_bytes (view w t)
  unfolding encode image_with view behind_views
  part_view t l m =
      part_number view_bytes view_width length_view_bytes (header_bytes w.used w.administrator) w.view_list (behind_views w (holder_list w)) views_at t no_view
      (length_header_bytes w.used w.administrator) l (omega (arith, h.view))

  pub part_server : (s : ℕ) → 1 ≤ s → s ≤ servers → part (encode w) (server_place s) server_width ≡ server_bytes (server w s)
  unfolding encode server
  part_server s l m =
      ap (λ (i : List ℕ). part i (server_place s) server_width) (by_servers w (holder_list w))
      ∙ part_number server_bytes server_width length_server_bytes (before_servers w (holder_list w)) w.server_list (behind_servers w) servers_at s no_server
      (at_servers w (holder_list w) h (length_holder_list w)) l
      (omega (arith, h.server))

  pub part_client : (c : ℕ) → 1 ≤ c → c ≤ clients → part (encode w) (client_place c) client_width ≡ client_bytes (client w c)
  unfolding encode client
  part_client c l m =
      ap (λ (i : List ℕ). part i (client_place c) client_width) (by_clients w (holder_list w))
      ∙ part_number client_bytes client_width length_client_bytes (before_clients w (holder_list w)) w.client_list (behind_clients w) clients_at c no_client
      (at_clients w (holder_list w) h (length_holder_list w)) l
      (omega (arith, h.client))

  pub part_message : (n : ℕ) → n ≤ messages → part (encode w) (message_place n) message_width ≡ message_bytes (message w n)
  unfolding encode message
  part_message n m =
      ap (λ (i : List ℕ). part i (message_place n) message_width) (by_messages w (holder_list w))
      ∙ part_group message_bytes message_width length_message_bytes (before_messages w (holder_list w)) w.message_list [] messages_at n no_message
      (at_messages w (holder_list w) h (length_holder_list w))
      (omega (arith, h.message))

  -- a record of a view, a client or a message put into the image is put into the world: no server changes
  pub put_view_lem : (t : ℕ) → 1 ≤ t → t ≤ views → (v : View) → put_view (encode w) t v ≡ encode (with_view w t v)
  unfolding encode holder_list holders bad server with_view
  put_view_lem t l m v = put_view_with w (holder_list w) h (length_holder_list w) t l m v

  pub put_client_lem : (c : ℕ) → 1 ≤ c → c ≤ clients → (v : Client) → put_client (encode w) c v ≡ encode (with_client w c v)
  unfolding put_client with_client before_clients behind_clients encode holder_list holders bad server
  put_client_lem c l m v =
      ap (λ (i : List ℕ). put i (client_place c) (client_bytes v)) (by_clients w (holder_list w))
      ∙ put_number client_bytes client_width length_client_bytes (before_clients w (holder_list w)) w.client_list (behind_clients w) clients_at c v
      (at_clients w (holder_list w) h (length_holder_list w)) l (omega (arith, h.client))
      ∙ sym (by_clients (with_client w c v) (holder_list w))

  pub put_message_lem : (n : ℕ) → n ≤ messages → (v : Message) → put_message (encode w) n v ≡ encode (with_message w n v)
  unfolding put_message with_message before_messages encode holder_list holders bad server
  put_message_lem n m v =
      ap (λ (i : List ℕ). put i (message_place n) (message_bytes v)) (by_messages w (holder_list w))
      ∙ put_group message_bytes message_width length_message_bytes (before_messages w (holder_list w)) w.message_list [] messages_at n v
      (at_messages w (holder_list w) h (length_holder_list w)) (omega (arith, h.message))
      ∙ sym (by_messages (with_message w n v) (holder_list w))

pub put_used_lem : (w : World) (n : ℕ) → put_used (encode w) n ≡ encode (with_used w n)
unfolding put_used encode image_with holder_list holders bad server with_used put header_bytes
put_used_lem w n = refl

pub put_administrator_lem : (w : World) (a : Administrator) → put_administrator (encode w) a ≡ encode (with_administrator w a)
unfolding put_administrator encode image_with holder_list holders bad server with_administrator put header_bytes administrator_bytes
put_administrator_lem w a = refl

-- "A new message takes the number after the last used."
pub put_send : (w : World) → Full w → w.used < messages → (m : Message)
    → put_message (put_used (encode w) (w.used + 1)) (w.used + 1) m ≡ encode (send w m)
unfolding send with_used with_message
put_send w h l m =
    ap (λ (i : List ℕ). put_message i (w.used + 1) m) (put_used_lem w (w.used + 1))
    ∙ put_message_lem (with_used w (w.used + 1)) (record { view = h.view; server = h.server; client = h.client; message = h.message })
    (w.used + 1) (omega arith) m

pub part_header : (w : World) → part (encode w) 0 header_width ≡ header_bytes w.used w.administrator
unfolding encode image_with part header_bytes administrator_bytes
part_header w = refl

-- a record of the image is that of the world
module _ (w : World) (h : Storable w) where
  pub used_encode : used_at (encode w) ≡ w.used
  unfolding used_at encode image_with header_bytes
  used_encode = half_le16 w.used h.used

  pub administrator_encode : administrator_at (encode w) ≡ w.administrator
  unfolding administrator_at encode image_with header_bytes part administrator_bytes
  administrator_encode = administrator_of_bytes w.administrator h.administrator

  pub view_encode : (t : ℕ) → 1 ≤ t → t ≤ views → view_at (encode w) t ≡ view w t
  unfolding view_at
  view_encode t l m = ap view_of (part_view w h.full t l m) ∙ view_of_bytes (view w t) (h.view t l m)

  pub server_encode : (s : ℕ) → 1 ≤ s → s ≤ servers → server_at (encode w) s ≡ server w s
  unfolding server_at
  server_encode s l m = ap server_of (part_server w h.full s l m) ∙ server_of_bytes (server w s) (h.server s l m)

  pub client_encode : (c : ℕ) → 1 ≤ c → c ≤ clients → client_at (encode w) c ≡ client w c
  unfolding client_at
  client_encode c l m = ap client_of (part_client w h.full c l m) ∙ client_of_bytes (client w c) (h.client c l m)

  pub message_encode : (n : ℕ) → n ≤ messages → message_at (encode w) n ≡ message w n
  unfolding message_at
  message_encode n m = ap message_of (part_message w h.full n m) ∙ message_of_bytes (message w n) (h.message n m)

  messages_encode : message_at (encode w) 0 ∷ list_to (message_at (encode w)) messages ≡ w.message_list
  unfolding message
  messages_encode = listed (message_at (encode w)) w.message_list h.full.message message_encode

  -- a world is what its image spells
  pub decode_encode : decode (encode w) ≡ w
  unfolding decode view server client
  decode_encode =
      λ i.
      record {
        used = used_encode i;
        administrator = administrator_encode i;
        view_list = list_to_nth (view_at (encode w)) w.view_list no_view views h.full.view view_encode i;
        server_list = list_to_nth (server_at (encode w)) w.server_list no_server servers h.full.server server_encode i;
        client_list = list_to_nth (client_at (encode w)) w.client_list no_client clients h.full.client client_encode i;
        message_list = messages_encode i;
      }

-- ---- the world that an image spells

module _ (l : List ℕ) where
  pub used_decode : (decode l).used ≡ used_at l
  unfolding decode
  used_decode = refl

  pub administrator_decode : (decode l).administrator ≡ administrator_at l
  unfolding decode
  administrator_decode = refl

  pub decode_full : Full (decode l)
  unfolding decode
  decode_full =
      record {
        view = length_list_to (view_at l) views;
        server = length_list_to (server_at l) servers;
        client = length_list_to (client_at l) clients;
        message = ap suc (length_list_to (message_at l) messages);
      }

  pub view_decode : (t : ℕ) → 1 ≤ t → t ≤ views → view (decode l) t ≡ view_at l t
  unfolding decode view
  view_decode t a b = nth_list_to (view_at l) views t no_view a b

  pub server_decode : (s : ℕ) → 1 ≤ s → s ≤ servers → server (decode l) s ≡ server_at l s
  unfolding decode server
  server_decode s a b = nth_list_to (server_at l) servers s no_server a b

  pub client_decode : (c : ℕ) → 1 ≤ c → c ≤ clients → client (decode l) c ≡ client_at l c
  unfolding decode client
  client_decode c a b = nth_list_to (client_at l) clients c no_client a b

  pub message_decode : (n : ℕ) → n ≤ messages → message (decode l) n ≡ message_at l n
  unfolding decode message
  message_decode zero b = refl
  message_decode (suc n) b =
      get_d_cons (message_at l 0) (list_to (message_at l) messages) (suc n) no_message (omega arith)
      ∙ nth_list_to (message_at l) messages (suc n) no_message (omega arith) b

-- ---- a record replaced

module _ (w : World) (h : Full w) where
  pub full_view : (t : ℕ) (v : View) → Full (with_view w t v)
  unfolding with_view
  full_view t v = record { view = length_replace w.view_list t v ∙ h.view; server = h.server; client = h.client; message = h.message }

  pub full_server : (s : ℕ) (v : Server) → Full (with_server w s v)
  unfolding with_server
  full_server s v = record { view = h.view; server = length_replace w.server_list s v ∙ h.server; client = h.client; message = h.message }

  pub full_client : (c : ℕ) (v : Client) → Full (with_client w c v)
  unfolding with_client
  full_client c v = record { view = h.view; server = h.server; client = length_replace w.client_list c v ∙ h.client; message = h.message }

  pub full_message : (n : ℕ) (v : Message) → Full (with_message w n v)
  unfolding with_message
  full_message n v = record { view = h.view; server = h.server; client = h.client; message = length-set w.message_list n v ∙ h.message }

  pub full_administrator : (a : Administrator) → Full (with_administrator w a)
  unfolding with_administrator
  full_administrator a = record { view = h.view; server = h.server; client = h.client; message = h.message }

  pub full_send : (m : Message) → Full (send w m)
  unfolding send
  full_send m = record { view = h.view; server = h.server; client = h.client; message = length-set w.message_list (w.used + 1) m ∙ h.message }
