-- The fresh world's image. Assumes nothing.
use Rattle.std.specs.Prelude.{◌≡◌, refl, Bool, true, false, List, ◌++◌, ℕ, zero, suc, ◌+◌, ◌*◌, ◌-◌, ◌≤◌, length, replicate, eqb, None}
use Rattle.std.proofs.Common.{sym, ap, ap₂, ◌∙◌, not-suc-le-zero, arith, get_or-set_same, get_or-set_other}
use Rattle.std.proofs.Math.Decide.{dec_lt}
use Rattle.std.proofs.lemmas.List.{length-replicate, get_or-replicate, replicate-append-replicate}
use Rattle.protocol.specs.declared.View.{View}
use Rattle.protocol.specs.declared.Server.{Server}
use Rattle.protocol.specs.declared.Administrator.{Administrator}
use Rattle.protocol.specs.Tools.{if, holds, nth, replace, Result, refused, done, guard}
use Rattle.protocol.specs.Sizes.{clients, servers, views, messages}
use Rattle.protocol.specs.Entries.{empty}
use Rattle.protocol.specs.Worlds.{World, server, bad, with_view, with_server, no_view, no_server, no_client, no_message, fresh_server, list_to, fresh_world, fresh}
use Rattle.protocol.proofs.Laws.Worlds.{length_replace}
use Rattle.codec.specs.Layout.{version, version_place, image_size, header_width, view_width, holder_width, server_width, client_width, message_width}
use Rattle.codec.specs.Bytes.{le16}
use Rattle.codec.specs.Lists.{put, flat, flat_zeros, nth_list_to, list_to_nth}
use Rattle.codec.specs.Records.{header_bytes, administrator_bytes, view_bytes, holder_bytes, server_bytes, client_bytes, message_bytes, entry_bytes}
use Rattle.codec.specs.Places.{put_view, put_server, put_administrator}
use Rattle.codec.specs.Images.{holders, holder_list, image_with, encode}
use Rattle.codec.specs.Laws.{Full, put_view_with, put_server_lem, full_view, full_server}
use Rattle.key_holders.specs.Holders.{holders_none}

-- an answer's number and the image that a call leaves
pub record Outcome : Type 0 where
  pub refusal : ℕ
  pub image : List ℕ

abbrev pub outcome : List ℕ → Result World → Outcome
outcome i (refused n) = record { refusal = n; image = i }
outcome i (done w) = record { refusal = 0; image = encode w }

-- "Fresh world (member bits, f)", and r: "1, buffer not" an image's length "; 8, size rule broken." A refusal leaves the buffer as it was.
unfoldable pub fresh_on : List ℕ → ℕ → ℕ → ℕ → Outcome
fresh_on i bits f r = outcome i (guard (eqb (length i) image_size) 1 (fresh bits f r))

-- a correct server with the empty entry
abbrev pub idle_server : ℕ → ℕ → Server
idle_server view keys = record { view = record { 0 = view }; faulty = false; keys = record { 0 = keys }; entry = empty }

-- the servers 1 to n stored one after another
unfoldable pub seeded : List ℕ → ℕ → ℕ → List ℕ
seeded l bits zero = l
seeded l bits (suc n) = put_server (seeded l bits n) (suc n) (fresh_server bits (suc n))

-- No proof cites it; it stands for who reads the definitions.
pub seeded_start : (l : List ℕ) (bits : ℕ) → seeded l bits 0 ≡ l
unfolding seeded
seeded_start l bits = refl

-- no view has a faulty key holder
abbrev none : List ℕ
none = replicate views 0

length_none : length none ≡ views
length_none = length-replicate {A = ℕ} views 0

nth_none : (t : ℕ) → t ≤ views → nth none t 0 ≡ 0
unfolding nth
nth_none zero h = refl
nth_none (suc k) h = get_or-replicate views k 0 0 h

-- ---- the same on worlds

seeded_world : World → ℕ → ℕ → World
seeded_world w bits zero = w
seeded_world w bits (suc n) = with_server (seeded_world w bits n) (suc n) (fresh_server bits (suc n))

seeded_full : (w : World) → Full w → (bits n : ℕ) → Full (seeded_world w bits n)
unfolding seeded_world
seeded_full w h bits zero = h
seeded_full w h bits (suc n) = full_server (seeded_world w bits n) (seeded_full w h bits n) (suc n) (fresh_server bits (suc n))

seeded_image : (w : World) → Full w → (bits n : ℕ) → n ≤ servers → seeded (image_with w none) bits n ≡ image_with (seeded_world w bits n) none
unfolding seeded seeded_world
seeded_image w h bits zero l = refl
seeded_image w h bits (suc n) l =
    ap (λ (i : List ℕ). put_server i (suc n) (fresh_server bits (suc n))) (seeded_image w h bits n (omega arith))
    ∙ put_server_lem (seeded_world w bits n) none (seeded_full w h bits n) length_none (suc n) (omega arith) l (fresh_server bits (suc n))

-- ---- its list of servers

seeded_list : List Server → ℕ → ℕ → List Server
seeded_list l bits zero = l
seeded_list l bits (suc n) = replace (seeded_list l bits n) (suc n) (fresh_server bits (suc n))

length_seeded : (l : List Server) (bits n : ℕ) → length (seeded_list l bits n) ≡ length l
unfolding seeded_list
length_seeded l bits zero = refl
length_seeded l bits (suc n) = length_replace (seeded_list l bits n) (suc n) (fresh_server bits (suc n)) ∙ length_seeded l bits n

nth_same : (l : List Server) (k : ℕ) (v : Server) → 1 ≤ k → k ≤ length l → nth (replace l k v) k no_server ≡ v
unfolding nth replace
nth_same l zero v a b = absurd (not-suc-le-zero a)
nth_same l (suc k) v a b = get_or-set_same l k v no_server b

nth_other : (l : List Server) (j k : ℕ) (v : Server) → (k ≡ j → ⊥) → nth (replace l j v) k no_server ≡ nth l k no_server
unfolding nth replace
nth_other l j zero v n = refl
nth_other l zero (suc k) v n = refl
nth_other l (suc j) (suc k) v n = get_or-set_other l j k v no_server (λ e. n (ap suc e))

nth_seeded : (l : List Server) (bits n k : ℕ) → n ≤ length l → 1 ≤ k → k ≤ n → fresh_server bits k ≡ nth (seeded_list l bits n) k no_server
unfolding seeded_list
nth_seeded l bits zero k h a b = absurd (omega arith)
nth_seeded l bits (suc n) k h a b =
    elim (dec_lt k (suc n)) [
      | yes m ↦ nth_seeded l bits n k (omega arith) a (omega arith) ∙ sym (nth_other (seeded_list l bits n) (suc n) k (fresh_server bits (suc n)) (λ e. omega arith))
      | no m ↦
          let e : k ≡ suc n = omega arith in
          rw e (sym (nth_same (seeded_list l bits n) (suc n) (fresh_server bits (suc n)) (omega arith) (omega (arith, length_seeded l bits n))))
    ]

seeded_list_lem : (l : List Server) (bits : ℕ) → length l ≡ servers → list_to (fresh_server bits) servers ≡ seeded_list l bits servers
seeded_list_lem l bits e =
    list_to_nth (fresh_server bits) (seeded_list l bits servers) no_server servers (length_seeded l bits servers ∙ e)
    (λ k a b. nth_seeded l bits servers k (omega arith) a b)

seeded_servers : (w : World) (bits n : ℕ)
    → seeded_world w bits n
    ≡ record { used = w.used; administrator = w.administrator; view_list = w.view_list; server_list = seeded_list w.server_list bits n; client_list = w.client_list; message_list = w.message_list }
unfolding seeded_world seeded_list with_server
seeded_servers w bits zero = refl
seeded_servers w bits (suc n) = rw (seeded_servers w bits n)

-- ---- the bytes before the servers are stored

abbrev pub first_view : Administrator
first_view = record { newest = record { 0 = 1 }; ending = None }

-- a world of zeros but for its newest view
blank : World
blank =
    record {
      used = 0;
      administrator = first_view;
      view_list = replicate views no_view;
      server_list = replicate servers no_server;
      client_list = replicate clients no_client;
      message_list = replicate (suc messages) no_message;
    }

blank_full : Full blank
unfolding blank
blank_full =
    record {
      view = length-replicate views no_view;
      server = length-replicate servers no_server;
      client = length-replicate clients no_client;
      message = length-replicate (suc messages) no_message;
    }

-- version and newest view in n more zeros
headed_zeros : (n : ℕ) → put_administrator (put (replicate (header_width + n) 0) version_place (le16 version)) first_view ≡ header_bytes 0 first_view ++ replicate n 0
unfolding put_administrator put header_bytes administrator_bytes
headed_zeros n = rw (← replicate-append-replicate {A = ℕ} header_width n 0)

join5 : {a b c d e a' b' c' d' e' : List ℕ} → a ≡ a' → b ≡ b' → c ≡ c' → d ≡ d' → e ≡ e' → a ++ (b ++ (c ++ (d ++ e))) ≡ a' ++ (b' ++ (c' ++ (d' ++ e')))
join5 p q r s t = λ i. p i ++ (q i ++ (r i ++ (s i ++ t i)))

abbrev zeros : ℕ → List ℕ
zeros n = replicate n 0

zeros5 : (a b c d e : ℕ) → zeros a ++ (zeros b ++ (zeros c ++ (zeros d ++ zeros e))) ≡ zeros (a + (b + (c + (d + e))))
zeros5 a b c d e =
    rw (
      replicate-append-replicate {A = ℕ} d e 0,
      replicate-append-replicate {A = ℕ} c (d + e) 0,
      replicate-append-replicate {A = ℕ} b (c + (d + e)) 0,
      replicate-append-replicate {A = ℕ} a (b + (c + (d + e))) 0,
    )

zero_groups : (n m k j : ℕ)
    → flat view_bytes (replicate n no_view)
    ++ (flat holder_bytes (replicate n 0)
    ++ (flat server_bytes (replicate m no_server) ++ (flat client_bytes (replicate k no_client) ++ flat message_bytes (replicate j no_message))))
    ≡ replicate (n * view_width + (n * holder_width + (m * server_width + (k * client_width + j * message_width)))) 0
unfolding view_bytes holder_bytes server_bytes client_bytes message_bytes entry_bytes
zero_groups n m k j =
    join5 (flat_zeros view_bytes view_width no_view refl n) (flat_zeros holder_bytes holder_width 0 refl n) (flat_zeros server_bytes server_width no_server refl m)
    (flat_zeros client_bytes client_width no_client refl k) (flat_zeros message_bytes message_width no_message refl j)
    ∙ zeros5 (n * view_width) (n * holder_width) (m * server_width) (k * client_width) (j * message_width)

blank_image : put_administrator (put (replicate image_size 0) version_place (le16 version)) first_view ≡ image_with blank none
unfolding image_with blank
blank_image =
    headed_zeros (image_size - header_width) ∙ ap (λ (l : List ℕ). header_bytes 0 first_view ++ l) (sym (zero_groups views servers clients (suc messages)))

seeded_fresh : (v : View) → seeded_world (with_view blank 1 v) v.members.0 servers ≡ fresh_world v
unfolding with_view blank fresh_world replace
seeded_fresh v =
    seeded_servers (with_view blank 1 v) v.members.0 servers
    ∙ rw (← seeded_list_lem (replicate servers no_server) v.members.0 (length-replicate servers no_server))

-- no server of the fresh world is faulty
fresh_correct : (v : View) (s : ℕ) → 1 ≤ s → s ≤ servers → (server (fresh_world v) s).faulty ≡ false
unfolding fresh_world server
fresh_correct v s a b = ap (λ (x : Server). x.faulty) (nth_list_to (fresh_server v.members.0) servers s no_server a b) ∙ go (holds v.members.0 s)
  where
    go : (t : Bool) → (if t (idle_server 1 1) no_server).faulty ≡ false
    go true = refl
    go false = refl

fresh_holders : (v : View) → holder_list (fresh_world v) ≡ none
unfolding holder_list bad
fresh_holders v =
    list_to_nth (holders (fresh_world v)) none 0 views length_none
    (λ t a b. holders_none (fresh_world v) t (λ s c d. rw (fresh_correct v s c d)) ∙ sym (nth_none t b))

-- "Members hold view 1, key 1 and the empty entry; all else is zero but version and newest view 1."
fresh_image : (v : View)
    → seeded (put_view (put_administrator (put (replicate image_size 0) version_place (le16 version)) first_view) 1 v) v.members.0 servers ≡ encode (fresh_world v)
unfolding encode
fresh_image v =
    ap (λ (i : List ℕ). seeded (put_view i 1 v) v.members.0 servers) blank_image
    ∙ ap (λ (i : List ℕ). seeded i v.members.0 servers) (put_view_with blank none blank_full length_none 1 (omega arith) (omega arith) v)
    ∙ seeded_image (with_view blank 1 v) (full_view blank blank_full 1 v) v.members.0 servers (omega arith)
    ∙ ap₂ (λ (w : World) (c : List ℕ). image_with w c) (seeded_fresh v) (sym (fresh_holders v))

pub fresh_stored : (i : List ℕ) (v : View) → length i ≡ image_size
    → seeded (put_view (put_administrator (put (replicate (length i) 0) version_place (le16 version)) first_view) 1 v) v.members.0 servers ≡ encode (fresh_world v)
fresh_stored i v e =
    ap (λ (n : ℕ). seeded (put_view (put_administrator (put (zeros n) version_place (le16 version)) first_view) 1 v) v.members.0 servers) e ∙ fresh_image v

pub seeded_next : (l : List ℕ) (bits n : ℕ) → 1 ≤ n → seeded l bits n ≡ put_server (seeded l bits (n - 1)) n (fresh_server bits n)
unfolding seeded
seeded_next l bits zero h = absurd (omega arith)
seeded_next l bits (suc n) h = let e : suc n - 1 ≡ n = omega arith in rw e
