-- Readable, tested record by record on the bytes. Assumes nothing.
use Rattle.std.specs.Prelude.{◌≡◌, Bool, true, false, ◌&&◌, List, length, leb, eqb, Option, Some, None}
use Rattle.std.proofs.Common.{sym, ◌∙◌, arith}
use Rattle.std.proofs.lemmas.Bool.{and_parts, and_from}
use Rattle.std.specs.Cmp.{both_ways}
use Prim.Native.Nat.{ℕ, zero, suc, ◌≤◌}
use borrow.Author.Tests.{eqb-true, eq-eqb, ne_eqb}
use Rattle.protocol.specs.declared.Message.{Message}
use Rattle.protocol.specs.Tools.{if, count_to, all_to, sum_to}
use Rattle.protocol.specs.Sizes.{clients, servers, views, messages}
use Rattle.protocol.specs.Worlds.{World, message, present}
use Rattle.protocol.specs.Readable.{view_rule, server_rule, message_rule, last_of, is_asked}
use Rattle.protocol.specs.Readable.{is_sent, sent_fits, phase_fits, header_fits, last_view, view_fits, server_fits, client_range, client_fits, zero_message, message_fits, taken_answer, chain_fits}
use Rattle.codec.specs.Layout.{image_size, header_width}
use Rattle.codec.specs.Lists.{part}
use Rattle.codec.specs.Bytes.{Bytes}
use Rattle.codec.specs.Places.{used_at, administrator_at, view_at, server_at, client_at, message_at}
use Rattle.codec.specs.Images.{decode}
use Rattle.codec.specs.Laws.{decode_full, used_decode, view_decode, server_decode, client_decode, message_decode}
use Rattle.codec.specs.Records.{header_plain}
use Rattle.codec.specs.Whole.{Plain, view_plain_at, server_plain_at, client_plain_at, message_plain_at, encode_decode, plain_image}
use Rattle.protocol.specs.Readable.{view_rule, server_rule, message_rule}
use Rattle.protocol.proofs.Laws.Tests.{all_to_at, all_to_lem}
use Rattle.key_holders.specs.Counts.{Each}
use Rattle.key_holders.specs.Holders.{holder_ok, Served}
use Rattle.protocol.proofs.Laws.Formed.{formed, well_formed_lem, header_of_lem, header_parts}
use Rattle.protocol.proofs.Laws.Moves.{present_is}
use Rattle.readable.specs.Formed.{Headed, headed}
use Rattle.readable.specs.Chains.{chain_sound, links, is_taken, chains_fit, chains_fit_lem, taken_parts}
use Rattle.readable.specs.Readable.{readable, Read, read, read_back}

-- ---- the tests of an image

unfoldable pub header_ok : List ℕ → Bool
header_ok i = header_plain (part i 0 header_width) && header_fits (decode i)

unfoldable pub view_ok : List ℕ → ℕ → Bool
view_ok i t = view_plain_at i t && view_fits (decode i) t

unfoldable pub server_ok : List ℕ → ℕ → Bool
server_ok i s = server_plain_at i s && server_fits (decode i) s

unfoldable pub client_ok : List ℕ → ℕ → Bool
client_ok i c = client_plain_at i c && client_fits (decode i) c

-- "message 0 all zero"
unfoldable pub first_ok : List ℕ → Bool
first_ok i = message_plain_at i 0 && zero_message (message (decode i) 0)

unfoldable pub message_ok : List ℕ → ℕ → Bool
message_ok i n = message_plain_at i n && message_fits (decode i) n

unfoldable pub messages_ok : List ℕ → Bool
messages_ok i = first_ok i && all_to (message_ok i) messages

unfoldable pub scanned : List ℕ → Bool
scanned i =
    header_ok i
    && (all_to (view_ok i) views
    && (all_to (server_ok i) servers && (all_to (client_ok i) clients && (messages_ok i && (chains_fit (decode i) && all_to (holder_ok i) views)))))

-- an image of the right length with a header that fits
pub record Open (i : List ℕ) : Type 0 where
  pub size : length i ≡ image_size
  pub head : Headed (decode i)

pub open_header : (i : List ℕ) → length i ≡ image_size → header_ok i ≡ true → Open i
unfolding header_ok
open_header i s e =
    record { size = s; head = headed (decode i) (and_parts (header_plain (part i 0 header_width)) (header_fits (decode i)) e).1 }

-- message n, if it was sent; and if it is of that kind and sender besides
abbrev pub sent : World → ℕ → Option Message
sent w n = if (present w n) (Some (message w n)) None

abbrev pub sent_as : World → ℕ → ℕ → ℕ → Option Message
sent_as w n kind sender = if (is_sent w n kind sender) (Some (message w n)) None

-- a message that was sent has a record
pub present_used : (i : List ℕ) (n : ℕ) → present (decode i) n ≡ true → used_at i ≤ messages → n ≤ messages
unfolding decode
present_used i n e h = let p = present_is (decode i) n e in omega arith

pub taken_used : (i : List ℕ) (r n : ℕ) → taken_answer (decode i) r n ≡ true → used_at i ≤ messages → n ≤ messages
taken_used i r n e h = present_used i n (taken_parts (decode i) r n e).present h

pub open_used : (i : List ℕ) → Open i → used_at i ≤ messages
unfolding decode
open_used i o = o.head.used

pub open_high : (i : List ℕ) → Open i → (administrator_at i).newest.0 ≤ views
unfolding decode
open_high i o = o.head.high

-- every server was tested
pub servers_served : (i : List ℕ) → all_to (server_ok i) servers ≡ true → Served (decode i)
unfolding server_ok
servers_served i e =
    record { one = λ s a b. (and_parts (server_plain_at i s) (server_fits (decode i) s) (all_to_at (server_ok i) servers s e a b)).1 }

-- ---- a record's clause is that of the record in the image

pub view_rule_lem : (i : List ℕ) (t : ℕ) → 1 ≤ t → t ≤ views → view_fits (decode i) t ≡ view_rule (last_of (administrator_at i)) t (view_at i t)
unfolding view_fits last_view decode
view_rule_lem i t a b = rw (view_decode i t a b)

pub server_rule_lem : (i : List ℕ) (s : ℕ) → 1 ≤ s → s ≤ servers → server_fits (decode i) s ≡ server_rule (administrator_at i).newest.0 (server_at i s)
unfolding server_fits decode
server_rule_lem i s a b = rw (server_decode i s a b)

pub sent_rule : (i : List ℕ) (newest : ℕ) (m : Message) → newest ≡ (administrator_at i).newest.0
    → message_rule newest m (is_asked (decode i) m.request.0) ≡ sent_fits (decode i) m
unfolding sent_fits decode
sent_rule i newest m e = rw e

pub beyond_rule : (i : List ℕ) (used n : ℕ) → used ≡ used_at i → n ≤ messages
    → message_fits (decode i) n ≡ if (leb n used) (sent_fits (decode i) (message_at i n)) (zero_message (message_at i n))
unfolding message_fits
beyond_rule i used n e b = rw (message_decode i n b, e ∙ sym (used_decode i))

pub client_rule_lem : (i : List ℕ) (c : ℕ) → 1 ≤ c → c ≤ clients
    → client_fits (decode i) c ≡ client_range (client_at i c) && phase_fits (decode i) c (client_at i c) (client_at i c).phase
unfolding client_fits
client_rule_lem i c a b = rw (client_decode i c a b)

pub chains_rule : (i : List ℕ) (used : ℕ) → used ≡ used_at i
    → chains_fit (decode i) ≡ all_to (chain_sound (decode i)) used && eqb (sum_to (links (decode i)) used) (count_to (is_taken (decode i)) used)
unfolding chains_fit
chains_rule i used e = rw (e ∙ sym (used_decode i))

-- ---- both tests of an image are one

both_all : (p q : ℕ → Bool) (n : ℕ) → ((k : ℕ) → 1 ≤ k → k ≤ n → p k ≡ true) → ((k : ℕ) → 1 ≤ k → k ≤ n → q k ≡ true) → all_to (λ k. p k && q k) n ≡ true
both_all p q n f g = all_to_lem (λ k. p k && q k) n (λ k a b. and_from _ _ (f k a b) (g k a b))

left_all : (p q : ℕ → Bool) (n : ℕ) → all_to (λ k. p k && q k) n ≡ true → (k : ℕ) → 1 ≤ k → k ≤ n → p k ≡ true
left_all p q n e k a b = (and_parts (p k) (q k) (all_to_at (λ j. p j && q j) n k e a b)).0

right_all : (p q : ℕ → Bool) (n : ℕ) → all_to (λ k. p k && q k) n ≡ true → (k : ℕ) → 1 ≤ k → k ≤ n → q k ≡ true
right_all p q n e k a b = (and_parts (p k) (q k) (all_to_at (λ j. p j && q j) n k e a b)).1

from_zero : (p : ℕ → Bool) (n : ℕ) → p 0 ≡ true → ((k : ℕ) → 1 ≤ k → k ≤ n → p k ≡ true) → (k : ℕ) → k ≤ n → p k ≡ true
from_zero p n z f zero b = z
from_zero p n z f (suc k) b = f (suc k) (omega arith) b

module _ (i : List ℕ) (size : length i ≡ image_size) (bytes : Bytes i) where
  messages_used : (w : World) → w.used ≤ messages → ((k : ℕ) → 1 ≤ k → k ≤ messages → message_fits w k ≡ true) → Each w.used (λ k. message_fits w k ≡ true)
  messages_used w u f = record { one = λ k a b. f k a (omega arith) }

  read_scan : Read i → scanned i ≡ true
  unfolding scanned header_ok view_ok server_ok client_ok messages_ok first_ok message_ok holder_ok
  read_scan r =
      let p = plain_image i r.image in
      let f = formed (decode i) r.world in
      and_from _ _ (and_from _ _ p.header (header_of_lem f))
      (and_from _ _ (both_all (view_plain_at i) (view_fits (decode i)) views p.view f.viewed)
      (and_from _ _ (both_all (server_plain_at i) (server_fits (decode i)) servers p.server f.served)
      (and_from _ _ (both_all (client_plain_at i) (client_fits (decode i)) clients p.client f.client)
      (and_from _ _
      (and_from _ _ (and_from _ _ (p.message 0 (omega arith)) f.zero)
      (both_all (message_plain_at i) (message_fits (decode i)) messages (λ k a b. p.message k b) f.mail))
      (and_from _ _ (sym (chains_fit_lem (decode i) (messages_used (decode i) f.full f.mail)) ∙ all_to_lem (chain_fits (decode i)) (decode i).used f.chained)
      (all_to_lem (holder_ok i) views (λ t a b. eq-eqb _ _ (p.holder t a b))))))))

  scan_read : scanned i ≡ true → Read i
  unfolding scanned header_ok view_ok server_ok client_ok messages_ok first_ok message_ok holder_ok
  scan_read e =
      let a = and_parts (header_ok i)
      (all_to (view_ok i) views && (all_to (server_ok i) servers && (all_to (client_ok i) clients && (messages_ok i && (chains_fit (decode i) && all_to (holder_ok i) views))))) e in
      let b = and_parts (all_to (view_ok i) views) (all_to (server_ok i) servers && (all_to (client_ok i) clients && (messages_ok i && (chains_fit (decode i) && all_to (holder_ok i) views)))) a.1 in
      let c = and_parts (all_to (server_ok i) servers) (all_to (client_ok i) clients && (messages_ok i && (chains_fit (decode i) && all_to (holder_ok i) views))) b.1 in
      let d = and_parts (all_to (client_ok i) clients) (messages_ok i && (chains_fit (decode i) && all_to (holder_ok i) views)) c.1 in
      let f = and_parts (messages_ok i) (chains_fit (decode i) && all_to (holder_ok i) views) d.1 in
      let j = and_parts (chains_fit (decode i)) (all_to (holder_ok i) views) f.1 in
      let g = and_parts (first_ok i) (all_to (message_ok i) messages) f.0 in
      let h = and_parts (header_plain (part i 0 header_width)) (header_fits (decode i)) a.0 in
      let z = and_parts (message_plain_at i 0) (zero_message (message (decode i) 0)) g.0 in
      let m = right_all (message_plain_at i) (message_fits (decode i)) messages g.1 in
      let full = decode_full i in
      let head = header_parts (decode i) h.1 in
      let plain : Plain i = record {
        header = h.0;
        view = left_all (view_plain_at i) (view_fits (decode i)) views b.0;
        server = left_all (server_plain_at i) (server_fits (decode i)) servers c.0;
        holder = λ t a b. eqb-true _ _ (all_to_at (holder_ok i) views t j.1 a b);
        client = left_all (client_plain_at i) (client_fits (decode i)) clients d.0;
        message = λ n y. from_zero (message_plain_at i) messages z.0 (left_all (message_plain_at i) (message_fits (decode i)) messages g.1) n y;
      } in
      record {
        size = size;
        image = encode_decode i size bytes plain;
        world = well_formed_lem (decode i)
            (record {
              view_count = full.view;
              server_count = full.server;
              client_count = full.client;
              message_count = full.message;
              full = head.0;
              low = head.1.0;
              high = head.1.1;
              ending = head.2;
              viewed = right_all (view_plain_at i) (view_fits (decode i)) views b.0;
              served = right_all (server_plain_at i) (server_fits (decode i)) servers c.0;
              client = right_all (client_plain_at i) (client_fits (decode i)) clients d.0;
              zero = z.1;
              mail = m;
              chained = λ r. all_to_at (chain_fits (decode i)) (decode i).used r (chains_fit_lem (decode i) (messages_used (decode i) head.0 m) ∙ j.0);
            });
      }

  -- the definition and the scan agree on every byte string of the right length
  pub readable_scan : readable i ≡ scanned i
  readable_scan = both_ways (readable i) (scanned i) (λ e. read_scan (read i e)) (λ e. read_back i (scan_read e))

-- and no other length is readable
pub readable_size : (i : List ℕ) → (length i ≡ image_size → ⊥) → readable i ≡ false
unfolding readable
readable_size i n = rw (ne_eqb (length i) image_size n)

-- a readable image has a header that fits
-- No proof cites it; it stands for who reads the definitions.
pub readable_open : (i : List ℕ) → readable i ≡ true → Open i
readable_open i e = let r = read i e in record { size = r.size; head = let f = formed (decode i) r.world in record { used = f.full; high = f.high } }
