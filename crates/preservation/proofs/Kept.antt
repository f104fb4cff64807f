-- Every accepted step keeps a world readable. Assumes nothing.
use Rattle.std.specs.Prelude.{ℕ, zero, suc, ◌+◌, ◌/◌, ◌%◌, ◌^◌, ◌≤◌, ◌<◌, Bool, not, ◌&&◌, ◌||◌, ◌≡◌, ◌⊎◌, List, [], ◌∷◌, ltb, leb, eqb, None, Some}
use Rattle.std.proofs.Common.{le_refl, lt_of_lt_of_le, arith, sym, ◌∙◌, inl, inr, pow_mono, ltb-true, leb-true, eqb-true, lt-ltb, le-leb, eq-eqb, ne_eqb}
use Rattle.std.proofs.Math.Nat.{div-eq_of_lt}
use Rattle.std.proofs.Math.Decide.{dec_le}
use Rattle.std.proofs.Math.Bool.{true, false}
use Rattle.std.proofs.Math.Path.{refl, ap, subst}
use Rattle.std.specs.Int.Bits.{or_lt}
use Rattle.std.proofs.Math.Pow.{pow_pos, pow-lt}
use Rattle.std.proofs.lemmas.Bool.{eqb-false, not-true, and_from, or_left, or_right}
use Rattle.std.specs.Cmp.{first_so, second_so}
use Rattle.protocol.specs.declared.MessageNumber.{MessageNumber}
use Rattle.protocol.specs.declared.Entry.{Entry}
use Rattle.protocol.specs.declared.View.{View}
use Rattle.protocol.specs.declared.Server.{Server}
use Rattle.protocol.specs.declared.Client.{Client}
use Rattle.protocol.specs.declared.Message.{Message}
use Rattle.protocol.specs.declared.Shown.{Shown}
use Rattle.protocol.specs.declared.Step.{Step}
use Rattle.protocol.specs.declared.Phase.{Phase}
use Rattle.protocol.specs.declared.Phase.TheVariants.{Idle, Reading, Writing}
use Rattle.protocol.specs.declared.Administrator.{Administrator}
use Rattle.protocol.specs.Types.{Ending}
use Rattle.protocol.specs.Tools.{if, within, all, holds, bit_of, done, guard, passed, same_done}
use Rattle.protocol.specs.Sizes.{clients, servers, views, messages, last_count, sized, write_size}
use Rattle.protocol.specs.Entries.{entry, empty, count_of, writer_of, larger, chosen, same, entry_fits}
use Rattle.protocol.specs.declared.Reply.{Reply}
use Rattle.protocol.specs.Servers.{READ, WRITE, END, START, ANSWER, is_request, comparing, replacing, without_key, joining, gathering, may_answer}
use Rattle.protocol.specs.Clients.{NONE, WRITES, READS, number, begin, close_size, next_count, to_write, given_by, count_left, give_up, Close, write_next, complete_with, once, close_by, close, is_ending, end_of, request_of, call, advance, keeps_view, restart}
use Rattle.protocol.specs.Worlds.{World, view, server, client, message, newest, member, present, room, with_server, with_client, with_view, with_message, with_administrator, send, next_number, as_sent}
use Rattle.protocol.specs.Chains.{chain, tagged, enough, shown}
use Rattle.protocol.specs.Steps.{After, moved, request, answer, answers, begins, deliver, link, open?, taken_with, at_once, closes, starts, takes, take, fault, source?, lie, new_view, emptied, restarts, gives_up, write_step, read_step, deliver_step, fault_step, false_step, give_up_step, row_of, view_asked, step}
use Rattle.protocol.specs.Readable.{is_sent, ending_fits, server_fits, phase_fits, client_range, client_fits, entry_zero, sent_fits, taken_answer}
use Rattle.protocol.proofs.Laws.Tests.{clash, within_true, went, is_within}
use Rattle.protocol.proofs.Laws.Entries.{larger_one, Listed, head, tail, chosen_one, same_refl}
use Rattle.protocol.proofs.Laws.Worlds.{content, sent, message_new}
use Rattle.protocol.proofs.Laws.Moves.{is_done, room_left, Serving, reads, writes, ends, joins, gathers, serving, present_is}
use Rattle.protocol.proofs.Laws.Kinds.{IsClient, IsServer, client_of_lem as who_client, server_of_lem as who_server, value_of, by_kind, not_end}
use Rattle.protocol.proofs.Laws.Formed.{Formed, formed, well_formed_lem, SentParts, sent_parts}
use Rattle.protocol.proofs.Laws.Lists.{all_map}
use Rattle.protocol.proofs.Laws.Turns.{refused_done}
use Rattle.protocol.proofs.Laws.Sound.{link_used, used_send}
use Rattle.preservation.proofs.Formed.{sent_on}
use Rattle.preservation.proofs.Chained.{chained}
use Rattle.preservation.specs.Links.{Untaken}
use Rattle.preservation.proofs.Links.{taken_is}
use Rattle.preservation.specs.Emptied.{Rooted}
use Rattle.preservation.specs.Kept.{StepKept}
use Rattle.preservation.proofs.Emptied.{emptied_sent}
use Rattle.preservation.proofs.Updates.{server_ok, mail_sent, request_of_lem, short, client_ok, formed_server, formed_client, formed_send, formed_link, emptied_onward, formed_emptied, formed_raise, formed_call}

-- ---- entries and keys

fits_larger : (a b : Entry) → entry_fits a ≡ true → entry_fits b ≡ true → entry_fits (larger a b) ≡ true
fits_larger a b p q = go (larger_one a b)
  where
    go : (larger a b ≡ a) ⊎ (larger a b ≡ b) → entry_fits (larger a b) ≡ true
    go (inl e) = ap entry_fits e ∙ p
    go (inr e) = ap entry_fits e ∙ q

-- a set of numbers up to n holds no larger one
holds_bound : (keys t n : ℕ) → holds keys t ≡ true → keys < 2 ^ n → (1 ≤ t) × (t ≤ n)
unfolding holds
holds_bound keys zero n e h = clash e refl
holds_bound keys (suc k) n e h = (omega arith, go (dec_le (suc k) n))
  where
    none : n ≤ k → keys / 2 ^ k % 2 ≡ 0
    none l = rw (div-eq_of_lt (lt_of_lt_of_le h (pow_mono l))) refl

    go : Dec (suc k ≤ n) → suc k ≤ n
    go (yes l) = l
    go (no l) = let z : ◌≡◌ {A = ℕ} 0 1 = sym (none (omega arith)) ∙ eqb-true _ _ e in absurd (omega arith)

bit_bound : (t n : ℕ) → 1 ≤ t → t ≤ n → bit_of t < 2 ^ n
unfolding bit_of
bit_bound zero n l h = absurd (omega arith)
bit_bound (suc k) n l h = pow-lt h

-- ---- what a server's clause says

record Serves (n : ℕ) (a : Server) : Type 0 where
  view : a.view.0 ≤ n
  keys : a.keys.0 < 2 ^ n
  own : (a.faulty || (eqb a.keys.0 0 || eqb a.keys.0 (bit_of a.view.0))) ≡ true
  entry : entry_fits a.entry ≡ true

serves : (n : ℕ) (a : Server) → server_ok n a ≡ true → Serves n a
serves n a e =
    let e1 = second_so (leb a.view.0 n) _ e in
    let e2 = second_so (ltb a.keys.0 (2 ^ n)) _ e1 in
    record {
      view = leb-true _ _ (first_so _ _ e);
      keys = ltb-true _ _ (first_so _ _ e1);
      own = first_so _ _ e2;
      entry = second_so (a.faulty || (eqb a.keys.0 0 || eqb a.keys.0 (bit_of a.view.0))) _ e2;
    }

is_served : (n : ℕ) (a : Server) → Serves n a → server_ok n a ≡ true
is_served n a h = and_from _ _ (le-leb _ _ h.view) (and_from _ _ (lt-ltb _ _ h.keys) (and_from _ _ h.own h.entry))

-- the server of w with the number s
server_of_lem : {w : World} → Formed w → (s : ℕ) → IsServer s → Serves (newest w) (server w s)
unfolding server_fits
server_of_lem {w} h s i = serves (newest w) (server w s) (h.served s i.low i.high)

-- ---- what a message's clause says

pub mailed : {w : World} → Formed w → (n : ℕ) → 1 ≤ n → n ≤ w.used → SentParts w (message w n)
mailed {w} h n l u = sent_parts w (message w n) (mail_sent h n l u)

-- an answer that fits
answer_fits_lem : (w : World) (s n : ℕ) (x : Shown) → IsServer s → 1 ≤ x.view.0 → x.view.0 ≤ newest w → (present w n && is_request (message w n).kind) ≡ true → entry_fits x.entry ≡ true
    → sent_fits w (answer s n x) ≡ true
unfolding sent_fits
answer_fits_lem w s n x i l u q e = and_from _ _ (is_within 1 servers s i.low i.high) (and_from _ _ (is_within 1 (newest w) x.view.0 l u) (and_from _ _ q e))

asks : (w : World) (n : ℕ) → present w n ≡ true → is_request (message w n).kind ≡ true → (present w n && is_request (message w n).kind) ≡ true
asks w n p k = and_from _ _ p k

replacing_low : (a : Server) (e : Entry) (b : Bool) → 1 ≤ a.view.0 → 1 ≤ (replacing a e b).view.0
unfolding replacing
replacing_low a e b l = l

replacing_high : (n : ℕ) (a : Server) (e : Entry) (b : Bool) → a.view.0 ≤ n → (replacing a e b).view.0 ≤ n
unfolding replacing
replacing_high n a e b l = l

source_fits : {w : World} → Formed w → (source : ℕ) → source? w source ≡ true → entry_fits (if (eqb source 0) empty (message w source).entry) ≡ true
unfolding source? entry_fits
source_fits {w} h source e = go (eqb source 0) e
  where
    go : (b : Bool) → (b || (present w source && eqb (message w source).kind WRITE)) ≡ true → entry_fits (if b empty (message w source).entry) ≡ true
    go true e = refl
    go false e = let (l, u) = present_is w source (first_so _ _ e) in (mailed h source l u).entry

-- ---- deliver, fault and false answer

module _ {w : World} (h : Formed w) {s : ℕ} (i : IsServer s) where
  silent : (b : Server) → Serves (newest w) b → (a : After) → moved (with_server w s b) ≡ done a → Formed a.world
  silent b k a e = subst (λ (x : After). Formed x.world) (same_done e) (formed_server h s i.low i.high b (is_served (newest w) b k))

  answered : (b : Server) (n : ℕ) (x : Shown) → Serves (newest w) b → 1 ≤ x.view.0 → x.view.0 ≤ newest w → (present w n && is_request (message w n).kind) ≡ true → entry_fits x.entry ≡ true
      → (a : After) → guard (room w) 10 (moved (send (with_server w s b) (answer s n x))) ≡ done a → Formed a.world
  unfolding with_server present message
  answered b n x k l u q e a d =
      let (p, d1) = passed _ _ _ _ d in
      subst (λ (y : After). Formed y.world) (same_done d1)
      (formed_send (formed_server h s i.low i.high b (is_served (newest w) b k)) (answer s n x) (room_left w p) (answer_fits_lem (with_server w s b) s n x i l u q e) refl refl)

  replacing_serves : (a : Server) (e : Entry) (b : Bool) → Serves (newest w) a → entry_fits e ≡ true → Serves (newest w) (replacing a e b)
  unfolding replacing
  replacing_serves a e b k f = record { view = k.view; keys = k.keys; own = k.own; entry = go b }
    where
      go : (b : Bool) → entry_fits (if b e a.entry) ≡ true
      go true = f
      go false = k.entry

  without_key_serves : (a : Server) → Serves (newest w) a → Serves (newest w) (without_key a)
  unfolding without_key
  without_key_serves a k = record { view = k.view; keys = pow_pos (newest w); own = or_right a.faulty _ refl; entry = k.entry }

  module _ (a : Server) (m : Message) (k : Serves (newest w) a) (l : 1 ≤ m.view.0) (u : m.view.0 ≤ newest w) (f : entry_fits m.entry ≡ true) where
    joining_serves : Serves (newest w) (joining a m)
    unfolding joining
    joining_serves =
        record {
          view = u;
          keys = bit_bound m.view.0 (newest w) l u;
          own = or_right a.faulty _ (or_right (eqb (bit_of m.view.0) 0) _ (eq-eqb (bit_of m.view.0) (bit_of m.view.0) refl));
          entry = fits_larger a.entry m.entry k.entry f;
        }

    gathering_serves : a.faulty ≡ true → Serves (newest w) (gathering a m)
    unfolding gathering
    gathering_serves e =
        record {
          view = k.view;
          keys = or_lt (newest w) a.keys.0 (bit_of m.view.0) k.keys (bit_bound m.view.0 (newest w) l u);
          own = or_left a.faulty _ e;
          entry = k.entry;
        }

  start_tag : (m : Message) → SentParts w m → m.kind ≡ START → (1 ≤ m.view.0) × (m.view.0 ≤ newest w)
  start_tag m k e = within_true 1 (newest w) m.view.0 (rw e at k.tag)

  deliver_kept : (n : ℕ) (a : After) → deliver w s n ≡ done a → Formed a.world
  unfolding deliver
  deliver_kept n a e =
      let (p, e1) = passed _ _ _ _ e in
      let g = went _ _ _ e1 in
      go p (present_is w n p) g.value (serving _ _ _ _ g.is) g.on
    where
      k : Serves (newest w) (server w s)
      k = server_of_lem h s i

      bounds : holds (server w s).keys.0 (server w s).view.0 ≡ true → (1 ≤ (server w s).view.0) × ((server w s).view.0 ≤ newest w)
      bounds q = holds_bound (server w s).keys.0 (server w s).view.0 (newest w) q k.keys

      go : present w n ≡ true → (1 ≤ n) × (n ≤ w.used) → (y : Reply) → Serving (server w s) (message w n) (member w (message w n).view.0 s) y → answers y.answer w s n y.server
          ≡ done a → Formed a.world
      go p r y (reads c q d) e = let b = bounds q in answered _ n _ k b.0 b.1 (asks w n p (rw c refl)) k.entry a (rw d at e)
      go p r y (writes c q d) e =
          let b = bounds q in
          let x = replacing_serves (server w s) (message w n).entry later k (mailed h n r.0 r.1).entry in
          answered _ n _ x (replacing_low (server w s) (message w n).entry later b.0) (replacing_high (newest w) (server w s) (message w n).entry later b.1) (asks w n p (rw c refl))
          x.entry a (rw d at e)
        where
          later : Bool
          later = comparing (server w s) (message w n).entry
      go p r y (ends c f q d) e = let b = bounds q in answered _ n _ (without_key_serves (server w s) k) b.0 b.1 (asks w n p (rw c refl)) k.entry a (rw d at e)
      go p r y (joins c t l f d) e =
          let m = mailed h n r.0 r.1 in
          let b = start_tag (message w n) m c in
          silent _ (joining_serves (server w s) (message w n) k b.0 b.1 m.entry) a (rw d at e)
      go p r y (gathers c t f d) e =
          let m = mailed h n r.0 r.1 in
          let b = start_tag (message w n) m c in
          silent _ (gathering_serves (server w s) (message w n) k b.0 b.1 m.entry f) a (rw d at e)

  fault_kept : (a : After) → fault w s ≡ done a → Formed a.world
  unfolding fault
  fault_kept a e =
      let (p, e1) = passed _ _ _ _ e in
      let k = server_of_lem h s i in
      silent _ (record { view = k.view; keys = k.keys; own = refl; entry = k.entry }) a e1

  lie_kept : (t n source : ℕ) (a : After) → lie w s t n source ≡ done a → Formed a.world
  unfolding lie may_answer
  lie_kept t n source a e =
      let (p, e1) = passed _ _ _ _ e in
      let g = went _ _ _ e1 in
      let (q, f1) = passed _ _ _ _ g.is in
      let (f, f2) = passed _ _ _ _ f1 in
      let (y, f3) = passed _ _ _ _ f2 in
      let (l, e2) = passed _ _ _ _ g.on in
      let b = holds_bound (server w s).keys.0 t (newest w) y (server_of_lem h s i).keys in
      subst (λ (x : After). Formed x.world) (same_done e2)
      (formed_send h _ (room_left w l) (answer_fits_lem w s n (record { view = record { 0 = t }; entry = if (eqb source 0) empty (message w source).entry }) i b.0 b.1
      (asks w n p (first_so _ _ q)) (entries (second_so (is_request (message w n).kind) _ q))) refl refl)
    where
      entries : source? w source ≡ true → entry_fits (if (eqb source 0) empty (message w source).entry) ≡ true
      entries q = source_fits h source q

-- ---- write and read

-- a client's record and a message are set in either sequence
send_client : (w : World) (c : ℕ) (a : Client) (m : Message) → Formed (with_client (send w m) c a) → Formed (send (with_client w c a) m)
unfolding with_client send
send_client w c a m h = h

empty_zero : (c : ℕ) → entry_zero (request READ c 0 empty) ≡ true
unfolding same
empty_zero c = refl

empty_fits : entry_fits empty ≡ true
unfolding entry_fits
empty_fits = refl

value_fits : (value : ℕ) → value ≤ last_count → entry_fits (entry 0 0 value) ≡ true
unfolding entry_fits
value_fits value l = lt-ltb value (2 ^ 32) (omega arith)

-- a message of w's successor by its number
new_sent : {w : World} → Formed w → (m : Message) → w.used < messages → (kind sender : ℕ) → m.kind ≡ kind → m.sender ≡ sender → is_sent (send w m) (w.used + 1) kind sender ≡ true
unfolding is_sent present
new_sent {w} h m l kind sender p q =
    let e : message (send w m) (w.used + 1) ≡ m = message_new w m (omega (arith, h.message_count)) in
    and_from _ _ (is_within 1 (send w m).used (w.used + 1) (omega arith) (omega (arith, used_send w m)))
    (and_from _ _ (eq-eqb _ _ (ap (λ (x : Message). x.kind) e ∙ p)) (eq-eqb _ _ (ap (λ (x : Message). x.sender) e ∙ q)))

-- a READ or WRITE of client c that fits
client_message : (w : World) (c kind : ℕ) (e : Entry) → IsClient c → (kind ≡ READ) ⊎ (kind ≡ WRITE) → entry_zero (request kind c 0 e) ≡ true → entry_fits e ≡ true
    → sent_fits w (request kind c 0 e) ≡ true
unfolding sent_fits
client_message w c kind e i (inl k) z f = rw k (and_from _ _ (is_within 1 clients c i.low i.high) (and_from _ _ (rw k at z) f))
client_message w c kind e i (inr k) z f = rw k (and_from _ _ (is_within 1 clients c i.low i.high) (and_from _ _ (rw k at z) f))

-- the clause of a client
record Client-of (w : World) (c : ℕ) : Type 0 where
  entry : entry_fits (client w c).entry ≡ true
  given : ltb (client w c).given.0 (2 ^ 32) ≡ true
  phase : phase_fits w c (client w c) (client w c).phase ≡ true

client_of_lem : {w : World} → Formed w → (c : ℕ) → IsClient c → Client-of w c
unfolding client_fits client_range
client_of_lem {w} h c i =
    let e = h.client c i.low i.high in
    let r = first_so _ _ e in
    record { entry = first_so _ _ r; given = second_so (entry_fits (client w c).entry) _ r; phase = second_so (client_range (client w c)) _ e }

begins_kept : {w : World} → Formed w → {c : ℕ} → IsClient c → (kind value : ℕ) → (kind ≡ WRITES) ⊎ ((kind ≡ READS) × (value ≡ 0)) → value ≤ last_count → (a : After) → begins w c kind value
    ≡ done a → Formed a.world
unfolding begins begin client_range
begins_kept {w} h {c} i kind value k v a e =
    let g = went _ _ _ e in
    let (q, f) = passed _ _ _ _ g.is in
    let (l, e1) = passed _ _ _ _ g.on in
    subst (λ (x : After). Formed x.world) (same_done e1) (go (room_left w l) g.value (is_done f))
  where
    m : Message
    m = request READ c 0 empty

    sends : w.used < messages → Formed (send w m)
    sends l = formed_send h m l (client_message w c READ empty i (inl refl) (empty_zero c) empty_fits) refl refl

    fits : w.used < messages → client_ok (send w m) c (record { phase = Reading (number (w.used + 1)); kind = kind; entry = entry 0 0 value; given = (client w c).given }) ≡ true
    fits l =
        and_from _ _ (and_from _ _ (value_fits value v) (client_of_lem h c i).given)
        (and_from _ _ (kinds k) (and_from _ _ (new_sent h m l READ c refl refl) (reading k)))
      where
        kinds : (kind ≡ WRITES) ⊎ ((kind ≡ READS) × (value ≡ 0)) → within WRITES READS kind ≡ true
        kinds (inl e) = rw e refl
        kinds (inr e) = rw e.0 refl

        reading : (kind ≡ WRITES) ⊎ ((kind ≡ READS) × (value ≡ 0)) → (eqb kind WRITES || eqb value 0) ≡ true
        reading (inl e) = or_left (eqb kind WRITES) _ (eq-eqb _ _ e)
        reading (inr e) = or_right (eqb kind WRITES) _ (eq-eqb _ _ e.1)

    go : w.used < messages → (b : Client) → b ≡ record { phase = Reading (number (w.used + 1)); kind = kind; entry = entry 0 0 value; given = (client w c).given } → Formed (send (with_client w c b) m)
    go l b q = rw q (send_client w c _ m (formed_client (sends l) c i.low i.high _ (fits l)))

-- ---- take

chosen_fits : (l : List Entry) → ((x : Entry) → Listed x l → entry_fits x ≡ true) → entry_fits (chosen l) ≡ true
chosen_fits [] f = empty_fits
chosen_fits (e ∷ l) f = f _ (chosen_one e l)

shown_fits : {w : World} → Formed w → (t : ℕ) (ks : List ℕ) → all (present w) ks ≡ true → (x : Entry) → Listed x (shown w t ks) → entry_fits x ≡ true
unfolding shown all
shown_fits h t [] a x i = elim i [ ]
shown_fits {w} h t (k ∷ ks) a x i = go (tagged w t k) i (shown_fits h t ks (second_so (present w k) _ a) x)
  where
    own : entry_fits (message w k).entry ≡ true
    own = let (l, u) = present_is w k (first_so _ _ a) in (mailed h k l u).entry

    go : (b : Bool) → Listed x (if b ((message w k).entry ∷ shown w t ks) (shown w t ks)) → (Listed x (shown w t ks) → entry_fits x ≡ true) → entry_fits x ≡ true
    go true (head e) f = ap entry_fits (sym e) ∙ own
    go true (tail j) f = f j
    go false j f = f j

-- the message that a client writes fits
to_write_fits : (c : Client) (who : ℕ) (e : Entry) → IsClient who → entry_fits c.entry ≡ true → entry_fits e ≡ true → count_left c e ≡ true → entry_fits (to_write c who e) ≡ true
unfolding to_write count_left entry_fits
to_write_fits c who e i f g l = go (eqb c.kind WRITES) l
  where
    go : (b : Bool) → (not b || leb (next_count c e) last_count) ≡ true → entry_fits (if b (entry (next_count c e) who c.entry.value) e) ≡ true
    go true k =
        let n : next_count c e ≤ last_count = leb-true _ _ k in
        and_from _ _ (lt-ltb (next_count c e) (2 ^ 32) (omega arith))
        (and_from _ _ (le-leb who clients i.high) (second_so (leb (writer_of c.entry) clients) _ (second_so (ltb (count_of c.entry) (2 ^ 32)) _ f)))
    go false k = g

given_by_fits : (c : Client) (e : Entry) → ltb c.given.0 (2 ^ 32) ≡ true → count_left c e ≡ true → ltb (given_by c e).0 (2 ^ 32) ≡ true
unfolding given_by count_left
given_by_fits c e f l = go (eqb c.kind WRITES) l
  where
    go : (b : Bool) → (not b || leb (next_count c e) last_count) ≡ true → ltb (if b (record { 0 = next_count c e }) c.given).0 (2 ^ 32) ≡ true
    go true k = let n : next_count c e ≤ last_count = leb-true _ _ k in lt-ltb (next_count c e) (2 ^ 32) (omega arith)
    go false k = f

linked_room : (w : World) (k : ℕ) → w.used < messages → (link w k).used < messages
linked_room w k l = omega (arith, link_used w k)

-- a client's WRITE is sent
wrote_kept : {w : World} → Formed w → {c : ℕ} → IsClient c → (a : Client) → w.used < messages → a.phase ≡ Writing (number (w.used + 1)) → within WRITES READS a.kind ≡ true
    → entry_fits a.entry ≡ true
    → ltb a.given.0 (2 ^ 32) ≡ true → Formed (send (with_client w c a) (request WRITE c 0 a.entry))
unfolding client_range
wrote_kept {w} h {c} i a l p k f g = send_client w c a m (formed_client (formed_send h m l (client_message w c WRITE a.entry i (inr refl) refl f) refl refl) c i.low i.high a fits)
  where
    m : Message
    m = request WRITE c 0 a.entry

    new : message (send w m) (w.used + 1) ≡ m
    new = message_new w m (omega (arith, h.message_count))

    fits : client_ok (send w m) c a ≡ true
    fits =
        and_from _ _ (and_from _ _ f g)
        (subst (λ (x : Phase). phase_fits (send w m) c a x ≡ true) (sym p)
        (and_from _ _ k (and_from _ _ (new_sent h m l WRITE c refl refl) (ap (λ (x : Message). same a.entry x.entry) new ∙ same_refl a.entry))))

-- an operation is complete
ended_fits_lem : (w : World) (c : ℕ) (a : Client) → a.phase ≡ Idle → within WRITES READS a.kind ≡ true → client_range a ≡ true → client_ok w c a ≡ true
ended_fits_lem w c a p k f =
    let (l, u) = within_true WRITES READS a.kind k in
    and_from _ _ f
    (subst (λ (x : Phase). phase_fits w c a x ≡ true) (sym p) (and_from _ _ (le-leb _ _ u) (or_left (not (eqb a.kind NONE)) _ (ap not (ne_eqb a.kind NONE (λ e. omega arith))))))

room_raised : (w : World) (a : Administrator) → w.used < messages → (with_administrator w a).used < messages
unfolding with_administrator
room_raised w a l = l

raised_newest : (w : World) → newest w + 1 ≤ newest (with_administrator w (advance w.administrator))
unfolding with_administrator advance
raised_newest w = le_refl _

start_fits : (w : World) (t : ℕ) (e : Entry) → 1 ≤ t → t ≤ newest w → entry_fits e ≡ true → sent_fits w (request START 0 t e) ≡ true
unfolding sent_fits
start_fits w t e l u f = and_from _ _ (is_within 1 (newest w) t l u) f

-- START is sent
start_kept : (w : World) (k : ℕ) → Formed (link w k) → (q : MessageNumber) → w.administrator.ending ≡ Some q → w.used < messages → (e : Entry) → entry_fits e ≡ true
    → Formed (send (with_administrator (link w k) (advance w.administrator)) (request START 0 (newest w + 1) e))
unfolding link with_message
start_kept w k h q n l e f = formed_send (formed_raise h q n) (request START 0 (newest w + 1) e) (room_raised (link w k) (advance w.administrator) l) fits refl refl
  where
    fits : sent_fits (with_administrator (link w k) (advance w.administrator)) (request START 0 (newest w + 1) e) ≡ true
    fits = start_fits (with_administrator (link w k) (advance w.administrator)) (newest w + 1) e (omega arith) (raised_newest (link w k)) f

module _ {w : World} (h : Formed w) {k r : ℕ} (u : Untaken w k r) where
  formed_linked : Formed (link w k)
  formed_linked = formed_link h u

  taken_present : all (present w) (taken_with w k) ≡ true
  unfolding all present
  taken_present =
      and_from _ _ (is_within 1 w.used k u.low u.below)
      (subst (λ (q : ℕ). all (present w) (chain w q) ≡ true) (sym u.request)
      (all_map (taken_answer w r) (present w) (chain w r) (λ j e. let i = taken_is w r j e in is_within 1 w.used j i.low i.below)
      (chained w r (h.chained r u.from u.to) u.asked).only))

  chosen_taken : (t : ℕ) → entry_fits (chosen (shown w t (taken_with w k))) ≡ true
  chosen_taken t = chosen_fits _ (shown_fits h t (taken_with w k) taken_present)

  -- a phase of client c closes
  closes_kept : (c : ℕ) → IsClient c → (t : ℕ) (one : Bool) (a : After) → closes w k c (chosen (shown w t (taken_with w k))) one ≡ done a → Formed a.world
  unfolding closes close client_range
  closes_kept c i t one a e = let g = went _ _ _ e in go (client w c).phase refl g.value g.is g.on
    where
      e' : Entry
      e' = chosen (shown w t (taken_with w k))

      o : Client-of w c
      o = client_of_lem h c i

      -- its operation is complete, with the entry y
      ends : {x : Close} {y : Entry} → x ≡ record { client = record { phase = Idle; kind = (client w c).kind; entry = y; given = (client w c).given }; complete = true } → entry_fits y ≡ true
          → within WRITES READS (client w c).kind ≡ true
          → if x.complete (done (record { world = with_client (link w k) c x.client; completed = c }))
          (guard (room w) 10 (moved (send (with_client (link w k) c x.client) (request WRITE c 0 x.client.entry)))) ≡ done a
          → Formed a.world
      ends {x} d f r e =
          subst (λ (z : After). Formed z.world) (same_done (rw (ap (λ (z : Close). z.complete) d) at e))
          (formed_client formed_linked c i.low i.high x.client
          (ended_fits_lem (link w k) c x.client (ap (λ (z : Close). z.client.phase) d) (ap (λ (z : Close). within WRITES READS z.client.kind) d ∙ r)
          (and_from _ _ (ap (λ (z : Close). entry_fits z.client.entry) d ∙ f) (ap (λ (z : Close). ltb z.client.given.0 (2 ^ 32)) d ∙ o.given))))

      -- its WRITE is sent
      writes : {q : MessageNumber} → (client w c).phase ≡ Reading q → (x : Close)
          → write_next (client w c) c e' (next_number w) ≡ done x
          → if x.complete (done (record { world = with_client (link w k) c x.client; completed = c }))
          (guard (room w) 10 (moved (send (with_client (link w k) c x.client) (request WRITE c 0 x.client.entry)))) ≡ done a
          → Formed a.world
      writes p x f e =
          let (n, f1) = passed _ _ _ _ f in
          let d = is_done f1 in
          let (l, e1) = passed _ _ _ _ (rw (ap (λ (z : Close). z.complete) d) at e) in
          subst (λ (z : After). Formed z.world) (same_done e1)
          (wrote_kept formed_linked i x.client (linked_room w k (room_left w l)) (ap (λ (z : Close). z.client.phase) d ∙ ap (λ (n : ℕ). Writing (number (n + 1))) (sym (link_used w k)))
          (ap (λ (z : Close). within WRITES READS z.client.kind) d ∙ first_so (within WRITES READS (client w c).kind) _ (rw p at o.phase))
          (ap (λ (z : Close). entry_fits z.client.entry) d ∙ to_write_fits (client w c) c e' i o.entry (chosen_taken t) n)
          (ap (λ (z : Close). ltb z.client.given.0 (2 ^ 32)) d ∙ given_by_fits (client w c) e' o.given n))

      go : (p : Phase) → (client w c).phase ≡ p → (x : Close) → close_by p (client w c) c e' one (next_number w) ≡ done x
          → if x.complete (done (record { world = with_client (link w k) c x.client; completed = c }))
          (guard (room w) 10 (moved (send (with_client (link w k) c x.client) (request WRITE c 0 x.client.entry)))) ≡ done a
          → Formed a.world
      go Idle p x f e = refused_done f
      go (Reading q) p x f e = either (once (client w c) one) f
        where
          either : (b : Bool)
              → if b (done (complete_with (client w c) e')) (write_next (client w c) c e' (next_number w)) ≡ done x
              → Formed a.world
          either true f = ends (is_done f) (chosen_taken t) (first_so (within WRITES READS (client w c).kind) _ (rw p at o.phase)) e
          either false f = writes p x f e
      go (Writing q) p x f e = ends (is_done f) o.entry (first_so (within WRITES READS (client w c).kind) _ (rw p at o.phase)) e

  -- the END of the newest view closes
  starts_kept : (q : MessageNumber) → w.administrator.ending ≡ Some q → (t : ℕ) (a : After) → starts w k (chosen (shown w t (taken_with w k))) ≡ done a → Formed a.world
  unfolding starts
  starts_kept q n t a e =
      let (l, e1) = passed _ _ _ _ e in
      subst (λ (x : After). Formed x.world) (same_done e1)
      (start_kept w k formed_linked q n (room_left w l) (chosen (shown w t (taken_with w k))) (chosen_taken t))

  takes_kept : open? w r ≡ true → (t : ℕ) (a : After) → takes w k r t ≡ done a → Formed a.world
  unfolding takes open?
  takes_kept o t a e = go (eqb (message w r).kind END) refl o e
    where
      stays : moved (link w k) ≡ done a → Formed a.world
      stays e = subst (λ (x : After). Formed x.world) (same_done e) formed_linked

      ending : (x : Ending) → w.administrator.ending ≡ x → end_of x ≡ r → (q : MessageNumber) × (w.administrator.ending ≡ Some q)
      ending None p o = absurd (omega (arith, u.from))
      ending (Some q) p o = (q, p)

      finishing : end_of w.administrator.ending ≡ r → (b : Bool) → if b (starts w k (chosen (shown w t (taken_with w k)))) (moved (link w k)) ≡ done a → Formed a.world
      finishing o true e = let (q, p) = ending w.administrator.ending refl o in starts_kept q p t a e
      finishing o false e = stays e

      who : eqb (message w r).kind END ≡ false → IsClient (message w r).sender
      who b =
          let (l, h') = within_true READ END (message w r).kind u.asked in
          let s = (mailed h r u.from u.to).sender in
          let n : (message w r).kind ≤ WRITE = not_end (eqb-false _ _ b) h' in
          let (c, d) = within_true 1 clients (message w r).sender (rw (le-leb (message w r).kind WRITE n) at s) in
          record { low = c; high = d }

      closing : IsClient (message w r).sender → (b : Bool) → if b (closes w k (message w r).sender (chosen (shown w t (taken_with w k))) (at_once w t (taken_with w k))) (moved (link w k))
          ≡ done a → Formed a.world
      closing i true e = closes_kept (message w r).sender i t _ a e
      closing i false e = stays e

      go : (b : Bool) → eqb (message w r).kind END ≡ b → if b (eqb (end_of w.administrator.ending) r) (eqb (request_of (client w (message w r).sender).phase) r) ≡ true
          → if b (if (eqb t (newest w) && enough w t (taken_with w k) (write_size (view w t))) (starts w k (chosen (shown w t (taken_with w k)))) (moved (link w k)))
          (if (enough w t (taken_with w k) (close_size (client w (message w r).sender).phase (view w t)))
          (closes w k (message w r).sender (chosen (shown w t (taken_with w k))) (at_once w t (taken_with w k))) (moved (link w k))) ≡ done a
          → Formed a.world
      go true b o e = finishing (eqb-true _ _ o) (eqb t (newest w) && enough w t (taken_with w k) (write_size (view w t))) e
      go false b o e = closing (who b) (enough w t (taken_with w k) (close_size (client w (message w r).sender).phase (view w t))) e

-- what the tests of a take say of the answer k
pub untaken : {w : World} → Formed w → (k : ℕ) → (present w k && eqb (message w k).kind ANSWER) ≡ true → (message w k).taken ≡ false → Untaken w k (message w k).request.0
untaken {w} h k p f =
    let (l, u) = present_is w k (first_so _ _ p) in
    let i = eqb-true _ _ (second_so (present w k) _ p) in
    let q = request_of_lem h k l u i in
    let (c, d) = present_is w (message w k).request.0 (first_so _ _ q) in
    record {
      low = l;
      below = u;
      is = i;
      free = f;
      request = refl;
      from = c;
      to = d;
      asked = second_so (present w (message w k).request.0) _ q;
      full = h.full;
      count = h.message_count;
    }

take_kept : {w : World} → Formed w → (k : ℕ) (a : After) → take w k ≡ done a → Formed a.world
unfolding take
take_kept {w} h k a e =
    let (p, e1) = passed _ _ _ _ e in
    let (o, e2) = passed _ _ _ _ e1 in
    takes_kept h (untaken h k p (not-true _ (first_so (not (message w k).taken) _ o))) (second_so (not (message w k).taken) _ o) (message w k).view.0 a e2

-- ---- a new view

end_fits_lem : {w : World} → Formed w → sent_fits w (request END 0 (newest w) empty) ≡ true
unfolding sent_fits same entry_fits
end_fits_lem {w} h = and_from _ _ (is_within 1 (newest w) (newest w) h.low (le_refl _)) refl

-- the view, the administrator's record and END are set in either sequence
send_call : (w : World) (a : Administrator) (t : ℕ) (v : View) (m : Message) → Formed (with_view (with_administrator (send w m) a) t v) → Formed (send (with_view (with_administrator w a) t v) m)
unfolding with_view with_administrator send
send_call w a t v m h = h

call_kept : (w : World) (m : Message) → Formed (send w m) → (v : View) (a : Administrator) → sized v ≡ true → newest w < views → a.newest ≡ w.administrator.newest → (r : ℕ) → a.ending
    ≡ Some (number r)
    → is_sent (send w m) r END 0 ≡ true → (message (send w m) r).view.0 ≡ newest w → Formed (with_view (with_administrator (send w m) a) (newest w + 1) v)
unfolding send
call_kept w m f v a z n p r q i t = formed_call f v a z n p r q i t

new_view_kept : {w : World} → Formed w → (v : View) (a : After) → new_view w v ≡ done a → Formed a.world
unfolding new_view call
new_view_kept {w} h v a e =
    let g = went _ _ _ e in
    let (p, f1) = passed _ _ _ _ g.is in
    let (z, f2) = passed _ _ _ _ f1 in
    let (l, e1) = passed _ _ _ _ g.on in
    subst (λ (x : After). Formed x.world) (same_done e1)
    (go g.value (is_done f2) (first_so _ _ z) (ltb-true _ _ (second_so (sized v) _ z)) (room_left w l))
  where
    m : Message
    m = request END 0 (newest w) empty

    go : (b : Administrator) → b ≡ record { newest = w.administrator.newest; ending = Some (number (w.used + 1)) } → sized v ≡ true → newest w < views → w.used < messages
        → Formed (send (with_view (with_administrator w b) (newest w + 1) v) m)
    go b q z n l =
        let f = formed_send h m l (end_fits_lem h) refl refl in
        let new : message (send w m) (w.used + 1) ≡ m = message_new w m (omega (arith, h.message_count)) in
        send_call w b (newest w + 1) v m
        (call_kept w m f v b z n (ap (λ (x : Administrator). x.newest) q) (w.used + 1) (ap (λ (x : Administrator). x.ending) q)
        (new_sent h m l END 0 refl refl) (ap (λ (x : Message). x.view.0) new))

-- ---- giving up

gives_up_kept : {w : World} → Formed w → {c : ℕ} → IsClient c → (a : After) → gives_up w c ≡ done a → Formed a.world
unfolding gives_up give_up client_range same
gives_up_kept {w} h {c} i a e =
    let g = went _ _ _ e in
    let (n, f) = passed _ _ _ _ g.is in
    subst (λ (x : After). Formed x.world) (same_done g.on) (go g.value (is_done f))
  where
    go : (b : Client) → b ≡ record { phase = Idle; kind = NONE; entry = empty; given = (client w c).given } → Formed (with_client w c b)
    go b q = rw q (formed_client h c i.low i.high _ (and_from _ _ (and_from _ _ empty_fits (client_of_lem h c i).given) refl))

-- ---- a restart

-- "the END is that of newest": what is known of an open END
pub record ViewEnded (w : World) (r : ℕ) : Type 0 where
  pub room : newest w < views
  pub sent : is_sent w r END 0 ≡ true
  pub is : (message w r).kind ≡ END
  pub tag : (message w r).view.0 ≡ newest w
  pub full : Rooted w r

pub ended : {w : World} → Formed w → (r : MessageNumber) → w.administrator.ending ≡ Some r → ViewEnded w r.0
unfolding is_sent
ended {w} h r e =
    let f = subst (λ (x : Ending). ending_fits w x ≡ true) e h.ending in
    let f1 = second_so (ltb (newest w) views) _ f in
    let s = first_so _ _ f1 in
    let (l, u) = present_is w r.0 (first_so _ _ s) in
    let i : (message w r.0).kind ≡ END = eqb-true _ _ (first_so _ _ (second_so (present w r.0) _ s)) in
    let k : is_request (message w r.0).kind ≡ true = ap (λ (x : ℕ). is_request x) i in
    record {
      is = i;
      room = ltb-true _ _ (first_so _ _ f);
      sent = s;
      tag = eqb-true _ _ (second_so (is_sent w r.0 END 0) _ f1);
      full = record { short = short h r.0 l u k; chain = chained w r.0 (h.chained r.0 l u) k };
    }

pub end_sent : (x : Ending) → is_ending x ≡ true → (r : MessageNumber) × (x ≡ Some r)
end_sent None e = clash e refl
end_sent (Some r) e = (r, refl)

-- the END of w with the number r, emptied
module _ {w : World} (h : Formed w) {r : ℕ} (d : ViewEnded w r) where
  stopped_kept : Formed (with_administrator (emptied w r) w.administrator)
  unfolding emptied as_sent with_administrator
  stopped_kept = formed_emptied h d.full

  emptied_end : is_sent (emptied w r) r END 0 ≡ true
  emptied_end = sent_on (emptied_onward h d.full) r END 0 d.sent

  emptied_tag : (message (emptied w r) r).view.0 ≡ newest w
  unfolding sent content
  emptied_tag = ap (λ (m : Message). m.view.0) (emptied_sent d.full r) ∙ d.tag

  replaced_kept : (v : View) → sized v ≡ true → w.administrator.ending ≡ Some (number r) → Formed (with_view (with_administrator (emptied w r) w.administrator) (newest w + 1) v)
  unfolding emptied as_sent
  replaced_kept v z e = formed_call (formed_emptied h d.full) v w.administrator z d.room refl r e emptied_end emptied_tag

restarts_kept : {w : World} → Formed w → (v : View) (a : After) → restarts w v ≡ done a → Formed a.world
unfolding restarts restart
restarts_kept {w} h v a e =
    let g = went _ _ _ e in
    let (p, f1) = passed _ _ _ _ g.is in
    let (z, f2) = passed _ _ _ _ f1 in
    let (r, q) = end_sent _ p in
    subst (λ (x : After). Formed x.world) (same_done g.on) (rw (is_done f2) (go r q (keeps_view v) z))
  where
    go : (r : MessageNumber) → w.administrator.ending ≡ Some r → (b : Bool) → (b || sized v) ≡ true
        → Formed (if b (with_administrator (emptied w (end_of w.administrator.ending)) w.administrator)
        (with_view (with_administrator (emptied w (end_of w.administrator.ending)) w.administrator) (newest w + 1) v))
    go r q true z = subst (λ (x : Ending). Formed (with_administrator (emptied w (end_of x)) w.administrator)) (sym q) (stopped_kept h (ended h r q))
    go r q false z =
        subst (λ (x : Ending). Formed (with_view (with_administrator (emptied w (end_of x)) w.administrator) (newest w + 1) v)) (sym q) (replaced_kept h (ended h r q) v z q)

-- ---- every step

pub formed_step : {w : World} → Formed w → (st : Step) (a : After) → step w st ≡ done a → Formed a.world
unfolding step row_of
formed_step {w} h st a e =
    let (f, e1) = passed _ _ _ _ e in
    by_kind w st f (λ x. x ≡ done a → Formed a.world)
    (λ q. begins_kept h (who_client st write_step f q refl) WRITES st.value (inl refl) (value_of st f) a)
    (λ q. begins_kept h (who_client st read_step f q refl) READS 0 (inr (refl, refl)) (omega arith) a)
    (λ q. deliver_kept h (who_server st deliver_step f q refl refl) st.message.0 a)
    (λ q. take_kept h st.message.0 a)
    (λ q. fault_kept h (who_server st fault_step f q refl refl) a)
    (λ q. lie_kept h (who_server st false_step f q refl refl) st.view.0 st.message.0 st.source.0 a)
    (λ q. new_view_kept h (view_asked st) a)
    (λ q. gives_up_kept h (who_client st give_up_step f q refl) a)
    (λ q. restarts_kept h (view_asked st) a)
    e1

-- Every accepted step keeps a world readable.
pub step_kept : StepKept
step_kept w h st a e = well_formed_lem a.world (formed_step (formed w h) st a e)
