-- Taking an answer on the image of a readable world. Assumes nothing.
use Rattle.std.specs.Prelude.{ℕ, zero, suc, ◌+◌, ◌-◌, ◌≤◌, ◌<◌, Bool, false, ◌&&◌, ◌≡◌, refl, Option, None, Some, Result as Outcome, Ok, Err}
use Rattle.std.proofs.Common.{arith, sym, ◌∙◌}
use Rattle.std.proofs.Math.Bool.{true}
use Rattle.std.proofs.Math.Path.{ap, subst}
use mathlib.Core.List.{List, [], ◌∷◌}
use Rattle.std.proofs.Math.Dec.{eqb}
use borrow.Author.Tests.{ltb-true, eqb-true, eq-eqb, ne_eqb, le-leb}
use Rattle.std.proofs.lemmas.Bool.{eqb-false, and_from}
use Rattle.std.specs.Cmp.{first_so, second_so}
use Rattle.values.specs.declared.tally.Tally.{Tally}
use Rattle.administrator_rules.specs.Advances.{advance_in, advance_in_lem}
use Rattle.values.specs.Tallies.{add_answer, tally_from, tally_of, first_answer, closes_at, choice, tally_closes}
use Rattle.protocol.specs.declared.Entry.{Entry}
use Rattle.protocol.specs.declared.Choice.{Choice}
use Rattle.protocol.specs.declared.View.{View}
use Rattle.protocol.specs.declared.Message.{Message}
use Rattle.protocol.specs.declared.MessageNumber.{MessageNumber}
use Rattle.protocol.specs.declared.Client.{Client}
use Rattle.protocol.specs.declared.Administrator.{Administrator}
use Rattle.protocol.specs.declared.refusals.Refusal.{Refusal}
use Rattle.protocol.specs.Refusals.{outcome, refusal_number}
use Rattle.protocol.specs.Types.{Ending}
use Rattle.protocol.specs.Tools.{if, all, Result, refused, done, guard}
use Rattle.protocol.specs.Sizes.{clients, views, messages, write_size, one_exchange}
use Rattle.protocol.specs.Entries.{chosen}
use Rattle.protocol.specs.Servers.{READ, WRITE, END, START, ANSWER}
use Rattle.protocol.specs.Clients.{number, request_of, close_size, Close, close, end_of, advance}
use Rattle.protocol.specs.Worlds.{World, view, client, message, newest, present, room, with_client, with_administrator, send, next_number}
use Rattle.protocol.specs.Chains.{follow, chain, enough, shown}
use Rattle.protocol.specs.Steps.{After, moved, request, link, open?, taken_with, at_once, closes, starts, takes, take}
use Rattle.protocol.specs.Readable.{ending_fits, sender_fits, tag_rule, taken_answer}
use Rattle.protocol.proofs.Laws.Tests.{within_true}
use Rattle.protocol.proofs.Laws.Sound.{link_used}
use Rattle.protocol.proofs.Laws.Formed.{Formed}
use Rattle.protocol.proofs.Laws.Tests.{is_within}
use Rattle.protocol.proofs.Laws.Lists.{all_map}
use Rattle.protocol.proofs.Laws.Moves.{present_is}
use Rattle.protocol.proofs.Laws.Kinds.{not_end}
use Rattle.preservation.proofs.Chained.{chained}
use Rattle.preservation.specs.Links.{Untaken}
use Rattle.preservation.proofs.Links.{taken_is}
use Rattle.preservation.proofs.Kept.{untaken, mailed}
use Rattle.codec.specs.Places.{administrator_at, put_administrator, used_at, view_at, client_at, put_client, message_at, put_message}
use Rattle.codec.specs.Images.{encode, decode}
use Rattle.codec.specs.Laws.{Full, decode_full, full_message}
use Rattle.mail.specs.Images.{Legible, Does, put_sent, number_left}
use Rattle.mail.specs.Stored.{Image, image_of, whole, used_is, administrator_is, view_is, client_is, message_is, room_none, room_some, refuses, does, numbered, unnumbered}
use Rattle.mail.specs.Puts.{message_put, client_put, administrator_put, sent_put}

-- ---- "From a request the links are followed until zero"

-- the walk from n on a readable image: every number met was sent
pub record Walk (l : List ℕ) (left n : ℕ) : Type 0 where
  pub legible : Legible l
  pub met : all (present (decode l)) (follow (decode l) left n) ≡ true

pub follow_zero : (w : World) (left n : ℕ) → n ≡ 0 → follow w left n ≡ []
unfolding follow
follow_zero w zero n e = refl
follow_zero w (suc left) zero e = refl
follow_zero w (suc left) (suc n) e = absurd (omega arith)

pub follow_none : (w : World) (left n : ℕ) → left ≡ 0 → follow w left n ≡ []
unfolding follow
follow_none w zero n e = refl
follow_none w (suc left) n e = absurd (omega arith)

pub follow_one : (w : World) (left n : ℕ) → 1 ≤ left → 1 ≤ n → follow w left n ≡ n ∷ follow w (left - 1) (message w n).next.0
unfolding follow
follow_one w zero n h k = absurd (omega arith)
follow_one w (suc left) zero h k = absurd (omega arith)
follow_one w (suc left) (suc n) h k =
    let e : left ≡ suc left - 1 = omega arith in
    ap (λ (x : ℕ). suc n ∷ follow w x (message w (suc n)).next.0) e

module _ (w : World) (t : ℕ) (a : Tally) (left n : ℕ) where
  pub tally_zero : n ≡ 0 → a ≡ tally_from w t a (follow w left n)
  unfolding tally_from
  tally_zero e = rw (follow_zero w left n e)

  pub tally_none : left ≡ 0 → a ≡ tally_from w t a (follow w left n)
  unfolding tally_from
  tally_none e = rw (follow_none w left n e)

  tally_one : 1 ≤ left → 1 ≤ n → tally_from w t (add_answer a t (message w n)) (follow w (left - 1) (message w n).next.0) ≡ tally_from w t a (follow w left n)
  unfolding tally_from
  tally_one h k = rw (follow_one w left n h k)

module _ {l : List ℕ} {left n : ℕ} (h : Walk l left n) (b : 1 ≤ left) (d : 1 ≤ n) where
  met_on : (present (decode l) n && all (present (decode l)) (follow (decode l) (left - 1) (message (decode l) n).next.0)) ≡ true
  unfolding all
  met_on = subst (λ (ks : List ℕ). all (present (decode l)) ks ≡ true) (follow_one (decode l) left n b d) h.met

  pub walk_low : n ≤ messages
  walk_low = omega (arith, (present_is (decode l) n (first_so _ _ met_on)).1, (whole h.legible).full)

  -- m is the message met
  module _ (m : Message) (e : m ≡ message_at l n) where
    met_is : m ≡ message (decode l) n
    met_is = e ∙ message_is h.legible n walk_low

    pub walk_on : Walk l (left - 1) m.next.0
    walk_on =
        record {
          legible = h.legible;
          met =
              subst (λ (x : Message). all (present (decode l)) (follow (decode l) (left - 1) x.next.0) ≡ true) (sym met_is)
              (second_so (present (decode l) n) _ met_on);
        }

    pub tally_on_lem : (t : ℕ) (a c r : Tally) → c ≡ add_answer a t m → r ≡ tally_from (decode l) t c (follow (decode l) (left - 1) m.next.0) → r ≡ tally_from (decode l) t a (follow (decode l) left n)
    tally_on_lem t a c r p q =
        q ∙ ap (λ (x : Tally). tally_from (decode l) t x (follow (decode l) (left - 1) m.next.0)) p
        ∙ ap (λ (x : Message). tally_from (decode l) t (add_answer a t x) (follow (decode l) (left - 1) x.next.0)) met_is ∙ tally_one (decode l) t a left n b d

-- ---- the answer that is taken

-- the answer k of a readable image, not taken yet
pub record Takable (l : List ℕ) (k : ℕ) : Type 0 where
  pub legible : Legible l
  pub untaken : Untaken (decode l) k (message (decode l) k).request.0

takable : {l : List ℕ} → Legible l → (k : ℕ) → present (decode l) k ≡ true → (message (decode l) k).kind ≡ ANSWER → (message (decode l) k).taken ≡ false → Takable l k
takable {l} h k p i f = record { legible = h; untaken = untaken (whole h) k (and_from _ _ p (eq-eqb _ _ i)) f }

-- what a message's clause says of its sender and its view
pub sender_of : {w : World} → Formed w → (n : ℕ) → 1 ≤ n → n ≤ w.used → sender_fits (message w n).kind (message w n).sender ≡ true
sender_of h n b u = (mailed h n b u).sender

pub tag_of : {w : World} → Formed w → (n : ℕ) → 1 ≤ n → n ≤ w.used → tag_rule (newest w) (message w n).kind (message w n).view.0 ≡ true
tag_of h n b u = (mailed h n b u).tag

module _ {l : List ℕ} {k : ℕ} (h : Takable l k) where
  abbrev w : World
  w = decode l

  abbrev r : ℕ
  r = (message w k).request.0

  pub answer_low : k ≤ messages
  answer_low = omega (arith, h.untaken.below, h.untaken.full)

  pub asked_low : r ≤ messages
  asked_low = omega (arith, h.untaken.to, h.untaken.full)

  -- the view of an answer
  pub answer_view : (1 ≤ (message w k).view.0) × ((message w k).view.0 ≤ views)
  answer_view =
      let f = whole h.legible in
      let (a, b) = within_true 1 (newest w) (message w k).view.0 (rw h.untaken.is at (tag_of f k h.untaken.low h.untaken.below)) in
      (a, omega (arith, f.high))

  -- the walk along the chain of its request
  pub walk_from : Walk l messages (message w r).next.0
  unfolding chain present
  walk_from =
      record {
        legible = h.legible;
        met =
            all_map (taken_answer w r) (present w) (chain w r) (λ j e. let i = taken_is w r j e in is_present_lem j i.low i.below)
            (chained w r ((whole h.legible).chained r h.untaken.from h.untaken.to) h.untaken.asked).only;
      }
    where
      is_present_lem : (j : ℕ) → 1 ≤ j → j ≤ w.used → present w j ≡ true
      is_present_lem j a b = is_within 1 w.used j a b

  -- the sender of a READ or WRITE
  pub asked_client : ((message w r).kind ≡ END → ⊥) → (1 ≤ (message w r).sender) × ((message w r).sender ≤ clients)
  asked_client n =
      let (a, b) = within_true READ END (message w r).kind h.untaken.asked in
      let c : (message w r).kind ≤ WRITE = not_end n b in
      within_true 1 clients (message w r).sender (rw (le-leb (message w r).kind WRITE c) at (sender_of (whole h.legible) r h.untaken.from h.untaken.to))

  -- "while ending, newest is below 32"
  pub asked_end : eqb (message w r).kind END ≡ true → open? w r ≡ true → newest w < views
  unfolding open?
  asked_end e o = go w.administrator.ending (whole h.legible).ending (eqb-true _ _ (rw e at o))
    where
      go : (x : Ending) → ending_fits w x ≡ true → end_of x ≡ r → newest w < views
      go None f p = absurd (omega (arith, h.untaken.from))
      go (Some q) f p = ltb-true _ _ (first_so _ _ f)

-- "A phase closes when, by the answer just taken, the answers taken with that answer's view t come from at least q(t) different servers."
abbrev pub closes_with : World → ℕ → ℕ → Option Choice
closes_with w k size =
    if (enough w (message w k).view.0 (taken_with w k) size) (Some (choice w (message w k).view.0 (taken_with w k))) None

-- ---- linking

-- a message with its mark and its link
unfoldable pub linked : Message → Bool → MessageNumber → Message
linked m taken next =
    record { kind = m.kind; sender = m.sender; view = m.view; taken = taken; request = m.request; next = next; entry = m.entry }

pub link_full : (l : List ℕ) (k : ℕ) → Full (link (decode l) k)
unfolding link
link_full l k = full_message _ (full_message (decode l) (decode_full l) k _) (message (decode l) k).request.0 _

-- what linking leaves
pub linked_whole : {l l' : List ℕ} {k : ℕ} → Takable l k → l' ≡ encode (link (decode l) k) → Image l' (link (decode l) k)
linked_whole {l} {l'} {k} h e = record { is = e; full = link_full l k }

-- ---- the request of an answer

-- the request r of a readable image is q
pub record Asked (l : List ℕ) (r : ℕ) (q : Message) : Type 0 where
  pub legible : Legible l
  pub is : q ≡ message (decode l) r
  pub client : false ≡ eqb q.kind END → (1 ≤ q.sender) × (q.sender ≤ clients)

pub asked : {l : List ℕ} {k : ℕ} → Takable l k → (q : Message) → q ≡ message (decode l) (message (decode l) k).request.0 → Asked l (message (decode l) k).request.0 q
asked {l} {k} h q e = record { legible = h.legible; is = e; client = λ n. rw e (asked_client h (eqb-false _ _ (ap (λ (m : Message). eqb m.kind END) (sym e) ∙ sym n))) }

module _ {l : List ℕ} {r : ℕ} {q : Message} (h : Asked l r q) where
  kind_is : (b : Bool) → b ≡ eqb q.kind END → eqb (message (decode l) r).kind END ≡ b
  kind_is b e = ap (λ (m : Message). eqb m.kind END) (sym h.is) ∙ sym e

  pub open_end : true ≡ eqb q.kind END → open? (decode l) r ≡ eqb (end_of (decode l).administrator.ending) r
  unfolding open?
  open_end e = rw (kind_is true e)

  pub open_client : false ≡ eqb q.kind END → open? (decode l) r ≡ eqb (request_of (client (decode l) q.sender).phase) r
  unfolding open?
  open_client n = rw (kind_is false n) (ap (λ (m : Message). eqb (request_of (client (decode l) m.sender).phase) r) (sym h.is))

-- ---- "the answer either closes its phase or leaves it open"

module _ (b : Bool) (x : Option Choice) (e : Choice) (p : x ≡ if b (Some e) None) where
  pub stays_open : x ≡ None → b ≡ false
  stays_open q = go b (sym q ∙ p)
    where
      go : (b : Bool) → None ≡ if b (Some e) None → b ≡ false
      go true z = cc
      go false z = refl

  pub is_closed : (a : Choice) → x ≡ Some a → (b ≡ true) × (a ≡ e)
  is_closed a q = go b (sym q ∙ p)
    where
      go : (b : Bool) → Some a ≡ if b (Some e) None → (b ≡ true) × (a ≡ e)
      go true z = (refl, cc)
      go false z = (cc, cc)

-- the steps of take, where its request is an END; where it is that of a client c
unfoldable pub end_taken : World → ℕ → Result After
end_taken w k =
    let t : ℕ = (message w k).view.0 in
    if (eqb t (newest w) && enough w t (taken_with w k) (write_size (view w t))) (starts w k (chosen (shown w t (taken_with w k)))) (moved (link w k))

unfoldable pub client_taken : World → ℕ → ℕ → Result After
client_taken w k c =
    let t : ℕ = (message w k).view.0 in
    if (enough w t (taken_with w k) (close_size (client w c).phase (view w t))) (closes w k c (chosen (shown w t (taken_with w k))) (at_once w t (taken_with w k))) (moved (link w k))

module _ (w : World) (k : ℕ) where
  -- "Answers to END with another view are taken and count for nothing."
  pub end_elsewhere : ((message w k).view.0 ≡ newest w → ⊥) → end_taken w k ≡ moved (link w k)
  unfolding end_taken
  end_elsewhere n = rw (ne_eqb _ _ n)

  module _ (x : Option Choice) (size : ℕ) (p : x ≡ closes_with w k size) where
    pub end_open : (message w k).view.0 ≡ newest w → size ≡ write_size (view w (message w k).view.0) → x ≡ None → end_taken w k ≡ moved (link w k)
    unfolding end_taken
    end_open t s o = rw (eq-eqb _ _ t, ← s, stays_open (enough w (message w k).view.0 (taken_with w k) size) x (choice w (message w k).view.0 (taken_with w k)) p o)

    pub end_closed : (message w k).view.0 ≡ newest w → size ≡ write_size (view w (message w k).view.0) → (e : Choice) → x ≡ Some e → end_taken w k ≡ starts w k e.entry
    unfolding end_taken
    end_closed t s e o =
        let (b, c) = is_closed (enough w (message w k).view.0 (taken_with w k) size) x (choice w (message w k).view.0 (taken_with w k)) p e o in
        rw (eq-eqb _ _ t, ← s, b, c)

    pub client_open : (c : ℕ) → size ≡ close_size (client w c).phase (view w (message w k).view.0) → x ≡ None → client_taken w k c ≡ moved (link w k)
    unfolding client_taken
    client_open c s o = rw (← s, stays_open (enough w (message w k).view.0 (taken_with w k) size) x (choice w (message w k).view.0 (taken_with w k)) p o)

    pub client_closed : (c : ℕ) → size ≡ close_size (client w c).phase (view w (message w k).view.0) → (e : Choice) → x ≡ Some e → (one : Bool) → one ≡ e.one
        && one_exchange (view w (message w k).view.0) → client_taken w k c ≡ closes w k c e.entry one
    unfolding client_taken
    client_closed c s e o one q =
        let (b, d) = is_closed (enough w (message w k).view.0 (taken_with w k) size) x (choice w (message w k).view.0 (taken_with w k)) p e o in
        rw (← s, b, q, d)

-- ---- a phase of a client closes

-- the world once its WRITE is sent
unfoldable pub wrote_world : World → ℕ → ℕ → Client → World
wrote_world w k c a = send (with_client (link w k) c a) (request WRITE c 0 a.entry)

unfoldable pub wrote : World → ℕ → ℕ → Client → Result After
wrote w k c a = guard (room w) 10 (moved (wrote_world w k c a))

module _ (w : World) (k c : ℕ) (e : Entry) (one : Bool) where
  pub close_refused : (n : ℕ) → close (client w c) c e one (next_number w) ≡ refused n → closes w k c e one ≡ refused n
  unfolding closes
  close_refused n p = rw p

  pub close_complete : (a : Client) → close (client w c) c e one (next_number w) ≡ done (record { client = a; complete = true })
      → closes w k c e one ≡ done (record { world = with_client (link w k) c a; completed = c })
  unfolding closes
  close_complete a p = rw p

  pub close_writes : (a : Client) → close (client w c) c e one (next_number w) ≡ done (record { client = a; complete = false }) → closes w k c e one ≡ wrote w k c a
  unfolding closes wrote wrote_world
  close_writes a p = rw p

module _ (w : World) (k c : ℕ) (a : Client) where
  pub wrote_done : w.used < messages → wrote w k c a ≡ done (record { world = wrote_world w k c a; completed = 0 })
  unfolding wrote guard
  wrote_done h = rw (room_some w h)

  wrote_none : messages ≤ w.used → wrote w k c a ≡ refused 10
  unfolding wrote guard
  wrote_none h = rw (room_none w h)

module _ {l : List ℕ} {k : ℕ} (h : Takable l k) (c : ℕ) (a : Client) where
  pub wrote_full : (y : Refusal) → Err y ≡ number_left (used_at l) → Does (Err y) l l (wrote (decode l) k c a)
  wrote_full y e =
      let (f, i) = unnumbered (used_at l) y (sym e) in
      refuses y l _ (wrote_none (decode l) k c a (omega (arith, f, used_is h.legible)) ∙ ap (λ (x : Refusal). refused (refusal_number x)) (sym i))

  pub wrote_put : 1 ≤ c → c ≤ clients → (n : MessageNumber) → Ok n ≡ number_left (used_at l) → {l1 l2 l3 : List ℕ} {m : Message} → m ≡ request WRITE c 0 a.entry
      → l1 ≡ encode (link (decode l) k) → l2 ≡ put_client l1 c a → l3 ≡ put_sent l2 n.0 m → Does (Ok None) l l3 (wrote (decode l) k c a)
  unfolding wrote_world with_client
  wrote_put b d n e {l1} {l2} {l3} i f g p =
      let (low, q) = numbered (used_at l) n (sym e) in
      let s : (link (decode l) k).used ≡ (decode l).used = link_used (decode l) k in
      let u = used_is h.legible in
      does 0 (wrote_world (decode l) k c a) l l3 _ (wrote_done (decode l) k c a (omega (arith, low, u)))
      (sent_put (client_put (linked_whole h f) c a b d g) n.0 (request WRITE c 0 a.entry) (q ∙ ap (λ (x : ℕ). x + 1) (u ∙ sym s)) (omega (arith, low, u, s)) (p ∙ ap (put_sent l2 n.0) i)).is

pub complete_put : {l l1 l2 : List ℕ} {k : ℕ} → Takable l k → (c : ℕ) (a : Client) → 1 ≤ c → c ≤ clients → l1 ≡ encode (link (decode l) k) → l2 ≡ put_client l1 c a
    → l2 ≡ encode (with_client (link (decode l) k) c a)
complete_put h c a b d e f = (client_put (linked_whole h e) c a b d f).is

-- ---- the END of the newest view closes

unfoldable pub started_world : World → ℕ → Entry → World
started_world w k e = send (with_administrator (link w k) (advance w.administrator)) (request START 0 (newest w + 1) e)

module _ (w : World) (k : ℕ) (e : Entry) where
  start_none : messages ≤ w.used → starts w k e ≡ refused 10
  unfolding starts guard
  start_none h = rw (room_none w h)

  pub start_done : w.used < messages → starts w k e ≡ done (record { world = started_world w k e; completed = 0 })
  unfolding starts guard started_world
  start_done h = rw (room_some w h)

-- an administrator below view 32 goes on to the next
module _ (a : Administrator) (x : Outcome Administrator Refusal) (p : outcome x ≡ advance_in a) (h : a.newest.0 < views) where
  pub goes_on : (b : Administrator) → x ≡ Ok b → b ≡ advance a
  goes_on b q = let e : done b ≡ done (advance a) = sym (ap outcome q) ∙ p ∙ advance_in_lem a h in cc

  pub never_refused : (y : Refusal) → x ≡ Err y → ⊥
  never_refused y q =
      let e : refused (refusal_number y) ≡ done (advance a) = sym (ap outcome q) ∙ p ∙ advance_in_lem a h in
      let z : ◌≡◌ {A = ℕ} 0 1 = cc in
      omega arith

module _ {l : List ℕ} {k : ℕ} (h : Takable l k) (e : Entry) where
  pub start_full : (y : Refusal) → Err y ≡ number_left (used_at l) → Does (Err y) l l (starts (decode l) k e)
  start_full y q =
      let (f, i) = unnumbered (used_at l) y (sym q) in
      refuses y l _ (start_none (decode l) k e (omega (arith, f, used_is h.legible)) ∙ ap (λ (x : Refusal). refused (refusal_number x)) (sym i))

  module _ (v : newest (decode l) < views) (b : Administrator) (p : b ≡ administrator_at l) (x : Outcome Administrator Refusal) (q : outcome x ≡ advance_in b) where
    low : b.newest.0 < views
    low = subst (λ (y : Administrator). y.newest.0 < views) (sym (p ∙ administrator_is h.legible)) v

    pub start_goes_on : (y : Refusal) → x ≡ Err y → ⊥
    start_goes_on y z = never_refused b x q low y z

    pub start_put : (a : Administrator) → x ≡ Ok a → (n : MessageNumber) → Ok n ≡ number_left (used_at l) → {l1 l2 l3 : List ℕ} {m : Message} → m ≡ request START 0 a.newest.0 e
        → l1 ≡ encode (link (decode l) k) → l2 ≡ put_administrator l1 a → l3 ≡ put_sent l2 n.0 m → Does (Ok None) l l3 (starts (decode l) k e)
    unfolding started_world with_administrator advance
    start_put a z n c {l1} {l2} {l3} i f g r =
        let (k', t) = numbered (used_at l) n (sym c) in
        let s : (link (decode l) k).used ≡ (decode l).used = link_used (decode l) k in
        let u = used_is h.legible in
        let o : a ≡ advance (decode l).administrator = goes_on b x q low a z ∙ ap advance (p ∙ administrator_is h.legible) in
        does 0 (started_world (decode l) k e) l l3 _ (start_done (decode l) k e (omega (arith, k', u)))
        (sent_put (administrator_put (linked_whole h f) (advance (decode l).administrator) (g ∙ ap (put_administrator l1) o)) n.0 (request START 0 (newest (decode l) + 1) e)
        (t ∙ ap (λ (m : ℕ). m + 1) (u ∙ sym s)) (omega (arith, k', u, s)) (r ∙ ap (put_sent l2 n.0) i ∙ ap (λ (b : Administrator). put_sent l2 n.0 (request START 0 b.newest.0 e)) o)).is

-- ---- "Take: 5, not an answer; 7, taken before, or its request is neither that of an open phase nor the END number"

module _ (w : World) (k : ℕ) where
  pub take_missing : present w k ≡ false → take w k ≡ refused 5
  unfolding take guard
  take_missing p = rw p

  module _ (p : present w k ≡ true) where
    pub take_other : eqb (message w k).kind ANSWER ≡ false → take w k ≡ refused 5
    unfolding take guard
    take_other n = rw (p, n)

    pub take_again : eqb (message w k).kind ANSWER ≡ true → (message w k).taken ≡ true → take w k ≡ refused 7
    unfolding take guard
    take_again i t = rw (p, i, t)

module _ {l : List ℕ} {k : ℕ} (h : Takable l k) where
  shown_present : present (decode l) k ≡ true
  unfolding present
  shown_present = is_within 1 (decode l).used k h.untaken.low h.untaken.below

  pub take_closed : open? (decode l) (message (decode l) k).request.0 ≡ false → take (decode l) k ≡ refused 7
  unfolding take guard
  take_closed o = rw (shown_present, eq-eqb _ _ h.untaken.is, h.untaken.free, o)

  take_open : open? (decode l) (message (decode l) k).request.0 ≡ true → take (decode l) k ≡ takes (decode l) k (message (decode l) k).request.0 (message (decode l) k).view.0
  unfolding take guard
  take_open o = rw (shown_present, eq-eqb _ _ h.untaken.is, h.untaken.free, o)

  pub take_end : open? (decode l) (message (decode l) k).request.0 ≡ true → eqb (message (decode l) (message (decode l) k).request.0).kind END ≡ true → take (decode l) k ≡ end_taken (decode l) k
  unfolding takes end_taken
  take_end o e = take_open o ∙ rw e

  pub take_client : open? (decode l) (message (decode l) k).request.0 ≡ true → eqb (message (decode l) (message (decode l) k).request.0).kind END ≡ false
      → take (decode l) k ≡ client_taken (decode l) k (message (decode l) (message (decode l) k).request.0).sender
  unfolding takes client_taken
  take_client o n = take_open o ∙ rw n

-- ---- what the records read are

present_low : {l : List ℕ} → Legible l → (k : ℕ) → present (decode l) k ≡ true → k ≤ messages
present_low {l} h k p = omega (arith, (present_is (decode l) k p).1, (whole h).full)

-- the message k, which was sent
module _ {l : List ℕ} (h : Legible l) (k : ℕ) (p : true ≡ present (decode l) k) where
  pub sent_low : k ≤ messages
  sent_low = present_low h k (sym p)

  module _ (m : Message) (e : m ≡ message_at l k) where
    sent_is : message (decode l) k ≡ m
    sent_is = sym (e ∙ message_is h k sent_low)

    pub sent_kind : (x : Bool) → x ≡ eqb m.kind ANSWER → eqb (message (decode l) k).kind ANSWER ≡ x
    sent_kind x q = ap (λ (y : Message). eqb y.kind ANSWER) sent_is ∙ sym q

    pub sent_mark : (x : Bool) → m.taken ≡ x → (message (decode l) k).taken ≡ x
    sent_mark x q = ap (λ (y : Message). y.taken) sent_is ∙ q

    pub takable_at : true ≡ eqb m.kind ANSWER → m.taken ≡ false → Takable l k
    takable_at i f = takable h k (sym p) (eqb-true _ _ (sent_kind true i)) (sent_mark false f)

module _ {l : List ℕ} {k : ℕ} (h : Takable l k) (m : Message) (e : m ≡ message_at l k) where
  pub answer_is : m ≡ message (decode l) k
  answer_is = e ∙ message_is h.legible k (answer_low h)

  pub request_low : m.request.0 ≤ messages
  request_low = subst (λ (x : Message). x.request.0 ≤ messages) (sym answer_is) (asked_low h)

  pub view_low : (1 ≤ m.view.0) × (m.view.0 ≤ views)
  view_low = subst (λ (x : Message). (1 ≤ x.view.0) × (x.view.0 ≤ views)) (sym answer_is) (answer_view h)

  pub view_known : (v : View) → v ≡ view_at l m.view.0 → v ≡ view (decode l) (message (decode l) k).view.0
  view_known v p = p ∙ view_is h.legible m.view.0 view_low.0 view_low.1 ∙ ap (λ (x : Message). view (decode l) x.view.0) answer_is

  pub open_known : (b : Bool) → b ≡ open? (decode l) m.request.0 → b ≡ open? (decode l) (message (decode l) k).request.0
  open_known b p = p ∙ ap (λ (x : Message). open? (decode l) x.request.0) answer_is

  module _ (q : Message) (f : q ≡ message_at l m.request.0) where
    pub request_is : q ≡ message (decode l) (message (decode l) k).request.0
    request_is = f ∙ message_is h.legible m.request.0 request_low ∙ ap (λ (x : Message). message (decode l) x.request.0) answer_is

    pub head_walk : Walk l messages q.next.0
    head_walk = subst (λ (x : Message). Walk l messages x.next.0) (sym request_is) (walk_from h)

    pub tally_taken : (size : ℕ) (x : Option Choice) (a b : Tally) → a ≡ first_answer m → b ≡ tally_from (decode l) m.view.0 a (follow (decode l) messages q.next.0)
        → x ≡ closes_at b size → x ≡ closes_with (decode l) k size
    unfolding tally_of chain
    tally_taken size x a b p r z =
        z ∙ ap (λ (c : Tally). closes_at c size)
        (r ∙ ap (λ (y : Tally). tally_from (decode l) m.view.0 y (follow (decode l) messages q.next.0)) p
        ∙ ap (λ (y : Message). tally_from (decode l) y.view.0 (first_answer y) (follow (decode l) messages q.next.0)) answer_is
        ∙ ap (λ (y : Message). tally_from (decode l) (message (decode l) k).view.0 (first_answer (message (decode l) k)) (follow (decode l) messages y.next.0)) request_is)
        ∙ tally_closes (decode l) k (chain (decode l) (message (decode l) k).request.0) size

    pub asked_kind : (x : Bool) → x ≡ eqb q.kind END → eqb (message (decode l) (message (decode l) k).request.0).kind END ≡ x
    asked_kind x p = ap (λ (y : Message). eqb y.kind END) (sym request_is) ∙ sym p

    pub asked_at : Asked l m.request.0 q
    asked_at = subst (λ (x : Message). Asked l x.request.0 q) (sym answer_is) (asked h q request_is)

-- the two stores of a link: the answer with its mark and the link of its request, and the request with the answer for its link
pub linked_image : {l l1 l2 : List ℕ} {k : ℕ} → Takable l k → (m : Message) → m ≡ message_at l k → (q : Message) → q ≡ message_at l m.request.0 → (x y : Message)
    → x ≡ linked m true q.next → y ≡ linked q q.taken (number k) → l1 ≡ put_message l k x → l2 ≡ put_message l1 m.request.0 y → l2 ≡ encode (link (decode l) k)
unfolding link linked
linked_image {l} {l1} {l2} {k} h m e q f x y a b c d =
    let i = answer_is h m e in
    let j = request_is h m e q f in
    let r = (message (decode l) k).request.0 in
    (message_put (message_put (image_of h.legible) k _ (answer_low h) (rw (i, j) at (c ∙ ap (put_message l k) a))) r _ (asked_low h)
    (rw (i, j) at (d ∙ ap (put_message l1 m.request.0) b))).is

pub close_known : {l : List ℕ} → Legible l → (c : ℕ) → 1 ≤ c → c ≤ clients → (b : Client) (n : ℕ) (e : Entry) (one : Bool) (x : Result Close) → b ≡ client_at l c → n ≡ used_at l
    → x ≡ close b c e one (n + 1) → x ≡ close (client (decode l) c) c e one (next_number (decode l))
close_known {l} h c lo hi b n e one x p q r =
    r ∙ ap (λ (y : Client). close y c e one (n + 1)) (p ∙ client_is h c lo hi) ∙ ap (λ (y : ℕ). close (client (decode l) c) c e one (y + 1)) (q ∙ used_is h)

-- the size of a quorum of an answer's view
pub size_known : {l : List ℕ} {k : ℕ} → Takable l k → (c : ℕ) → 1 ≤ c → c ≤ clients → (m : Message) (v : View) (b : Client) (size : ℕ) → m ≡ message_at l k → v ≡ view_at l m.view.0
    → b ≡ client_at l c → size ≡ close_size b.phase v → size ≡ close_size (client (decode l) c).phase (view (decode l) (message (decode l) k).view.0)
size_known {l} {k} h c lo hi m v b size e f g p =
    p ∙ ap (λ (x : Client). close_size x.phase v) (g ∙ client_is h.legible c lo hi) ∙ ap (close_size (client (decode l) c).phase) (view_known h m e v f)

-- whether a read ends in one exchange
pub once_known : {l : List ℕ} {k : ℕ} → Takable l k → (m : Message) (v : View) (b one : Bool) → m ≡ message_at l k → v ≡ view_at l m.view.0
    → one ≡ b && one_exchange v → one ≡ b && one_exchange (view (decode l) (message (decode l) k).view.0)
once_known h m v b one e f p = p ∙ ap (λ (x : View). b && one_exchange x) (view_known h m e v f)
