-- What the relation asks of a world before a step: lists of full length, and links that lead to answers of one request.
-- Every step keeps it. Assumes nothing.
use Rattle.std.specs.Prelude.{ℕ, zero, suc, ◌+◌, ◌≤◌, ◌<◌, Bool, false, ◌&&◌, ◌≡◌, refl, ◌⊎◌, ◌≢◌, List, [], ◌∷◌, length}
use Rattle.std.proofs.Math.Decide.{ℕ_discrete}
use Rattle.std.proofs.Common.{add-one, arith, ap, ◌∙◌, inl, inr, length-set}
use Rattle.std.proofs.Math.Bool.{true}
use Rattle.std.proofs.Math.Path.{sym}
use Rattle.std.proofs.Math.Dec.{eqb}
use Rattle.std.specs.Cmp.{first_so, second_so}
use borrow.Author.Tests.{leb-true, eqb-true, eq-eqb, ne_eqb}
use Rattle.protocol.specs.Types.{Entry, Message}
use Rattle.protocol.specs.Tools.{if, any, all}
use Rattle.protocol.specs.Sizes.{clients, servers, views, messages, sized}
use Rattle.protocol.specs.Entries.{chosen, same}
use Rattle.protocol.specs.Servers.{READ, END, ANSWER, is_request}
use Rattle.protocol.specs.Clients.{is_ending}
use Rattle.protocol.specs.Worlds.{World, view, message, newest, with_message, send, as_sent}
use Rattle.protocol.specs.Chains.{follow, chain, tagged, heard, enough, shown, agreed}
use Rattle.protocol.specs.Steps.{link, taken_with}
use Rattle.protocol.proofs.Laws.Tests.{clash, last_or, Each, none, both, any_found, within_true}
use Rattle.protocol.proofs.Laws.Entries.{Listed, head, tail, chosen_le, chosen_one, same_is}
use Rattle.protocol.proofs.Laws.Worlds.{content, sent, message_same, message_other, sent_link, sent_send, message_send, message_new, message_as, sent_as, count_as}
use Rattle.protocol.proofs.Laws.Change.{Votes, To, Chosen, Asked, Showed}

-- message k is an answer to request r
pub record Answer (w : World) (r k : ℕ) : Type 0 where
  pub below : k ≤ w.used
  pub is : (sent w k).kind ≡ ANSWER
  pub request : (sent w k).request.0 ≡ r

-- the request whose chain message i with the content m stands in
abbrev pub root : Message → ℕ → ℕ
root m i = if (eqb m.kind ANSWER) m.request.0 i

-- a link leads nowhere, or to an answer of the request r
pub data Linked (w : World) (r n : ℕ) : Type 0 where
  nowhere : n ≡ 0 → Linked w r n
  on : Answer w r n → Linked w r n

pub used_send : (w : World) (m : Message) → (send w m).used ≡ w.used + 1
unfolding send
used_send w m = refl

count_send : (w : World) (m : Message) → length (send w m).message_list ≡ length w.message_list
unfolding send
count_send w m = length-set w.message_list (w.used + 1) m

views_send : (w : World) (m : Message) → (send w m).view_list ≡ w.view_list
unfolding send
views_send w m = refl

administrator_send : (w : World) (m : Message) → (send w m).administrator ≡ w.administrator
unfolding send
administrator_send w m = refl

servers_send : (w : World) (m : Message) → (send w m).server_list ≡ w.server_list
unfolding send
servers_send w m = refl

clients_send : (w : World) (m : Message) → (send w m).client_list ≡ w.client_list
unfolding send
clients_send w m = refl

sent_asked : (w v : World) (n : ℕ) (m : Message) → message w n ≡ m → (m.kind ≡ ANSWER → Asked v m.request.0) → (sent w n).kind ≡ ANSWER → Asked v (sent w n).request.0
unfolding sent content
sent_asked w v n m e a = rw e a

-- the messages: answers have requests, and links lead to answers of one request
pub record Mail (w : World) : Type 0 where
  pub count : length w.message_list ≡ suc messages
  pub full : w.used ≤ messages
  pub asked : (i : ℕ) → i ≤ w.used → (sent w i).kind ≡ ANSWER → Asked w (sent w i).request.0
  pub links : (i : ℕ) → i ≤ w.used → Linked w (root (sent w i) i) (message w i).next.0

-- the views: those up to the newest, and the pending one, obey the size rule
pub record Sized (w : World) : Type 0 where
  pub count : length w.view_list ≡ views
  pub low : 1 ≤ newest w
  pub sizes : (t : ℕ) → 1 ≤ t → t ≤ newest w → sized (view w t) ≡ true
  pub pending : is_ending w.administrator.ending ≡ true → (sized (view w (newest w + 1)) ≡ true) × (newest w < views)

pub record Sound (w : World) : Type 0 where
  pub mail : Mail w
  pub sized : Sized w
  pub server_count : length w.server_list ≡ servers
  pub client_count : length w.client_list ≡ clients

-- ---- the messages after a step

-- what is known of messages stays where contents and the number used do, or grow
pub record Later (w v : World) : Type 0 where
  pub more : w.used ≤ v.used
  pub old : (i : ℕ) → i ≤ w.used → sent v i ≡ sent w i

pub asked_on : {w v : World} → Later w v → {r : ℕ} → Asked w r → Asked v r
asked_on l {r} a = record { low = a.low; below = omega (arith, l.more, a.below); is = rw (l.old r a.below) a.is }

linked_on : {w v : World} → Later w v → {r n : ℕ} → Linked w r n → Linked v r n
linked_on l (nowhere e) = nowhere e
linked_on l {r} {n} (on a) =
    on (record { below = omega (arith, l.more, a.below); is = rw (l.old n a.below) a.is; request = rw (l.old n a.below) a.request })

-- other records changed, or messages only in their links
pub mail_same : {w v : World} → Mail w → length v.message_list ≡ length w.message_list → v.used ≡ w.used → ((i : ℕ) → sent v i ≡ sent w i)
    → ((i : ℕ) → i ≤ w.used → Linked w (root (sent w i) i) (message v i).next.0) → Mail v
mail_same {w} {v} h n u old next =
    record {
      count = n ∙ h.count;
      full = omega (arith, h.full);
      asked = λ i l. rw (old i) (λ e. asked_on later (h.asked i (omega arith) e));
      links = λ i l. rw (old i) (linked_on later (next i (omega arith)));
    }
  where
    later : Later w v
    later = record { more = omega arith; old = λ i l. old i }

-- a message was sent
pub mail_send : {w : World} → Mail w → (m : Message) → w.used < messages → m.next.0 ≡ 0 → (m.kind ≡ ANSWER → Asked w m.request.0) → Mail (send w m)
mail_send {w} h m l z a =
    record {
      count = count_send w m ∙ h.count;
      full = rw (used_send w m) (omega arith);
      asked = λ i k. go_asked i (last_or i w.used (rw (used_send w m, add-one) at k));
      links = λ i k. go_links i (last_or i w.used (rw (used_send w m, add-one) at k));
    }
  where
    later : Later w (send w m)
    later = record { more = rw (used_send w m) (omega arith); old = sent_send w m }

    new : message (send w m) (suc w.used) ≡ m
    new = rw (← add-one w.used) (message_new w m (omega (arith, h.count)))

    go_asked : (i : ℕ) → (i ≡ suc w.used) ⊎ (i ≤ w.used) → (sent (send w m) i).kind ≡ ANSWER → Asked (send w m) (sent (send w m) i).request.0
    go_asked i (inl e) = rw e (sent_asked (send w m) (send w m) (suc w.used) m new (λ k. asked_on later (a k)))
    go_asked i (inr k) = rw (sent_send w m i k) (λ e. asked_on later (h.asked i k e))

    go_links : (i : ℕ) → (i ≡ suc w.used) ⊎ (i ≤ w.used) → Linked (send w m) (root (sent (send w m) i) i) (message (send w m) i).next.0
    go_links i (inl e) = rw e (nowhere (ap (λ (x : Message). x.next.0) new ∙ z))
    go_links i (inr k) = rw (sent_send w m i k, message_send w m i k) (linked_on later (h.links i k))

-- an answer was taken: it leads where its request led, and its request leads to it
pub link_count : (w : World) (k : ℕ) → length (link w k).message_list ≡ length w.message_list
unfolding link with_message
link_count w k = simp length-set

pub link_used : (w : World) (k : ℕ) → (link w k).used ≡ w.used
unfolding link with_message
link_used w k = refl

pub link_other : (w : World) (k i : ℕ) → i ≢ k → i ≢ (message w k).request.0 → message (link w k) i ≡ message w i
unfolding link
link_other w k i h n = message_other (with_message w k _) (message w k).request.0 _ i n ∙ message_other w k _ i h

pub link_answer : (w : World) (k : ℕ) → k ≢ (message w k).request.0 → k < length w.message_list → (message (link w k) k).next ≡ (message w (message w k).request.0).next
unfolding link
link_answer w k n h = rw (message_other (with_message w k _) (message w k).request.0 _ k n, message_same w k _ h) refl

pub link_taken : (w : World) (k : ℕ) → k ≢ (message w k).request.0 → k < length w.message_list → (message (link w k) k).taken ≡ true
unfolding link
link_taken w k n h = rw (message_other (with_message w k _) (message w k).request.0 _ k n, message_same w k _ h) refl

pub length_with : (w : World) (k : ℕ) (m : Message) {n : ℕ} → n < length w.message_list → n < length (with_message w k m).message_list
unfolding with_message
length_with w k m l = simp length-set l

pub link_request : (w : World) (k : ℕ) → (message w k).request.0 < length w.message_list → (message (link w k) (message w k).request.0).next.0 ≡ k
unfolding link with_message
link_request w k h = rw (message_same (with_message w k _) (message w k).request.0 _ (length_with w k _ h)) refl

pub not_answer : (k : ℕ) → is_request k ≡ true → eqb k ANSWER ≡ false
not_answer k e = let (l, h) = within_true READ END k e in ne_eqb k ANSWER (λ q. omega arith)

root_answer : (m : Message) (i : ℕ) → m.kind ≡ ANSWER → root m i ≡ m.request.0
root_answer m i e = rw (eq-eqb _ _ e) refl

root_request : (m : Message) (i : ℕ) → is_request m.kind ≡ true → root m i ≡ i
root_request m i e = rw (not_answer _ e) refl

pub mail_link : {w : World} → Mail w → (k : ℕ) → k ≤ w.used → (sent w k).kind ≡ ANSWER → Mail (link w k)
unfolding sent content
mail_link {w} h k l e =
    mail_same h (link_count w k) (link_used w k) (sent_link w k) (λ i n. go i n (ℕ_discrete i k) (ℕ_discrete i r))
  where
    r : ℕ
    r = (message w k).request.0

    ask : Asked w r
    ask = h.asked k l e

    apart : k ≢ r
    apart q = clash (eq-eqb _ _ e) (rw q (not_answer (sent w r).kind ask.is))

    go : (i : ℕ) → i ≤ w.used → Dec (i ≡ k) → Dec (i ≡ r) → Linked w (root (sent w i) i) (message (link w k) i).next.0
    go i n (yes q) d =
        let b : Linked w r (message w r).next.0 = rw (root_request (sent w r) r ask.is) at (h.links r ask.below) in
        rw q (rw (root_answer (sent w k) k e, link_answer w k apart (omega (arith, h.count, h.full))) b)
    go i n (no p) (yes q) =
        rw q (rw (root_request (sent w r) r ask.is, link_request w k (omega (arith, h.count, h.full, ask.below)))
        (on (record { below = l; is = e; request = refl })))
    go i n (no p) (no q) = rw (link_other w k i p q) (h.links i n)

-- messages are as they were sent
pub used_as : (w : World) (ks : List ℕ) → (as_sent w ks).used ≡ w.used
unfolding as_sent
used_as w ks = refl

sent_next : (w : World) (i : ℕ) → (sent w i).next.0 ≡ 0
unfolding sent content
sent_next w i = refl

pub mail_as : {w : World} → Mail w → (ks : List ℕ) → Mail (as_sent w ks)
mail_as {w} h ks = mail_same h (count_as w ks) (used_as w ks) (sent_as w ks) (λ i l. rw (message_as w ks i) (go i l (any (eqb i) ks)))
  where
    go : (i : ℕ) → i ≤ w.used → (b : Bool) → Linked w (root (sent w i) i) (if b (sent w i) (message w i)).next.0
    go i l true = nowhere (sent_next w i)
    go i l false = h.links i l

-- ---- the views after a step

pub sized_same : {w v : World} → Sized w → v.view_list ≡ w.view_list → v.administrator ≡ w.administrator → Sized v
unfolding view
sized_same h e a =
    record { count = rw e h.count; low = rw a h.low; sizes = rw (e, a) h.sizes; pending = rw (e, a) h.pending }

-- a message was sent: the rest is as it was
pub sound_send : {w : World} → Sound w → (m : Message) → w.used < messages → m.next.0 ≡ 0 → (m.kind ≡ ANSWER → Asked w m.request.0) → Sound (send w m)
sound_send {w} h m l z a = record { mail = mail_send h.mail m l z a; sized = kept; server_count = servers_kept; client_count = clients_kept }
  where
    kept : Sized (send w m)
    kept = sized_same h.sized (views_send w m) (administrator_send w m)

    servers_kept : length (send w m).server_list ≡ servers
    servers_kept = rw (servers_send w m) h.server_count

    clients_kept : length (send w m).client_list ≡ clients
    clients_kept = rw (clients_send w m) h.client_count

-- ---- what a chain shows

follow_each : {w : World} → Mail w → (r : ℕ) → is_request (sent w r).kind ≡ true → (left n : ℕ) → Linked w r n → Each (Answer w r) (follow w left n)
unfolding follow
follow_each h r q zero n l = none
follow_each h r q (suc left) zero l = none
follow_each {w} h r q (suc left) (suc n) l = go l (λ m k. follow_each h r q left m k)
  where
    go : Linked w r (suc n) → ((m : ℕ) → Linked w r m → Each (Answer w r) (follow w left m)) → Each (Answer w r) (suc n ∷ follow w left (message w (suc n)).next.0)
    go (nowhere e) ih = absurd (omega arith)
    go (on a) ih = both a (ih _ (rw (root_answer (sent w (suc n)) (suc n) a.is, a.request) at (h.links (suc n) a.below)))

pub chain_each : {w : World} → Mail w → (r : ℕ) → r ≤ w.used → is_request (sent w r).kind ≡ true → Each (Answer w r) (chain w r)
unfolding chain
chain_each {w} h r l q = follow_each h r q messages _ (rw (root_request (sent w r) r q) at (h.links r l))

each_map : {P Q : ℕ → Type 0} {ks : List ℕ} → ((k : ℕ) → P k → Q k) → Each P ks → Each Q ks
each_map f none = none
each_map f (both {k} h hs) = both (f k h) (each_map f hs)

each_both : {P Q : ℕ → Type 0} {ks : List ℕ} → Each P ks → Each Q ks → Each (λ k. P k × Q k) ks
each_both none none = none
each_both (both p ps) (both q qs) = both (p, q) (each_both ps qs)

-- one answer more shows no less
widen : (w : World) (t k : ℕ) (ks : List ℕ) {x : Entry} → Listed x (shown w t ks) → Listed x (shown w t (k ∷ ks))
unfolding shown
widen w t k ks {x} i = go (tagged w t k)
  where
    go : (b : Bool) → Listed x (if b ((message w k).entry ∷ shown w t ks) (shown w t ks))
    go true = tail i
    go false = i

shown_first : (w : World) (t k : ℕ) (ks : List ℕ) → tagged w t k ≡ true → shown w t (k ∷ ks) ≡ ((message w k).entry ∷ shown w t ks)
unfolding shown
shown_first w t k ks e = rw e refl

-- each answer with view t is among those shown
shown_each : (w : World) (t : ℕ) (ks : List ℕ) → Each (λ k. tagged w t k ≡ true → Listed (message w k).entry (shown w t ks)) ks
shown_each w t [] = none
shown_each w t (k ∷ ks) = both (λ e. rw (shown_first w t k ks e) (head refl)) (each_map (λ j f e. widen w t k ks (f e)) (shown_each w t ks))

-- and each that is shown is of one of them
record Shower (w : World) (t : ℕ) (x : Entry) (P : ℕ → Type 0) : Type 0 where
  at : ℕ
  has : P at
  tag : tagged w t at ≡ true
  entry : (message w at).entry ≡ x

unlisted : {A : Type 0} {x : Entry} → Listed x [] → A
unlisted i = elim i [ ]

shower : {w : World} (t : ℕ) {P : ℕ → Type 0} {ks : List ℕ} {x : Entry} → Each P ks → Listed x (shown w t ks) → Shower w t x P
unfolding shown
shower {w} t {P} none i = unlisted i
shower {w} t {P} {x} (both {k} {ks = js} h hs) i = go (tagged w t k) refl i (λ j. shower t hs j)
  where
    go : (b : Bool) → tagged w t k ≡ b → Listed x (if b ((message w k).entry ∷ shown w t js) (shown w t js)) → (Listed x (shown w t js) → Shower w t x P) → Shower w t x P
    go true e (head q) ih = record { at = k; has = h; tag = e; entry = q }
    go true e (tail j) ih = ih j
    go false e j ih = ih j

-- a list whose entries are all e
all_same : {e x : Entry} {l : List Entry} → all (same e) l ≡ true → Listed x l → e ≡ x
unfolding all
all_same {e} a (head {y} {xs} q) = same_is e y (first_so _ _ a) ∙ q
all_same {e} a (tail {y} {xs} i) = all_same (second_so (same e y) _ a) i

-- ---- a close

-- the answer k, with view t, to request r, in a world whose links are sound
pub record Taking (w : World) (k r t : ℕ) : Type 0 where
  pub answer : Answer w r k
  pub tag : (sent w k).view.0 ≡ t
  pub asked : Asked w r
  pub mail : Mail w

module _ {w : World} {k r t : ℕ} (h : Taking w k r t) where
  taken_each : Each (Answer w r) (taken_with w k)
  unfolding sent content
  taken_each =
      let l : Each (Answer w r) (chain w (message w k).request.0) = rw h.answer.request (chain_each h.mail r h.asked.below h.asked.is) in
      both h.answer l

  pub close_votes : (size : ℕ) → enough w t (taken_with w k) size ≡ true → Votes w t size (λ s j. To w r (chosen (shown w t (taken_with w k))) j)
  unfolding enough heard sent content
  close_votes size e =
      record {
        seen = heard w t (taken_with w k);
        enough = leb-true _ _ e;
        vote = λ s q.
            let f = any_found (λ j. tagged w t j && eqb (message w j).sender s) (each_both taken_each (shown_each w t (taken_with w k))) q in
            let g = first_so (tagged w t f.at) _ f.test in
            record {
              at = f.at;
              below = f.has.0.below;
              is = f.has.0.is;
              who = eqb-true _ _ (second_so (tagged w t f.at) _ f.test);
              tag = eqb-true _ _ g;
              fact = record { request = f.has.0.request; covered = chosen_le (f.has.1 g) };
            };
      }

  -- where all of them show the chosen entry
  pub close_agreed : (size : ℕ) → enough w t (taken_with w k) size ≡ true → agreed w t (taken_with w k) ≡ true → Votes w t size (λ s j. Showed w r (chosen (shown w t (taken_with w k))) j)
  unfolding enough heard agreed sent content
  close_agreed size e a =
      record {
        seen = heard w t (taken_with w k);
        enough = leb-true _ _ e;
        vote = λ s q.
            let f = any_found (λ j. tagged w t j && eqb (message w j).sender s) (each_both taken_each (shown_each w t (taken_with w k))) q in
            let g = first_so (tagged w t f.at) _ f.test in
            record {
              at = f.at;
              below = f.has.0.below;
              is = f.has.0.is;
              who = eqb-true _ _ (second_so (tagged w t f.at) _ f.test);
              tag = eqb-true _ _ g;
              fact = record { request = f.has.0.request; shows = sym (all_same a (f.has.1 g)) };
            };
      }

  pub close_chosen : Chosen w t r (chosen (shown w t (taken_with w k)))
  unfolding sent content
  close_chosen =
      let e : tagged w t k ≡ true = eq-eqb _ _ h.tag in
      let l : Listed (chosen (shown w t (taken_with w k))) (shown w t (taken_with w k)) = rw (shown_first w t k _ e) (chosen_one _ _) in
      let f = shower t taken_each l in
      record { at = f.at; below = f.has.below; is = f.has.is; tag = eqb-true _ _ f.tag; request = f.has.request; entry = f.entry }
