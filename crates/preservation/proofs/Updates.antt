-- One record of a readable world replaced, or a message sent or taken: the world stays readable. Assumes nothing.
use Prim.Native.Nat.{ℕ, ◌+◌, ◌^◌, ◌≤◌, ◌<◌}
use Rattle.std.proofs.Math.Nat.{le_refl}
use Rattle.std.proofs.Math.Decide.{ℕ_discrete, dec_le}
use native.Mathlib.Omega.{arith}
use Rattle.std.specs.Prelude.{Bool, not, ◌&&◌, ◌||◌, ◌≡◌, ◌⊎◌, ◌≢◌, length, ltb, leb, eqb, Some}
use Rattle.std.proofs.Math.Bool.{true, false}
use Rattle.std.proofs.Math.Path.{refl, sym, ap, subst}
use Rattle.std.proofs.Common.{ap₂, lt_of_lt_of_le, ◌∙◌, pow_mono, ltb-true, leb-true, lt-ltb, le-leb, eq-eqb}
use Rattle.std.proofs.Math.Logic.{inl, inr}
use mathlib.Core.List.{List, [], ◌∷◌}
use Rattle.std.proofs.Math.ListN.{length-set}
use Rattle.std.proofs.Math.Seq.{get_or-set_other}
use Rattle.std.proofs.lemmas.Bool.{lt-leb, not-true, and_from, cases_Bool, or_left, or_right}
use Rattle.std.specs.Cmp.{first_so, second_so}
use Rattle.protocol.specs.declared.ViewNumber.{ViewNumber}
use Rattle.protocol.specs.declared.MessageNumber.{MessageNumber}
use Rattle.protocol.specs.declared.View.{View}
use Rattle.protocol.specs.declared.Server.{Server}
use Rattle.protocol.specs.declared.Client.{Client}
use Rattle.protocol.specs.declared.Message.{Message}
use Rattle.protocol.specs.declared.Administrator.{Administrator}
use Rattle.protocol.specs.Types.{Ending}
use Rattle.protocol.specs.Tools.{if, within, all, bit_of, replace}
use Rattle.protocol.specs.Sizes.{clients, servers, views, messages, sized}
use Rattle.protocol.specs.Entries.{entry_fits}
use Rattle.protocol.specs.Servers.{READ, END, ANSWER, is_request}
use Rattle.protocol.specs.Clients.{number, is_ending, advance}
use Rattle.protocol.specs.Worlds.{World, no_message, view, server, client, message, newest, present, with_server, with_client, with_view, with_message, with_administrator, send, as_sent}
use Rattle.protocol.specs.Chains.{follow, chain}
use Rattle.protocol.specs.Steps.{link, emptied}
use Rattle.protocol.specs.Readable.{is_sent, ending_fits, last_view, zero_view, view_fits, server_fits, phase_fits, client_range, client_fits, tag_rule, request_fits, next_fits, entry_zero, sender_fits, sent_fits, zero_message, message_fits, taken_answer, distinct}
use Rattle.protocol.proofs.Laws.Tests.{clash}
use Rattle.protocol.proofs.Laws.Worlds.{content, sent, length_replace, message_new, sent_send, sent_link, server_same, server_other, client_same, client_other, view_same, view_other, count_as}
use Rattle.protocol.proofs.Laws.Sound.{link_count, link_used, not_answer}
use Rattle.protocol.proofs.Laws.Formed.{Formed}
use Rattle.protocol.proofs.Laws.Counts.{bit_le}
use Rattle.protocol.proofs.Laws.Lists.{all_map}
use Rattle.protocol.proofs.Laws.Moves.{present_is}
use Rattle.preservation.proofs.Formed.{and_first, and_then, Onward, ending_on, phase_on, sent_on, fits_on}
use Rattle.preservation.specs.Chained.{Chained}
use Rattle.preservation.proofs.Chained.{chained, chain_fits_lem, follow_same}
use Rattle.preservation.specs.Links.{Untaken, Is, Short}
use Rattle.preservation.proofs.Links.{taken_is, is_taken_lem, chained_of, link_taken_other, v_taken, v_kind, v_other, link_chained}
use Rattle.preservation.specs.Emptied.{Rooted}
use Rattle.preservation.proofs.Emptied.{emptied_used, emptied_sent, among, emptied_in, emptied_out, among_is, before, beyond, emptied_kind, emptied_chained}

-- ---- what the clauses say of one record

-- a server's record beside the newest view
abbrev pub server_ok : ℕ → Server → Bool
server_ok n a =
    leb a.view.0 n && (ltb a.keys.0 (2 ^ n) && ((a.faulty || (eqb a.keys.0 0 || eqb a.keys.0 (bit_of a.view.0))) && entry_fits a.entry))

pub server_more : (m n : ℕ) (a : Server) → m ≤ n → server_ok m a ≡ true → server_ok n a ≡ true
server_more m n a l e =
    let p : a.view.0 ≤ n = omega (arith, leb-true a.view.0 m (first_so _ _ e)) in
    let r = second_so (leb a.view.0 m) _ e in
    and_from _ _ (le-leb _ _ p) (and_first (ltb a.keys.0 (2 ^ m)) _ (ltb a.keys.0 (2 ^ n)) (λ k. lt-ltb _ _ (lt_of_lt_of_le (ltb-true _ _ k) (pow_mono l))) r)

-- message n of w was sent, or is zero
pub mail_sent : {w : World} → Formed w → (n : ℕ) → 1 ≤ n → n ≤ w.used → sent_fits w (message w n) ≡ true
unfolding message_fits
mail_sent {w} h n l u = rw (le-leb n w.used u) at (h.mail n l (omega (arith, h.full)))

pub mail_zero : {w : World} → Formed w → (n : ℕ) → w.used < n → n ≤ messages → zero_message (message w n) ≡ true
unfolding message_fits
mail_zero {w} h n l u = rw (lt-leb n w.used l) at (h.mail n (omega arith) u)

pub is_mail : (w : World) (n : ℕ) → (n ≤ w.used → sent_fits w (message w n) ≡ true) → (w.used < n → zero_message (message w n) ≡ true) → message_fits w n ≡ true
unfolding message_fits
is_mail w n f g = go (dec_le n w.used)
  where
    go : Dec (n ≤ w.used) → if (leb n w.used) (sent_fits w (message w n)) (zero_message (message w n)) ≡ true
    go (yes h) = rw (le-leb n w.used h) (f h)
    go (no h) = let l : w.used < n = omega arith in rw (lt-leb n w.used l) (g l)

-- the request of an answer
pub request_of_lem : {w : World} → Formed w → (n : ℕ) → 1 ≤ n → n ≤ w.used → (message w n).kind ≡ ANSWER
    → (present w (message w n).request.0 && is_request (message w (message w n).request.0).kind) ≡ true
unfolding sent_fits
request_of_lem {w} h n l u k =
    let e = mail_sent h n l u in
    let e1 = second_so (within READ ANSWER (message w n).kind) _ e in
    let e2 = second_so (sender_fits (message w n).kind (message w n).sender) _ e1 in
    let e3 = second_so (tag_rule (newest w) (message w n).kind (message w n).view.0) _ e2 in
    rw (eq-eqb _ _ k) at (first_so (request_fits w (message w n)) _ e3)

taken_same : (w v : World) → ((n : ℕ) → message v n ≡ message w n) → v.used ≡ w.used → (q k : ℕ) → taken_answer v q k ≡ taken_answer w q k
unfolding taken_answer present
taken_same w v m u q k = rw (m k, u) refl

pub short : {w : World} → Formed w → (q : ℕ) → 1 ≤ q → q ≤ w.used → is_request (message w q).kind ≡ true → Short w q
short h q l u k = record { low = l; below = u; full = h.full; asked = k }

-- ---- worlds with the messages of another

same_chained : (w v : World) → ((n : ℕ) → message v n ≡ message w n) → v.used ≡ w.used → (q : ℕ) → Short w q → Chained w q → Chained v q
unfolding chain
same_chained w v m u q h c =
    let f : follow v messages (message v q).next.0 ≡ follow w messages (message w q).next.0 =
    ap (λ (x : Message). follow v messages x.next.0) (m q) ∙ follow_same w v (taken_answer w q) (λ k e. ap (λ (x : Message). x.next) (m k)) messages _ c.only in
    chained_of v q (record { low = h.low; below = omega (arith, h.below); full = omega (arith, h.full); asked = rw (m q) h.asked })
    (rw f (all_map (taken_answer w q) (taken_answer v q) _ (λ k e. rw (taken k) e) c.only))
    (λ k a b e. rw f (c.every k a (omega arith) (rw (taken k) at e))) (rw f c.once)
  where
    taken : (k : ℕ) → taken_answer v q k ≡ taken_answer w q k
    taken k = taken_same w v m u q k

view_raised : (w : World) (a : Administrator) (t : ℕ) → view (with_administrator w a) t ≡ view w t
unfolding view with_administrator
view_raised w a t = refl

views_kept : (w v : World) (t : ℕ) → view v t ≡ view w t → last_view v ≡ last_view w → view_fits w t ≡ true → view_fits v t ≡ true
unfolding view_fits
views_kept w v t e l f = rw (e, l) f

-- a client's record that fits in w fits in a later world
fits_client : {w v : World} → Onward w v → (c : ℕ) (a : Client) → client v c ≡ a → (client_range a && phase_fits w c a a.phase) ≡ true → client_fits v c ≡ true
unfolding client_fits
fits_client o c a q e = rw q (and_then (client_range a) _ _ (phase_on o c a a.phase) e)

keep_client : {w v : World} → Onward w v → (c : ℕ) → client v c ≡ client w c → client_fits w c ≡ true → client_fits v c ≡ true
unfolding client_fits
keep_client {w} o c q e = fits_client o c (client w c) q e

-- ---- servers and clients

-- w with other servers and clients
abbrev other : World → List Server → List Client → World
other w x y = record { used = w.used; administrator = w.administrator; view_list = w.view_list; server_list = x; client_list = y; message_list = w.message_list }

other_onward : (w : World) (x : List Server) (y : List Client) → Onward w (other w x y)
unfolding sent message
other_onward w x y = record { used = le_refl _; newest = le_refl _; same = λ i l h. refl }

formed_other : {w : World} → Formed w → (x : List Server) (y : List Client) → length x ≡ servers → length y ≡ clients
    → ((s : ℕ) → 1 ≤ s → s ≤ servers → server_fits (other w x y) s ≡ true) → ((c : ℕ) → 1 ≤ c → c ≤ clients → client_fits (other w x y) c ≡ true) → Formed (other w x y)
unfolding view_fits last_view view message
formed_other {w} h x y a b f g =
    record {
      view_count = h.view_count;
      server_count = a;
      client_count = b;
      message_count = h.message_count;
      full = h.full;
      low = h.low;
      high = h.high;
      ending = ending_on (other_onward w x y) refl w.administrator.ending h.ending;
      viewed = h.viewed;
      served = f;
      client = g;
      zero = h.zero;
      mail = λ n l u. is_mail (other w x y) n (λ k. fits_on (other_onward w x y) (message w n) (mail_sent h n l k)) (λ k. mail_zero h n k u);
      chained = λ r l u. chain_fits_lem (other w x y) r (λ q. same_chained w (other w x y) (λ n. refl) refl r (short h r l u q) (chained w r (h.chained r l u) q));
    }

server_fits_lem : (w : World) (s : ℕ) → server_fits w s ≡ true → server_ok (newest w) (server w s) ≡ true
unfolding server_fits
server_fits_lem w s e = e

fits_server : (w : World) (s : ℕ) (a : Server) → server w s ≡ a → server_ok (newest w) a ≡ true → server_fits w s ≡ true
unfolding server_fits
fits_server w s a q e = rw q e

pub formed_server : {w : World} → Formed w → (s : ℕ) → 1 ≤ s → s ≤ servers → (b : Server) → server_ok (newest w) b ≡ true → Formed (with_server w s b)
unfolding with_server server client
formed_server {w} h s l u b e =
    formed_other h (replace w.server_list s b) w.client_list (length_replace w.server_list s b ∙ h.server_count) h.client_count (λ x a c. go x a c (ℕ_discrete x s))
    (λ c a d. clients_kept c (h.client c a d))
  where
    go : (x : ℕ) → 1 ≤ x → x ≤ servers → Dec (x ≡ s) → server_fits (with_server w s b) x ≡ true
    go x a c (yes q) = rw q (fits_server (with_server w s b) s b (server_same w s b l (omega (arith, h.server_count))) e)
    go x a c (no q) = fits_server (with_server w s b) x (server w x) (server_other w s b x q) (server_fits_lem w x (h.served x a c))

    clients_kept : (c : ℕ) → client_fits w c ≡ true → client_fits (with_server w s b) c ≡ true
    clients_kept c = keep_client (other_onward w (replace w.server_list s b) w.client_list) c refl

-- a client's record in w
abbrev pub client_ok : World → ℕ → Client → Bool
client_ok w c a = client_range a && phase_fits w c a a.phase

pub formed_client : {w : World} → Formed w → (c : ℕ) → 1 ≤ c → c ≤ clients → (a : Client) → client_ok w c a ≡ true → Formed (with_client w c a)
unfolding with_client server client
formed_client {w} h c l u a e =
    formed_other h w.server_list (replace w.client_list c a) h.server_count (length_replace w.client_list c a ∙ h.client_count)
    (λ s b d. fits_server (with_client w c a) s (server w s) refl (server_fits_lem w s (h.served s b d))) (λ x b d. go x b d (ℕ_discrete x c))
  where
    on : Onward w (with_client w c a)
    on = other_onward w w.server_list (replace w.client_list c a)

    go : (x : ℕ) → 1 ≤ x → x ≤ clients → Dec (x ≡ c) → client_fits (with_client w c a) x ≡ true
    go x b d (yes q) = rw q (fits_client on c a (client_same w c a l (omega (arith, h.client_count))) e)
    go x b d (no q) = keep_client on x (client_other w c a x q) (h.client x b d)

-- ---- a message is sent

module _ {w : World} (h : Formed w) (m : Message) (l : w.used < messages) (f : sent_fits w m ≡ true) (z : m.next.0 ≡ 0) (t : m.taken ≡ false) where
  abbrev after : World
  after = send w m

  after_used : after.used ≡ w.used + 1
  unfolding send
  after_used = refl

  after_onward : Onward w after
  unfolding send
  after_onward = record { used = omega arith; newest = le_refl _; same = λ i a b. sent_send w m i b }

  after_new : message after (w.used + 1) ≡ m
  after_new = message_new w m (omega (arith, h.message_count))

  after_beyond : (n : ℕ) → n ≢ w.used + 1 → message after n ≡ message w n
  unfolding message send
  after_beyond n q = get_or-set_other w.message_list (w.used + 1) n m no_message q

  after_mail : (n : ℕ) → 1 ≤ n → n ≤ messages → message_fits after n ≡ true
  after_mail n a b = is_mail after n (λ k. fits (ℕ_discrete n (w.used + 1)) (omega (arith, after_used))) (λ k. zeros (omega (arith, after_used)))
    where
      fits : Dec (n ≡ w.used + 1) → n ≤ w.used + 1 → sent_fits after (message after n) ≡ true
      fits (yes q) k = rw q (rw after_new (fits_on after_onward m f))
      fits (no q) k = rw (after_beyond n q) (fits_on after_onward (message w n) (mail_sent h n a (omega arith)))

      zeros : w.used + 1 < n → zero_message (message after n) ≡ true
      zeros k = rw (after_beyond n (λ q. omega arith)) (mail_zero h n (omega arith) b)

  -- no new answer is taken, and none of the old has the new number for its request
  taken_back : (q k : ℕ) → taken_answer after q k ≡ true → taken_answer w q k ≡ true
  taken_back q k e = go (taken_is after q k e) (ℕ_discrete k (w.used + 1))
    where
      go : Is after q k → Dec (k ≡ w.used + 1) → taken_answer w q k ≡ true
      go i (yes j) = clash i.taken (ap (λ (x : ℕ). (message after x).taken) j ∙ ap (λ (x : Message). x.taken) after_new ∙ t)
      go i (no j) =
          let s = after_beyond k j in
          is_taken_lem w q k
          (record {
            low = i.low;
            below = omega (arith, i.below, after_used);
            is = sym (ap (λ (x : Message). x.kind) s) ∙ i.is;
            taken = sym (ap (λ (x : Message). x.taken) s) ∙ i.taken;
            request = sym (ap (λ (x : Message). x.request.0) s) ∙ i.request;
          })

  taken_on : (q k : ℕ) → taken_answer w q k ≡ true → taken_answer after q k ≡ true
  taken_on q k e =
      let i = taken_is w q k e in
      let s = after_beyond k (λ j. omega (arith, i.below)) in
      is_taken_lem after q k
      (record {
        low = i.low;
        below = omega (arith, i.below, after_used);
        is = ap (λ (x : Message). x.kind) s ∙ i.is;
        taken = ap (λ (x : Message). x.taken) s ∙ i.taken;
        request = ap (λ (x : Message). x.request.0) s ∙ i.request;
      })

  chain_old : (q : ℕ) → Short w q → Chained w q → Chained after q
  unfolding chain
  chain_old q s c =
      let e : message after q ≡ message w q = after_beyond q (λ j. omega (arith, s.below)) in
      let g : follow after messages (message after q).next.0 ≡ follow w messages (message w q).next.0 =
      ap (λ (x : Message). follow after messages x.next.0) e
      ∙ follow_same w after (taken_answer w q) (λ k b. ap (λ (x : Message). x.next) (after_beyond k (λ j. omega (arith, (taken_is w q k b).below)))) messages (message w q).next.0 c.only in
      chained_of after q
      (record { low = s.low; below = omega (arith, s.below, after_used); full = omega (arith, after_used); asked = rw e s.asked })
      (rw g (all_map (taken_answer w q) (taken_answer after q) _ (taken_on q) c.only))
      (λ k a b j. rw g (let y = taken_back q k j in c.every k a (taken_is w q k y).below y))
      (rw g c.once)

  chain_fresh : is_request (message after (w.used + 1)).kind ≡ true → Chained after (w.used + 1)
  unfolding chain follow all distinct
  chain_fresh q =
      let e : chain after (w.used + 1) ≡ [] = ap (λ (n : ℕ). follow after messages n) (ap (λ (x : Message). x.next.0) after_new ∙ z) in
      chained_of after (w.used + 1) (record { low = omega arith; below = omega (arith, after_used); full = omega (arith, after_used); asked = q })
      (rw e refl) (λ k a b j. absurd (none k (taken_is w (w.used + 1) k (taken_back (w.used + 1) k j)))) (rw e refl)
    where
      none : (k : ℕ) → Is w (w.used + 1) k → ⊥
      none k i = let (a, b) = present_is w (message w k).request.0 (first_so _ _ (request_of_lem h k i.low i.below i.is)) in omega (arith, i.request)

  pub formed_send : Formed after
  unfolding send view_fits last_view view server_fits server client
  formed_send =
      record {
        view_count = h.view_count;
        server_count = h.server_count;
        client_count = h.client_count;
        message_count = length-set w.message_list (w.used + 1) m ∙ h.message_count;
        full = omega arith;
        low = h.low;
        high = h.high;
        ending = ending_on after_onward refl w.administrator.ending h.ending;
        viewed = h.viewed;
        served = h.served;
        client = λ c a b. keep_client after_onward c refl (h.client c a b);
        zero = rw (after_beyond 0 (λ q. omega arith)) h.zero;
        mail = after_mail;
        chained = λ r a b. chain_fits_lem after r (λ q. go r a b q (ℕ_discrete r (w.used + 1)));
      }
    where
      go : (r : ℕ) → 1 ≤ r → r ≤ w.used + 1 → is_request (message after r).kind ≡ true → Dec (r ≡ w.used + 1) → Chained after r
      go r a b q (yes e) = subst (Chained after) (sym e) (chain_fresh (rw e at q))
      go r a b q (no e) =
          let s = rw (after_beyond r e) at q in
          let u : r ≤ w.used = omega arith in
          chain_old r (short h r a u s) (chained w r (h.chained r a u) s)

-- ---- an answer is taken

-- a message with the content of one that fits, whose mark and link fit
refit : (w : World) (m n : Message) → content n ≡ content m → (m.kind ≡ ANSWER) ⊎ (n.taken ≡ m.taken) → next_fits n ≡ true → sent_fits w m ≡ true → sent_fits w n ≡ true
unfolding sent_fits content
refit w m n c t x e =
    let e1 = second_so (within READ ANSWER m.kind) _ e in
    let e2 = second_so (sender_fits m.kind m.sender) _ e1 in
    let e3 = second_so (tag_rule (newest w) m.kind m.view.0) _ e2 in
    let e4 = second_so (request_fits w m) _ e3 in
    let e5 = second_so (next_fits m) _ e4 in
    and_from _ _ (ap (λ (y : Message). within READ ANSWER y.kind) c ∙ first_so _ _ e)
    (and_from _ _ (ap (λ (y : Message). sender_fits y.kind y.sender) c ∙ first_so _ _ e1)
    (and_from _ _ (ap (λ (y : Message). tag_rule (newest w) y.kind y.view.0) c ∙ first_so _ _ e2)
    (and_from _ _ (asked t (first_so _ _ e3))
    (and_from _ _ x
    (and_from _ _ (ap (λ (y : Message). entry_zero y) c ∙ first_so (entry_zero m) _ e5) (ap (λ (y : Message). entry_fits y.entry) c ∙ second_so (entry_zero m) _ e5))))))
  where
    asked : (m.kind ≡ ANSWER) ⊎ (n.taken ≡ m.taken) → request_fits w m ≡ true → request_fits w n ≡ true
    asked (inl k) e =
        let q : eqb n.kind ANSWER ≡ true = eq-eqb _ _ (ap (λ (y : Message). y.kind) c ∙ k) in
        rw q (ap (λ (y : Message). present w y.request.0 && is_request (message w y.request.0).kind) c ∙ (rw (eq-eqb m.kind ANSWER k) at e))
    asked (inr k) e = ap₂ (λ (y : Message) (b : Bool). if (eqb y.kind ANSWER) (present w y.request.0 && is_request (message w y.request.0).kind) (not b && eqb y.request.0 0)) c k ∙ e

next_fits_lem : (w : World) (n : ℕ) → sent_fits w (message w n) ≡ true → next_fits (message w n) ≡ true
unfolding sent_fits
next_fits_lem w n e =
    let m = message w n in
    let e1 = second_so (within READ ANSWER m.kind) _ e in
    let e2 = second_so (sender_fits m.kind m.sender) _ e1 in
    let e3 = second_so (tag_rule (newest w) m.kind m.view.0) _ e2 in
    first_so (next_fits m) _ (second_so (request_fits w m) _ e3)

same_content : (w : World) (k n : ℕ) → content (message (link w k) n) ≡ content (message w n)
unfolding sent
same_content w k n = sent_link w k n

link_newest : (w : World) (k : ℕ) → newest w ≤ newest (link w k)
unfolding link with_message
link_newest w k = le_refl _

module _ {w : World} (h : Formed w) {k r : ℕ} (u : Untaken w k r) where
  linked_onward : Onward w (link w k)
  linked_onward = record { used = omega (arith, link_used w k); newest = link_newest w k; same = λ i a b. sent_link w k i }

  linked_fits : (n : ℕ) → 1 ≤ n → n ≤ w.used → sent_fits (link w k) (message (link w k) n) ≡ true
  linked_fits n a b =
      fits_on linked_onward (message (link w k) n) (refit w (message w n) (message (link w k) n) (contents n) (marks (ℕ_discrete n k)) (nexts (ℕ_discrete n k) (ℕ_discrete n r)) (mail_sent h n a b))
    where
      contents : (n : ℕ) → content (message (link w k) n) ≡ content (message w n)
      contents n = same_content w k n

      marks : Dec (n ≡ k) → ((message w n).kind ≡ ANSWER) ⊎ ((message (link w k) n).taken ≡ (message w n).taken)
      marks (yes q) = inl (rw q u.is)
      marks (no q) = inr (link_taken_other w k n q)

      nexts : Dec (n ≡ k) → Dec (n ≡ r) → next_fits (message (link w k) n) ≡ true
      nexts (yes q) d = or_left _ _ (or_right (is_request (message (link w k) n).kind) _ (ap (λ (x : ℕ). (message (link w k) x).taken) q ∙ v_taken u))
      nexts (no q) (yes d) = or_left _ _ (or_left _ _ (ap is_request (v_kind u n) ∙ ap (λ (x : ℕ). is_request (message w x).kind) d ∙ u.asked))
      nexts (no q) (no d) = ap next_fits (v_other u n q d) ∙ next_fits_lem w n (mail_sent h n a b)

  pub formed_link : Formed (link w k)
  unfolding link with_message view_fits last_view view server_fits server client
  formed_link =
      record {
        view_count = h.view_count;
        server_count = h.server_count;
        client_count = h.client_count;
        message_count = link_count w k ∙ h.message_count;
        full = h.full;
        low = h.low;
        high = h.high;
        ending = ending_on linked_onward refl w.administrator.ending h.ending;
        viewed = h.viewed;
        served = h.served;
        client = λ c a b. keep_client linked_onward c refl (h.client c a b);
        zero = rw (v_other u 0 (λ q. omega (arith, u.low)) (λ q. omega (arith, u.from))) h.zero;
        mail = λ n a b. is_mail (link w k) n (λ j. linked_fits n a j) (λ j. rw (v_other u n (λ q. omega (arith, u.below)) (λ q. omega (arith, u.to))) (mail_zero h n j b));
        chained = λ q a b. chain_fits_lem (link w k) q (λ i. let s = short h q a b (rw (v_kind u q) at i) in link_chained u q s (chained w q (h.chained q a b) s.asked));
      }

-- ---- a chain is emptied

-- a request is not taken
pub request_free : {w : World} → Formed w → (r : ℕ) → 1 ≤ r → r ≤ w.used → is_request (message w r).kind ≡ true → (message w r).taken ≡ false
unfolding sent_fits
request_free {w} h r l u k =
    let m = message w r in
    let e1 = second_so (within READ ANSWER m.kind) _ (mail_sent h r l u) in
    let e2 = second_so (sender_fits m.kind m.sender) _ e1 in
    let e3 = second_so (tag_rule (newest w) m.kind m.view.0) _ e2 in
    not-true _ (first_so _ _ (rw (not_answer m.kind k) at (first_so (request_fits w m) _ e3)))

module _ {w : World} (h : Formed w) {r : ℕ} (f : Rooted w r) where
  emptied_newest : newest (emptied w r) ≡ newest w
  unfolding emptied as_sent
  emptied_newest = refl

  pub emptied_onward : Onward w (emptied w r)
  emptied_onward = record { used = omega (arith, emptied_used f); newest = omega (arith, emptied_newest); same = λ i a b. emptied_sent f i }

  emptied_fits : (n : ℕ) → 1 ≤ n → n ≤ w.used → sent_fits (emptied w r) (message (emptied w r) n) ≡ true
  unfolding sent content
  emptied_fits n a b =
      fits_on emptied_onward (message (emptied w r) n) (refit w (message w n) (message (emptied w r) n) (emptied_sent f n)
      (marks (cases_Bool (among f n))) (nexts (cases_Bool (among f n))) (mail_sent h n a b))
    where
      free : (n ≡ r) ⊎ Is w r n → (message (emptied w r) n).taken ≡ false → ((message w n).kind ≡ ANSWER) ⊎ ((message (emptied w r) n).taken ≡ (message w n).taken)
      free (inl q) t = inr (t ∙ sym (request_free h n a b (subst (λ (x : ℕ). is_request (message w x).kind ≡ true) (sym q) f.short.asked)))
      free (inr i) t = inl i.is

      marks : (among f n ≡ true) ⊎ (among f n ≡ false) → ((message w n).kind ≡ ANSWER) ⊎ ((message (emptied w r) n).taken ≡ (message w n).taken)
      marks (inl e) = free (among_is f n e) (ap (λ (m : Message). m.taken) (emptied_in f n e))
      marks (inr e) = inr (ap (λ (m : Message). m.taken) (emptied_out f n e))

      nexts : (among f n ≡ true) ⊎ (among f n ≡ false) → next_fits (message (emptied w r) n) ≡ true
      nexts (inl e) = or_right (is_request (message (emptied w r) n).kind || (message (emptied w r) n).taken) _ (eq-eqb _ _ (ap (λ (m : Message). m.next.0) (emptied_in f n e)))
      nexts (inr e) = ap next_fits (emptied_out f n e) ∙ next_fits_lem w n (mail_sent h n a b)

  pub formed_emptied : Formed (emptied w r)
  unfolding emptied as_sent view_fits last_view view server_fits server client
  formed_emptied =
      record {
        view_count = h.view_count;
        server_count = h.server_count;
        client_count = h.client_count;
        message_count = count_as w (r ∷ chain w r) ∙ h.message_count;
        full = h.full;
        low = h.low;
        high = h.high;
        ending = ending_on emptied_onward refl w.administrator.ending h.ending;
        viewed = h.viewed;
        served = h.served;
        client = λ c a b. keep_client emptied_onward c refl (h.client c a b);
        zero = rw (emptied_out f 0 (before f)) h.zero;
        mail = λ n a b. is_mail (emptied w r) n (λ j. emptied_fits n a j) (λ j. rw (emptied_out f n (beyond f n j)) (mail_zero h n j b));
        chained = λ q a b. chain_fits_lem (emptied w r) q (λ i. let s = short h q a b (rw (emptied_kind f q) at i) in emptied_chained f q s (chained w q (h.chained q a b) s.asked));
      }

-- ---- the administrator

-- "t+1 becomes the newest": the pending view is there already
module _ {w : World} (h : Formed w) (r : MessageNumber) (e : w.administrator.ending ≡ Some r) where
  abbrev raised : World
  raised = with_administrator w (advance w.administrator)

  raised_newest : newest raised ≡ newest w + 1
  unfolding with_administrator advance
  raised_newest = refl

  raised_onward : Onward w raised
  unfolding with_administrator advance sent message
  raised_onward = record { used = le_refl _; newest = omega arith; same = λ i a b. refl }

  raised_last : last_view raised ≡ last_view w
  unfolding last_view with_administrator advance
  raised_last = rw e (omega arith)

  raised_high : newest w + 1 ≤ views
  raised_high = let q = rw e at h.ending in omega (arith, ltb-true (newest w) views (first_so _ _ q))

  raised_view : (t : ℕ) → view_fits w t ≡ true → view_fits raised t ≡ true
  raised_view t = views_kept w raised t (same_view t) raised_last
    where
      same_view : (t : ℕ) → view raised t ≡ view w t
      same_view t = view_raised w (advance w.administrator) t

  pub formed_raise : Formed raised
  unfolding with_administrator advance message client server
  formed_raise =
      record {
        view_count = h.view_count;
        server_count = h.server_count;
        client_count = h.client_count;
        message_count = h.message_count;
        full = h.full;
        low = omega arith;
        high = raised_high;
        ending = refl;
        viewed = λ t a b. raised_view t (h.viewed t a b);
        served = λ s a b. fits_server raised s (server w s) refl (server_more (newest w) (newest w + 1) (server w s) (omega arith) (server_fits_lem w s (h.served s a b)));
        client = λ c a b. keep_client raised_onward c refl (h.client c a b);
        zero = h.zero;
        mail = λ n a b. is_mail raised n (λ k. fits_on raised_onward (message w n) (mail_sent h n a k)) (λ k. mail_zero h n k b);
        chained = λ q a b. chain_fits_lem raised q (λ i. same_chained w raised (λ n. refl) refl q (short h q a b i) (chained w q (h.chained q a b) i));
      }

ending_called : (w : World) (a : Administrator) (t : ℕ) (v : View) → (with_view (with_administrator w a) t v).administrator.ending ≡ a.ending
unfolding with_view with_administrator
ending_called w a t v = refl

-- the clause of a view
pub is_view : (w : World) (t : ℕ) → (t ≤ last_view w → sized (view w t) ≡ true) → (last_view w < t → zero_view (view w t) ≡ true) → view_fits w t ≡ true
unfolding view_fits
is_view w t f g = go (dec_le t (last_view w))
  where
    go : Dec (t ≤ last_view w) → if (leb t (last_view w)) (sized (view w t)) (zero_view (view w t)) ≡ true
    go (yes h) = rw (le-leb t (last_view w) h) (f h)
    go (no h) = let l : last_view w < t = omega arith in rw (lt-leb t (last_view w) l) (g l)

pub view_sized : (w : World) (t : ℕ) → view_fits w t ≡ true → t ≤ last_view w → sized (view w t) ≡ true
unfolding view_fits
view_sized w t e h = rw (le-leb t (last_view w) h) at e

view_zero : (w : World) (t : ℕ) → view_fits w t ≡ true → last_view w < t → zero_view (view w t) ≡ true
unfolding view_fits
view_zero w t e h = rw (lt-leb t (last_view w) h) at e

-- "its members and f are recorded and END t is sent": r is that END, just sent or, for a restart, still open
module _ {w : World} (h : Formed w) (v : View) (a : Administrator) (z : sized v ≡ true) (n : newest w < views) (p : a.newest ≡ w.administrator.newest) (r : ℕ) (q : a.ending ≡ Some (number r))
    (i : is_sent w r END 0 ≡ true) (t : (message w r).view.0 ≡ newest w) where
  abbrev called : World
  called = with_view (with_administrator w a) (newest w + 1) v

  called_newest : newest called ≡ newest w
  unfolding with_view with_administrator
  called_newest = ap (λ (x : ViewNumber). x.0) p

  called_last : last_view called ≡ newest w + 1
  unfolding last_view with_view with_administrator
  called_last = rw (p, q) refl

  last_low : newest w ≤ last_view w
  unfolding last_view
  last_low = omega arith

  last_high : last_view w ≤ newest w + 1
  unfolding last_view
  last_high = omega (arith, bit_le (is_ending w.administrator.ending))

  called_same : (x : ℕ) → x ≢ newest w + 1 → view called x ≡ view w x
  unfolding with_administrator view
  called_same x d = view_other (with_administrator w a) (newest w + 1) v x d

  called_pending : view called (newest w + 1) ≡ v
  unfolding with_administrator
  called_pending = view_same (with_administrator w a) (newest w + 1) v (omega arith) (omega (arith, h.view_count))

  called_views : (x : ℕ) → view_fits w x ≡ true → view_fits called x ≡ true
  called_views x e = go (ℕ_discrete x (newest w + 1))
    where
      go : Dec (x ≡ newest w + 1) → view_fits called x ≡ true
      go (yes d) = is_view called x (λ b. rw d (rw called_pending z)) (λ b. absurd (omega (arith, called_last)))
      go (no d) =
          is_view called x (λ b. rw (called_same x d) (view_sized w x e (omega (arith, called_last, last_low))))
          (λ b. rw (called_same x d) (view_zero w x e (omega (arith, called_last, last_high))))

  called_onward : Onward w called
  unfolding with_view with_administrator sent message
  called_onward = record { used = le_refl _; newest = omega (arith, called_newest); same = λ i a b. refl }

  called_sent : is_sent called r END 0 ≡ true
  called_sent = sent_on called_onward r END 0 i

  called_message : (x : ℕ) → message called x ≡ message w x
  unfolding with_view with_administrator message
  called_message x = refl

  called_ending : ending_fits called called.administrator.ending ≡ true
  called_ending =
      subst (λ (x : Ending). ending_fits called x ≡ true) (sym is_ending_lem)
      (and_from _ _ (lt-ltb _ _ below) (and_from _ _ called_sent (eq-eqb _ _ tag)))
    where
      below : newest called < views
      below = omega (arith, called_newest)

      tag : (message called r).view.0 ≡ newest called
      tag = ap (λ (m : Message). m.view.0) (called_message r) ∙ t ∙ sym called_newest

      is_ending_lem : called.administrator.ending ≡ Some (number r)
      is_ending_lem = ending_called w a (newest w + 1) v ∙ q

  pub formed_call : Formed called
  unfolding with_view with_administrator message client server
  formed_call =
      record {
        view_count = length_replace w.view_list (newest w + 1) v ∙ h.view_count;
        server_count = h.server_count;
        client_count = h.client_count;
        message_count = h.message_count;
        full = h.full;
        low = omega (arith, called_newest, h.low);
        high = omega (arith, called_newest, h.high);
        ending = called_ending;
        viewed = λ x b c. called_views x (h.viewed x b c);
        served = λ x b c. fits_server called x (server w x) refl (server_more (newest w) (newest called) (server w x) (omega (arith, called_newest)) (server_fits_lem w x (h.served x b c)));
        client = λ x b c. keep_client called_onward x refl (h.client x b c);
        zero = h.zero;
        mail = λ x b c. is_mail called x (λ k. fits_on called_onward (message w x) (mail_sent h x b k)) (λ k. mail_zero h x k c);
        chained = λ x b c. chain_fits_lem called x (λ k. same_chained w called (λ y. refl) refl x (short h x b c k) (chained w x (h.chained x b c) k));
      }
