-- Every accepted step of a client or of the administrator satisfies the relation: write, read, take, new view, giving up, a restart; so every
-- accepted step does. Assumes nothing.
use Rattle.std.specs.Prelude.{ℕ, zero, suc, ◌+◌, ◌≤◌, ◌<◌, Bool, false, not, ◌&&◌, ◌||◌, ◌≡◌, ◌⊎◌, ◌≢◌, List, length, eqb, None, Some}
use Rattle.std.proofs.Math.Decide.{ℕ_discrete, dec_le}
use Rattle.std.proofs.Common.{arith, ◌∙◌, inl, inr, ltb-true, eqb-true}
use Rattle.std.proofs.Math.Bool.{true}
use Rattle.std.proofs.Math.Path.{refl, sym, ap, subst}
use Rattle.std.proofs.Math.ListN.{get_or-eq_default}
use Rattle.std.proofs.lemmas.Bool.{eqb-false, or_cases}
use Rattle.std.specs.Cmp.{first_so, second_so}
use Rattle.protocol.specs.Types.{ViewNumber, MessageNumber, Entry, View, Phase, Idle, Reading, Writing, Client, Administrator, Ending, Message, Step}
use Rattle.protocol.specs.Tools.{if, nth, Result, refused, done, guard, passed, same_done}
use Rattle.protocol.specs.Sizes.{clients, views, messages, sized, read_size, write_size}
use Rattle.protocol.specs.Entries.{empty, chosen}
use Rattle.protocol.specs.Servers.{READ, WRITE, END, START, ANSWER}
use Rattle.protocol.specs.Clients.{WRITES, READS, number, is_idle, request_of, begin, give_up, close_size, to_write, given_by, Close, write_next, complete_with, once, close_by, close, is_ending, end_of, call, advance, keeps_view, restart}
use Rattle.protocol.specs.Worlds.{World, no_client, view, server, client, message, newest, present, room, with_client, with_view, with_message, with_administrator, send, next_number, as_sent}
use Rattle.protocol.specs.Chains.{enough, shown, agreed}
use Rattle.protocol.specs.Steps.{After, moved, request, begins, link, open?, taken_with, at_once, closes, starts, takes, take, new_view, gives_up, fields_fit, write_step, read_step, deliver_step, take_step, fault_step, false_step, view_step, give_up_step, row_of, view_asked, step, emptied, planned, restarts, restart_step}
use Rattle.protocol.proofs.Laws.Tests.{clash, went}
use Rattle.protocol.proofs.Laws.Sizes.{covered}
use Rattle.protocol.proofs.Laws.Worlds.{content, sent, sent_link, client_same, client_other, view_same, view_other, length_replace, sent_as}
use Rattle.protocol.proofs.Laws.Change.{Votes, To, Chosen, Started, Closed, Kept, Agreed, Acted, same, exchanged, began, wrote, ended, gave_up, none as unsent}
use Rattle.protocol.proofs.Laws.Sound.{Sized, Sound, mail_same, mail_link, sized_same, sound_send, Taking, close_votes, close_agreed, close_chosen, link_count, mail_as}
use Rattle.protocol.proofs.Laws.Kinds.{IsClient, client_of_lem, server_of_lem, by_kind}
use Rattle.protocol.proofs.Laws.Moves.{apart, is_done, grew_refl, Post, post, quiet, idle_acted, room_left, present_is, Lawful, fault_lawful, deliver_lawful, lie_lawful}

idle_is : (p : Phase) → is_idle p ≡ true → p ≡ Idle
idle_is Idle e = refl
idle_is (Reading r) e = clash e refl
idle_is (Writing r) e = clash e refl

pub refused_done : {A B : Type 0} {n : ℕ} {v : A} → ◌≡◌ {A = Result A} (refused n) (done v) → B
refused_done e = let z : ◌≡◌ {A = ℕ} 0 1 = cc in absurd (omega arith)

-- only a client has an open phase
open_client : {w : World} → Sound w → (c r : ℕ) → request_of (client w c).phase ≡ r → 1 ≤ r → IsClient c
unfolding client nth
open_client {w} h zero r e l = absurd (omega arith)
open_client {w} h (suc c) r e l = go (dec_le (suc c) clients)
  where
    go : Dec (suc c ≤ clients) → IsClient (suc c)
    go (yes k) = record { low = omega arith; high = k }
    go (no k) =
        let z : 0 ≡ r = sym (ap (λ (x : Client). request_of x.phase) (get_or-eq_default w.client_list no_client (omega (arith, h.client_count)))) ∙ e in
        absurd (omega arith)

-- a world with one client changed
client_sound : {w : World} → Sound w → (c : ℕ) (a : Client) → Sound (with_client w c a)
unfolding with_client sent message view
client_sound {w} h c a =
    record {
      mail = mail_same h.mail refl refl (λ i. refl) h.mail.links;
      sized = sized_same h.sized refl refl;
      server_count = h.server_count;
      client_count = length_replace w.client_list c a ∙ h.client_count;
    }

-- ---- write and read

module _ {w : World} (h : Sound w) {c : ℕ} (r : IsClient c) (l : w.used < messages) (kind : ℕ) (a : Client) (i : (client w c).phase ≡ Idle)
    (p : a.phase ≡ Reading (number (w.used + 1))) (k : a.kind ≡ kind) (g : a.given ≡ (client w c).given) where
  abbrev begun : World
  begun = send (with_client w c a) (request READ c 0 empty)

  begun_post : Post w begun (request READ c 0 empty)
  unfolding with_client sent message
  begun_post = post w (with_client w c a) (request READ c 0 empty) h.mail l refl refl (λ i. refl)

  begun_client : client begun c ≡ a
  unfolding send with_client client
  begun_client = client_same w c a r.low (omega (arith, r.high, h.client_count))

  begun_other : (x : ℕ) → x ≢ c → client begun x ≡ client w x
  unfolding send with_client client
  begun_other x n = client_other w c a x n

  begun_acted : (x : ℕ) → 1 ≤ x → Acted w begun 0 c kind x
  unfolding send with_client
  begun_acted x n = go (ℕ_discrete x c)
    where
      go : Dec (x ≡ c) → Acted w begun 0 c kind x
      go (yes q) = rw q (began refl (λ z. omega (arith, r.low)) refl i (ap (λ (y : Client). y.phase) begun_client ∙ p) (ap (λ (y : Client). y.kind) begun_client ∙ k)
          (ap (λ (y : Client). y.given) begun_client ∙ g))
      go (no q) = same (begun_other x q) (λ z. omega arith) (λ z. q (sym z))

  begun_lawful : Lawful w begun 0 c kind
  unfolding with_client server view content
  begun_lawful =
      record {
        sound = sound_send (client_sound h c a) (request READ c 0 empty) l refl (apart READ ANSWER refl);
        moved = record {
          change = quiet (with_client w c a) (request READ c 0 empty) begun_post (λ s. refl) (λ t l. refl)
              (record { answer = apart READ ANSWER refl; start = apart READ START refl; write = apart READ WRITE refl }) (inl refl);
          acted = begun_acted;
        };
      }

-- "Write, read": accepted
pub begins_lawful : {w : World} → Sound w → {c : ℕ} → IsClient c → (kind value : ℕ) (a : After) → begins w c kind value ≡ done a → Lawful w a.world a.completed c kind
unfolding begins begin
begins_lawful {w} h {c} r kind value a e =
    let g = went _ _ _ e in
    let (i, f) = passed _ _ _ _ g.is in
    let (l, e1) = passed _ _ _ _ g.on in
    let q = is_done f in
    subst (λ (x : After). Lawful w x.world x.completed c kind) (same_done e1)
    (begun_lawful h r (room_left w l) kind g.value (idle_is _ i) (ap (λ (y : Client). y.phase) q) (ap (λ (y : Client). y.kind) q)
    (ap (λ (y : Client). y.given) q))

-- "Giving up an operation": accepted
pub gives_up_lawful : {w : World} → Sound w → {c : ℕ} → IsClient c → (a : After) → gives_up w c ≡ done a → (kind : ℕ) → Lawful w a.world a.completed 0 kind
unfolding gives_up give_up with_client server view sent message
gives_up_lawful {w} h {c} r a e kind =
    let g = went _ _ _ e in
    let (i, f) = passed _ _ _ _ g.is in
    let q = is_done f in
    subst (λ (x : After). Lawful w x.world x.completed 0 kind) (same_done g.on)
    (left_lawful g.value (ap (λ (y : Client). y.phase) q) (ap (λ (y : Client). y.given) q))
  where
    left_lawful : (b : Client) → b.phase ≡ Idle → b.given ≡ (client w c).given → Lawful w (with_client w c b) 0 0 kind
    left_lawful b p g =
        record {
          sound = client_sound h c b;
          moved = record {
            change = record { old = λ i l. refl; posted = unsent refl refl; views = λ t l. refl; grew = λ s. grew_refl (server w s) };
            acted = λ x l. go x l (ℕ_discrete x c);
          };
        }
      where
        is : client (with_client w c b) c ≡ b
        is = client_same w c b r.low (omega (arith, r.high, h.client_count))

        go : (x : ℕ) → 1 ≤ x → Dec (x ≡ c) → Acted w (with_client w c b) 0 0 kind x
        go x l (yes z) =
            rw z (gave_up (λ n. omega (arith, r.low)) (λ n. omega (arith, r.low)) (ap (λ (y : Client). y.phase) is ∙ p) (ap (λ (y : Client). y.given) is ∙ g))
        go x l (no z) = same (client_other w c b x z) (λ n. omega arith) (λ n. omega arith)

-- ---- take: the answer k, with view t, to request r

module _ {w : World} (h : Sound w) {k r t : ℕ} (y : Taking w k r t) where
  link_sound : Sound (link w k)
  unfolding link with_message view
  link_sound =
      record {
        mail = mail_link h.mail k y.answer.below y.answer.is;
        sized = sized_same h.sized refl refl;
        server_count = h.server_count;
        client_count = h.client_count;
      }

  -- it leaves its phase open
  open_lawful : (kind : ℕ) → Lawful w (link w k) 0 0 kind
  unfolding link with_message server view client
  open_lawful kind =
      record {
        sound = link_sound;
        moved = record {
          change = record { old = λ i l. sent_link w k i; posted = unsent refl refl; views = λ t l. refl; grew = λ s. grew_refl (server w s) };
          acted = idle_acted (λ c. refl);
        };
      }

  -- it closes a phase of client c
  module _ {c : ℕ} (i : IsClient c) (a : Client) where
    abbrev turned : World
    turned = with_client (link w k) c a

    turned_client : client turned c ≡ a
    turned_client = client_same (link w k) c a i.low (omega (arith, i.high, link_sound.client_count))

    turned_other : (x : ℕ) → x ≢ c → client turned x ≡ client w x
    unfolding link with_message client
    turned_other x n = client_other (link w k) c a x n

    turned_server : (s : ℕ) → server turned s ≡ server w s
    unfolding with_client link with_message server
    turned_server s = refl

    turned_view : (t : ℕ) → view turned t ≡ view w t
    unfolding with_client link with_message view
    turned_view t = refl

    turned_sent : (j : ℕ) → sent turned j ≡ sent w j
    unfolding with_client sent message
    turned_sent j = sent_link w k j

    turned_used : turned.used ≡ w.used
    unfolding with_client link with_message
    turned_used = refl

    turned_newest : newest turned ≡ newest w
    unfolding with_client link with_message
    turned_newest = refl

    turned_count : length turned.message_list ≡ length w.message_list
    unfolding with_client
    turned_count = link_count w k

    -- a WRITE phase: its operation is complete
    ended_lawful : (q : ℕ) → (client w c).phase ≡ Writing (number q) → a.phase ≡ Idle → a.entry ≡ (client w c).entry → a.given ≡ (client w c).given → Kept w q
        → (kind : ℕ) → Lawful w turned c 0 kind
    ended_lawful q p f e g v kind =
        record {
          sound = client_sound link_sound c a;
          moved = record {
            change = record { old = λ j l. turned_sent j; posted = unsent turned_used turned_newest; views = λ t l. turned_view t; grew = λ s. rw (turned_server s) (grew_refl (server w s)) };
            acted = λ x l. go x l (ℕ_discrete x c);
          };
        }
      where
        go : (x : ℕ) → 1 ≤ x → Dec (x ≡ c) → Acted w turned c 0 kind x
        go x l (yes z) =
            rw z (ended q refl (λ n. omega (arith, i.low)) p (ap (λ (b : Client). b.phase) turned_client ∙ f) (ap (λ (b : Client). b.entry) turned_client ∙ e)
            (ap (λ (b : Client). b.given) turned_client ∙ g) v)
        go x l (no z) = same (turned_other x z) (λ n. z (sym n)) (λ n. omega arith)

    -- a READ phase of a read whose answers agree: its operation is complete
    exchanged_lawful : (q : ℕ) → (client w c).phase ≡ Reading (number q) → (client w c).kind ≡ READS → a.phase ≡ Idle → a.given ≡ (client w c).given → Agreed w q a.entry
        → (kind : ℕ) → Lawful w turned c 0 kind
    exchanged_lawful q p r f g v kind =
        record {
          sound = client_sound link_sound c a;
          moved = record {
            change = record { old = λ j l. turned_sent j; posted = unsent turned_used turned_newest; views = λ t l. turned_view t; grew = λ s. rw (turned_server s) (grew_refl (server w s)) };
            acted = λ x l. go x l (ℕ_discrete x c);
          };
        }
      where
        go : (x : ℕ) → 1 ≤ x → Dec (x ≡ c) → Acted w turned c 0 kind x
        go x l (yes z) =
            rw z (exchanged q refl (λ n. omega (arith, i.low)) p r (ap (λ (b : Client). b.phase) turned_client ∙ f) (ap (λ (b : Client). b.given) turned_client ∙ g)
            (subst (λ (b : Client). Agreed w q b.entry) (sym turned_client) v))
        go x l (no z) = same (turned_other x z) (λ n. z (sym n)) (λ n. omega arith)

    -- a READ phase: its WRITE is sent
    module _ (l : w.used < messages) (q : ℕ) (e : Entry) (p : (client w c).phase ≡ Reading (number q)) (f : a.phase ≡ Writing (number (w.used + 1))) (b : a.kind ≡ (client w c).kind)
        (d : a.entry ≡ to_write (client w c) c e) (g : a.given ≡ given_by (client w c) e) (vs : Votes w t (read_size (view w t)) (λ s j. To w q e j)) (ch : Chosen w t q e) where
      abbrev wrotten : World
      wrotten = send turned (request WRITE c 0 a.entry)

      wrote_post : Post w wrotten (request WRITE c 0 a.entry)
      wrote_post = post w turned (request WRITE c 0 a.entry) h.mail l turned_used turned_count turned_sent

      wrote_client : client wrotten c ≡ a
      unfolding send client
      wrote_client = turned_client

      wrote_other : (x : ℕ) → x ≢ c → client wrotten x ≡ client w x
      unfolding send client
      wrote_other x n = turned_other x n

      wrote_phase : (client wrotten c).phase ≡ Writing (number wrotten.used)
      wrote_phase = ap (λ (x : Client). x.phase) wrote_client ∙ f ∙ ap (λ (n : ℕ). Writing (number n)) (sym wrote_post.used)

      closed : Closed w wrotten c q
      unfolding content
      closed =
          record {
            tag = t;
            entry = e;
            votes = vs;
            chosen = ch;
            writes = ap (λ (m : Message). m.kind) wrote_post.new;
            sender = ap (λ (m : Message). m.sender) wrote_post.new;
            carries = ap (λ (m : Message). m.entry) wrote_post.new ∙ d;
            given = ap (λ (y : Client). y.given) wrote_client ∙ g;
          }

      wrote_acted : (kind x : ℕ) → 1 ≤ x → Acted w wrotten 0 0 kind x
      unfolding content
      wrote_acted kind x n = go (ℕ_discrete x c)
        where
          go : Dec (x ≡ c) → Acted w wrotten 0 0 kind x
          go (yes z) =
              rw z (wrote q (λ o. omega (arith, i.low)) (λ o. omega (arith, i.low)) wrote_post.used p wrote_phase (ap (λ (y : Client). y.kind) wrote_client ∙ b)
              (ap (λ (y : Client). y.entry) wrote_client ∙ sym (ap (λ (m : Message). m.entry) wrote_post.new)) closed)
          go (no z) = same (wrote_other x z) (λ o. omega arith) (λ o. omega arith)

      wrote_lawful : (kind : ℕ) → Lawful w wrotten 0 0 kind
      unfolding content
      wrote_lawful kind =
          record {
            sound = sound_send (client_sound link_sound c a) (request WRITE c 0 a.entry) (omega (arith, turned_used)) refl (apart WRITE ANSWER refl);
            moved = record {
              change = quiet turned (request WRITE c 0 a.entry) wrote_post turned_server (λ t l. turned_view t)
                  (record { answer = apart WRITE ANSWER refl; start = apart WRITE START refl; write = λ _. record { low = i.low; was = q; reading = p; writing = wrote_phase } })
                  (inl turned_newest);
              acted = wrote_acted kind;
            };
          }

  -- it closes the END of the newest view
  module _ (l : w.used < messages) (e : Entry) (n : is_ending w.administrator.ending ≡ true) (z : (sent w r).kind ≡ END)
      (vs : Votes w (newest w) (write_size (view w (newest w))) (λ s j. To w r e j)) (ch : Chosen w (newest w) r e) where
    abbrev raised : World
    raised = with_administrator (link w k) (advance w.administrator)

    abbrev starting : Message
    starting = request START 0 (newest w + 1) e

    raised_view : (t : ℕ) → view raised t ≡ view w t
    unfolding with_administrator link with_message view
    raised_view t = refl

    raised_sound : Sound raised
    unfolding with_administrator advance sent message
    raised_sound =
        record {
          mail = mail_same link_sound.mail refl refl (λ i. refl) link_sound.mail.links;
          sized = record {
            count = link_sound.sized.count;
            low = omega arith;
            sizes = λ t a b. rw (raised_view t) (sizes_on t a (ℕ_discrete t (newest w + 1)) b);
            pending = λ i. clash i refl;
          };
          server_count = link_sound.server_count;
          client_count = link_sound.client_count;
        }
      where
        sizes_on : (t : ℕ) → 1 ≤ t → Dec (t ≡ newest w + 1) → t ≤ newest w + 1 → sized (view w t) ≡ true
        sizes_on t a (yes q) b = rw q (h.sized.pending n).0
        sizes_on t a (no q) b = h.sized.sizes t a (omega arith)

    raised_server : (s : ℕ) → server raised s ≡ server w s
    unfolding with_administrator link with_message server
    raised_server s = refl

    raised_client : (c : ℕ) → client (send raised starting) c ≡ client w c
    unfolding send with_administrator link with_message client
    raised_client c = refl

    raised_sent : (j : ℕ) → sent raised j ≡ sent w j
    unfolding with_administrator sent message
    raised_sent j = sent_link w k j

    raised_used : raised.used ≡ w.used
    unfolding with_administrator link with_message
    raised_used = refl

    raised_count : length raised.message_list ≡ length w.message_list
    unfolding with_administrator
    raised_count = link_count w k

    start_post : Post w (send raised starting) starting
    start_post = post w raised starting h.mail l raised_used raised_count raised_sent

    started : Started w (send raised starting) (content starting)
    unfolding content send with_administrator advance
    started = record { tag = refl; raised = refl; end = r; ends = z; votes = vs; chosen = ch }

    start_lawful : (kind : ℕ) → Lawful w (send raised starting) 0 0 kind
    unfolding content
    start_lawful kind =
        record {
          sound = sound_send raised_sound starting (omega (arith, raised_used)) refl (apart START ANSWER refl);
          moved = record {
            change = quiet raised starting start_post raised_server (λ t l. raised_view t)
                (record { answer = apart START ANSWER refl; start = λ _. started; write = apart START WRITE refl }) (inr refl);
            acted = idle_acted raised_client;
          };
        }

  -- a phase of client c closes with the chosen entry
  closes_lawful : (c : ℕ) → ((sent w r).kind ≡ END → ⊥) → request_of (client w c).phase ≡ r → enough w t (taken_with w k) (close_size (client w c).phase (view w t)) ≡ true
      → (a : After) → closes w k c (chosen (shown w t (taken_with w k))) (at_once w t (taken_with w k)) ≡ done a → (kind : ℕ) → Lawful w a.world a.completed 0 kind
  unfolding closes close
  closes_lawful c ne o en a e kind =
      let g = went _ _ _ e in
      go (client w c).phase refl o en g.value g.is g.on
    where
      e' : Entry
      e' = chosen (shown w t (taken_with w k))

      i : IsClient c
      i = open_client h c r o y.asked.low

      as_number : {q r : ℕ} → q ≡ r → number q ≡ number r
      as_number q = ap number q

      writes : {q : MessageNumber} → (client w c).phase ≡ Reading q → q.0 ≡ r → enough w t (taken_with w k) (read_size (view w t)) ≡ true → (x : Close)
          → write_next (client w c) c e' (next_number w) ≡ done x
          → if x.complete (done (record { world = with_client (link w k) c x.client; completed = c }))
          (guard (room w) 10 (moved (send (with_client (link w k) c x.client) (request WRITE c 0 x.client.entry)))) ≡ done a
          → Lawful w a.world a.completed 0 kind
      writes p o en x f e =
          let (u, f1) = passed _ _ _ _ f in
          let d = is_done f1 in
          let (l, e1) = passed _ _ _ _ (rw (ap (λ (z : Close). z.complete) d) at e) in
          subst (λ (z : After). Lawful w z.world z.completed 0 kind) (same_done e1)
          (wrote_lawful i x.client (room_left w l) r e' (p ∙ ap Reading (as_number o)) (ap (λ (z : Close). z.client.phase) d) (ap (λ (z : Close). z.client.kind) d)
          (ap (λ (z : Close). z.client.entry) d) (ap (λ (z : Close). z.client.given) d) (close_votes y _ en) (close_chosen y) kind)

      go : (p : Phase) → (client w c).phase ≡ p → request_of p ≡ r → enough w t (taken_with w k) (close_size p (view w t)) ≡ true → (x : Close)
          → close_by p (client w c) c e' (at_once w t (taken_with w k)) (next_number w) ≡ done x → if x.complete (done (record { world = with_client (link w k) c x.client; completed = c }))
          (guard (room w) 10 (moved (send (with_client (link w k) c x.client) (request WRITE c 0 x.client.entry)))) ≡ done a
          → Lawful w a.world a.completed 0 kind
      go Idle p o en x f e = refused_done f
      go (Reading q) p o en x f e = either (once (client w c) (at_once w t (taken_with w k))) refl f
        where
          exchange : (once (client w c) (at_once w t (taken_with w k))) ≡ true → x ≡ complete_with (client w c) e'
              → Lawful w a.world a.completed 0 kind
          exchange b d =
              let once? = second_so (eqb (client w c).kind READS) _ b in
              subst (λ (z : After). Lawful w z.world z.completed 0 kind) (same_done (rw (ap (λ (z : Close). z.complete) d) at e))
              (exchanged_lawful i x.client r (p ∙ ap Reading (as_number o)) (eqb-true _ _ (first_so _ _ b)) (ap (λ (z : Close). z.client.phase) d) (ap (λ (z : Close). z.client.given) d)
              (subst (Agreed w r) (sym (ap (λ (z : Close). z.client.entry) d))
              (record {
                tag = t;
                votes = close_agreed y _ en (first_so _ _ once?);
                covers = covered (view w t)
                    (second_so (agreed w t (taken_with w k)) _ once?);
                chosen = close_chosen y;
                other = ne;
              })) kind)

          either : (b : Bool) → (once (client w c) (at_once w t (taken_with w k))) ≡ b
              → if b (done (complete_with (client w c) e')) (write_next (client w c) c e' (next_number w)) ≡ done x
              → Lawful w a.world a.completed 0 kind
          either true b f = exchange b (is_done f)
          either false b f = writes p o en x f e
      go (Writing q) p o en x f e =
          let d = is_done f in
          subst (λ (z : After). Lawful w z.world z.completed 0 kind) (same_done (rw (ap (λ (z : Close). z.complete) d) at e))
          (ended_lawful i x.client r (p ∙ ap Writing (as_number o)) (ap (λ (z : Close). z.client.phase) d) (ap (λ (z : Close). z.client.entry) d) (ap (λ (z : Close). z.client.given) d)
          (record { tag = t; entry = e'; votes = close_votes y _ en; chosen = close_chosen y }) kind)

  starts_lawful : (message w r).kind ≡ END → end_of w.administrator.ending ≡ r → t ≡ newest w → enough w t (taken_with w k) (write_size (view w t)) ≡ true
      → (a : After) → starts w k (chosen (shown w t (taken_with w k))) ≡ done a → (kind : ℕ) → Lawful w a.world a.completed 0 kind
  unfolding starts sent content
  starts_lawful z o q en a e kind =
      let (l, e1) = passed _ _ _ _ e in
      subst (λ (x : After). Lawful w x.world x.completed 0 kind) (same_done e1)
      (start_lawful (room_left w l) _ (ending w.administrator.ending o) z (at_newest q (close_votes y _ en)) (chosen_newest q (close_chosen y)) kind)
    where
      ending : (x : Ending) → end_of x ≡ r → is_ending x ≡ true
      ending None o = absurd (omega (arith, y.asked.low))
      ending (Some n) o = refl

      at_newest : {u : ℕ} {P : ℕ → ℕ → Type 0} → u ≡ newest w → Votes w u (write_size (view w u)) P → Votes w (newest w) (write_size (view w (newest w))) P
      at_newest {u} {P} q v = subst (λ (x : ℕ). Votes w x (write_size (view w x)) P) q v

      chosen_newest : {u : ℕ} {x : Entry} → u ≡ newest w → Chosen w u r x → Chosen w (newest w) r x
      chosen_newest {u} {x} q c = subst (λ (n : ℕ). Chosen w n r x) q c

  takes_lawful : open? w r ≡ true → (a : After) → takes w k r t ≡ done a → (kind : ℕ) → Lawful w a.world a.completed 0 kind
  unfolding takes open? sent content
  takes_lawful o a e kind = go (eqb (message w r).kind END) refl o e
    where
      stays : moved (link w k) ≡ done a → Lawful w a.world a.completed 0 kind
      stays e = subst (λ (x : After). Lawful w x.world x.completed 0 kind) (same_done e) (open_lawful kind)

      ends : (message w r).kind ≡ END → end_of w.administrator.ending ≡ r → (b : Bool) → (eqb t (newest w) && enough w t (taken_with w k) (write_size (view w t))) ≡ b
          → if b (starts w k (chosen (shown w t (taken_with w k)))) (moved (link w k)) ≡ done a → Lawful w a.world a.completed 0 kind
      ends z o true b e = starts_lawful z o (eqb-true _ _ (first_so _ _ b)) (second_so (eqb t (newest w)) _ b) a e kind
      ends z o false b e = stays e

      closing : ((message w r).kind ≡ END → ⊥) → request_of (client w (message w r).sender).phase ≡ r → (b : Bool)
          → enough w t (taken_with w k) (close_size (client w (message w r).sender).phase (view w t)) ≡ b
          → if b (closes w k (message w r).sender (chosen (shown w t (taken_with w k))) (at_once w t (taken_with w k))) (moved (link w k)) ≡ done a → Lawful w a.world a.completed 0 kind
      closing n o true b e = closes_lawful (message w r).sender n o b a e kind
      closing n o false b e = stays e

      go : (b : Bool) → eqb (message w r).kind END ≡ b → if b (eqb (end_of w.administrator.ending) r) (eqb (request_of (client w (message w r).sender).phase) r) ≡ true
          → if b (if (eqb t (newest w) && enough w t (taken_with w k) (write_size (view w t))) (starts w k (chosen (shown w t (taken_with w k)))) (moved (link w k)))
          (if (enough w t (taken_with w k) (close_size (client w (message w r).sender).phase (view w t)))
          (closes w k (message w r).sender (chosen (shown w t (taken_with w k))) (at_once w t (taken_with w k))) (moved (link w k))) ≡ done a
          → Lawful w a.world a.completed 0 kind
      go true b o e = ends (eqb-true _ _ b) (eqb-true _ _ o) _ refl e
      go false b o e = closing (eqb-false _ _ b) (eqb-true _ _ o) _ refl e

-- "Take": accepted
pub take_lawful : {w : World} → Sound w → (k : ℕ) (a : After) → take w k ≡ done a → (kind : ℕ) → Lawful w a.world a.completed 0 kind
unfolding take sent content
take_lawful {w} h k a e kind =
    let (p, e1) = passed _ _ _ _ e in
    let (o, e2) = passed _ _ _ _ e1 in
    let (l, u) = present_is w k (first_so _ _ p) in
    let i = eqb-true _ _ (second_so (present w k) _ p) in
    takes_lawful h (record { answer = record { below = u; is = i; request = refl }; tag = refl; asked = h.mail.asked k u i; mail = h.mail }) (second_so (not (message w k).taken) _ o) a e2 kind

-- ---- a new view

views_called : (w : World) (t : ℕ) (v : View) → length (with_view w t v).view_list ≡ length w.view_list
unfolding with_view
views_called w t v = length_replace w.view_list t v

views_kept : (w : World) (a : Administrator) → length (with_administrator w a).view_list ≡ length w.view_list
unfolding with_administrator
views_kept w a = refl

module _ {w : World} (h : Sound w) (v : View) (a : Administrator) (z : sized v ≡ true) (n : newest w < views) (p : a.newest ≡ w.administrator.newest) where
  abbrev called : World
  called = with_view (with_administrator w a) (newest w + 1) v

  called_view : (t : ℕ) → t ≤ newest w → view called t ≡ view w t
  unfolding with_administrator view
  called_view t k = view_other (with_administrator w a) (newest w + 1) v t (λ e. omega arith)

  called_pending : view called (newest w + 1) ≡ v
  unfolding with_administrator
  called_pending = view_same (with_administrator w a) (newest w + 1) v (omega arith) (omega (arith, h.sized.count))

  called_newest : newest called ≡ newest w
  unfolding with_view with_administrator
  called_newest = ap (λ (x : ViewNumber). x.0) p

  called_sized : Sized called
  called_sized =
      record {
        count = counted;
        low = rw called_newest h.sized.low;
        sizes = λ t b k. let m = rw called_newest at k in rw (called_view t m) (h.sized.sizes t b m);
        pending = λ _. (subst (λ (x : ℕ). sized (view called (x + 1)) ≡ true) (sym called_newest) (rw called_pending z), rw called_newest n);
      }
    where
      counted : length called.view_list ≡ views
      counted = views_called (with_administrator w a) (newest w + 1) v ∙ views_kept w a ∙ h.sized.count

  called_sound : Sound called
  unfolding with_view with_administrator sent message
  called_sound =
      record {
        mail = mail_same h.mail refl refl (λ i. refl) h.mail.links;
        sized = called_sized;
        server_count = h.server_count;
        client_count = h.client_count;
      }

  called_client : (c : ℕ) → client called c ≡ client w c
  unfolding with_view with_administrator client
  called_client c = refl

  called_server : (s : ℕ) → server called s ≡ server w s
  unfolding with_view with_administrator server
  called_server s = refl

  called_sent : (i : ℕ) → sent called i ≡ sent w i
  unfolding with_view with_administrator sent message
  called_sent i = refl

  called_used : called.used ≡ w.used
  unfolding with_view with_administrator
  called_used = refl

  -- and END is sent
  module _ (l : w.used < messages) where
    abbrev ending : Message
    ending = request END 0 (newest w) empty

    ending_client : (c : ℕ) → client (send called ending) c ≡ client w c
    unfolding send client
    ending_client c = called_client c

    call_post : Post w (send called ending) ending
    unfolding with_view with_administrator
    call_post = post w called ending h.mail l refl refl called_sent

    call_lawful : (kind : ℕ) → Lawful w (send called ending) 0 0 kind
    unfolding content
    call_lawful kind =
        record {
          sound = sound_send called_sound ending (omega (arith, called_used)) refl (apart END ANSWER refl);
          moved = record {
            change = quiet called ending call_post called_server called_view
                (record { answer = apart END ANSWER refl; start = apart END START refl; write = apart END WRITE refl }) (inl called_newest);
            acted = idle_acted ending_client;
          };
        }

-- "New view": accepted
pub new_view_lawful : {w : World} → Sound w → (v : View) (a : After) → new_view w v ≡ done a → (kind : ℕ) → Lawful w a.world a.completed 0 kind
unfolding new_view call
new_view_lawful {w} h v a e kind =
    let g = went _ _ _ e in
    let (p, f1) = passed _ _ _ _ g.is in
    let (z, f2) = passed _ _ _ _ f1 in
    let (l, e1) = passed _ _ _ _ g.on in
    subst (λ (x : After). Lawful w x.world x.completed 0 kind) (same_done e1)
    (call_lawful h v g.value (first_so _ _ z) (ltb-true _ _ (second_so (sized v) _ z)) (ap (λ (x : Administrator). x.newest) (is_done f2)) (room_left w l) kind)

-- ---- a restart

-- the messages ks are as they were sent
module _ {w : World} (h : Sound w) (ks : List ℕ) where
  as_sound : Sound (as_sent w ks)
  unfolding as_sent view
  as_sound =
      record {
        mail = mail_as h.mail ks;
        sized = sized_same h.sized refl refl;
        server_count = h.server_count;
        client_count = h.client_count;
      }

  -- and the pending view is v, if it has members
  module _ (v : View) (s : (keeps_view v || sized v) ≡ true) (e : is_ending w.administrator.ending ≡ true) where
    abbrev restarted : World
    restarted = planned (with_administrator (as_sent w ks) w.administrator) (newest w + 1) v

    kept_lawful : (kind : ℕ) → Lawful w (with_administrator (as_sent w ks) w.administrator) 0 0 kind
    unfolding with_administrator as_sent server view client
    kept_lawful kind =
        record {
          sound = as_sound;
          moved = record {
            change = record { old = λ i l. sent_as w ks i; posted = unsent refl refl; views = λ t l. refl; grew = λ s. grew_refl (server w s) };
            acted = idle_acted (λ c. refl);
          };
        }

    replaced_lawful : sized v ≡ true → (kind : ℕ) → Lawful w (with_view (with_administrator (as_sent w ks) w.administrator) (newest w + 1) v) 0 0 kind
    unfolding as_sent server view client
    replaced_lawful z kind =
        let b : newest w < views = (h.sized.pending e).1 in
        record {
          sound = called_sound as_sound v w.administrator z b refl;
          moved = record {
            change = record {
              old = λ i l. called_sent as_sound v w.administrator z b refl i ∙ sent_as w ks i;
              posted = unsent (called_used as_sound v w.administrator z b refl) (called_newest as_sound v w.administrator z b refl);
              views = called_view as_sound v w.administrator z b refl;
              grew = λ s. rw (called_server as_sound v w.administrator z b refl s) (grew_refl (server w s));
            };
            acted = idle_acted (called_client as_sound v w.administrator z b refl);
          };
        }

    restart_lawful : (kind : ℕ) → Lawful w restarted 0 0 kind
    restart_lawful kind = go (keeps_view v) s
      where
        go : (b : Bool) → (b || sized v) ≡ true
            → Lawful w (if b (with_administrator (as_sent w ks) w.administrator) (with_view (with_administrator (as_sent w ks) w.administrator) (newest w + 1) v)) 0 0 kind
        go true z = kept_lawful kind
        go false z = replaced_lawful z kind

-- "The administrator's PC stops": accepted
pub restarts_lawful : {w : World} → Sound w → (v : View) (a : After) → restarts w v ≡ done a → (kind : ℕ) → Lawful w a.world a.completed 0 kind
unfolding restarts restart emptied
restarts_lawful {w} h v a e kind =
    let g = went _ _ _ e in
    let (p, f1) = passed _ _ _ _ g.is in
    let (z, f2) = passed _ _ _ _ f1 in
    subst (λ (x : After). Lawful w x.world x.completed 0 kind) (same_done g.on) (rw (is_done f2) (restart_lawful h _ v z p kind))

-- ---- every step

-- the client whose operation a step begins, or 0
abbrev pub starter : Step → ℕ
starter st = if (eqb st.kind WRITES || eqb st.kind READS) st.who 0

-- Every accepted step is lawful.
pub step_lawful : {w : World} → Sound w → (st : Step) (a : After) → step w st ≡ done a → Lawful w a.world a.completed (starter st) st.kind
unfolding step row_of
step_lawful {w} h st a e =
    let (f, e1) = passed _ _ _ _ e in
    by_kind w st f (λ x. x ≡ done a → Lawful w a.world a.completed (starter st) st.kind)
    (λ q e. rw q (begins_lawful h (client_of_lem st write_step f q refl) WRITES st.value a e))
    (λ q e. rw q (begins_lawful h (client_of_lem st read_step f q refl) READS 0 a e))
    (λ q e. rw q (deliver_lawful h st.who st.message.0 (server_of_lem st deliver_step f q refl refl) a e deliver_step))
    (λ q e. rw q (take_lawful h st.message.0 a e take_step))
    (λ q e. rw q (fault_lawful h st.who (server_of_lem st fault_step f q refl refl) a e fault_step))
    (λ q e. rw q (lie_lawful h st.who st.view.0 st.message.0 st.source.0 a e false_step))
    (λ q e. rw q (new_view_lawful h (view_asked st) a e view_step))
    (λ q e. rw q (gives_up_lawful h (client_of_lem st give_up_step f q refl) a e give_up_step))
    (λ q e. rw q (restarts_lawful h (view_asked st) a e restart_step))
    e1

-- a step that begins an operation names its client
pub step_starter : (w : World) (st : Step) (a : After) → step w st ≡ done a → (eqb st.kind WRITES || eqb st.kind READS) ≡ true → 1 ≤ st.who
unfolding step row_of
step_starter w st a e t =
    let (f, e1) = passed _ _ _ _ e in
    go f (or_cases _ _ t)
  where
    go : fields_fit st ≡ true → (eqb st.kind WRITES ≡ true) ⊎ (eqb st.kind READS ≡ true) → 1 ≤ st.who
    go f (inl q) = (client_of_lem st 1 f (eqb-true _ _ q) refl).low
    go f (inr q) = (client_of_lem st 2 f (eqb-true _ _ q) refl).low
