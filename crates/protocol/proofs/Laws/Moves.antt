-- Every accepted step of a server or of the host satisfies the relation: deliver, fault, false answer. Assumes nothing.
use Rattle.std.specs.Prelude.{ℕ, ◌+◌, ◌≤◌, ◌<◌, Bool, not, ◌&&◌, ◌||◌, ◌≡◌, ◌⊎◌, ◌≢◌, length, eqb, None}
use Rattle.std.proofs.Math.Nat.{le_refl}
use Rattle.std.proofs.Math.Decide.{ℕ_discrete}
use native.Mathlib.Omega.{arith}
use Rattle.std.proofs.Math.Bool.{true, false}
use Rattle.std.proofs.Math.Path.{refl}
use Rattle.std.proofs.Common.{sym, ap, ◌∙◌, subst, ltb-true, eqb-true}
use Rattle.std.proofs.Math.Logic.{inl, inr}
use Rattle.std.proofs.lemmas.Bool.{eqb-false, not-true, and_from, or_cases, and_left, and_right, or_parts}
use Rattle.std.specs.Cmp.{first_so, second_so}
use Rattle.protocol.specs.Types.{Entry, Server, Message, Shown}
use Rattle.protocol.specs.Tools.{if, within, holds, bit_of, done, guard, passed, same_done}
use Rattle.protocol.specs.Sizes.{messages}
use Rattle.protocol.specs.Entries.{empty, larger}
use Rattle.protocol.specs.Servers.{READ, WRITE, END, START, ANSWER, is_request, Reply, answering, comparing, replacing, without_key, joining, gathering, read, write, end, start, serve, may_answer}
use Rattle.protocol.specs.Worlds.{World, view, server, client, message, newest, member, present, room, with_server, send}
use Rattle.protocol.specs.Steps.{After, moved, answer, answers, deliver, fault, source?, lie}
use Rattle.protocol.proofs.Laws.Tests.{by_test, clash, within_true, went}
use Rattle.protocol.proofs.Laws.Bits.{holds_bit_of, holds_or, holds_none}
use Rattle.protocol.proofs.Laws.Entries.{≼_refl, larger_left, larger_right, larger_one}
use Rattle.protocol.proofs.Laws.Worlds.{content, sent, sent_send, message_new, server_same, server_other, length_replace}
use Rattle.protocol.proofs.Laws.Kinds.{IsServer}
use Rattle.protocol.proofs.Laws.Change.{Sent, stay, join, Given, Carried, written, begun, Grew, Honest, Asked, Shows, nothing, old, its, Said, Acted, same, New, Posted, none as unsent, one, Change, Moved}
use Rattle.protocol.proofs.Laws.Sound.{Mail, Sound, mail_same, sized_same, sound_send, asked_on}

-- ---- forms that the steps share

-- a number of a kind is no other
pub apart : {A : Type 0} (m n : ℕ) → eqb m n ≡ false → m ≡ n → A
apart m n e q = absurd (eqb-false m n e q)

pub grew_refl : {w : World} {s : ℕ} (a : Server) → Grew w s a a
grew_refl a =
    record { view = le_refl _; entry = ≼_refl _; lost = λ t l h f. h; fair = λ t f. f; keys = λ t h. inl h; joined = stay refl; source = inl refl }

-- from w a step led to v and sent m last
pub record Post (w v : World) (m : Message) : Type 0 where
  pub used : v.used ≡ w.used + 1
  pub old : (i : ℕ) → i ≤ w.used → sent v i ≡ sent w i
  pub new : sent v v.used ≡ content m

-- m is sent in u, which has the messages of w
pub post : (w u : World) (m : Message) → Mail w → w.used < messages → u.used ≡ w.used → length u.message_list ≡ length w.message_list → ((i : ℕ) → sent u i ≡ sent w i) → Post w (send u m) m
unfolding sent send
post w u m h l e n f =
    record {
      used = rw e refl;
      old = λ i k. sent_send u m i (omega arith) ∙ f i;
      new = ap content (message_new u m (omega (arith, h.count)));
    }

pub posted : {w v : World} {m : Message} → Post w v m → New w v (content m) → (newest v ≡ newest w) ⊎ ((content m).kind ≡ START) → Posted w v
posted p n t = one p.used (rw p.new n) (rw p.new t)

-- no client acted
pub idle_acted : {w v : World} {kind : ℕ} → ((c : ℕ) → client v c ≡ client w c) → (c : ℕ) → 1 ≤ c → Acted w v 0 0 kind c
idle_acted e c l = same (e c) (λ q. omega arith) (λ q. omega arith)

pub room_left : (w : World) → room w ≡ true → w.used < messages
unfolding room
room_left w e = ltb-true _ _ e

pub present_is : (w : World) (n : ℕ) → present w n ≡ true → (1 ≤ n) × (n ≤ w.used)
unfolding present
present_is w n e = within_true 1 w.used n e

-- ---- a server changes

grew_all : {w : World} (v : World) {s : ℕ} {b : Server} → server v s ≡ b → ((x : ℕ) → x ≢ s → server v x ≡ server w x) → Grew w s (server w s) b → (x : ℕ) → Grew w x (server w x) (server v x)
grew_all {w} v {s} {b} e f g x = go (ℕ_discrete x s)
  where
    go : Dec (x ≡ s) → Grew w x (server w x) (server v x)
    go (yes q) = rw q (rw e g)
    go (no q) = rw (f x q) (grew_refl _)

-- server s of w is then b
module _ {w : World} (h : Sound w) {s : ℕ} (r : IsServer s) {b : Server} (g : Grew w s (server w s) b) where
  pub silent_sound : Sound (with_server w s b)
  unfolding with_server sent message view
  silent_sound =
      record {
        mail = mail_same h.mail refl refl (λ i. refl) h.mail.links;
        sized = sized_same h.sized refl refl;
        server_count = length_replace w.server_list s b ∙ h.server_count;
        client_count = h.client_count;
      }

  is_then : server (with_server w s b) s ≡ b
  is_then = server_same w s b r.low (omega (arith, r.high, h.server_count))

  -- without an answer
  pub silent_moves : (kind : ℕ) → Moved w (with_server w s b) 0 0 kind
  unfolding with_server sent message view client
  silent_moves kind =
      record {
        change = record { old = λ i l. refl; posted = unsent refl refl; views = λ t l. refl; grew = grew_all (with_server w s b) is_then (server_other w s b) g };
        acted = idle_acted (λ c. refl);
      }

  -- with an answer to the request n that shows x
  module _ (n : ℕ) (x : Shown) (l : w.used < messages) (q : Asked w n) where
    pub answer_sound : Sound (send (with_server w s b) (answer s n x))
    unfolding with_server sent message
    answer_sound = sound_send silent_sound (answer s n x) l refl (λ _. asked_on (record { more = le_refl _; old = λ i k. refl }) q)

    answer_then : server (send (with_server w s b) (answer s n x)) s ≡ b
    unfolding send with_server server
    answer_then = is_then

    answer_other : (y : ℕ) → y ≢ s → server (send (with_server w s b) (answer s n x)) y ≡ server w y
    unfolding send with_server server
    answer_other y o = server_other w s b y o

    posting : Post w (send (with_server w s b) (answer s n x)) (answer s n x)
    unfolding with_server sent message
    posting = post w (with_server w s b) (answer s n x) h.mail l refl refl (λ i. refl)

    said : holds (server w s).keys.0 x.view.0 ≡ true → Honest w (content (answer s n x)) b → x.entry ≡ b.entry → Said w (send (with_server w s b) (answer s n x)) (content (answer s n x))
    unfolding content
    said k o e = record { held = k; asked = q; shows = its (rw answer_then e); honest = λ _. rw answer_then o }

    pub answer_moves : holds (server w s).keys.0 x.view.0 ≡ true → Honest w (content (answer s n x)) b → x.entry ≡ b.entry → (kind : ℕ)
        → Moved w (send (with_server w s b) (answer s n x)) 0 0 kind
    unfolding send with_server view client content
    answer_moves k o e kind =
        record {
          change = record {
            old = posting.old;
            posted = posted posting (record { answer = λ _. said k o e; start = apart ANSWER START refl; write = apart ANSWER WRITE refl }) (inl refl);
            views = λ t l. refl;
            grew = grew_all (send (with_server w s b) (answer s n x)) answer_then answer_other g;
          };
          acted = idle_acted (λ c. refl);
        }

-- ---- deliver

-- the ways in which a server serves the message m
pub data Serving (a : Server) (m : Message) (member : Bool) (r : Reply) : Type 0 where
  reads : m.kind ≡ READ → holds a.keys.0 a.view.0 ≡ true → r ≡ answering a a → Serving a m member r
  writes : m.kind ≡ WRITE → holds a.keys.0 a.view.0 ≡ true → r ≡ write a m.entry → Serving a m member r
  ends : m.kind ≡ END → a.faulty ≡ false → holds a.keys.0 a.view.0 ≡ true → r ≡ answering a (without_key a) → Serving a m member r
  joins : m.kind ≡ START → member ≡ true → a.view.0 < m.view.0 → a.faulty ≡ false → r ≡ record { server = joining a m; answer = None } → Serving a m member r
  gathers : m.kind ≡ START → member ≡ true → a.faulty ≡ true → r ≡ record { server = gathering a m; answer = None } → Serving a m member r

pub is_done : {A : Type 0} {x y : A} → done x ≡ done y → y ≡ x
is_done e = cc

started : (a : Server) (m : Message) (member : Bool) (r : Reply) → m.kind ≡ START → start a m member ≡ done r → Serving a m member r
started a m member r k e =
    let (p, e1) = passed _ _ _ _ e in
    go a.faulty refl (first_so member _ p) (ltb-true _ _ (second_so member _ p)) e1
  where
    go : (f : Bool) → a.faulty ≡ f → member ≡ true → a.view.0 < m.view.0
        → if f (guard (not (holds a.keys.0 m.view.0)) 7 (done (record { server = gathering a m; answer = None }))) (done (record { server = joining a m; answer = None })) ≡ done r
        → Serving a m member r
    go true f i l e = let (p, e1) = passed _ _ _ _ e in gathers k i f (is_done e1)
    go false f i l e = joins k i l f (is_done e)

pub serving : (a : Server) (m : Message) (member : Bool) (r : Reply) → serve a m member ≡ done r → Serving a m member r
unfolding serve
serving a m member r e = let (p, e1) = passed _ _ _ _ e in first p (eqb m.kind START) refl e1
  where
    third : within READ START m.kind ≡ true → eqb m.kind START ≡ false → a.faulty ≡ false → holds a.keys.0 a.view.0 ≡ true → (b c : Bool) → eqb m.kind READ ≡ b
        → eqb m.kind WRITE ≡ c
        → if b (read a m) (if c (done (write a m.entry)) (end a m)) ≡ done r → Serving a m member r
    third p q f h true c x y e = reads (eqb-true _ _ x) h (is_done e)
    third p q f h false true x y e = writes (eqb-true _ _ y) h (is_done e)
    third p q f h false false x y e =
        let (v, e1) = passed _ _ _ _ e in
        let (l, u) = within_true READ START m.kind p in
        ends (only m.kind l u (eqb-false _ _ x) (eqb-false _ _ y) (eqb-false _ _ q)) f h (is_done e1)
      where
        only : (k : ℕ) → 1 ≤ k → k ≤ 4 → (k ≡ 1 → ⊥) → (k ≡ 2 → ⊥) → (k ≡ 4 → ⊥) → k ≡ 3
        only k l u a b c = omega arith

    first : within READ START m.kind ≡ true → (b : Bool) → eqb m.kind START ≡ b
        → if b (start a m member) (guard (not a.faulty) 6 (guard (holds a.keys.0 a.view.0) 7 (if (eqb m.kind READ) (read a m) (if (eqb m.kind WRITE) (done (write a m.entry)) (end a m))))) ≡ done r
        → Serving a m member r
    first p true x e = started a m member r (eqb-true _ _ x) e
    first p false x e =
        let (f, e1) = passed _ _ _ _ e in
        let (h, e2) = passed _ _ _ _ e1 in
        third p x (not-true _ f) h (eqb m.kind READ) (eqb m.kind WRITE) refl refl e2

-- what an accepted step leaves, and how it led there
pub record Lawful (w v : World) (done starter kind : ℕ) : Type 0 where
  pub sound : Sound v
  pub moved : Moved w v done starter kind

-- ---- what becomes of a server that serves message n of w

grew_without_key : {w : World} {s : ℕ} (a : Server) → a.faulty ≡ false → Grew w s a (without_key a)
unfolding without_key
grew_without_key a f =
    record {
      view = le_refl _;
      entry = ≼_refl _;
      lost = λ t l h g. holds_none t;
      fair = λ t g. and_left _ _ f;
      keys = λ t h. clash h (holds_none t);
      joined = stay refl;
      source = inl refl;
    }

grew_faulty : {w : World} {s : ℕ} (a : Server) → Grew w s a (record { view = a.view; faulty = true; keys = a.keys; entry = a.entry })
grew_faulty a =
    record { view = le_refl _; entry = ≼_refl _; lost = λ t l h g. h; fair = λ t g. and_right a.faulty _ g; keys = λ t h. inl h; joined = stay refl; source = inl refl }

module _ {w : World} {s n : ℕ} (a : Server) where
  grew_replacing : Sent w WRITE n → Grew w s a (replacing a (sent w n).entry (comparing a (sent w n).entry))
  unfolding comparing replacing larger
  grew_replacing p =
      record {
        view = le_refl _;
        entry = larger_left _ _;
        lost = λ t l h f. h;
        fair = λ t f. f;
        keys = λ t h. inl h;
        joined = stay refl;
        source = go (larger_one a.entry (sent w n).entry);
      }
    where
      go : {e : Entry} → (e ≡ a.entry) ⊎ (e ≡ (sent w n).entry) → (e ≡ a.entry) ⊎ Carried w e
      go (inl e) = inl e
      go (inr e) = inr (written n p (sym e))

  module _ (p : Sent w START n) (i : member w (sent w n).view.0 s ≡ true) where
    given : (t : ℕ) → holds (bit_of (sent w n).view.0) t ≡ true → Given w t s
    given t h = let e = holds_bit_of (sent w n).view.0 t h in record { by = n; sent_by = p; tag = sym e; to = rw e i }

    grew_joining : a.faulty ≡ false → a.view.0 < (sent w n).view.0 → Grew w s a (joining a (sent w n))
    unfolding joining
    grew_joining f l =
        record {
          view = omega arith;
          entry = larger_left _ _;
          lost = λ t k h g. by_test (holds (bit_of (sent w n).view.0) t) (λ e. absurd (late t k (holds_bit_of (sent w n).view.0 t e))) (λ e. e);
          fair = λ t g. and_left _ _ f;
          keys = λ t h. inr (given t h);
          joined = join n p refl (larger_right _ _);
          source = go (larger_one a.entry (sent w n).entry);
        }
      where
        late : (t : ℕ) → t ≤ a.view.0 → t ≡ (sent w n).view.0 → ⊥
        late t k e = omega arith

        go : {e : Entry} → (e ≡ a.entry) ⊎ (e ≡ (sent w n).entry) → (e ≡ a.entry) ⊎ Carried w e
        go (inl e) = inl e
        go (inr e) = inr (begun n p (sym e))

    grew_gathering : a.faulty ≡ true → Grew w s a (gathering a (sent w n))
    unfolding gathering
    grew_gathering f =
        record {
          view = le_refl _;
          entry = ≼_refl _;
          lost = λ t l h g. rw f at g;
          fair = λ t g. and_right a.faulty _ (or_parts (holds a.keys.0 t) _ (rw (f, holds_or) at g)).0;
          keys = λ t h. go t (or_cases _ _ (rw holds_or at h));
          joined = stay refl;
          source = inl refl;
        }
      where
        go : (t : ℕ) → (holds a.keys.0 t ≡ true) ⊎ (holds (bit_of (sent w n).view.0) t ≡ true) → (holds a.keys.0 t ≡ true) ⊎ Given w t s
        go t (inl h) = inl h
        go t (inr h) = inr (given t h)

-- "Fault": accepted
pub fault_lawful : {w : World} → Sound w → (s : ℕ) → IsServer s → (a : After) → fault w s ≡ done a → (kind : ℕ) → Lawful w a.world a.completed 0 kind
unfolding fault
fault_lawful {w} h s r a e kind =
    let (p, e1) = passed _ _ _ _ e in
    subst (λ (x : After). Lawful w x.world x.completed 0 kind) (same_done e1)
    (record { sound = silent_sound h r (grew_faulty (server w s)); moved = silent_moves h r (grew_faulty (server w s)) kind })

-- an answer that is sent where a number is left
answered : {w : World} (h : Sound w) {s : ℕ} (r : IsServer s) {b : Server} → Grew w s (server w s) b → (n : ℕ) (x : Shown) → Asked w n
    → holds (server w s).keys.0 x.view.0 ≡ true → Honest w (content (answer s n x)) b → x.entry ≡ b.entry
    → (a : After) → guard (room w) 10 (moved (send (with_server w s b) (answer s n x))) ≡ done a → (kind : ℕ) → Lawful w a.world a.completed 0 kind
answered {w} h r g n x q k o c a e kind =
    let (p, e1) = passed _ _ _ _ e in
    let l = room_left w p in
    subst (λ (y : After). Lawful w y.world y.completed 0 kind) (same_done e1)
    (record { sound = answer_sound h r g n x l q; moved = answer_moves h r g n x l q k o c kind })

silent : {w : World} (h : Sound w) {s : ℕ} (r : IsServer s) {b : Server} → Grew w s (server w s) b → (a : After) → moved (with_server w s b) ≡ done a → (kind : ℕ)
    → Lawful w a.world a.completed 0 kind
silent {w} h r g a e kind =
    subst (λ (y : After). Lawful w y.world y.completed 0 kind) (same_done e) (record { sound = silent_sound h r g; moved = silent_moves h r g kind })

-- "Deliver": accepted
pub deliver_lawful : {w : World} → Sound w → (s n : ℕ) → IsServer s → (a : After) → deliver w s n ≡ done a → (kind : ℕ) → Lawful w a.world a.completed 0 kind
unfolding deliver sent content comparing replacing larger without_key joining gathering
deliver_lawful {w} h s n r a e kind =
    let (p, e1) = passed _ _ _ _ e in
    let g = went _ _ _ e1 in
    go (present_is w n p) g.value (serving _ _ _ _ g.is) g.on
  where
    asked : (1 ≤ n) × (n ≤ w.used) → is_request (message w n).kind ≡ true → Asked w n
    asked p k = record { low = p.0; below = p.1; is = k }

    go : (1 ≤ n) × (n ≤ w.used) → (y : Reply) → Serving (server w s) (message w n) (member w (message w n).view.0 s) y → answers y.answer w s n y.server ≡ done a
        → Lawful w a.world a.completed 0 kind
    go p y (reads k i q) e =
        answered h r (grew_refl (server w s)) n _ (asked p (rw k refl)) i
        (record { home = refl; current = refl; write = λ z. apart READ WRITE refl (sym k ∙ z); ended = λ z. apart READ END refl (sym k ∙ z) })
        refl a (rw q at e) kind
    go p y (writes k i q) e =
        answered h r (grew_replacing (server w s) (record { below = p.1; is = k })) n _ (asked p (rw k refl)) i
        (record { home = refl; current = refl; write = λ z. larger_right _ _; ended = λ z. apart WRITE END refl (sym k ∙ z) })
        refl a (rw q at e) kind
    go p y (ends k f i q) e =
        answered h r (grew_without_key (server w s) f) n _ (asked p (rw k refl)) i
        (record { home = refl; current = refl; write = λ z. apart END WRITE refl (sym k ∙ z); ended = λ z. holds_none _ })
        refl a (rw q at e) kind
    go p y (joins k i l f q) e = silent h r (grew_joining (server w s) (record { below = p.1; is = k }) i f l) a (rw q at e) kind
    go p y (gathers k i f q) e = silent h r (grew_gathering (server w s) (record { below = p.1; is = k }) i f) a (rw q at e) kind

-- ---- a false answer

-- a new message that leaves servers, views and clients as they are
pub quiet : {w : World} (u : World) (m : Message) → Post w (send u m) m → ((s : ℕ) → server u s ≡ server w s) → ((t : ℕ) → t ≤ newest w → view u t ≡ view w t)
    → New w (send u m) (content m) → (newest u ≡ newest w) ⊎ ((content m).kind ≡ START) → Change w (send u m)
unfolding send server view
quiet {w} u m p e f n t =
    record { old = p.old; posted = posted p n t; views = f; grew = λ s. rw (e s) (grew_refl (server w s)) }

shows : (w : World) (source : ℕ) (own : Entry) → source? w source ≡ true → Shows w (if (eqb source 0) empty (message w source).entry) own
unfolding source? sent content
shows w source own e = go (eqb source 0) e
  where
    go : (b : Bool) → (b || (present w source && eqb (message w source).kind WRITE)) ≡ true → Shows w (if b empty (message w source).entry) own
    go true e = nothing refl
    go false e =
        let (l, k) = present_is w source (first_so _ _ e) in
        old source (record { below = k; is = eqb-true _ _ (second_so (present w source) _ e) }) refl

-- "False answer": accepted
pub lie_lawful : {w : World} → Sound w → (s t n source : ℕ) (a : After) → lie w s t n source ≡ done a → (kind : ℕ) → Lawful w a.world a.completed 0 kind
unfolding lie may_answer sent content send server client
lie_lawful {w} h s t n source a e kind =
    let (p, e1) = passed _ _ _ _ e in
    let g = went _ _ _ e1 in
    let (k, f1) = passed _ _ _ _ g.is in
    let (f, f2) = passed _ _ _ _ f1 in
    let (y, f3) = passed _ _ _ _ f2 in
    let (l, e2) = passed _ _ _ _ g.on in
    go p k f y (room_left w l) (same_done e2)
  where
    m : Message
    m = answer s n (record { view = record { 0 = t }; entry = if (eqb source 0) empty (message w source).entry })

    asked : present w n ≡ true → is_request (message w n).kind ≡ true → Asked w n
    asked p k = let (l, u) = present_is w n p in record { low = l; below = u; is = k }

    go : present w n ≡ true → (is_request (message w n).kind && source? w source) ≡ true → (server w s).faulty ≡ true → holds (server w s).keys.0 t ≡ true → w.used < messages
        → record { world = send w m; completed = 0 } ≡ a → Lawful w a.world a.completed 0 kind
    go p k f y l e =
        let q = asked p (first_so _ _ k) in
        subst (λ (x : After). Lawful w x.world x.completed 0 kind) e
        (record {
          sound = sound_send h m l refl (λ _. q);
          moved = record {
            change = quiet w m (post w w m h.mail l refl refl (λ i. refl)) (λ s. refl) (λ t l. refl)
                (record {
                  answer = λ _. record { held = y; asked = q; shows = shows w source _ (second_so (is_request (message w n).kind) _ k); honest = λ z. clash (and_from _ _ f y) z };
                  start = apart ANSWER START refl;
                  write = apart ANSWER WRITE refl;
                })
                (inl refl);
            acted = idle_acted (λ c. refl);
          };
        })
