-- While END is open, its taken answers with the newest view come from fewer servers than close it (`Unclosed`): so it is in a fresh
-- world, and every accepted step keeps it (`step_unclosed`). Used by Cut alone. Assumes nothing.
use Rattle.std.specs.Prelude.{ℕ, zero, suc, ◌+◌, ◌≤◌, ◌<◌, Bool, not, ◌&&◌, ◌≡◌, ◌⊎◌, ◌≢◌, List, [], ◌∷◌, leb, eqb, Option, None, Some}
use Rattle.std.proofs.Common.{arith, sym, ◌∙◌, inl, inr, eqb-true, eq-eqb}
use Rattle.std.proofs.Math.Bool.{true, false}
use Rattle.std.proofs.Math.Path.{refl, ap, subst}
use Rattle.std.proofs.lemmas.Bool.{eqb-false, lt-leb, not-true, cases_Bool}
use Rattle.std.specs.Cmp.{first_so, second_so}
use Rattle.protocol.specs.declared.MessageNumber.{MessageNumber}
use Rattle.protocol.specs.declared.Entry.{Entry}
use Rattle.protocol.specs.declared.View.{View}
use Rattle.protocol.specs.declared.Server.{Server}
use Rattle.protocol.specs.declared.Client.{Client}
use Rattle.protocol.specs.declared.Message.{Message}
use Rattle.protocol.specs.declared.Shown.{Shown}
use Rattle.protocol.specs.declared.Step.{Step}
use Rattle.protocol.specs.declared.Administrator.{Administrator}
use Rattle.protocol.specs.Types.{Ending}
use Rattle.protocol.specs.Tools.{if, count_to, any, all, Result, done, guard, passed}
use Rattle.protocol.specs.Sizes.{servers, messages, sized, write_size}
use Rattle.protocol.specs.Entries.{empty}
use Rattle.protocol.specs.Servers.{READ, END, ANSWER, serve, may_answer}
use Rattle.protocol.specs.Clients.{WRITES, READS, number, begin, give_up, close_size, close, end_of, is_ending, call, keeps_view, restart, advance}
use Rattle.protocol.specs.Worlds.{World, view, server, client, message, newest, member, room, with_server, with_client, with_view, with_message, with_administrator, send, as_sent, next_number}
use Rattle.protocol.specs.Chains.{follow, chain, tagged, heard, enough}
use Rattle.protocol.specs.Steps.{After, moved, request, answer, answers, begins, deliver, link, open?, taken_with, closes, starts, takes, take, fault, source?, lie, new_view, emptied, planned, restarts, gives_up, view_asked, step}
use Rattle.protocol.specs.Readable.{last_view, taken_answer}
use Rattle.protocol.proofs.Laws.Tests.{clash}
use Rattle.protocol.proofs.Laws.Sizes.{sizes}
use Rattle.protocol.proofs.Laws.Worlds.{content, sent, sent_link, message_send, message_new, view_other}
use Rattle.protocol.proofs.Laws.Formed.{Formed}
use Rattle.protocol.proofs.Laws.Sound.{not_answer}
use Rattle.protocol.proofs.Laws.Kinds.{by_kind}
use Rattle.protocol.proofs.Laws.Moves.{is_done, room_left}
use Rattle.preservation.specs.Chained.{Chained}
use Rattle.preservation.proofs.Chained.{follow_same}
use Rattle.preservation.specs.Links.{Untaken, Is}
use Rattle.preservation.proofs.Links.{taken_is, chain_head, v_other}
use Rattle.preservation.proofs.Emptied.{emptied_in, among_request}
use Rattle.preservation.proofs.Outcomes.{Yields, yields_done, yields_guard, yields_then, yields_if, yields_moved, yields_room}
use Rattle.preservation.proofs.Updates.{view_sized}
use Rattle.preservation.proofs.Kept.{untaken, ended, end_sent}
use Rattle.preservation.specs.Unclosed.{Unclosed}

-- ---- the servers heard

count_same : (p q : ℕ → Bool) (n : ℕ) → ((i : ℕ) → p i ≡ q i) → count_to p n ≡ count_to q n
unfolding count_to
count_same p q zero f = refl
count_same p q (suc n) f = rw (f (suc n), count_same p q n f) refl

-- answers as they were sent are heard alike
pub heard_on : (w v : World) (t : ℕ) (p : ℕ → Bool) → ((k : ℕ) → p k ≡ true → sent v k ≡ sent w k) → (ks : List ℕ) → all p ks ≡ true → (s : ℕ) → heard v t ks s ≡ heard w t ks s
unfolding heard any all sent content
heard_on w v t p f [] a s = refl
heard_on w v t p f (k ∷ ks) a s =
    let e = f k (first_so _ _ a) in
    let x : (tagged v t k && eqb (message v k).sender s) ≡ (tagged w t k && eqb (message w k).sender s) = ap (λ (m : Message). eqb m.view.0 t && eqb m.sender s) e in
    rw (x, heard_on w v t p f ks (second_so (p k) _ a) s) refl

pub enough_on : (w v : World) (t size : ℕ) (p : ℕ → Bool) → ((k : ℕ) → p k ≡ true → sent v k ≡ sent w k) → (ks : List ℕ) → all p ks ≡ true → enough v t ks size ≡ enough w t ks size
unfolding enough
enough_on w v t size p f ks a = ap (λ (n : ℕ). leb size n) (count_same (heard v t ks) (heard w t ks) servers (heard_on w v t p f ks a))

-- of another view
pub enough_other : (w : World) (t size k : ℕ) (ks : List ℕ) → tagged w t k ≡ false → enough w t (k ∷ ks) size ≡ enough w t ks size
unfolding enough heard any
enough_other w t size k ks e = ap (λ (n : ℕ). leb size n) (count_same (heard w t (k ∷ ks)) (heard w t ks) servers (λ s. rw e refl))

count_none : (n : ℕ) → count_to (λ i. false) n ≡ 0
unfolding count_to
count_none zero = refl
count_none (suc n) = rw (count_none n) refl

-- no answers
pub enough_none : (w : World) (t size : ℕ) → 1 ≤ size → enough w t [] size ≡ false
unfolding enough heard any
enough_none w t size l = lt-leb size _ (omega (arith, count_none servers))

newest_size : {w : World} → Formed w → 1 ≤ write_size (view w (newest w))
unfolding last_view
newest_size {w} h =
    let z : sized (view w (newest w)) ≡ true = view_sized w (newest w) (h.viewed (newest w) h.low h.high) (omega arith) in
    omega (arith, (sizes (view w (newest w)) z).write_one)

pub all_true : (ks : List ℕ) → all (λ j. true) ks ≡ true
unfolding all
all_true [] = refl
all_true (k ∷ ks) = all_true ks

-- ---- worlds with the END and its taken answers of another

record Same (w v : World) : Type 0 where
  administrator : v.administrator ≡ w.administrator
  view : view v (newest w) ≡ view w (newest w)
  mail : (r : MessageNumber) → w.administrator.ending ≡ Some r → (i : ℕ) → (i ≡ r.0) ⊎ Is w r.0 i → message v i ≡ message w i

empty_chain : (w : World) (r : ℕ) → (message w r).next.0 ≡ 0 → chain w r ≡ []
unfolding chain follow
empty_chain w r e = ap (λ (n : ℕ). follow w messages n) e

module _ {w : World} (h : Formed w) (g : Unclosed w) where
  same_unclosed : {v : World} → Same w v → Unclosed v
  unfolding chain sent
  same_unclosed {v} s = record { few = λ r e. go r (ap (λ (x : Administrator). x.ending) (sym s.administrator) ∙ e) }
    where
      go : (r : MessageNumber) → w.administrator.ending ≡ Some r → enough v (newest v) (chain v r.0) (write_size (view v (newest v))) ≡ false
      go r e =
          let c = (ended h r e).full.chain in
          let p : chain v r.0 ≡ chain w r.0 =
          ap (λ (m : Message). follow v messages m.next.0) (s.mail r e r.0 (inl refl))
          ∙ follow_same w v (taken_answer w r.0) (λ k b. ap (λ (m : Message). m.next) (s.mail r e k (inr (taken_is w r.0 k b)))) messages _ c.only in
          subst (λ (x : Administrator). enough v x.newest.0 (chain v r.0) (write_size (view v x.newest.0)) ≡ false) (sym s.administrator)
          (rw (s.view, p) (enough_on w v (newest w) _ (taken_answer w r.0) (λ k b. ap content (s.mail r e k (inr (taken_is w r.0 k b)))) (chain w r.0) c.only ∙ g.few r e))

  -- a message more
  same_send : {v : World} → Same w v → v.used ≡ w.used → (m : Message) → Same w (send v m)
  unfolding send view
  same_send {v} s u m = record { administrator = s.administrator; view = s.view; mail = λ r e i d. message_send v m i (low r e i d) ∙ s.mail r e i d }
    where
      low : (r : MessageNumber) → w.administrator.ending ≡ Some r → (i : ℕ) → (i ≡ r.0) ⊎ Is w r.0 i → i ≤ v.used
      low r e i (inl q) = omega (arith, (ended h r e).full.short.below)
      low r e i (inr q) = omega (arith, q.below)

same_self : (w : World) → Same w w
same_self w = record { administrator = refl; view = refl; mail = λ r e i d. refl }

-- other servers or clients
same_server : {w v : World} → Same w v → (s : ℕ) (b : Server) → Same w (with_server v s b)
unfolding with_server view message
same_server s n b = record { administrator = s.administrator; view = s.view; mail = s.mail }

same_client : {w v : World} → Same w v → (c : ℕ) (a : Client) → Same w (with_client v c a)
unfolding with_client view message
same_client s c a = record { administrator = s.administrator; view = s.view; mail = s.mail }

-- an answer to another request is taken
same_link : {w : World} → Formed w → {k q : ℕ} → Untaken w k q → eqb (message w q).kind END ≡ false → Same w (link w k)
unfolding link with_message view
same_link {w} h {k} {q} u n = record { administrator = refl; view = refl; mail = λ r e i d. v_other u i (not_k r e i d) (not_q r e i d) }
  where
    is_end : (r : MessageNumber) → w.administrator.ending ≡ Some r → (message w r.0).kind ≡ END
    is_end r e = (ended h r e).is

    not_k : (r : MessageNumber) → w.administrator.ending ≡ Some r → (i : ℕ) → (i ≡ r.0) ⊎ Is w r.0 i → i ≢ k
    not_k r e i (inl p) z = omega (arith, u.is, ap (λ (x : ℕ). (message w x).kind) (sym z ∙ p), is_end r e)
    not_k r e i (inr p) z = clash p.taken (ap (λ (x : ℕ). (message w x).taken) z ∙ u.free)

    not_q : (r : MessageNumber) → w.administrator.ending ≡ Some r → (i : ℕ) → (i ≡ r.0) ⊎ Is w r.0 i → i ≢ q
    not_q r e i (inl p) z = eqb-false _ _ n (ap (λ (x : ℕ). (message w x).kind) (sym z ∙ p) ∙ is_end r e)
    not_q r e i (inr p) z = clash (eq-eqb _ _ p.is) (subst (λ (x : ℕ). eqb (message w x).kind ANSWER ≡ false) (sym z) (not_answer (message w q).kind u.asked))

-- ---- by kind

abbrev Keeps : Result After → Type 0
Keeps x = Yields (λ (a : After). Unclosed a.world) x

pub settled_unclosed : (w : World) → w.administrator.ending ≡ None → Unclosed w
settled_unclosed w s = record { few = λ r e. clash refl (ap is_ending (sym e ∙ s)) }

module _ {w : World} (h : Formed w) (g : Unclosed w) where
  keeps_same : {v : World} → Same w v → Keeps (moved v)
  keeps_same {v} s = yields_moved v (same_unclosed h g s)

  keeps_send : {v : World} → Same w v → v.used ≡ w.used → (b : Bool) (m : Message) → Keeps (guard b 10 (moved (send v m)))
  keeps_send {v} s u b m = yields_room b (send v m) (same_unclosed h g (same_send h g s u m))

  begins_keeps : (c kind value : ℕ) → Keeps (begins w c kind value)
  unfolding begins with_client
  begins_keeps c kind value =
      yields_then (begin (client w c) kind value (next_number w)) _ (λ a _. keeps_send (same_client (same_self w) c a) refl (room w) (request READ c 0 empty))

  answers_keeps : (x : Option Shown) (s n : ℕ) (a : Server) → Keeps (answers x w s n a)
  unfolding with_server
  answers_keeps None s n a = keeps_same (same_server (same_self w) s a)
  answers_keeps (Some x) s n a = keeps_send (same_server (same_self w) s a) refl (room w) (answer s n x)

  deliver_keeps : (s n : ℕ) → Keeps (deliver w s n)
  unfolding deliver
  deliver_keeps s n =
      yields_guard _ _ _ (λ _. yields_then (serve (server w s) (message w n) (member w (message w n).view.0 s)) _ (λ r _. answers_keeps r.answer s n r.server))

  fault_keeps : (s : ℕ) → Keeps (fault w s)
  unfolding fault
  fault_keeps s = yields_guard _ _ _ (λ _. keeps_same (same_server (same_self w) s _))

  lie_keeps : (s t n c : ℕ) → Keeps (lie w s t n c)
  unfolding lie
  lie_keeps s t n c =
      yields_guard _ _ _ (λ _. yields_then (may_answer (server w s) t (message w n) (source? w c)) _ (λ a _. keeps_send (same_self w) refl (room w) _))

  gives_up_keeps : (c : ℕ) → Keeps (gives_up w c)
  unfolding gives_up
  gives_up_keeps c = yields_then (give_up (client w c)) _ (λ a _. keeps_same (same_client (same_self w) c a))

  -- take: the answer k, with view t, to request r
  module _ {k r t : ℕ} (u : Untaken w k r) (i : (message w k).view.0 ≡ t) where
    -- a phase of a client closes
    closes_keeps : eqb (message w r).kind END ≡ false → (c : ℕ) (e : Entry) (one : Bool) → Keeps (closes w k c e one)
    unfolding closes with_client link with_message
    closes_keeps n c e one =
        yields_then (close (client w c) c e one (next_number w)) _
        (λ x _. yields_if x.complete _ _ (λ _. yields_done _ (same_unclosed h g (same_client (same_link h u n) c x.client)))
        (λ _. keeps_send (same_client (same_link h u n) c x.client) refl (room w) _))

    starts_keeps : (e : Entry) → Keeps (starts w k e)
    unfolding starts send with_administrator advance
    starts_keeps e = yields_room (room w) _ (settled_unclosed _ refl)

    -- an answer to END that does not close it
    module _ (o : end_of w.administrator.ending ≡ r) (n : (eqb t (newest w) && enough w t (taken_with w k) (write_size (view w t))) ≡ false) where
      few_with : (q : MessageNumber) → w.administrator.ending ≡ Some q → enough w (newest w) (k ∷ chain w r) (write_size (view w (newest w))) ≡ false
      few_with q e = go (cases_Bool (eqb t (newest w)))
        where
          j : q.0 ≡ r
          j = sym (ap end_of e) ∙ o

          go : (eqb t (newest w) ≡ true) ⊎ (eqb t (newest w) ≡ false) → enough w (newest w) (k ∷ chain w r) (write_size (view w (newest w))) ≡ false
          go (inl z) =
              let d : enough w t (taken_with w k) (write_size (view w t)) ≡ false = rw z at n in
              subst (λ (x : ℕ). enough w x (k ∷ chain w r) (write_size (view w x)) ≡ false) (eqb-true _ _ z)
              (subst (λ (x : ℕ). enough w t (k ∷ chain w x) (write_size (view w t)) ≡ false) u.request d)
          go (inr z) =
              enough_other w (newest w) _ k (chain w r) (ap (λ (x : ℕ). eqb x (newest w)) i ∙ z)
              ∙ subst (λ (x : ℕ). enough w (newest w) (chain w x) (write_size (view w (newest w))) ≡ false) j (g.few q e)

      few_linked : (q : MessageNumber) → w.administrator.ending ≡ Some q → enough (link w k) (newest w) (chain (link w k) q.0) (write_size (view w (newest w))) ≡ false
      few_linked q e =
          let j : q.0 ≡ r = sym (ap end_of e) ∙ o in
          let c : Chained w r = subst (Chained w) j (ended h q e).full.chain in
          subst (λ (x : ℕ). enough (link w k) (newest w) (chain (link w k) x) (write_size (view w (newest w))) ≡ false) (sym j)
          (rw (chain_head u c) (enough_on w (link w k) (newest w) _ (λ j. true) (λ j _. sent_link w k j) (k ∷ chain w r) (all_true (k ∷ chain w r)) ∙ few_with q e))

      end_keeps : Unclosed (link w k)
      unfolding link with_message view
      end_keeps = record { few = few_linked }

    takes_keeps : open? w r ≡ true → Keeps (takes w k r t)
    unfolding takes open?
    takes_keeps o =
        yields_if (eqb (message w r).kind END) _ _
        (λ e. yields_if (eqb t (newest w) && enough w t (taken_with w k) (write_size (view w t))) _ _ (λ _. starts_keeps _)
        (λ n. yields_moved (link w k) (end_keeps (eqb-true _ _ (rw e at o)) n)))
        (λ e. yields_if (enough w t (taken_with w k) (close_size (client w (message w r).sender).phase (view w t))) _ _ (λ _. closes_keeps e (message w r).sender _ _)
        (λ _. keeps_same (same_link h u e)))

  take_keeps : (k : ℕ) → Keeps (take w k)
  unfolding take
  take_keeps k =
      yields_guard _ _ _ (λ p. yields_guard _ _ _ (λ o.
      takes_keeps (untaken h k p (not-true _ (first_so (not (message w k).taken) _ o))) refl (second_so (not (message w k).taken) _ o)))

-- an END without taken answers
bare_unclosed : (v : World) (r : ℕ) → v.administrator.ending ≡ Some (number r) → (message v r).next.0 ≡ 0 → 1 ≤ write_size (view v (newest v)) → Unclosed v
bare_unclosed v r e n l = record { few = λ q f. go q (sym (ap end_of e) ∙ ap end_of f) }
  where
    go : (q : MessageNumber) → r ≡ q.0 → enough v (newest v) (chain v q.0) (write_size (view v (newest v))) ≡ false
    go q j =
        subst (λ (x : ℕ). enough v (newest v) (chain v x) (write_size (view v (newest v))) ≡ false) j
        (rw (empty_chain v r n) (enough_none v (newest v) (write_size (view v (newest v))) l))

called_view : (w : World) (a : Administrator) (v : View) (m : Message) → view (send (with_view (with_administrator w a) (newest w + 1) v) m) (newest w) ≡ view w (newest w)
unfolding send with_view with_administrator view
called_view w a v m = view_other w (newest w + 1) v (newest w) (λ e. omega arith)

module _ {w : World} (h : Formed w) (v : View) where
  -- a new one
  called_bare : (a : Administrator) → a ≡ record { newest = w.administrator.newest; ending = Some (number (w.used + 1)) } → w.used < messages
      → Unclosed (send (with_view (with_administrator w a) (newest w + 1) v) (request END 0 (newest w) empty))
  unfolding send with_view with_administrator
  called_bare a q l =
      rw q (bare_unclosed (send (with_view (with_administrator w _) (newest w + 1) v) (request END 0 (newest w) empty)) (w.used + 1) refl
      (ap (λ (m : Message). m.next.0) (message_new (with_view (with_administrator w _) (newest w + 1) v) (request END 0 (newest w) empty) (omega (arith, h.message_count))))
      (rw (called_view w _ v (request END 0 (newest w) empty)) (newest_size h)))

  new_view_keeps : Keeps (new_view w v)
  unfolding new_view call
  new_view_keeps =
      yields_then (call w.administrator v (next_number w)) _
      (λ a q. yields_guard (room w) 10 _ (λ l. yields_moved _ (called_bare a (is_done (passed _ _ _ _ (passed _ _ _ _ q).1).1) (room_left w l))))

  -- that of a restart
  module _ (r : MessageNumber) (e : w.administrator.ending ≡ Some r) where
    no_next : (message (emptied w r.0) r.0).next.0 ≡ 0
    unfolding sent content
    no_next = let f = (ended h r e).full in ap (λ (m : Message). m.next.0) (emptied_in f r.0 (among_request f))

    kept_bare : Unclosed (with_administrator (emptied w r.0) w.administrator)
    unfolding with_administrator message emptied as_sent view
    kept_bare = bare_unclosed (with_administrator (emptied w r.0) w.administrator) r.0 e no_next (newest_size h)

    replaced_bare : Unclosed (with_view (with_administrator (emptied w r.0) w.administrator) (newest w + 1) v)
    unfolding with_view with_administrator message emptied as_sent view
    replaced_bare =
        bare_unclosed (with_view (with_administrator (emptied w r.0) w.administrator) (newest w + 1) v) r.0 e no_next
        (rw (view_other w (newest w + 1) v (newest w) (λ e. omega arith)) (newest_size h))

    planned_bare : Unclosed (planned (with_administrator (emptied w r.0) w.administrator) (newest w + 1) v)
    planned_bare = go (keeps_view v)
      where
        go : (b : Bool) → Unclosed (if b (with_administrator (emptied w r.0) w.administrator) (with_view (with_administrator (emptied w r.0) w.administrator) (newest w + 1) v))
        go true = kept_bare
        go false = replaced_bare

  restarts_keeps : Keeps (restarts w v)
  unfolding restarts restart
  restarts_keeps =
      yields_then (restart w.administrator v) _ (λ a q. let (p, f) = passed _ _ _ _ q in yields_moved _ (bare a p (is_done (passed _ _ _ _ f).1)))
    where
      bare : (a : Administrator) → is_ending w.administrator.ending ≡ true → a ≡ w.administrator → Unclosed (planned (with_administrator (emptied w (end_of a.ending)) a) (newest w + 1) v)
      bare a p q =
          let (r, e) = end_sent _ p in
          rw q (subst (λ (x : Ending). Unclosed (planned (with_administrator (emptied w (end_of x)) w.administrator) (newest w + 1) v)) (sym e) (planned_bare r e))

-- Every accepted step keeps it.
pub step_unclosed : {w : World} → Formed w → Unclosed w → (st : Step) (a : After) → step w st ≡ done a → Unclosed a.world
unfolding step
step_unclosed {w} h g st a e =
    let (f, e1) = passed _ _ _ _ e in
    (by_kind w st f Keeps
    (λ q. begins_keeps h g st.who WRITES st.value)
    (λ q. begins_keeps h g st.who READS 0)
    (λ q. deliver_keeps h g st.who st.message.0)
    (λ q. take_keeps h g st.message.0)
    (λ q. fault_keeps h g st.who)
    (λ q. lie_keeps h g st.who st.view.0 st.message.0 st.source.0)
    (λ q. new_view_keeps h (view_asked st))
    (λ q. gives_up_keeps h g st.who)
    (λ q. restarts_keeps h (view_asked st))
    ).told a e1
