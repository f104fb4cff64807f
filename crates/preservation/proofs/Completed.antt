-- Who completes an operation. Assumes nothing.
use Rattle.std.specs.Prelude.{ℕ, ◌+◌, Bool, true, false, ◌&&◌, ◌≡◌, eqb, Option, None, Some}
use Rattle.std.proofs.Common.{arith, eqb-true, le-leb}
use Rattle.std.proofs.lemmas.Bool.{eqb-false}
use Rattle.std.specs.Cmp.{first_so, second_so}
use Rattle.protocol.specs.declared.Shown.{Shown}
use Rattle.protocol.specs.declared.Server.{Server}
use Rattle.protocol.specs.declared.Step.{Step}
use Rattle.protocol.specs.Tools.{if, within, Result, done, guard}
use Rattle.protocol.specs.Sizes.{clients, write_size}
use Rattle.protocol.specs.declared.Entry.{Entry}
use Rattle.protocol.specs.declared.View.{View}
use Rattle.protocol.specs.Entries.{chosen}
use Rattle.protocol.specs.Chains.{enough, shown}
use Rattle.protocol.specs.Servers.{READ, WRITE, END, is_request, serve, may_answer}
use Rattle.protocol.specs.Clients.{WRITES, READS, begin, give_up, close_size, close, end_of, call, restart}
use Rattle.protocol.specs.Worlds.{World, view, newest, server, client, message, member, present, room, with_client, with_administrator, next_number}
use Rattle.protocol.specs.Steps.{After, moved, source?, link, taken_with, begins, answers, deliver, closes, starts, takes, take, fault, lie, new_view, emptied, planned, restarts, gives_up, perform, step, view_step, give_up_step, view_asked}
use Rattle.protocol.specs.Readable.{well_formed}
use Rattle.protocol.proofs.Laws.Tests.{within_true}
use Rattle.protocol.proofs.Laws.Formed.{Formed, formed}
use Rattle.protocol.proofs.Laws.Moves.{present_is}
use Rattle.preservation.proofs.Outcomes.{Yields, yields_done, yields_guard, yields_then, yields_if, yields_moved, yields_room}
use Rattle.preservation.proofs.Updates.{request_of_lem}
use Rattle.preservation.proofs.Kept.{mailed}
use Rattle.preservation.specs.Completed.{Told, nobody, who}

-- whom a result that is no refusal tells
abbrev Tells : Result After → Type 0
Tells x = Yields (λ (a : After). Told a.completed) x

tells_moved : (w : World) → Tells (moved w)
tells_moved w = yields_moved w nobody

tells_room : (b : Bool) (w : World) → Tells (guard b 10 (moved w))
tells_room b w = yields_room b w nobody

tells_either : (b : Bool) {x y : Result After} → Tells x → Tells y → Tells (if b x y)
tells_either b s t = yields_if b _ _ (λ e. s) (λ e. t)

-- ---- by kind

begins_tells : (w : World) (c kind value : ℕ) → Tells (begins w c kind value)
unfolding begins
begins_tells w c kind value = yields_then (begin (client w c) kind value (next_number w)) _ (λ a _. tells_room (room w) _)

answers_tells : (x : Option Shown) (w : World) (s n : ℕ) (a : Server) → Tells (answers x w s n a)
answers_tells None w s n a = tells_moved _
answers_tells (Some x) w s n a = tells_room _ _

deliver_tells : (w : World) (s n : ℕ) → Tells (deliver w s n)
unfolding deliver
deliver_tells w s n = yields_guard _ _ _ (λ e. yields_then (serve (server w s) (message w n) (member w (message w n).view.0 s)) _ (λ r _. answers_tells r.answer w s n r.server))

closes_tells : (w : World) (k c : ℕ) (e : Entry) (one : Bool) → Told c → Tells (closes w k c e one)
unfolding closes
closes_tells w k c e one t = yields_then (close (client w c) c e one (next_number w)) _ (λ x _. yields_if x.complete _ _ (λ q. yields_done _ t) (λ q. tells_room _ _))

starts_tells : (w : World) (k : ℕ) (e : Entry) → Tells (starts w k e)
unfolding starts
starts_tells w k e = tells_room _ _

takes_tells : (w : World) (k r t : ℕ) → (eqb (message w r).kind END ≡ false → Told (message w r).sender) → Tells (takes w k r t)
unfolding takes
takes_tells w k r t f =
    let e : Entry = chosen (shown w t (taken_with w k)) in
    yields_if (eqb (message w r).kind END) _ _
    (λ i. tells_either (eqb t (newest w) && enough w t (taken_with w k) (write_size (view w t))) (starts_tells w k e) (tells_moved (link w k)))
    (λ i. tells_either (enough w t (taken_with w k) (close_size (client w (message w r).sender).phase (view w t))) (closes_tells w k (message w r).sender e _ (f i)) (tells_moved (link w k)))

-- a request that is no END is a client's
asker : {w : World} → Formed w → (r : ℕ) → present w r ≡ true → is_request (message w r).kind ≡ true → eqb (message w r).kind END ≡ false → Told (message w r).sender
asker {w} h r p k i =
    let (a, b) = present_is w r p in
    let (l, u) = within_true READ END (message w r).kind k in
    let m = (mailed h r a b).sender in
    let s : within 1 clients (message w r).sender ≡ true = rw (le-leb (message w r).kind WRITE (omega (arith, eqb-false (message w r).kind END i))) at m in
    let (c, d) = within_true 1 clients (message w r).sender s in
    who c d

take_tells : {w : World} → Formed w → (k : ℕ) → Tells (take w k)
unfolding take
take_tells {w} h k =
    yields_guard _ _ _ (λ p. yields_guard _ _ _ (λ o.
    let (l, u) = present_is w k (first_so _ _ p) in
    let q = request_of_lem h k l u (eqb-true _ _ (second_so (present w k) _ p)) in
    takes_tells w k (message w k).request.0 (message w k).view.0
    (asker h (message w k).request.0 (first_so _ _ q) (second_so (present w (message w k).request.0) _ q))))

fault_tells : (w : World) (s : ℕ) → Tells (fault w s)
unfolding fault
fault_tells w s = yields_guard _ _ _ (λ e. tells_moved _)

lie_tells : (w : World) (s t n c : ℕ) → Tells (lie w s t n c)
unfolding lie
lie_tells w s t n c = yields_guard _ _ _ (λ e. yields_then (may_answer (server w s) t (message w n) (source? w c)) _ (λ a _. tells_room (room w) _))

new_view_tells : (w : World) (v : View) → Tells (new_view w v)
unfolding new_view
new_view_tells w v = yields_then (call w.administrator v (next_number w)) _ (λ a _. tells_room (room w) _)

gives_up_tells : (w : World) (c : ℕ) → Tells (gives_up w c)
unfolding gives_up
gives_up_tells w c = yields_then (give_up (client w c)) _ (λ a _. tells_moved (with_client w c a))

restarts_tells : (w : World) (v : View) → Tells (restarts w v)
unfolding restarts
restarts_tells w v = yields_then (restart w.administrator v) _ (λ a _. tells_moved (planned (with_administrator (emptied w (end_of a.ending)) a) (newest w + 1) v))

perform_tells : {w : World} → Formed w → (st : Step) → Tells (perform w st)
unfolding perform
perform_tells {w} h st =
    tells_either (eqb st.kind 1) (begins_tells w st.who WRITES st.value)
    (tells_either (eqb st.kind 2) (begins_tells w st.who READS 0)
    (tells_either (eqb st.kind 3) (deliver_tells w st.who st.message.0)
    (tells_either (eqb st.kind 4) (take_tells h st.message.0)
    (tells_either (eqb st.kind 5) (fault_tells w st.who)
    (tells_either (eqb st.kind 6) (lie_tells w st.who st.view.0 st.message.0 st.source.0)
    (tells_either (eqb st.kind view_step) (new_view_tells w (view_asked st))
    (tells_either (eqb st.kind give_up_step) (gives_up_tells w st.who)
    (restarts_tells w (view_asked st)))))))))

-- An accepted step on a readable world completes an operation of one of the sixteen clients, or none.
pub completes : (w : World) → well_formed w ≡ true → (st : Step) (a : After) → step w st ≡ done a → Told a.completed
unfolding step
completes w f st a e = (yields_guard _ _ _ (λ i. perform_tells (formed w f) st)).told a e
