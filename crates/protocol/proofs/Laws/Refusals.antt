-- By which numbers each rule and each step refuses. `Refuses ns x`: every refusal of x is one of the numbers ns; `step_refuses`: those
-- of a step are among `refusals`, 1 to `last_refusal`. Other laws: `refuses_guard`, `refuses_if` and `refuses_then` lead through a
-- definition, `refuses_more` to a longer list; `among_ranged` gives the least and the largest number, and `zero_done` that 0 means
-- done. Used by consistency/proofs/Refusals.antt. Assumes nothing.
use Rattle.std.specs.Prelude.{ℕ, ◌≤◌, Bool, true, false, ◌&&◌, ◌||◌, ◌⊎◌, ◌≡◌, refl, List, [], ◌∷◌, length, eqb, Option, None, Some}
use Rattle.std.proofs.Common.{arith, true≢false, inl, inr, sym, ap, ◌∙◌, eqb-true}
use Rattle.std.specs.Cmp.{first_so, second_so}
use Rattle.std.proofs.lemmas.Bool.{or_cases}
use Rattle.protocol.specs.Types.{Entry, View, Server, Phase, Idle, Reading, Writing, Client, Administrator, Message, Step, Shown}
use Rattle.protocol.specs.Tools.{if, within, Result, refused, done, guard, then, number_of}
use Rattle.protocol.specs.Sizes.{quorum_size, write_size}
use Rattle.protocol.specs.Servers.{READ, WRITE, END, START, start, serve, may_answer}
use Rattle.protocol.specs.Clients.{begin, give_up, close_size, close_by, close, call, restart, READS}
use Rattle.protocol.specs.Worlds.{World, view, client, message, newest, fresh}
use Rattle.protocol.specs.Steps.{After, answers, taken_with, begins, deliver, closes, starts, takes, take, fault, lie, new_view, gives_up, restarts, perform, step}
use Rattle.protocol.specs.Chains.{enough}
use Rattle.protocol.specs.Runs.{step_bytes, Replayed, onward, replay}
use Rattle.protocol.proofs.Laws.Tests.{within_true}

-- n is one of the numbers ns
abbrev pub among : ℕ → List ℕ → Bool
among n [] = false
among n (m ∷ ns) = eqb n m || among n ns

-- every refusal of x is by one of the numbers ns
pub record Refuses {A : Type 0} (ns : List ℕ) (x : Result A) : Type 0 where
  pub numbers : (n : ℕ) → x ≡ refused n → among n ns ≡ true

-- the refusals of steps: 0 is none of them
abbrev pub last_refusal : ℕ
last_refusal = 12

abbrev pub refusals : List ℕ
refusals = 1 ∷ 2 ∷ 3 ∷ 4 ∷ 5 ∷ 6 ∷ 7 ∷ 8 ∷ 9 ∷ 10 ∷ 11 ∷ 12 ∷ []

-- ---- through a definition

-- a refusal's number, whatever it refuses
same_number : {A : Type 0} {m n : ℕ} → ◌≡◌ {A = Result A} (refused m) (refused n) → m ≡ n
same_number e = cc

not_refused : {A P : Type 0} {a : A} {n : ℕ} → done a ≡ refused n → P
not_refused e = let z : ◌≡◌ {A = ℕ} 0 1 = cc in absurd (omega arith)

pub refuses_done : {A : Type 0} (ns : List ℕ) (a : A) → Refuses ns (done a)
refuses_done ns a = record { numbers = λ n e. not_refused e }

pub refuses_by : {A : Type 0} (ns : List ℕ) (n : ℕ) → among n ns ≡ true → Refuses {A = A} ns (refused n)
refuses_by ns n h = record { numbers = λ m e. ap (λ (k : ℕ). among k ns) (sym (same_number e)) ∙ h }

pub refuses_guard : {A : Type 0} (ns : List ℕ) (b : Bool) (n : ℕ) (x : Result A) → among n ns ≡ true → Refuses ns x → Refuses ns (guard b n x)
unfolding guard
refuses_guard ns true n x e h = h
refuses_guard ns false n x e h = refuses_by ns n e

pub refuses_if : {A : Type 0} (ns : List ℕ) (b : Bool) (x y : Result A) → Refuses ns x → Refuses ns y → Refuses ns (if b x y)
refuses_if ns true x y h k = h
refuses_if ns false x y h k = k

pub refuses_then : {A B : Type 0} (ns : List ℕ) (x : Result A) (f : A → Result B) → Refuses ns x → ((a : A) → Refuses ns (f a)) → Refuses ns (then x f)
refuses_then ns (refused n) f h k = refuses_by ns n (h.numbers n refl)
refuses_then ns (done a) f h k = k a

-- every number of ms is one of ns
abbrev pub among_all : List ℕ → List ℕ → Bool
among_all [] ns = true
among_all (m ∷ ms) ns = among m ns && among_all ms ns

among_more : (ms ns : List ℕ) (n : ℕ) → among_all ms ns ≡ true → among n ms ≡ true → among n ns ≡ true
among_more [] ns n p e = absurd (true≢false (sym e))
among_more (m ∷ ms) ns n p e = go (or_cases (eqb n m) (among n ms) e) (among_more ms ns n (second_so (among m ns) (among_all ms ns) p))
  where
    go : (eqb n m ≡ true) ⊎ (among n ms ≡ true) → (among n ms ≡ true → among n ns ≡ true) → among n ns ≡ true
    go (inl q) ih = rw (eqb-true n m q) (first_so (among m ns) (among_all ms ns) p)
    go (inr q) ih = ih q

pub refuses_more : {A : Type 0} (ms ns : List ℕ) (x : Result A) → among_all ms ns ≡ true → Refuses ms x → Refuses ns x
refuses_more ms ns x p h = record { numbers = λ n e. among_more ms ns n p (h.numbers n e) }

-- ---- what the numbers say

-- 0 means done, where it is none of the numbers
pub zero_done : {A : Type 0} (ns : List ℕ) (x : Result A) → Refuses ns x → among 0 ns ≡ false → number_of x ≡ 0 → (a : A) × (x ≡ done a)
zero_done ns (refused n) h z e = absurd (true≢false (sym (h.numbers n refl) ∙ ap (λ (k : ℕ). among k ns) e ∙ z))
zero_done ns (done a) h z e = (a, refl)

-- the numbers ns are from low to high
abbrev pub ranged : ℕ → ℕ → List ℕ → Bool
ranged low high [] = true
ranged low high (n ∷ ns) = within low high n && ranged low high ns

pub among_ranged : (low high : ℕ) (ns : List ℕ) (n : ℕ) → ranged low high ns ≡ true → among n ns ≡ true → (low ≤ n) × (n ≤ high)
among_ranged low high [] n r e = absurd (true≢false (sym e))
among_ranged low high (m ∷ ns) n r e =
    go (or_cases (eqb n m) (among n ns) e) (among_ranged low high ns n (second_so (within low high m) (ranged low high ns) r))
  where
    go : (eqb n m ≡ true) ⊎ (among n ns ≡ true) → (among n ns ≡ true → (low ≤ n) × (n ≤ high)) → (low ≤ n) × (n ≤ high)
    go (inl q) ih = within_true low high n (rw (eqb-true n m q) (first_so (within low high m) (ranged low high ns) r))
    go (inr q) ih = ih q

-- ---- the rules

pub quorum_refuses : (n f r : ℕ) → Refuses (8 ∷ []) (quorum_size n f r)
unfolding quorum_size
quorum_refuses n f r = refuses_guard _ _ _ _ refl (refuses_done _ _)

pub fresh_refuses : (bits f r : ℕ) → Refuses (8 ∷ []) (fresh bits f r)
unfolding fresh
fresh_refuses bits f r = refuses_guard _ _ _ _ refl (refuses_done _ _)

start_refuses : (a : Server) (m : Message) (member : Bool) → Refuses (5 ∷ 6 ∷ 7 ∷ []) (start a m member)
start_refuses a m member =
    refuses_guard _ _ _ _ refl (refuses_if _ a.faulty _ _ (refuses_guard _ _ _ _ refl (refuses_done _ _)) (refuses_done _ _))

pub serve_refuses : (a : Server) (m : Message) (member : Bool) → Refuses (5 ∷ 6 ∷ 7 ∷ []) (serve a m member)
unfolding serve
serve_refuses a m member =
    refuses_guard _ _ _ _ refl
    (refuses_if _ (eqb m.kind START) _ _ (start_refuses a m member)
    (refuses_guard _ _ _ _ refl
    (refuses_guard _ _ _ _ refl
    (refuses_if _ (eqb m.kind READ) _ _ (refuses_done _ _)
    (refuses_if _ (eqb m.kind WRITE) _ _ (refuses_done _ _) (refuses_guard _ _ _ _ refl (refuses_done _ _)))))))

pub may_answer_refuses : (a : Server) (t : ℕ) (m : Message) (source : Bool) → Refuses (5 ∷ 6 ∷ 9 ∷ []) (may_answer a t m source)
unfolding may_answer
may_answer_refuses a t m source =
    refuses_guard _ _ _ _ refl (refuses_guard _ _ _ _ refl (refuses_guard _ _ _ _ refl (refuses_done _ _)))

pub begin_refuses : (c : Client) (kind value n : ℕ) → Refuses (4 ∷ []) (begin c kind value n)
unfolding begin
begin_refuses c kind value n = refuses_guard _ _ _ _ refl (refuses_done _ _)

pub close_refuses : (c : Client) (who : ℕ) (e : Entry) (one : Bool) (n : ℕ) → Refuses (7 ∷ 11 ∷ []) (close c who e one n)
unfolding close
close_refuses c who e one n = go c.phase
  where
    go : (p : Phase) → Refuses (7 ∷ 11 ∷ []) (close_by p c who e one n)
    go Idle = refuses_by _ 7 refl
    go (Reading r) = refuses_if _ (eqb c.kind READS && one) _ _ (refuses_done _ _) (refuses_guard _ _ _ _ refl (refuses_done _ _))
    go (Writing r) = refuses_done _ _

pub call_refuses : (a : Administrator) (v : View) (n : ℕ) → Refuses (4 ∷ 8 ∷ []) (call a v n)
unfolding call
call_refuses a v n = refuses_guard _ _ _ _ refl (refuses_guard _ _ _ _ refl (refuses_done _ _))

pub restart_refuses : (a : Administrator) (v : View) → Refuses (7 ∷ 8 ∷ []) (restart a v)
unfolding restart
restart_refuses a v = refuses_guard _ _ _ _ refl (refuses_guard _ _ _ _ refl (refuses_done _ _))

-- ---- the steps of a world, by kind

-- "Write, read: 4, client not idle; 10"
begins_refuses : (w : World) (c kind value : ℕ) → Refuses (4 ∷ 10 ∷ []) (begins w c kind value)
unfolding begins
begins_refuses w c kind value =
    refuses_then _ _ _ (refuses_more (4 ∷ []) _ _ refl (begin_refuses _ _ _ _)) (λ a. refuses_guard _ _ _ _ refl (refuses_done _ _))

answers_refuses : (x : Option Shown) (w : World) (s n : ℕ) (a : Server) → Refuses (5 ∷ 6 ∷ 7 ∷ 10 ∷ []) (answers x w s n a)
answers_refuses None w s n a = refuses_done _ _
answers_refuses (Some x) w s n a = refuses_guard _ _ _ _ refl (refuses_done _ _)

-- "Deliver: 5 ...; 6 ...; 7 ...; 10"
deliver_refuses : (w : World) (s n : ℕ) → Refuses (5 ∷ 6 ∷ 7 ∷ 10 ∷ []) (deliver w s n)
unfolding deliver
deliver_refuses w s n =
    refuses_guard _ _ _ _ refl
    (refuses_then _ _ _ (refuses_more (5 ∷ 6 ∷ 7 ∷ []) _ _ refl (serve_refuses _ _ _)) (λ r. answers_refuses r.answer w s n r.server))

-- "Take: 5 ...; 7 ...; 11; 10"
abbrev take_numbers : List ℕ
take_numbers = 5 ∷ 7 ∷ 11 ∷ 10 ∷ []

closes_refuses : (w : World) (k c : ℕ) (e : Entry) (one : Bool) → Refuses take_numbers (closes w k c e one)
unfolding closes
closes_refuses w k c e one =
    refuses_then _ _ _ (refuses_more (7 ∷ 11 ∷ []) _ _ refl (close_refuses _ _ _ _ _))
    (λ x. refuses_if _ x.complete _ _ (refuses_done _ _) (refuses_guard _ _ _ _ refl (refuses_done _ _)))

starts_refuses : (w : World) (k : ℕ) (e : Entry) → Refuses take_numbers (starts w k e)
unfolding starts
starts_refuses w k e = refuses_guard _ _ _ _ refl (refuses_done _ _)

takes_refuses : (w : World) (k r t : ℕ) → Refuses take_numbers (takes w k r t)
unfolding takes
takes_refuses w k r t =
    refuses_if _ (eqb (message w r).kind END) _ _
    (refuses_if _ (eqb t (newest w) && enough w t (taken_with w k) (write_size (view w t))) _ _ (starts_refuses _ _ _) (refuses_done _ _))
    (refuses_if _ (enough w t (taken_with w k) (close_size (client w (message w r).sender).phase (view w t))) _ _
    (closes_refuses _ _ _ _ _) (refuses_done _ _))

take_refuses : (w : World) (k : ℕ) → Refuses take_numbers (take w k)
unfolding take
take_refuses w k = refuses_guard _ _ _ _ refl (refuses_guard _ _ _ _ refl (takes_refuses _ _ _ _))

-- "Fault: 6, faulty already."
fault_refuses : (w : World) (s : ℕ) → Refuses (6 ∷ []) (fault w s)
unfolding fault
fault_refuses w s = refuses_guard _ _ _ _ refl (refuses_done _ _)

-- "False answer: 5 ...; 6 ...; 9 ...; 10."
lie_refuses : (w : World) (s t n source : ℕ) → Refuses (5 ∷ 6 ∷ 9 ∷ 10 ∷ []) (lie w s t n source)
unfolding lie
lie_refuses w s t n source =
    refuses_guard _ _ _ _ refl
    (refuses_then _ _ _ (refuses_more (5 ∷ 6 ∷ 9 ∷ []) _ _ refl (may_answer_refuses _ _ _ _)) (λ a. refuses_guard _ _ _ _ refl (refuses_done _ _)))

-- "New view: 4, ending; 8 ...; 10."
new_view_refuses : (w : World) (v : View) → Refuses (4 ∷ 8 ∷ 10 ∷ []) (new_view w v)
unfolding new_view
new_view_refuses w v =
    refuses_then _ _ _ (refuses_more (4 ∷ 8 ∷ []) _ _ refl (call_refuses _ _ _)) (λ a. refuses_guard _ _ _ _ refl (refuses_done _ _))

-- "Giving up ...: 12, the client is idle"
gives_up_refuses : (w : World) (c : ℕ) → Refuses (12 ∷ []) (gives_up w c)
unfolding gives_up give_up
gives_up_refuses w c = refuses_then _ _ _ (refuses_guard _ _ _ _ refl (refuses_done _ _)) (λ a. refuses_done _ _)

-- "The administrator's PC stops": "7, nothing is being ended; then 8."
restarts_refuses : (w : World) (v : View) → Refuses (7 ∷ 8 ∷ []) (restarts w v)
unfolding restarts
restarts_refuses w v = refuses_then _ _ _ (restart_refuses _ _) (λ a. refuses_done _ _)

perform_refuses : (w : World) (st : Step) → Refuses refusals (perform w st)
unfolding perform
perform_refuses w st =
    refuses_if _ (eqb st.kind 1) _ _ (refuses_more (4 ∷ 10 ∷ []) _ _ refl (begins_refuses _ _ _ _))
    (refuses_if _ (eqb st.kind 2) _ _ (refuses_more (4 ∷ 10 ∷ []) _ _ refl (begins_refuses _ _ _ _))
    (refuses_if _ (eqb st.kind 3) _ _ (refuses_more (5 ∷ 6 ∷ 7 ∷ 10 ∷ []) _ _ refl (deliver_refuses _ _ _))
    (refuses_if _ (eqb st.kind 4) _ _ (refuses_more take_numbers _ _ refl (take_refuses _ _))
    (refuses_if _ (eqb st.kind 5) _ _ (refuses_more (6 ∷ []) _ _ refl (fault_refuses _ _))
    (refuses_if _ (eqb st.kind 6) _ _ (refuses_more (5 ∷ 6 ∷ 9 ∷ 10 ∷ []) _ _ refl (lie_refuses _ _ _ _ _))
    (refuses_if _ (eqb st.kind 7) _ _ (refuses_more (4 ∷ 8 ∷ 10 ∷ []) _ _ refl (new_view_refuses _ _))
    (refuses_if _ (eqb st.kind 8) _ _ (refuses_more (12 ∷ []) _ _ refl (gives_up_refuses _ _))
    (refuses_more (7 ∷ 8 ∷ []) _ _ refl (restarts_refuses _ _)))))))))

pub step_refuses : (w : World) (st : Step) → Refuses refusals (step w st)
unfolding step
step_refuses w st = refuses_guard _ _ _ _ refl (perform_refuses w st)

-- "1, ... step of wrong length"
pub bytes_refuse : (w : World) (b : List ℕ) → Refuses refusals (step_bytes w b)
unfolding step_bytes
bytes_refuse w b = refuses_guard _ _ _ _ refl (step_refuses _ _)

-- ---- replay

-- its refusal is that of the step that stopped it, or 0
pub replay_refuses : (w : World) (bs : List (List ℕ)) → among (replay w bs).refusal (0 ∷ refusals) ≡ true
unfolding replay
replay_refuses w [] = refl
replay_refuses w (b ∷ bs) = go (step_bytes w b) (bytes_refuse w b) (λ v. replay_refuses v bs)
  where
    stop : Replayed
    stop = record { world = w; steps = 0; refusal = 0 }

    go : (x : Result After) → Refuses refusals x → ((v : World) → among (replay v bs).refusal (0 ∷ refusals) ≡ true)
        → among (onward x stop (λ v. replay v bs)).refusal (0 ∷ refusals) ≡ true
    go (refused n) h ih = among_more refusals (0 ∷ refusals) n refl (h.numbers n refl)
    go (done a) h ih = ih a.world

-- 0 means that all steps are done
pub replay_all : (w : World) (bs : List (List ℕ)) → (replay w bs).refusal ≡ 0 → (replay w bs).steps ≡ length bs
unfolding replay
replay_all w [] e = refl
replay_all w (b ∷ bs) e = go (step_bytes w b) (bytes_refuse w b) (λ v. replay_all v bs) e
  where
    stop : Replayed
    stop = record { world = w; steps = 0; refusal = 0 }

    go : (x : Result After) → Refuses refusals x → ((v : World) → (replay v bs).refusal ≡ 0 → (replay v bs).steps ≡ length bs)
        → (onward x stop (λ v. replay v bs)).refusal ≡ 0 → (onward x stop (λ v. replay v bs)).steps ≡ length (b ∷ bs)
    go (refused n) h ih e = absurd (let (l, u) = among_ranged 1 last_refusal refusals n refl (h.numbers n refl) in omega arith)
    go (done a) h ih e = let k = ih a.world e in omega arith
