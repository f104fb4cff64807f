-- A step by its kind. Check 3 by its parts, and back: `fitting`, `fits`. What it lets through: `client_of_lem`, `server_of_lem` (who, by the
-- table of fields), `source_of`, `value_of`. The one split of a step into its kinds: `by_kind`; what every kind's outcome has, every
-- step's has. The laws of whole steps use it, and a new kind adds a line. Assumes nothing.
use Rattle.std.specs.Prelude.{ℕ, suc, ◌≤◌, Bool, true, false, ◌≡◌, refl, eqb}
use Rattle.std.proofs.Common.{arith, eqb-true}
use Rattle.std.proofs.lemmas.Bool.{eqb-false, and_parts}
use Rattle.protocol.specs.Types.{Step, Range}
use Rattle.protocol.specs.Tools.{if, within, Result}
use Rattle.protocol.specs.Sizes.{clients, servers, messages, last_count}
use Rattle.protocol.specs.Clients.{WRITES, READS}
use Rattle.protocol.specs.Worlds.{World}
use Rattle.protocol.specs.Steps.{write_step, read_step, deliver_step, take_step, fault_step, false_step, view_step, give_up_step, restart_step, CLIENT, SERVER, VIEW, F, MESSAGE, SOURCE, VALUE, row_of, uses, view_range, threshold_range, message_range, source_range, value_range, who_used, who_range, field, restart_fits, fields_fit, After, begins, deliver, take, fault, lie, view_asked, new_view, gives_up, restarts, perform}
use Rattle.protocol.proofs.Laws.Tests.{within_true}
use Rattle.protocol.specs.Servers.{WRITE, END}

-- the number of a client, and of a server
pub record IsClient (c : ℕ) : Type 0 where
  pub low : 1 ≤ c
  pub high : c ≤ clients

pub record IsServer (s : ℕ) : Type 0 where
  pub low : 1 ≤ s
  pub high : s ≤ servers

-- check 3 by its parts, and back
pub record Fitting (st : Step) : Type 0 where
  pub kind : within write_step restart_step st.kind ≡ true
  pub who : field (who_used (row_of st.kind)) (who_range (row_of st.kind)) st.who ≡ true
  pub view : field (uses st.kind VIEW) view_range st.view.0 ≡ true
  pub f : field (uses st.kind F) threshold_range st.f ≡ true
  pub message : field (uses st.kind MESSAGE) message_range st.message.0 ≡ true
  pub source : field (uses st.kind SOURCE) source_range st.source.0 ≡ true
  pub value : field (uses st.kind VALUE) value_range st.value ≡ true
  pub restart : restart_fits st ≡ true

pub fitting : (st : Step) → fields_fit st ≡ true → Fitting st
unfolding fields_fit
fitting st e =
    let (k, e1) = and_parts _ _ e in
    let (w, e2) = and_parts _ _ e1 in
    let (v, e3) = and_parts _ _ e2 in
    let (f, e4) = and_parts _ _ e3 in
    let (m, e5) = and_parts _ _ e4 in
    let (s, e6) = and_parts _ _ e5 in
    let (x, y) = and_parts _ _ e6 in
    record { kind = k; who = w; view = v; f = f; message = m; source = s; value = x; restart = y }

pub fits : (st : Step) → Fitting st → fields_fit st ≡ true
unfolding fields_fit
fits st p = rw (p.kind, p.who, p.view, p.f, p.message, p.source, p.value) p.restart

kind_fits : (st : Step) → fields_fit st ≡ true → (write_step ≤ st.kind) × (st.kind ≤ restart_step)
kind_fits st e = within_true write_step restart_step st.kind (fitting st e).kind

-- who, by the table
module _ (st : Step) (k : ℕ) (e : fields_fit st ≡ true) (q : st.kind ≡ k) where
  pub client_of_lem : uses k CLIENT ≡ true → IsClient st.who
  client_of_lem u = let (l, h) = within_true 1 clients st.who (rw (q, u) at (fitting st e).who) in record { low = l; high = h }

  pub server_of_lem : uses k CLIENT ≡ false → uses k SERVER ≡ true → IsServer st.who
  server_of_lem u v = let (l, h) = within_true 1 servers st.who (rw (q, u, v) at (fitting st e).who) in record { low = l; high = h }

-- no field is above its range
field_high : (used : Bool) (r : Range) (x : ℕ) → field used r x ≡ true → x ≤ r.high
field_high true r x e = (within_true r.low r.high x e).1
field_high false r x e = omega (arith, eqb-true x 0 e)

pub source_of : (st : Step) → fields_fit st ≡ true → st.source.0 ≤ messages
source_of st e = field_high (uses st.kind SOURCE) source_range _ (fitting st e).source

pub value_of : (st : Step) → fields_fit st ≡ true → st.value ≤ last_count
value_of st e = field_high (uses st.kind VALUE) value_range _ (fitting st e).value

above : {k : ℕ} (n : ℕ) → n ≤ k → (k ≡ n → ⊥) → suc n ≤ k
above n l e = omega arith

nine : {k : ℕ} → restart_step ≤ k → k ≤ restart_step → k ≡ restart_step
nine l h = omega arith

-- a kind that is none of the others is the last
pub kind_last : (st : Step) → fields_fit st ≡ true → (st.kind ≡ write_step → ⊥) → (st.kind ≡ read_step → ⊥) → (st.kind ≡ deliver_step → ⊥) → (st.kind ≡ take_step → ⊥)
    → (st.kind ≡ fault_step → ⊥) → (st.kind ≡ false_step → ⊥) → (st.kind ≡ view_step → ⊥) → (st.kind ≡ give_up_step → ⊥) → st.kind ≡ restart_step
kind_last st f n1 n2 n3 n4 n5 n6 n7 n8 =
    let k = kind_fits st f in
    nine (above give_up_step (above view_step (above false_step (above fault_step (above take_step (above deliver_step (above read_step (above write_step k.0 n1) n2) n3) n4) n5) n6) n7) n8) k.1

-- a choice by a test
either : {A : Type 0} (P : A → Type 0) (b : Bool) (x y : A) → (b ≡ true → P x) → (b ≡ false → P y) → P (if b x y)
either P true x y f g = f refl
either P false x y f g = g refl

pub by_kind : (w : World) (st : Step) → fields_fit st ≡ true → (P : Result After → Type 0)
    → (st.kind ≡ write_step → P (begins w st.who WRITES st.value))
    → (st.kind ≡ read_step → P (begins w st.who READS 0))
    → (st.kind ≡ deliver_step → P (deliver w st.who st.message.0))
    → (st.kind ≡ take_step → P (take w st.message.0))
    → (st.kind ≡ fault_step → P (fault w st.who))
    → (st.kind ≡ false_step → P (lie w st.who st.view.0 st.message.0 st.source.0))
    → (st.kind ≡ view_step → P (new_view w (view_asked st)))
    → (st.kind ≡ give_up_step → P (gives_up w st.who))
    → (st.kind ≡ restart_step → P (restarts w (view_asked st)))
    → P (perform w st)
unfolding perform
by_kind w st f P p1 p2 p3 p4 p5 p6 p7 p8 p9 =
    either P (eqb st.kind write_step) _ _ (λ e. p1 (eqb-true _ _ e))
    (λ n1. either P (eqb st.kind read_step) _ _ (λ e. p2 (eqb-true _ _ e))
    (λ n2. either P (eqb st.kind deliver_step) _ _ (λ e. p3 (eqb-true _ _ e))
    (λ n3. either P (eqb st.kind take_step) _ _ (λ e. p4 (eqb-true _ _ e))
    (λ n4. either P (eqb st.kind fault_step) _ _ (λ e. p5 (eqb-true _ _ e))
    (λ n5. either P (eqb st.kind false_step) _ _ (λ e. p6 (eqb-true _ _ e))
    (λ n6. either P (eqb st.kind view_step) _ _ (λ e. p7 (eqb-true _ _ e))
    (λ n7. either P (eqb st.kind give_up_step) _ _ (λ e. p8 (eqb-true _ _ e))
    (λ n8. p9 (kind_last st f (eqb-false _ _ n1) (eqb-false _ _ n2) (eqb-false _ _ n3) (eqb-false _ _ n4) (eqb-false _ _ n5) (eqb-false _ _ n6) (eqb-false _ _ n7) (eqb-false _ _ n8))))))))))

-- a request that is no END is a client's
pub not_end : {x : ℕ} → (x ≡ END → ⊥) → x ≤ END → x ≤ WRITE
not_end f l = omega arith
