-- A step on a readable image, by its kind, and on any image. Assumes nothing.
use Rattle.std.specs.Prelude.{ℕ, true, false, ◌≡◌, ◌≤◌, List, length, eqb, Result as Outcome, Ok, Err}
use Rattle.std.proofs.Math.Path.{refl, sym}
use Rattle.std.proofs.Common.{arith, ap, ◌∙◌}
use Rattle.std.specs.Cmp.{first_so}
use borrow.Author.Tests.{eq-eqb, ne_eqb}
use Rattle.protocol.specs.declared.Step.{Step}
use Rattle.protocol.specs.declared.kinds.StepKind.{StepKind}
use Rattle.protocol.specs.declared.kinds.UnknownKind.{UnknownKind}
use Rattle.protocol.specs.Kinds.{step_code, named_step, step_named}
use Rattle.protocol.proofs.Laws.Tests.{within_true}
use Rattle.protocol.specs.declared.refusals.Refusal.TheVariants.{WrongLength, Unreadable, Unfit}
use Rattle.protocol.specs.Tools.{guard}
use Rattle.protocol.specs.Clients.{WRITES, READS}
use Rattle.protocol.specs.Worlds.{World}
use Rattle.protocol.specs.Steps.{begins, deliver, take, fault, lie, new_view, gives_up, restarts, fields_fit, perform, step, view_asked, write_step, restart_step}
use Rattle.protocol.specs.Runs.{step_width, step_of}
use Rattle.codec.specs.Layout.{image_size}
use Rattle.codec.specs.Images.{decode}
use Rattle.readable.specs.Readable.{readable, read}
use Rattle.image.specs.Steps.{step_on}
use Rattle.mail.specs.Images.{Legible, Does}
use Rattle.mail.specs.Stored.{refuses}

-- ---- the kinds of steps

-- the kind of a step that has the name k
pub is_kind : (st : Step) {o : Outcome StepKind UnknownKind} {j k : StepKind} → o ≡ Ok j → j ≡ k → o ≡ named_step st.kind → st.kind ≡ step_code k
is_kind st {o} {j} {k} p q e = step_named st.kind k (ap (λ (x : StepKind). Ok x) (sym q) ∙ sym p ∙ e)

nameless : (n : ℕ) (u : UnknownKind) → 1 ≤ n → n ≤ 9 → Err u ≡ named_step n → ⊥
nameless n u a b e = grind arith

-- "3, unknown kind": a step that check 3 has passed has a kind with a name
pub is_named : (st : Step) {o : Outcome StepKind UnknownKind} {u : UnknownKind} → fields_fit st ≡ true → o ≡ Err u → o ≡ named_step st.kind → ⊥
unfolding fields_fit
is_named st {o} {u} f p e = let (a, b) = within_true write_step restart_step st.kind (first_so _ _ f) in nameless st.kind u a b (sym p ∙ e)

module _ (w : World) (st : Step) where
  pub kind_is : (k n : ℕ) → st.kind ≡ k → eqb k n ≡ eqb st.kind n
  kind_is k n e = ap (λ (x : ℕ). eqb x n) (sym e)

  pub as_write : st.kind ≡ 1 → perform w st ≡ begins w st.who WRITES st.value
  unfolding perform
  as_write e = rw (sym (kind_is 1 1 e)) refl

  pub as_read : st.kind ≡ 2 → perform w st ≡ begins w st.who READS 0
  unfolding perform
  as_read e = rw (sym (kind_is 2 1 e), sym (kind_is 2 2 e)) refl

  pub as_deliver : st.kind ≡ 3 → perform w st ≡ deliver w st.who st.message.0
  unfolding perform
  as_deliver e = rw (sym (kind_is 3 1 e), sym (kind_is 3 2 e), sym (kind_is 3 3 e)) refl

  pub as_take : st.kind ≡ 4 → perform w st ≡ take w st.message.0
  unfolding perform
  as_take e = rw (sym (kind_is 4 1 e), sym (kind_is 4 2 e), sym (kind_is 4 3 e), sym (kind_is 4 4 e)) refl

  pub as_fault : st.kind ≡ 5 → perform w st ≡ fault w st.who
  unfolding perform
  as_fault e = rw (sym (kind_is 5 1 e), sym (kind_is 5 2 e), sym (kind_is 5 3 e), sym (kind_is 5 4 e), sym (kind_is 5 5 e)) refl

  pub as_false : st.kind ≡ 6 → perform w st ≡ lie w st.who st.view.0 st.message.0 st.source.0
  unfolding perform
  as_false e = rw (sym (kind_is 6 1 e), sym (kind_is 6 2 e), sym (kind_is 6 3 e), sym (kind_is 6 4 e), sym (kind_is 6 5 e), sym (kind_is 6 6 e)) refl

  pub as_view : st.kind ≡ 7 → perform w st ≡ new_view w (view_asked st)
  unfolding perform
  as_view e =
      rw (sym (kind_is 7 1 e), sym (kind_is 7 2 e), sym (kind_is 7 3 e), sym (kind_is 7 4 e), sym (kind_is 7 5 e), sym (kind_is 7 6 e), sym (kind_is 7 7 e)) refl

  pub as_give_up : st.kind ≡ 8 → perform w st ≡ gives_up w st.who
  unfolding perform
  as_give_up e =
      rw (sym (kind_is 8 1 e), sym (kind_is 8 2 e), sym (kind_is 8 3 e), sym (kind_is 8 4 e), sym (kind_is 8 5 e), sym (kind_is 8 6 e), sym (kind_is 8 7 e), sym (kind_is 8 8 e)) refl

  pub as_restart : st.kind ≡ 9 → perform w st ≡ restarts w (view_asked st)
  unfolding perform
  as_restart e =
      rw (sym (kind_is 9 1 e), sym (kind_is 9 2 e), sym (kind_is 9 3 e), sym (kind_is 9 4 e), sym (kind_is 9 5 e), sym (kind_is 9 6 e), sym (kind_is 9 7 e), sym (kind_is 9 8 e)) refl

-- ---- check 3

pub unfit : {l : List ℕ} (st : Step) → fields_fit st ≡ false → Does (Err Unfit) l l (step (decode l) st)
unfolding step guard
unfit {l} st e = refuses Unfit l _ (rw e refl)

pub fit : (w : World) (st : Step) → fields_fit st ≡ true → step w st ≡ perform w st
unfolding step guard
fit w st e = rw e refl

-- ---- any image and any bytes

pub legible : (l : List ℕ) → readable l ≡ true → Legible l
legible l e = let r = read l e in record { size = r.size; image = r.image; formed = r.world }

module _ (l b : List ℕ) where
  pub wrong_image : (length l ≡ image_size → ⊥) → Does (Err WrongLength) l l (step_on l b)
  unfolding step_on guard
  wrong_image e = refuses WrongLength l _ (rw (ne_eqb (length l) image_size e) refl)

  pub wrong_step : length l ≡ image_size → (length b ≡ step_width → ⊥) → Does (Err WrongLength) l l (step_on l b)
  unfolding step_on guard
  wrong_step h e = refuses WrongLength l _ (rw (eq-eqb (length l) image_size h, ne_eqb (length b) step_width e) refl)

  module _ (h : length l ≡ image_size) (k : length b ≡ step_width) where
    pub unreadable : readable l ≡ false → Does (Err Unreadable) l l (step_on l b)
    unfolding step_on guard
    unreadable e = refuses Unreadable l _ (rw (eq-eqb (length l) image_size h, eq-eqb (length b) step_width k, e) refl)

    pub whole_step : readable l ≡ true → step_on l b ≡ step (decode l) (step_of b)
    unfolding step_on guard
    whole_step e = rw (eq-eqb (length l) image_size h, eq-eqb (length b) step_width k, e) refl
