-- A client begins an operation on a readable image (`begins_no`, `begins_full`, `begins_done`), or gives it up (`gives_up_no`,
-- `gives_up_done`). Assumes nothing.
use Rattle.std.specs.Prelude.{ℕ, ◌+◌, ◌≤◌, ◌≡◌, List, None, Result as Outcome, Ok, Err}
use Rattle.std.proofs.Common.{arith, sym, ap, ap₂, ◌∙◌}
use Rattle.std.proofs.Math.Path.{refl}
use Rattle.protocol.specs.declared.Client.{Client}
use Rattle.protocol.specs.declared.MessageNumber.{MessageNumber}
use Rattle.protocol.specs.declared.refusals.Refusal.{Refusal}
use Rattle.protocol.specs.Refusals.{outcome}
use Rattle.protocol.specs.Tools.{guard}
use Rattle.protocol.specs.Sizes.{clients}
use Rattle.protocol.specs.Entries.{empty}
use Rattle.protocol.specs.Servers.{READ}
use Rattle.protocol.specs.Clients.{begin, give_up}
use Rattle.protocol.specs.Worlds.{World, client, with_client, send, next_number}
use Rattle.protocol.specs.Steps.{request, begins, gives_up}
use Rattle.codec.specs.Places.{used_at, client_at, put_client}
use Rattle.codec.specs.Images.{decode}
use Rattle.mail.specs.Images.{Legible, Does, put_sent, number_left}
use Rattle.mail.specs.Stored.{refuses, does, used_is, client_is, image_of, with_client_lem, with_sent, room_yes, room_no, numbered, unnumbered}

kept_used : (w : World) (c : ℕ) (x : Client) (u : ℕ) → u ≡ w.used → u + 1 ≡ (with_client w c x).used + 1
unfolding with_client
kept_used w c x u e = ap (λ (n : ℕ). n + 1) e

module _ {l : List ℕ} (h : Legible l) (c kind value : ℕ) (a : 1 ≤ c) (b : c ≤ clients) (own : Client) (u : ℕ) (r : Outcome Client Refusal)
    (p : own ≡ client_at l c) (q : u ≡ used_at l) (e : outcome r ≡ begin own kind value (u + 1)) where
  -- what the client's rule gives is what its step asks for
  rule : begin (client (decode l) c) kind value (next_number (decode l)) ≡ outcome r
  rule = sym (e ∙ ap₂ (λ (x : Client) (n : ℕ). begin x kind value (n + 1)) (p ∙ client_is h c a b) (q ∙ used_is h))

  pub begins_no : (x : Refusal) → r ≡ Err x → Does (Err x) l l (begins (decode l) c kind value)
  unfolding begins
  begins_no x f = refuses x l _ (rw (rule, f) refl)

  pub begins_full : (x : Client) (y : Refusal) → r ≡ Ok x → Err y ≡ number_left (used_at l) → Does (Err y) l l (begins (decode l) c kind value)
  unfolding begins guard
  begins_full x y f n = let (d, i) = unnumbered (used_at l) y (sym n) in refuses y l _ (rw (rule, f, room_no h d, i) refl)

  pub begins_done : (x : Client) (n : MessageNumber) (l' : List ℕ) → r ≡ Ok x → Ok n ≡ number_left (used_at l) → l' ≡ put_sent (put_client l c x) n.0 (request READ c 0 empty)
      → Does (Ok None) l l' (begins (decode l) c kind value)
  unfolding begins guard
  begins_done x n l' f g d =
      let (low, i) = numbered (used_at l) n (sym g) in
      let j = kept_used (decode l) c x (used_at l) (used_is h) in
      does 0 (send (with_client (decode l) c x) (request READ c 0 empty)) l l' _ (rw (rule, f, room_yes h low) refl)
      (d ∙ (with_sent (with_client_lem (image_of h) c a b x) n.0 (request READ c 0 empty) (i ∙ j) (omega (arith, j, low))).is)

module _ {l : List ℕ} (h : Legible l) (c : ℕ) (a : 1 ≤ c) (b : c ≤ clients) (own : Client) (r : Outcome Client Refusal) (p : own ≡ client_at l c) (e : outcome r ≡ give_up own) where
  given : give_up (client (decode l) c) ≡ outcome r
  given = sym (e ∙ ap give_up (p ∙ client_is h c a b))

  pub gives_up_no : (x : Refusal) → r ≡ Err x → Does (Err x) l l (gives_up (decode l) c)
  unfolding gives_up
  gives_up_no x f = refuses x l _ (rw (given, f) refl)

  pub gives_up_done : (x : Client) (l' : List ℕ) → r ≡ Ok x → l' ≡ put_client l c x → Does (Ok None) l l' (gives_up (decode l) c)
  unfolding gives_up
  gives_up_done x l' f d = does 0 (with_client (decode l) c x) l l' _ (rw (given, f) refl) (d ∙ (with_client_lem (image_of h) c a b x).is)
