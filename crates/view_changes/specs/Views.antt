-- A new view on the image of a readable world. Assumes nothing.
use Rattle.std.specs.Prelude.{ℕ, ◌+◌, ◌≤◌, ◌<◌, ◌≡◌, List, None, Result as Outcome, Ok, Err}
use Rattle.std.proofs.Common.{arith, sym, ap, ap₂, ◌∙◌}
use Rattle.std.specs.Cmp.{second_so}
use borrow.Author.Tests.{ltb-true}
use Rattle.protocol.specs.declared.View.{View}
use Rattle.protocol.specs.declared.Administrator.{Administrator}
use Rattle.protocol.specs.declared.Entry.{Entry}
use Rattle.protocol.specs.declared.Message.{Message}
use Rattle.protocol.specs.declared.MessageNumber.{MessageNumber}
use Rattle.protocol.specs.declared.refusals.Refusal.{Refusal}
use Rattle.protocol.specs.Refusals.{outcome, refusal_number}
use Rattle.protocol.specs.Tools.{refused, done, guard, passed}
use Rattle.protocol.specs.Sizes.{views, messages, sized}
use Rattle.protocol.specs.Entries.{empty}
use Rattle.protocol.specs.Servers.{END}
use Rattle.protocol.specs.Clients.{call}
use Rattle.protocol.specs.Worlds.{World, newest, with_view, with_administrator, send, next_number}
use Rattle.protocol.specs.Steps.{request, new_view}
use Rattle.codec.specs.Places.{used_at, administrator_at, put_administrator, put_view}
use Rattle.codec.specs.Images.{decode}
use Rattle.mail.specs.Images.{Legible, Does, put_sent, number_left}
use Rattle.mail.specs.Stored.{image_of, used_is, administrator_is, room_none, room_some, refuses, does, numbered, unnumbered}
use Rattle.mail.specs.Puts.{view_put, administrator_put, sent_put}

-- the world after an accepted call
unfoldable pub called_world : World → View → Administrator → World
called_world w v a = send (with_view (with_administrator w a) (newest w + 1) v) (request END 0 (newest w) empty)

module _ (w : World) (v : View) where
  pub call_refused : (n : ℕ) → call w.administrator v (next_number w) ≡ refused n → new_view w v ≡ refused n
  unfolding new_view
  call_refused n e = rw e

  pub call_full : (a : Administrator) → call w.administrator v (next_number w) ≡ done a → messages ≤ w.used → new_view w v ≡ refused 10
  unfolding new_view guard
  call_full a e h = rw (e, room_none w h)

  pub call_done : (a : Administrator) → call w.administrator v (next_number w) ≡ done a → w.used < messages
      → new_view w v ≡ done (record { world = called_world w v a; completed = 0 })
  unfolding new_view guard called_world
  call_done a e h = rw (e, room_some w h)

  -- "8, size rule broken or newest is 32"
  pub call_low : (a : Administrator) → call w.administrator v (next_number w) ≡ done a → newest w < views
  unfolding call
  call_low a e =
      let (p, e1) = passed _ _ _ _ e in
      let (q, e2) = passed _ _ _ _ e1 in
      ltb-true _ _ (second_so (sized v) _ q)

-- what the administrator's rule gives on the record and the number that were read
module _ {l : List ℕ} (h : Legible l) (v : View) (b : Administrator) (u : ℕ) (o : Outcome Administrator Refusal) (p : b ≡ administrator_at l) (q : u ≡ used_at l)
    (e : outcome o ≡ call b v (u + 1)) where
  abbrev w : World
  w = decode l

  is_administrator : b ≡ w.administrator
  is_administrator = p ∙ administrator_is h

  rule : call w.administrator v (next_number w) ≡ outcome o
  rule = sym (e ∙ ap₂ (λ (y : Administrator) (n : ℕ). call y v (n + 1)) is_administrator (q ∙ used_is h))

  pub new_view_no : (y : Refusal) → o ≡ Err y → Does (Err y) l l (new_view w v)
  new_view_no y f = refuses y l _ (call_refused w v (refusal_number y) (rule ∙ ap outcome f))

  module _ (a : Administrator) (f : o ≡ Ok a) where
    called : call w.administrator v (next_number w) ≡ done a
    called = rule ∙ ap outcome f

    pub new_view_full : (y : Refusal) → Err y ≡ number_left (used_at l) → Does (Err y) l l (new_view w v)
    new_view_full y g =
        let (d, i) = unnumbered (used_at l) y (sym g) in
        refuses y l _ (call_full w v a called (omega (arith, d, used_is h)) ∙ ap (λ (x : Refusal). refused (refusal_number x)) (sym i))

    pub newest_low : b.newest.0 < views
    newest_low = let n = ap (λ (x : Administrator). x.newest.0) is_administrator in omega (arith, n, call_low w v a called)

    pub new_view_done : (n : MessageNumber) → Ok n ≡ number_left (used_at l) → {l1 l2 l3 : List ℕ} {m : Message} {x : Entry} → x ≡ empty → m ≡ request END 0 b.newest.0 x
        → l1 ≡ put_administrator l a → l2 ≡ put_view l1 (b.newest.0 + 1) v → l3 ≡ put_sent l2 n.0 m → Does (Ok None) l l3 (new_view w v)
    unfolding called_world with_administrator with_view
    new_view_done n g {l1} {l2} {l3} {m} {x} z i c d k =
        let (low, j) = numbered (used_at l) n (sym g) in
        let t = ap (λ (x : Administrator). x.newest.0) is_administrator in
        let y : m ≡ request END 0 (newest w) empty = i ∙ ap (λ (y : Administrator). request END 0 y.newest.0 x) is_administrator ∙ ap (λ (y : Entry). request END 0 (newest w) y) z in
        does 0 (called_world w v a) l l3 _ (call_done w v a called (omega (arith, low, used_is h)))
        (sent_put (view_put (administrator_put (image_of h) a c) (newest w + 1) v (omega arith) (omega (arith, call_low w v a called)) (d ∙ ap (λ (x : ℕ). put_view l1 (x + 1) v) t)) n.0
        (request END 0 (newest w) empty) (j ∙ ap (λ (x : ℕ). x + 1) (used_is h)) (omega (arith, low, used_is h)) (k ∙ ap (put_sent l2 n.0) y)).is
