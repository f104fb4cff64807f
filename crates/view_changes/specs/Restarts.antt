-- A restart on the image of a readable world: the emptying of a request's chain, message by message (`unlink_zero`, `unlink_none`,
-- `unlink_on`, `emptied_image`), then its stores (`restarted`, `restarted_kept`, `restarted_new`). Assumes nothing.
use Rattle.std.specs.Prelude.{ℕ, ◌+◌, ◌-◌, ◌≤◌, ◌<◌, true, false, ◌≡◌, List, ◌∷◌, None, Result as Outcome, Ok, Err}
use Rattle.std.proofs.Common.{arith, sym, ◌∙◌}
use Rattle.std.proofs.Math.Path.{refl, ap, subst}
use borrow.Author.Tests.{eq-eqb, ne_eqb}
use Rattle.protocol.specs.declared.View.{View}
use Rattle.protocol.specs.declared.Message.{Message}
use Rattle.protocol.specs.declared.Administrator.{Administrator}
use Rattle.protocol.specs.declared.refusals.Refusal.{Refusal}
use Rattle.protocol.specs.Refusals.{outcome, refusal_number}
use Rattle.protocol.specs.Tools.{all, Result, refused, done, passed}
use Rattle.protocol.specs.Sizes.{views, messages}
use Rattle.protocol.specs.Clients.{number, end_of, is_ending, restart}
use Rattle.protocol.specs.Worlds.{World, message, newest, present, with_view, with_administrator, as_sent}
use Rattle.protocol.specs.Chains.{follow, chain}
use Rattle.protocol.specs.Steps.{emptied, restarts}
use Rattle.protocol.specs.Readable.{taken_answer}
use Rattle.protocol.proofs.Laws.Tests.{is_within}
use Rattle.protocol.proofs.Laws.Worlds.{content, sent, count_as}
use Rattle.protocol.proofs.Laws.Moves.{is_done}
use Rattle.protocol.proofs.Laws.Lists.{all_map}
use Rattle.preservation.proofs.Links.{taken_is}
use Rattle.preservation.specs.Emptied.{Rooted}
use Rattle.preservation.proofs.Emptied.{as_none, as_more}
use Rattle.preservation.proofs.Kept.{ended, end_sent}
use Rattle.codec.specs.Places.{administrator_at, put_administrator, put_view, message_at, put_message}
use Rattle.codec.specs.Images.{encode, decode}
use Rattle.codec.specs.Laws.{Full}
use Rattle.mail.specs.Images.{Legible, Does}
use Rattle.mail.specs.Stored.{Image, refuses, does, image_of, whole, administrator_is, message_is}
use Rattle.mail.specs.Puts.{message_put, view_put, administrator_put}
use Rattle.takes.specs.Takes.{Walk, linked, follow_zero, follow_none, follow_one, walk_low}

-- the image l of a readable world, and its request r with its chain
pub record Emptying (l : List ℕ) (r : ℕ) : Type 0 where
  pub legible : Legible l
  pub full : Rooted (decode l) r

-- a message as it was sent
linked_plain : (m : Message) → linked m false (number 0) ≡ content m
unfolding linked content
linked_plain m = refl

full_as : {w : World} → Full w → (ks : List ℕ) → Full (as_sent w ks)
unfolding as_sent
full_as {w} h ks = record { view = h.view; server = h.server; client = h.client; message = count_as w ks ∙ h.message }

-- what is left once messages are as they were sent
pub as_image : {l l1 : List ℕ} (ks : List ℕ) → Legible l → l1 ≡ encode (as_sent (decode l) ks) → Image l1 (as_sent (decode l) ks)
as_image ks h p = record { is = p; full = full_as (image_of h).full ks }

-- ---- the walk

pub unlink_zero : {l : List ℕ} {left n : ℕ} → Walk l left n → n ≡ 0 → l ≡ encode (as_sent (decode l) (follow (decode l) left n))
unlink_zero {l} {left} {n} h e = sym h.legible.image ∙ ap encode (sym (as_none (decode l)) ∙ ap (as_sent (decode l)) (sym (follow_zero (decode l) left n e)))

pub unlink_none : {l : List ℕ} {left n : ℕ} → Walk l left n → left ≡ 0 → l ≡ encode (as_sent (decode l) (follow (decode l) left n))
unlink_none {l} {left} {n} h e = sym h.legible.image ∙ ap encode (sym (as_none (decode l)) ∙ ap (as_sent (decode l)) (sym (follow_none (decode l) left n e)))

-- the message n, which is m, is stored as it was sent, once those after it are
pub stored_plain : {l l1 l2 : List ℕ} (n : ℕ) (ks : List ℕ) → Legible l → n ≤ messages → (m x : Message) → m ≡ message_at l n → x ≡ linked m false (number 0)
    → l1 ≡ encode (as_sent (decode l) ks) → l2 ≡ put_message l1 n x → Image l2 (as_sent (decode l) (n ∷ ks))
unfolding sent
stored_plain {l} {l1} {l2} n ks h b m x e f p q =
    let y : x ≡ sent (decode l) n = f ∙ linked_plain m ∙ ap content (e ∙ message_is h n b) in
    subst (Image l2) (as_more (decode l) n ks) (message_put (as_image ks h p) n (sent (decode l) n) b (q ∙ ap (put_message l1 n) y))

pub unlink_on : {l l1 l2 : List ℕ} {left n : ℕ} (h : Walk l left n) → 1 ≤ left → 1 ≤ n → (m x : Message) → m ≡ message_at l n → x ≡ linked m false (number 0)
    → l1 ≡ encode (as_sent (decode l) (follow (decode l) (left - 1) m.next.0)) → l2 ≡ put_message l1 n x → l2 ≡ encode (as_sent (decode l) (follow (decode l) left n))
unlink_on {l} {l1} {l2} {left} {n} h b d m x e f p q =
    let i : m ≡ message (decode l) n = e ∙ message_is h.legible n (walk_low h b d) in
    (stored_plain n (follow (decode l) (left - 1) m.next.0) h.legible (walk_low h b d) m x e f p q).is
    ∙ ap (λ (y : Message). encode (as_sent (decode l) (n ∷ follow (decode l) (left - 1) y.next.0))) i
    ∙ ap (λ (ks : List ℕ). encode (as_sent (decode l) ks)) (sym (follow_one (decode l) left n b d))

-- ---- END and its chain

module _ {l : List ℕ} {r : ℕ} (h : Emptying l r) where
  pub end_low : r ≤ messages
  end_low = omega (arith, h.full.short.below, h.full.short.full)

  pub end_walk : (q : Message) → q ≡ message_at l r → Walk l messages q.next.0
  unfolding chain present
  end_walk q e =
      record {
        legible = h.legible;
        met =
            subst (λ (y : Message). all (present (decode l)) (follow (decode l) messages y.next.0) ≡ true) (sym (e ∙ message_is h.legible r end_low))
            (all_map (taken_answer (decode l) r) (present (decode l)) (chain (decode l) r)
            (λ j t. let i = taken_is (decode l) r j t in is_within 1 (decode l).used j i.low i.below) h.full.chain.only);
      }

  pub emptied_image : {l1 l2 : List ℕ} (q x : Message) → q ≡ message_at l r → x ≡ linked q false (number 0)
      → l1 ≡ encode (as_sent (decode l) (follow (decode l) messages q.next.0)) → l2 ≡ put_message l1 r x → l2 ≡ encode (emptied (decode l) r)
  unfolding emptied chain
  emptied_image {l1} {l2} q x e f p s =
      (stored_plain r (follow (decode l) messages q.next.0) h.legible end_low q x e f p s).is
      ∙ ap (λ (y : Message). encode (as_sent (decode l) (r ∷ follow (decode l) messages y.next.0))) (e ∙ message_is h.legible r end_low)

-- ---- the step

module _ (w : World) (v : View) where
  pub restart_refused : (n : ℕ) → restart w.administrator v ≡ refused n → restarts w v ≡ refused n
  unfolding restarts
  restart_refused n e = rw e

  -- the administrator's record stays
  pub restart_same : (a : Administrator) → restart w.administrator v ≡ done a → (a ≡ w.administrator) × (is_ending w.administrator.ending ≡ true)
  unfolding restart
  restart_same a e =
      let (p, e1) = passed _ _ _ _ e in
      (is_done (passed _ _ _ _ e1).1, p)

  pub restart_kept : (a : Administrator) → restart w.administrator v ≡ done a → v.members.0 ≡ 0
      → restarts w v ≡ done (record { world = with_administrator (emptied w (end_of a.ending)) a; completed = 0 })
  unfolding restarts
  restart_kept a e z = rw (e, eq-eqb _ _ z) refl

  pub restart_new : (a : Administrator) → restart w.administrator v ≡ done a → (v.members.0 ≡ 0 → ⊥)
      → restarts w v ≡ done (record { world = with_view (with_administrator (emptied w (end_of a.ending)) a) (newest w + 1) v; completed = 0 })
  unfolding restarts
  restart_new a e z = rw (e, ne_eqb _ _ z) refl

-- ---- its stores

-- the rule accepts a restart on the image l with v, and hands a back; r is the number of the END that is open
pub record Restarted (l : List ℕ) (v : View) (a : Administrator) (r : ℕ) : Type 0 where
  pub rule : restart (decode l).administrator v ≡ done a
  pub chained : Emptying l r
  pub number : r ≡ end_of a.ending
  pub last : a.newest.0 ≡ newest (decode l)
  pub room : newest (decode l) < views

-- b is the record that was read
pub restart_known : {l : List ℕ} → Legible l → (v : View) (b : Administrator) (x : Result Administrator) → b ≡ administrator_at l → x ≡ restart b v
    → x ≡ restart (decode l).administrator v
restart_known {l} h v b x p r = r ∙ ap (λ (y : Administrator). restart y v) (p ∙ administrator_is h)

pub restarted : {l : List ℕ} → Legible l → (v : View) (b a : Administrator) (r : ℕ) → b ≡ administrator_at l → r ≡ end_of b.ending → restart b v ≡ done a
    → Restarted l v a r
restarted {l} h v b a r p n e =
    let d : restart (decode l).administrator v ≡ done a = sym (restart_known h v b _ p refl) ∙ e in
    let (same, ending) = restart_same (decode l) v a d in
    let (m, i) = end_sent _ ending in
    let t = ended (whole h) m i in
    let k : end_of (decode l).administrator.ending ≡ r = sym (n ∙ ap (λ (y : Administrator). end_of y.ending) (p ∙ administrator_is h)) in
    record {
      rule = d;
      chained = record { legible = h; full = subst (Rooted (decode l)) (sym (ap end_of i) ∙ k) t.full };
      number = sym k ∙ ap (λ (y : Administrator). end_of y.ending) (sym same);
      last = ap (λ (y : Administrator). y.newest.0) same;
      room = t.room;
    }

pub emptied_is : {l l1 : List ℕ} {r : ℕ} → Emptying l r → l1 ≡ encode (emptied (decode l) r) → Image l1 (emptied (decode l) r)
unfolding emptied
emptied_is {l} {l1} {r} h p = as_image (r ∷ chain (decode l) r) h.legible p

module _ {l l1 l2 : List ℕ} {v : View} {a : Administrator} {r : ℕ} (h : Restarted l v a r) (p : l1 ≡ encode (emptied (decode l) r)) (q : l2 ≡ put_administrator l1 a) where
  pub same_is : Image l2 (with_administrator (emptied (decode l) r) a)
  same_is = administrator_put (emptied_is h.chained p) a q

  end_is : with_administrator (emptied (decode l) r) a ≡ with_administrator (emptied (decode l) (end_of a.ending)) a
  end_is = ap (λ (n : ℕ). with_administrator (emptied (decode l) n) a) h.number

  pub restarted_kept : v.members.0 ≡ 0 → Does (Ok None) l l2 (restarts (decode l) v)
  restarted_kept z = does 0 _ l l2 _ (restart_kept (decode l) v a h.rule z) (same_is.is ∙ ap encode end_is)

  pub restarted_new : {l3 : List ℕ} → (v.members.0 ≡ 0 → ⊥) → l3 ≡ put_view l2 (a.newest.0 + 1) v → Does (Ok None) l l3 (restarts (decode l) v)
  restarted_new {l3} z s =
      does 0 _ l l3 _ (restart_new (decode l) v a h.rule z)
      ((view_put same_is (a.newest.0 + 1) v (omega arith) (omega (arith, h.last, h.room)) s).is
      ∙ ap (λ (n : ℕ). encode (with_view (with_administrator (emptied (decode l) r) a) (n + 1) v)) h.last
      ∙ ap (λ (x : World). encode (with_view x (newest (decode l) + 1) v)) end_is)

-- what the administrator's rule gives on the record that was read
module _ {l : List ℕ} (h : Legible l) (v : View) (b : Administrator) (o : Outcome Administrator Refusal) (p : b ≡ administrator_at l) (e : outcome o ≡ restart b v) where
  pub restarts_no : (y : Refusal) → o ≡ Err y → Does (Err y) l l (restarts (decode l) v)
  restarts_no y f = refuses y l _ (restart_refused (decode l) v (refusal_number y) (sym (restart_known h v b _ p e) ∙ ap outcome f))

  pub restarts_on : (a : Administrator) → o ≡ Ok a → (r : ℕ) → r ≡ end_of b.ending → Restarted l v a r
  restarts_on a f r n = restarted h v b a r p n (sym e ∙ ap outcome f)
