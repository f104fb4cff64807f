-- What the clauses of a readable world rest on, and what later worlds keep of it. Assumes nothing.
use Rattle.std.specs.Prelude.{ℕ, ◌≤◌, ◌<◌, Bool, true, false, not, ◌&&◌, ◌≡◌, refl, ltb, leb, eqb, None, Some}
use Rattle.std.proofs.Common.{arith, sym, ◌∙◌, ltb-true, eqb-true, lt-ltb, eq-eqb}
use Rattle.std.proofs.Math.Path.{ap}
use Rattle.std.specs.Cmp.{first_so, second_so}
use Rattle.std.proofs.lemmas.Bool.{and_from}
use Rattle.protocol.specs.declared.ViewNumber.{ViewNumber}
use Rattle.protocol.specs.declared.Message.{Message}
use Rattle.protocol.specs.declared.Client.{Client}
use Rattle.protocol.specs.declared.Phase.{Phase}
use Rattle.protocol.specs.declared.Phase.TheVariants.{Idle, Reading, Writing}
use Rattle.protocol.specs.Types.{Ending}
use Rattle.protocol.specs.Tools.{if, within}
use Rattle.protocol.specs.Sizes.{views}
use Rattle.protocol.specs.Entries.{same}
use Rattle.protocol.specs.Servers.{READ, WRITE, END, ANSWER, is_request}
use Rattle.protocol.specs.Clients.{WRITES, READS}
use Rattle.protocol.specs.Worlds.{World, message, newest, present}
use Rattle.protocol.specs.Readable.{is_sent, ending_fits, phase_fits, sender_fits, tag_rule, request_fits, sent_fits}
use Rattle.protocol.proofs.Laws.Tests.{within_true, is_within}
use Rattle.protocol.proofs.Laws.Worlds.{content, sent}

-- of two tests, the first implies another; the second does
pub and_first : (x y a : Bool) → (x ≡ true → a ≡ true) → (x && y) ≡ true → (a && y) ≡ true
and_first x y a f e = and_from _ _ (f (first_so _ _ e)) (second_so x _ e)

pub and_then : (x y b : Bool) → (y ≡ true → b ≡ true) → (x && y) ≡ true → (x && b) ≡ true
and_then x y b f e = and_from x b (first_so x y e) (f (second_so x y e))

-- ---- what later worlds keep

-- v has the messages of w, as they were sent, and no older newest view
pub record Onward (w v : World) : Type 0 where
  pub used : w.used ≤ v.used
  pub newest : newest w ≤ newest v
  pub same : (i : ℕ) → 1 ≤ i → i ≤ w.used → sent v i ≡ sent w i

sent_present : (w : World) (n k s : ℕ) → is_sent w n k s ≡ true → present w n ≡ true
unfolding is_sent
sent_present w n k s e = first_so _ _ e

module _ {w v : World} (o : Onward w v) where
  pub present_on : (n : ℕ) → present w n ≡ true → present v n ≡ true
  unfolding present
  present_on n e = let (l, h) = within_true 1 w.used n e in is_within 1 v.used n l (omega (arith, o.used))

  in_range : (n : ℕ) → present w n ≡ true → sent v n ≡ sent w n
  unfolding present
  in_range n e = let (l, h) = within_true 1 w.used n e in o.same n l h

  kind_on : (n : ℕ) → present w n ≡ true → (message v n).kind ≡ (message w n).kind
  unfolding sent content
  kind_on n e = ap (λ (m : Message). m.kind) (in_range n e)

  sender_on : (n : ℕ) → present w n ≡ true → (message v n).sender ≡ (message w n).sender
  unfolding sent content
  sender_on n e = ap (λ (m : Message). m.sender) (in_range n e)

  tag_on : (n : ℕ) → present w n ≡ true → (message v n).view ≡ (message w n).view
  unfolding sent content
  tag_on n e = ap (λ (m : Message). m.view) (in_range n e)

  entry_on : (n : ℕ) → present w n ≡ true → (message v n).entry ≡ (message w n).entry
  unfolding sent content
  entry_on n e = ap (λ (m : Message). m.entry) (in_range n e)

  pub sent_on : (n k s : ℕ) → is_sent w n k s ≡ true → is_sent v n k s ≡ true
  unfolding is_sent
  sent_on n k s e =
      let p = first_so _ _ e in
      and_from _ _ (present_on n p) (rw (kind_on n p, sender_on n p) (second_so (present w n) _ e))

  -- an open END stays one while the newest view does
  end_on : newest v ≡ newest w → (r : ℕ) → (is_sent w r END 0 && eqb (message w r).view.0 (newest w)) ≡ true → (is_sent v r END 0 && eqb (message v r).view.0 (newest v)) ≡ true
  end_on q r e =
      let p = first_so _ _ e in
      let t : (message v r).view.0 ≡ newest v =
      ap (λ (x : ViewNumber). x.0) (tag_on r (sent_present w r END 0 p)) ∙ eqb-true _ _ (second_so (is_sent w r END 0) _ e) ∙ sym q in
      and_from _ _ (sent_on r END 0 p) (eq-eqb _ _ t)

  pub ending_on : newest v ≡ newest w → (x : Ending) → ending_fits w x ≡ true → ending_fits v x ≡ true
  ending_on q None e = refl
  ending_on q (Some r) e =
      let l : newest v < views = omega (arith, ltb-true (newest w) views (first_so _ _ e)) in
      and_from _ _ (lt-ltb _ _ l) (end_on q r.0 (second_so (ltb (newest w) views) _ e))

  pub phase_on : (c : ℕ) (a : Client) (p : Phase) → phase_fits w c a p ≡ true → phase_fits v c a p ≡ true
  phase_on c a Idle e = e
  phase_on c a (Reading r) e = and_then (within WRITES READS a.kind) _ _ (and_first (is_sent w r.0 READ c) _ (is_sent v r.0 READ c) (sent_on r.0 READ c)) e
  phase_on c a (Writing r) e = and_then (within WRITES READS a.kind) _ _ written e
    where
      written : (is_sent w r.0 WRITE c && same a.entry (message w r.0).entry) ≡ true → (is_sent v r.0 WRITE c && same a.entry (message v r.0).entry) ≡ true
      written z =
          let p = first_so _ _ z in
          let q : same a.entry (message v r.0).entry ≡ true = rw (entry_on r.0 (sent_present w r.0 WRITE c p)) (second_so (is_sent w r.0 WRITE c) _ z) in
          and_from _ _ (sent_on r.0 WRITE c p) q

  tag_fits_on : (k t : ℕ) → tag_rule (newest w) k t ≡ true → tag_rule (newest v) k t ≡ true
  tag_fits_on k t e = go (leb k WRITE) e
    where
      go : (b : Bool) → if b (eqb t 0) (within 1 (newest w) t) ≡ true → if b (eqb t 0) (within 1 (newest v) t) ≡ true
      go true e = e
      go false e = let (l, h) = within_true 1 (newest w) t e in is_within 1 (newest v) t l (omega (arith, o.newest))

  request_on : (m : Message) → request_fits w m ≡ true → request_fits v m ≡ true
  request_on m e = go (eqb m.kind ANSWER) e
    where
      go : (b : Bool) → if b (present w m.request.0 && is_request (message w m.request.0).kind) (not m.taken && eqb m.request.0 0) ≡ true
          → if b (present v m.request.0 && is_request (message v m.request.0).kind) (not m.taken && eqb m.request.0 0) ≡ true
      go true e = let p = first_so _ _ e in and_from _ _ (present_on m.request.0 p) (rw (kind_on m.request.0 p) (second_so (present w m.request.0) _ e))
      go false e = e

  -- a message that fits in w fits in v
  pub fits_on : (m : Message) → sent_fits w m ≡ true → sent_fits v m ≡ true
  unfolding sent_fits
  fits_on m =
      and_then (within READ ANSWER m.kind) _ _
      (and_then (sender_fits m.kind m.sender) _ _
      (λ e.
      let r = second_so (tag_rule (newest w) m.kind m.view.0) _ e in
      and_from _ _ (tag_fits_on m.kind m.view.0 (first_so _ _ e)) (and_first (request_fits w m) _ (request_fits v m) (request_on m) r)))
