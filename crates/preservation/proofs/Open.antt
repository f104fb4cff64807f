-- Which requests wait for answers, by a search over all phases. Assumes nothing.
use Rattle.std.specs.Prelude.{ℕ, ◌≤◌, Bool, false, ◌≡◌, refl, ltb, eqb, None, Some}
use Rattle.std.proofs.Common.{arith}
use Rattle.std.proofs.Math.Bool.{true}
use Rattle.std.proofs.Math.Path.{subst}
use Rattle.std.specs.Cmp.{first_so, second_so}
use borrow.Author.Tests.{eqb-true, eqb-false, eq-eqb, ne_eqb, le-leb}
use Rattle.protocol.specs.declared.Phase.{Phase}
use Rattle.protocol.specs.declared.Phase.TheVariants.{Idle, Reading, Writing}
use Rattle.protocol.specs.Types.{Ending}
use Rattle.protocol.specs.Tools.{if, within}
use Rattle.protocol.specs.Sizes.{clients, views}
use Rattle.protocol.specs.Servers.{READ, WRITE, END, is_request}
use Rattle.protocol.specs.Clients.{WRITES, READS, request_of, end_of}
use Rattle.protocol.specs.Worlds.{World, client, message, newest, present}
use Rattle.protocol.specs.Steps.{open?}
use Rattle.protocol.specs.Readable.{is_sent, phase_fits, client_range, client_fits, ending_fits, well_formed}
use Rattle.protocol.proofs.Laws.Tests.{within_true}
use Rattle.protocol.proofs.Laws.Formed.{Formed, formed}
use Rattle.protocol.proofs.Laws.Moves.{present_is}
use Rattle.preservation.proofs.Kept.{mailed}
use Rattle.preservation.specs.Open.{Waits, phase, end}

-- of a message that was sent, its kind and its sender
sent_kind : (w : World) (n k s : ℕ) → is_sent w n k s ≡ true → ((message w n).kind ≡ k) × ((message w n).sender ≡ s)
unfolding is_sent
sent_kind w n k s e = let f = second_so (present w n) _ e in (eqb-true _ _ (first_so _ _ f), eqb-true _ _ (second_so (eqb (message w n).kind k) _ f))

module _ (w : World) (h : Formed w) (r : ℕ) (p : present w r ≡ true) where
  opened : (k c : ℕ) → (k ≡ END → ⊥) → (message w r).kind ≡ k → (message w r).sender ≡ c → request_of (client w c).phase ≡ r → open? w r ≡ true
  unfolding open?
  opened k c n e s q = rw (e, ne_eqb k END n, s) (eq-eqb _ _ q)

  open_phase : (c : ℕ) → 1 ≤ c → c ≤ clients → request_of (client w c).phase ≡ r → open? w r ≡ true
  unfolding client_fits
  open_phase c l u q = go (client w c).phase q (second_so (client_range (client w c)) _ (h.client c l u))
    where
      asked : (n k : ℕ) → (k ≡ END → ⊥) → n ≡ r → is_sent w n k c ≡ true → open? w r ≡ true
      asked n k ne e f = let (i, j) = sent_kind w n k c f in opened k c ne (subst (λ (x : ℕ). (message w x).kind ≡ k) e i) (subst (λ (x : ℕ). (message w x).sender ≡ c) e j) q

      go : (x : Phase) → request_of x ≡ r → phase_fits w c (client w c) x ≡ true → open? w r ≡ true
      go Idle e f = let (a, b) = present_is w r p in absurd (omega (arith, e))
      go (Reading n) e f = asked n.0 READ (λ z. omega (arith, z)) e (first_so _ _ (second_so (within WRITES READS (client w c).kind) _ f))
      go (Writing n) e f = asked n.0 WRITE (λ z. omega (arith, z)) e (first_so _ _ (second_so (within WRITES READS (client w c).kind) _ f))

  open_end : end_of w.administrator.ending ≡ r → open? w r ≡ true
  unfolding open?
  open_end q = go w.administrator.ending q h.ending
    where
      kind : (x : Ending) → end_of x ≡ r → ending_fits w x ≡ true → (message w r).kind ≡ END
      kind None e f = let (a, b) = present_is w r p in absurd (omega (arith, e))
      kind (Some n) e f =
          let i = (sent_kind w n.0 END 0 (first_so _ _ (second_so (ltb (newest w) views) _ f))).0 in
          subst (λ (k : ℕ). (message w k).kind ≡ END) e i

      go : (x : Ending) → end_of x ≡ r → ending_fits w x ≡ true
          → if (eqb (message w r).kind END) (eqb (end_of w.administrator.ending) r) (eqb (request_of (client w (message w r).sender).phase) r) ≡ true
      go x e f = rw (eq-eqb _ _ (kind x e f)) (eq-eqb _ _ q)

-- "Take: 7, ... its request is neither that of an open phase nor the END number": what `open?` asks of the sender's phase alone is
-- what a search over all phases asks
pub waits_open : (w : World) → well_formed w ≡ true → (r : ℕ) → present w r ≡ true → Waits w r → open? w r ≡ true
waits_open w e r p (phase c l u q) = open_phase w (formed w e) r p c l u q
waits_open w e r p (end q) = open_end w (formed w e) r p q

pub open_waits : (w : World) → well_formed w ≡ true → (r : ℕ) → present w r ≡ true → is_request (message w r).kind ≡ true → open? w r ≡ true → Waits w r
unfolding open?
open_waits w e r p k o = go (eqb (message w r).kind END) refl o
  where
    go : (b : Bool) → eqb (message w r).kind END ≡ b → if b (eqb (end_of w.administrator.ending) r) (eqb (request_of (client w (message w r).sender).phase) r) ≡ true → Waits w r
    go true i o = end (eqb-true _ _ o)
    go false i o =
        let (a, b) = present_is w r p in
        let (l, u) = within_true READ END (message w r).kind k in
        let m = (mailed (formed w e) r a b).sender in
        let s : within 1 clients (message w r).sender ≡ true = rw (le-leb (message w r).kind WRITE (omega (arith, eqb-false (message w r).kind END i))) at m in
        let (c, d) = within_true 1 clients (message w r).sender s in
        phase (message w r).sender c d (eqb-true _ _ o)
