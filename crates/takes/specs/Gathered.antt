-- What a walk along a chain carries, as one number: the servers heard, whether all carry one entry, and the answer that leads.
-- `Gathers` says which tally a number stands for; `gathers_with` adds an answer; `gathers_zero`, `gathers_none`, `gathers_other` and `gathers_on` are the
-- ways out of the walk; `gathers_taken` says that the number of a whole chain opens into what closes a phase or leaves it open. The
-- functions of `tally` and `taken_with` rest on them. Assumes nothing.
use Rattle.std.specs.Prelude.{ℕ, ◌+◌, ◌*◌, ◌/◌, ◌%◌, ◌^◌, ◌-◌, ◌≤◌, ◌<◌, Bool, ◌≡◌, refl, List, eqb, Option}
use Rattle.std.proofs.Common.{arith, subst, ◌∙◌, eq-eqb, ne_eqb}
use Rattle.std.proofs.Math.Bool.{true, false}
use Rattle.std.proofs.Math.Path.{sym, ap}
use Rattle.std.specs.Int.Bits.{bit_or}
use Rattle.values.specs.declared.tally.Tally.{Tally}
use Rattle.values.specs.Bits.{bit_in}
use Rattle.values.specs.Tallies.{leading, add_answer, with_answer, still_one, tally_from, first_answer, closes_at}
use Rattle.protocol.specs.declared.Choice.{Choice}
use Rattle.protocol.specs.declared.Message.{Message}
use Rattle.protocol.specs.declared.MessageNumber.{MessageNumber}
use Rattle.protocol.specs.declared.ServerSet.{ServerSet}
use Rattle.protocol.specs.Tools.{if}
use Rattle.protocol.specs.Sizes.{messages}
use Rattle.protocol.specs.Entries.{below, larger}
use Rattle.protocol.specs.Worlds.{World, message}
use Rattle.protocol.specs.Chains.{follow}
use Rattle.codec.specs.Places.{message_at}
use Rattle.codec.specs.Images.{decode}
use Rattle.codec.specs.Laws.{message_decode}
use Rattle.takes.specs.Takes.{Walk, Takable, closes_with, tally_zero, tally_none, tally_on_lem, answer_is, tally_taken}

-- a number has the servers heard in its low 32 bits, then whether the answers differ, and the answer that leads above that
pub record Packs (g : ℕ) (seen : ServerSet) (best : MessageNumber) (one : Bool) : Type 0 where
  pub servers : g % 2 ^ 32 ≡ seen.0
  pub same : eqb (g / 2 ^ 32 % 2) 0 ≡ one
  pub answer : g / 2 ^ 33 ≡ best.0

module _ (s : ServerSet) (b : MessageNumber) (o : Bool) (h : s.0 < 2 ^ 32) where
  pub packs_one : (g : ℕ) → g ≡ s.0 + 2 ^ 33 * b.0 → o ≡ true → Packs g s b o
  packs_one g e p =
      let i : g / 2 ^ 32 % 2 ≡ 0 = omega (arith, e, h) in
      record { servers = omega (arith, e, h); same = eq-eqb (g / 2 ^ 32 % 2) 0 i ∙ sym p; answer = omega (arith, e, h) }

  pub packs_more : (g : ℕ) → g ≡ s.0 + 2 ^ 33 * b.0 + 2 ^ 32 → o ≡ false → Packs g s b o
  packs_more g e p =
      let i : g / 2 ^ 32 % 2 ≡ 1 = omega (arith, e, h) in
      record { servers = omega (arith, e, h); same = ne_eqb (g / 2 ^ 32 % 2) 0 (λ z. omega (arith, i)) ∙ sym p; answer = omega (arith, e, h) }

-- the tally that a number stands for
unfoldable pub opened : World → ℕ → Tally
opened w g = record { seen = record { 0 = g % 2 ^ 32 }; best = (message w (g / 2 ^ 33)).entry; one = eqb (g / 2 ^ 32 % 2) 0 }

pub record Gathers (w : World) (g : ℕ) (a : Tally) : Type 0 where
  pub low : g / 2 ^ 33 ≤ messages
  pub is : opened w g ≡ a

-- the tally of view t from message n on, along the links still allowed, where g stands for that of the answers before
abbrev pub tally_on : World → ℕ → ℕ → ℕ → ℕ → Tally
tally_on w t g left n = tally_from w t (opened w g) (follow w left n)

-- ---- a number opened

pub best_low : (g : ℕ) → g / 2 ^ 33 ≤ messages → (b : MessageNumber) → b ≡ record { 0 = g / 2 ^ 33 } → b.0 ≤ messages
best_low g k b p = subst (λ (x : MessageNumber). x.0 ≤ messages) (sym p) k

pub opens : (l : List ℕ) (g : ℕ) → g / 2 ^ 33 ≤ messages → (s : ServerSet) → s ≡ record { 0 = g % 2 ^ 32 } → (b : MessageNumber) → b ≡ record { 0 = g / 2 ^ 33 }
    → (o : Bool) → o ≡ eqb (g / 2 ^ 32 % 2) 0 → (m : Message) → m ≡ message_at l b.0 → record { seen = s; best = m.entry; one = o } ≡ opened (decode l) g
unfolding opened
opens l g k s q b p o z m e =
    let f : m.entry ≡ (message (decode l) (g / 2 ^ 33)).entry =
    ap (λ (x : Message). x.entry) (e ∙ ap (λ (x : MessageNumber). message_at l x.0) p ∙ sym (message_decode l (g / 2 ^ 33) k)) in
    λ i. record { seen = q i; best = f i; one = z i }

-- ---- one answer more

-- the answer n, which is m, is met; a is the tally before, and b the answer that led
module _ (l : List ℕ) (n : MessageNumber) (m : Message) (e : m ≡ message_at l n.0) (h : n.0 ≤ messages) (g : ℕ) (k : g / 2 ^ 33 ≤ messages) (a : Tally) (d : a ≡ opened (decode l) g)
    (b : MessageNumber) (p : b ≡ record { 0 = g / 2 ^ 33 }) (x : MessageNumber) (y : x ≡ leading b a.best n m.entry) where
  had : (message (decode l) b.0).entry ≡ a.best
  unfolding opened
  had = ap (λ (i : MessageNumber). (message (decode l) i.0).entry) p ∙ sym (ap (λ (i : Tally). i.best) d)

  -- the entry of the answer that leads
  largest : (message (decode l) x.0).entry ≡ larger m.entry a.best
  unfolding larger
  largest = ap (λ (i : MessageNumber). (message (decode l) i.0).entry) y ∙ go (below m.entry a.best)
    where
      go : (c : Bool) → (message (decode l) (if c b n).0).entry ≡ if c a.best m.entry
      go true = had
      go false = ap (λ (i : Message). i.entry) (message_decode l n.0 h ∙ sym e)

  leads_low : x.0 ≤ messages
  leads_low = subst (λ (i : MessageNumber). i.0 ≤ messages) (sym y) (go (below m.entry a.best))
    where
      go : (c : Bool) → (if c b n).0 ≤ messages
      go true = best_low g k b p
      go false = h

  pub gathers_with : (s : ServerSet) → s ≡ record { 0 = bit_or a.seen.0 (bit_in m.sender) } → (o : Bool) → o ≡ still_one a.one a.best m.entry
      → (r : ℕ) → Packs r s x o → Gathers (decode l) r (add_answer (opened (decode l) g) m.view.0 m)
  unfolding add_answer opened
  gathers_with s q o f r z =
      record {
        low = let u = leads_low in omega (arith, z.answer);
        is = opened_is ∙ sym (ap (λ (i : Tally). add_answer i m.view.0 m) (sym d) ∙ own_view);
      }
    where
      own_view : add_answer a m.view.0 m ≡ with_answer a m
      own_view = rw (eq-eqb m.view.0 m.view.0 refl)

      opened_is : opened (decode l) r ≡ with_answer a m
      opened_is =
          let i : r % 2 ^ 32 ≡ bit_or a.seen.0 (bit_in m.sender) = z.servers ∙ ap (λ (v : ServerSet). v.0) q in
          let j : (message (decode l) (r / 2 ^ 33)).entry ≡ larger m.entry a.best = ap (λ (v : ℕ). (message (decode l) v).entry) z.answer ∙ largest in
          let t : eqb (r / 2 ^ 32 % 2) 0 ≡ still_one a.one a.best m.entry = z.same ∙ f in
          λ u. record { seen = record { 0 = i u }; best = j u; one = t u }

-- ---- the ways out of a walk

module _ (w : World) (t left n g : ℕ) (k : g / 2 ^ 33 ≤ messages) where
  pub gathers_zero : n ≡ 0 → Gathers w g (tally_on w t g left n)
  gathers_zero z = record { low = k; is = tally_zero w t (opened w g) left n z }

  pub gathers_none : left ≡ 0 → Gathers w g (tally_on w t g left n)
  gathers_none z = record { low = k; is = tally_none w t (opened w g) left n z }

other_view : (a : Tally) (t : ℕ) (m : Message) → (m.view.0 ≡ t → ⊥) → a ≡ add_answer a t m
unfolding add_answer
other_view a t m v = rw (ne_eqb m.view.0 t v)

module _ {l : List ℕ} {left n : ℕ} (h : Walk l left n) (b : 1 ≤ left) (d : 1 ≤ n) (m : Message) (e : m ≡ message_at l n) (t r g : ℕ) where
  pub gathers_other : (m.view.0 ≡ t → ⊥) → Gathers (decode l) r (tally_on (decode l) t g (left - 1) m.next.0) → Gathers (decode l) r (tally_on (decode l) t g left n)
  gathers_other v x =
      record { low = x.low; is = tally_on_lem h b d m e t (opened (decode l) g) (opened (decode l) g) (opened (decode l) r) (other_view (opened (decode l) g) t m v) x.is }

  pub gathers_on : m.view.0 ≡ t → (f : ℕ) → Gathers (decode l) f (add_answer (opened (decode l) g) m.view.0 m)
      → Gathers (decode l) r (tally_on (decode l) t f (left - 1) m.next.0) → Gathers (decode l) r (tally_on (decode l) t g left n)
  gathers_on v f y x =
      record {
        low = x.low;
        is = tally_on_lem h b d m e t (opened (decode l) g) (opened (decode l) f) (opened (decode l) r) (y.is ∙ ap (λ (i : ℕ). add_answer (opened (decode l) g) i m) v) x.is;
      }

-- ---- a whole chain

pub gathers_taken : {l : List ℕ} {k : MessageNumber} (h : Takable l k.0) (m : Message) (e : m ≡ message_at l k.0) (q : Message) → q ≡ message_at l m.request.0
    → (size g r : ℕ) (x : Option Choice) (own : ServerSet) → own ≡ record { 0 = bit_in m.sender } → Packs g own k true
    → Gathers (decode l) r (tally_on (decode l) m.view.0 g messages q.next.0)
    → (b : Tally) → b ≡ opened (decode l) r → x ≡ closes_at b size → x ≡ closes_with (decode l) k.0 size
unfolding opened first_answer
gathers_taken {l} {k} h m e q f size g r x own o z y b p c = tally_taken h m e q f size x (opened (decode l) g) b first (p ∙ y.is) c
  where
    first : opened (decode l) g ≡ first_answer m
    first =
        let i : g % 2 ^ 32 ≡ bit_in m.sender = z.servers ∙ ap (λ (v : ServerSet). v.0) o in
        let j : (message (decode l) (g / 2 ^ 33)).entry ≡ m.entry = ap (λ (v : ℕ). (message (decode l) v).entry) z.answer ∙ ap (λ (v : Message). v.entry) (sym (answer_is h m e)) in
        λ u. record { seen = record { 0 = i u }; best = j u; one = z.same u }
