-- The operations of a run (specs/Operations.antt): what they show and chose, what a client writes, and what of them stays. Assumes nothing.
use Rattle.std.specs.Prelude.{ℕ, ◌+◌, ◌≤◌, ◌<◌, Bool, true, false, ◌≡◌, refl, ◌⊎◌, List, ltb, eqb}
use Rattle.std.proofs.Common.{le_refl, arith, ap, subst, ◌∙◌, inl, inr, eq-eqb, ne_eqb, ltb-true, ltb-false}
use Rattle.std.proofs.Math.Decide.{ℕ_discrete}
use Rattle.std.proofs.lemmas.Bool.{eqb-false}
use Rattle.protocol.specs.declared.StampCount.{StampCount}
use Rattle.protocol.specs.declared.Entry.{Entry}
use Rattle.protocol.specs.declared.Client.{Client}
use Rattle.protocol.specs.Tools.{if}
use Rattle.protocol.specs.Entries.{entry, count_of, writer_of}
use Rattle.protocol.specs.Servers.{WRITE, END}
use Rattle.protocol.specs.Clients.{WRITES, READS, next_count, to_write, given_by}
use Rattle.protocol.specs.Worlds.{World, client, newest}
use Rattle.protocol.specs.Runs.{Tracked}
use Rattle.protocol.proofs.Laws.Entries.{≼_refl}
use Rattle.protocol.proofs.Laws.Worlds.{sent}
use Rattle.protocol.proofs.Laws.Change.{Votes, Closed, Kept, Agreed, Change}
use Rattle.agreement.specs.Invariants.{IsAnswer, Origin, blank, from, Inv}
use Rattle.agreement.proofs.Invariants.{grown, raised, votes_on}
use Rattle.agreement.specs.Carried.{Held, Read}
use Rattle.agreement.specs.Operations.{shows, Wrote, Exchanged, Fits, Chose}

pub shows_done : (w : World) (o : Tracked) → 1 ≤ o.end → shows w o ≡ o.entry
shows_done w o h = rw (ne_eqb o.end 0 (λ e. omega arith)) refl

pub shows_open : (w : World) (o : Tracked) → o.end ≡ 0 → shows w o ≡ (sent w o.write).entry
shows_open w o h = rw (eq-eqb o.end 0 h) refl

module _ {w : World} {place : ℕ} {l : List Tracked} {o : Tracked} (f : Fits w place l o) where
  pub shows_sent : 1 ≤ o.write → shows w o ≡ (sent w o.write).entry
  shows_sent h = go (ℕ_discrete o.end 0)
    where
      go : Dec (o.end ≡ 0) → shows w o ≡ (sent w o.write).entry
      go (yes z) = shows_open w o z
      go (no z) = let d : 1 ≤ o.end = omega arith in shows_done w o d ∙ (f.done d).entry h

  -- what it chose
  chose_sent : 1 ≤ o.write → Chose w o
  chose_sent h =
      let g = f.wrote h in
      let e = shows_sent h in
      record {
        chosen = g.chosen;
        seen = g.seen;
        at = o.write;
        below = omega (arith, g.below);
        origin = g.origin;
        back = λ k. e ∙ g.back k;
        above = λ k. rw e (g.above k);
        own = λ k. rw e (g.own k);
      }

  pub chose : (1 ≤ o.write) ⊎ (1 ≤ o.end) → Chose w o
  chose (inl h) = chose_sent h
  chose (inr h) = go (ℕ_discrete o.write 0)
    where
      go : Dec (o.write ≡ 0) → Chose w o
      go (no z) = chose_sent (omega arith)
      go (yes z) =
          let x = (f.done h).once z in
          record {
            chosen = o.entry;
            seen = x.seen;
            at = w.used + 1;
            below = le_refl _;
            origin = x.origin;
            back = λ k. shows_done w o h;
            above = λ k. absurd (omega (arith, x.read, k));
            own = λ k. absurd (omega (arith, x.read, k));
          }

-- ---- what a client writes

to_write_read : (a : Client) (i : ℕ) (e : Entry) → a.kind ≡ READS → to_write a i e ≡ e
unfolding to_write
to_write_read a i e k = rw k refl

to_write_write : (a : Client) (i : ℕ) (e : Entry) → a.kind ≡ WRITES → to_write a i e ≡ entry (next_count a e) i a.entry.value
unfolding to_write
to_write_write a i e k = rw (eq-eqb _ _ k) refl

given_by_write : (a : Client) (e : Entry) → a.kind ≡ WRITES → (given_by a e).0 ≡ next_count a e
unfolding given_by
given_by_write a e k = rw (eq-eqb _ _ k) refl

-- "one above the larger of the count read and the largest this client ever gave"
next_count_above : (a : Client) (e : Entry) → (count_of e < next_count a e) × (a.given.0 < next_count a e)
unfolding next_count
next_count_above a e = go (ltb (count_of e) a.given.0) refl
  where
    go : (b : Bool) → ltb (count_of e) a.given.0 ≡ b → (count_of e < if b a.given.0 (count_of e) + 1) × (a.given.0 < if b a.given.0 (count_of e) + 1)
    go true q = let l = ltb-true (count_of e) a.given.0 q in (omega (arith, l), omega arith)
    go false q = let l = ltb-false (count_of e) a.given.0 q in (omega arith, omega (arith, l))

pub given_by_grows : (a : Client) (e : Entry) → a.given.0 ≤ (given_by a e).0
unfolding given_by
given_by_grows a e = go (eqb a.kind WRITES)
  where
    go : (b : Bool) → a.given.0 ≤ (if b (record { 0 = next_count a e }) a.given).0
    go true = omega (arith, (next_count_above a e).1)
    go false = le_refl _

-- fewer answers than there are
fewer : {w : World} {t m n : ℕ} {P : ℕ → ℕ → Type 0} → m ≤ n → Votes w t n P → Votes w t m P
fewer l v = record { seen = v.seen; enough = omega (arith, v.enough); vote = v.vote }

-- ---- what is known of an operation stays

module _ {w v : World} (c : Change w v) (n : Inv w) where
  asked_old : (k : ℕ) → k ≤ w.used → IsAnswer (sent w k) → sent v (sent v k).request.0 ≡ sent w (sent w k).request.0
  asked_old k l i = rw (c.old k l) (c.old (sent w k).request.0 (omega (arith, n.later k l i)))

  pub held_on : {e : Entry} {b : ℕ} → Held w e b → Held v e b
  held_on {e} {b} h =
      record {
        tag = h.tag;
        low = h.low;
        high = omega (arith, h.high, raised c);
        votes = rw (c.views h.tag h.high)
            (votes_on c (λ s k l i x t p.
            record { before = p.before; other = rw (asked_old k l i) p.other; shows = λ g. rw (c.old k l) (p.shows ((c.grew s).fair h.tag g)) })
            h.votes);
      }

  read_on : {e : Entry} {b : ℕ} → Read w e b → Read v e b
  read_on h =
      record {
        tag = h.tag;
        low = h.low;
        high = omega (arith, h.high, raised c);
        votes = rw (c.views h.tag h.high) (votes_on c (λ s k l i x t p. record { after = p.after; covered = rw (c.old k l) p.covered }) h.votes);
      }

  origin_on : {j : ℕ} {e : Entry} → j ≤ w.used → Origin w j e → Origin v j e
  origin_on l (blank e) = blank e
  origin_on l (from k h i e) = let q = c.old k (omega arith) in from k h (rw q i) (rw q e)

  pub wrote_on : {who kind read write : ℕ} → Wrote w who kind read write → Wrote v who kind read write
  wrote_on {write} h =
      let e : sent v write ≡ sent w write = c.old write h.below in
      record {
        after = h.after;
        below = omega (arith, h.below, grown c);
        is = rw e h.is;
        chosen = h.chosen;
        seen = read_on h.seen;
        origin = origin_on h.below h.origin;
        back = rw e h.back;
        above = rw e h.above;
        own = rw e h.own;
      }

  later_origin : {u : World} {a b : ℕ} {e : Entry} → a ≤ b → Origin u a e → Origin u b e
  later_origin l (blank e) = blank e
  later_origin l (from k h i e) = from k (omega arith) i e

  -- a READ phase closed
  read_new : {i r : ℕ} (x : Closed w v i r) → 1 ≤ x.tag → x.tag ≤ newest w → Read v x.entry r
  read_new x l u =
      record {
        tag = x.tag;
        low = l;
        high = omega (arith, raised c);
        votes = rw (c.views x.tag u)
            (votes_on c (λ s k h i z t p. record { after = omega (arith, n.later k h i, p.request); covered = rw (c.old k h) p.covered }) x.votes);
      }

  pub wrote_new : {i r : ℕ} → v.used ≡ w.used + 1 → Closed w v i r → r ≤ w.used → (kind : ℕ) → (client w i).kind ≡ kind → Wrote v i kind r v.used
  wrote_new {i} {r} u x l kind t =
      let y = n.tagged x.chosen.at x.chosen.below x.chosen.is in
      record {
        after = omega arith;
        below = le_refl _;
        is = x.writes;
        chosen = x.entry;
        seen = read_new x (omega (arith, y.low, x.chosen.tag)) (omega (arith, y.high, x.chosen.tag));
        origin =
            later_origin (omega (arith, x.chosen.below)) (origin_on x.chosen.below
            (subst (Origin w x.chosen.at) x.chosen.entry (n.shown x.chosen.at x.chosen.below x.chosen.is)));
        back = λ z. x.carries ∙ to_write_read (client w i) i x.entry (t ∙ z);
        above = λ z. rw (x.carries ∙ to_write_write (client w i) i x.entry (t ∙ z)) (next_count_above (client w i) x.entry).0;
        own = λ z. ap writer_of (x.carries ∙ to_write_write (client w i) i x.entry (t ∙ z));
      }

  origin_grows : {e : Entry} → Origin w (w.used + 1) e → Origin v (v.used + 1) e
  origin_grows (blank e) = blank e
  origin_grows (from k h i e) = let q = c.old k (omega arith) in from k (omega (arith, grown c)) (rw q i) (rw q e)

  pub exchanged_on : {o : Tracked} → Exchanged w o → Exchanged v o
  exchanged_on x = record { read = x.read; seen = read_on x.seen; origin = origin_grows x.origin }

  -- a READ phase closed on answers that agree
  pub exchanged_new : {r : ℕ} {e : Entry} (x : Agreed w r e) (o : Tracked) → o.kind ≡ READS → o.read ≡ r → o.entry ≡ e → Exchanged v o
  exchanged_new {r} {e} x o k q z =
      let y = n.tagged x.chosen.at x.chosen.below x.chosen.is in
      record {
        read = k;
        seen = rw (q, z)
            (record {
              tag = x.tag;
              low = omega (arith, y.low, x.chosen.tag);
              high = omega (arith, y.high, x.chosen.tag, raised c);
              votes = rw (c.views x.tag (omega (arith, y.high, x.chosen.tag)))
                  (votes_on c (λ s j h i z t p. record { after = omega (arith, n.later j h i, p.request); covered = rw (c.old j h, p.shows) (≼_refl _) }) x.votes);
            });
        origin = rw z
            (origin_grows (later_origin (omega (arith, x.chosen.below)) (subst (Origin w x.chosen.at) x.chosen.entry (n.shown x.chosen.at x.chosen.below x.chosen.is))));
      }

  pub held_once : {r : ℕ} {e : Entry} → Agreed w r e → Held v e v.used
  held_once {r} {e} x =
      let y = n.tagged x.chosen.at x.chosen.below x.chosen.is in
      record {
        tag = x.tag;
        low = omega (arith, y.low, x.chosen.tag);
        high = omega (arith, y.high, x.chosen.tag, raised c);
        votes = rw (c.views x.tag (omega (arith, y.high, x.chosen.tag)))
            (votes_on c (λ s j b i z t p.
            record { before = omega (arith, grown c); other = rw (asked_old j b i, p.request) x.other; shows = λ g. rw (c.old j b, p.shows) (≼_refl _) })
            (fewer x.covers x.votes));
      }

  -- the count that a write of its own gives is above all that its client gave, and is then the largest
  pub given_new : {i r : ℕ} (x : Closed w v i r) → (client w i).kind ≡ WRITES
      → ((client w i).given.0 < count_of (sent v v.used).entry) × (count_of (sent v v.used).entry ≤ (client v i).given.0)
  given_new {i} x k =
      let e : count_of (sent v v.used).entry ≡ next_count (client w i) x.entry = ap count_of (x.carries ∙ to_write_write (client w i) i x.entry k) in
      let g : (client v i).given.0 ≡ next_count (client w i) x.entry = ap (λ (n : StampCount). n.0) x.given ∙ given_by_write (client w i) x.entry k in
      (rw e (next_count_above (client w i) x.entry).1, omega (arith, e, g))

  -- a WRITE phase closed
  pub held_new : {r : ℕ} → Kept w r → r ≤ w.used → (sent w r).kind ≡ WRITE → Held v (sent w r).entry v.used
  held_new {r} x l k =
      let y = n.tagged x.chosen.at x.chosen.below x.chosen.is in
      record {
        tag = x.tag;
        low = omega (arith, y.low, x.chosen.tag);
        high = omega (arith, y.high, x.chosen.tag, raised c);
        votes = rw (c.views x.tag (omega (arith, y.high, x.chosen.tag)))
            (votes_on c (λ s j b i z t p.
            record {
              before = omega (arith, grown c);
              other = rw (asked_old j b i, p.request, k) (λ e. apart e);
              shows = λ g. rw (c.old j b) (rw p.request at (n.paid j b (record { is = i; good = rw (z, t) ((c.grew s).fair x.tag g) }) (rw p.request k)));
            })
            x.votes);
      }
    where
      apart : WRITE ≡ END → ⊥
      apart e = eqb-false WRITE END refl e
