-- What holds of every world that a run reaches (specs/Invariants.antt), proved from the relation `Change` alone. Assumes nothing.
use Rattle.std.specs.Prelude.{ℕ, suc, ◌+◌, ◌≤◌, ◌<◌, true, false, ◌≡◌, ◌⊎◌}
use Rattle.std.proofs.Common.{le_refl, arith, inl, inr}
use Rattle.protocol.specs.declared.Entry.{Entry}
use Rattle.protocol.specs.declared.Message.{Message}
use Rattle.protocol.specs.Tools.{holds}
use Rattle.protocol.specs.Servers.{WRITE, END, START}
use Rattle.protocol.specs.Worlds.{World, server, newest, member}
use Rattle.protocol.proofs.Laws.Tests.{clash, last_or}
use Rattle.protocol.proofs.Laws.Entries.{◌≼◌, ≼_refl, ≼_trans}
use Rattle.protocol.proofs.Laws.Worlds.{sent}
use Rattle.protocol.proofs.Laws.Change.{Votes, Joined, stay, join, Given, Carried, written, begun, Honest, Shows, nothing, old, its, Started, New, Posted, none, one, Change}
use Rattle.agreement.specs.Invariants.{IsAnswer, Fair, Again, Keyed, Based, early, rooted, Opened, Origin, blank, from, StartOf, Inv}

-- ---- each part is kept

module _ {w v : World} (c : Change w v) where
  pub grown : w.used ≤ v.used
  grown = go c.posted
    where
      go : Posted w v → w.used ≤ v.used
      go (none e n) = omega arith
      go (one e n t) = omega arith

  pub raised : newest w ≤ newest v
  raised = go c.posted
    where
      go : Posted w v → newest w ≤ newest v
      go (none e n) = omega arith
      go (one e n (inl t)) = omega arith
      go (one e n (inr t)) = omega (arith, (n.start t).raised)

  -- what holds of each message: of those before, and of the new one
  pub each : (P : ℕ → Message → Type 0) → ((i : ℕ) → i ≤ w.used → P i (sent w i)) → (v.used ≡ w.used + 1 → New w v (sent v v.used) → P v.used (sent v v.used))
      → (i : ℕ) → i ≤ v.used → P i (sent v i)
  each P f g i h = go c.posted
    where
      new : v.used ≡ w.used + 1 → New w v (sent v v.used) → (i ≡ suc w.used) ⊎ (i ≤ w.used) → P i (sent v i)
      new e n (inl q) = let k : i ≡ v.used = omega arith in rw k (g e n)
      new e n (inr q) = rw (c.old i q) (f i q)

      go : Posted w v → P i (sent v i)
      go (none e n) = let k : i ≤ w.used = omega arith in rw (c.old i k) (f i k)
      go (one e n t) = new e n (last_or i w.used (omega arith))

  -- what holds of each two messages
  pairs : (P : Message → Message → Type 0) → ((i j : ℕ) → i < j → j ≤ w.used → P (sent w i) (sent w j))
      → ((i : ℕ) → i ≤ w.used → v.used ≡ w.used + 1 → New w v (sent v v.used) → P (sent w i) (sent v v.used)) → (i j : ℕ) → i < j → j ≤ v.used → P (sent v i) (sent v j)
  pairs P f g i j l h =
      each (λ j m. (i : ℕ) → i < j → P (sent v i) m) (λ j h i l. let k : i ≤ w.used = omega arith in rw (c.old i k) (f i j l h))
      (λ e n i l. let k : i ≤ w.used = omega arith in rw (c.old i k) (g i k e n)) j h i l

  -- a server that cannot lie could not before
  pub fair_back : {m : Message} → Fair v m → Fair w m
  fair_back {m} f = record { is = f.is; good = (c.grew m.sender).fair m.view.0 f.good }

  keyed_on : {t s : ℕ} → Keyed w t s → Keyed v t s
  unfolding member
  keyed_on {t} k = record { low = k.low; high = omega (arith, k.high, raised); to = rw (c.views t k.high) k.to }

  opened_on : {n m t : ℕ} → n ≤ m → n ≤ w.used + 1 → Opened w n t → Opened v m t
  opened_on l u o =
      let e = c.old o.at (omega (arith, o.below)) in
      record { at = o.at; below = omega (arith, o.below); is = rw e o.is; tag = rw e o.tag }

  based_on : {n m t : ℕ} {e f : Entry} → n ≤ m → n ≤ w.used + 1 → e ≼ f → Based w n t e → Based v m t f
  based_on l u h (early k) = early k
  based_on l u h (rooted r) =
      let e = c.old r.at (omega (arith, r.below)) in
      rooted (record { at = r.at; below = omega (arith, r.below); is = rw e r.is; tag = rw e r.tag; under = rw e (≼_trans r.under h) })

  origin_on : {n m : ℕ} {e : Entry} → n ≤ m → n ≤ w.used + 1 → Origin w n e → Origin v m e
  origin_on l u (blank e) = blank e
  origin_on l u (from k h i e) =
      let q = c.old k (omega arith) in
      from k (omega arith) (rw q i) (rw q e)

  -- evidence stays
  pub votes_on : {t size : ℕ} {P Q : ℕ → ℕ → Type 0} → ((s k : ℕ) → k ≤ w.used → IsAnswer (sent w k) → (sent w k).sender ≡ s → (sent w k).view.0 ≡ t → P s k → Q s k) → Votes w t size P
      → Votes v t size Q
  votes_on f x =
      record {
        seen = x.seen;
        enough = x.enough;
        vote = λ s q.
            let y = x.vote s q in
            let e = c.old y.at y.below in
            record {
              at = y.at;
              below = omega (arith, y.below, grown);
              is = rw e y.is;
              who = rw e y.who;
              tag = rw e y.tag;
              fact = f s y.at y.below y.is y.who y.tag
                  y.fact;
            };
      }

module _ {w v : World} (c : Change w v) (n : Inv w) where
  -- a server's view is no later than the newest
  low_on : 1 ≤ newest v
  low_on = omega (arith, n.low, raised c)

  keyed_all : (s t : ℕ) → holds (server v s).keys.0 t ≡ true → Keyed v t s
  keyed_all s t h = go ((c.grew s).keys t h)
    where
      go : (holds (server w s).keys.0 t ≡ true) ⊎ Given w t s → Keyed v t s
      go (inl k) = keyed_on c (n.keyed s t k)
      go (inr g) =
          let o = n.started g.by g.sent_by.below g.sent_by.is in
          keyed_on c (record { low = omega (arith, o.low, o.next, g.tag); high = omega (arith, o.high, o.next, g.tag); to = g.to })

  later_on : (k : ℕ) → k ≤ v.used → IsAnswer (sent v k) → (sent v k).request.0 < k
  later_on = each c (λ k m. IsAnswer m → m.request.0 < k) n.later (λ e m i. omega (arith, (m.answer i).asked.below))

  tagged_on : (k : ℕ) → k ≤ v.used → IsAnswer (sent v k) → Keyed v (sent v k).view.0 (sent v k).sender
  tagged_on = each c (λ k m. IsAnswer m → Keyed v m.view.0 m.sender) (λ k l i. keyed_on c (n.tagged k l i)) (λ e m i. keyed_on c (n.keyed _ _ (m.answer i).held))

  -- the new answer, where its server cannot lie
  honest : New w v (sent v v.used) → Fair v (sent v v.used) → Honest w (sent v v.used) (server v (sent v v.used).sender)
  honest m f = (m.answer f.is).honest f.good

  stamped_on : (k : ℕ) → k ≤ v.used → Fair v (sent v k) → (sent v k).entry ≼ (server v (sent v k).sender).entry
  stamped_on =
      each c (λ k m. Fair v m → m.entry ≼ (server v m.sender).entry) (λ k l f. ≼_trans (n.stamped k l (fair_back c f)) (c.grew _).entry)
      (λ e m f. rw (honest m f).current (≼_refl _))

  viewed_on : (k : ℕ) → k ≤ v.used → Fair v (sent v k) → (sent v k).view.0 ≤ (server v (sent v k).sender).view.0
  viewed_on =
      each c (λ k m. Fair v m → m.view.0 ≤ (server v m.sender).view.0) (λ k l f. omega (arith, n.viewed k l (fair_back c f), (c.grew (sent w k).sender).view))
      (λ e m f. omega (arith, (honest m f).home))

  again_fair : {x y : Message} → Fair v x → Again x y → Fair v y
  again_fair f a = record { is = a.is; good = rw (a.who, a.tag) f.good }

  rising_on : (i j : ℕ) → i < j → j ≤ v.used → Fair v (sent v i) → Again (sent v i) (sent v j) → (sent v i).entry ≼ (sent v j).entry
  rising_on =
      pairs c (λ x y. Fair v x → Again x y → x.entry ≼ y.entry) (λ i j l h f a. n.rising i j l h (fair_back c f) a)
      (λ i h e m f a. rw ((honest m (again_fair f a)).current, a.who) (≼_trans (n.stamped i h (fair_back c f)) (c.grew _).entry))

  paid_on : (k : ℕ) → k ≤ v.used → Fair v (sent v k) → (sent v (sent v k).request.0).kind ≡ WRITE → (sent v (sent v k).request.0).entry ≼ (sent v k).entry
  paid_on =
      each c (λ k m. Fair v m → (sent v m.request.0).kind ≡ WRITE → (sent v m.request.0).entry ≼ m.entry)
      (λ k l f. rw (c.old (sent w k).request.0 (omega (arith, n.later k l f.is))) (n.paid k l (fair_back c f)))
      (λ e m f. rw (c.old (sent v v.used).request.0 (m.answer f.is).asked.below) (honest m f).write)

  lost_on : (k : ℕ) → k ≤ v.used → Fair v (sent v k) → (sent v (sent v k).request.0).kind ≡ END → holds (server v (sent v k).sender).keys.0 (sent v k).view.0 ≡ false
  lost_on =
      each c (λ k m. Fair v m → (sent v m.request.0).kind ≡ END → holds (server v m.sender).keys.0 m.view.0 ≡ false)
      (λ k l f. rw (c.old (sent w k).request.0 (omega (arith, n.later k l f.is))) (λ e. (c.grew _).lost _ (n.viewed k l (fair_back c f)) (n.lost k l (fair_back c f) e) f.good))
      (λ e m f. rw (c.old (sent v v.used).request.0 (m.answer f.is).asked.below) (honest m f).ended)

  closed_on : (i j : ℕ) → i < j → j ≤ v.used → Fair v (sent v i) → (sent v (sent v i).request.0).kind ≡ END → Again (sent v i) (sent v j) → ⊥
  closed_on =
      pairs c (λ x y. Fair v x → (sent v x.request.0).kind ≡ END → Again x y → ⊥)
      (λ i j l h f. rw (c.old (sent w i).request.0 (omega (arith, n.later i (omega arith) f.is))) (n.closed i j l h (fair_back c f)))
      (λ i h e m f. rw (c.old (sent w i).request.0 (omega (arith, n.later i h f.is))) (λ q a. clash (rw (a.who, a.tag) at (m.answer a.is).held) (n.lost i h (fair_back c f) q)))

  -- START of a view of v is among the messages
  opened_all : (t : ℕ) → 2 ≤ t → t ≤ newest v → Opened v (v.used + 1) t
  opened_all t l h = go c.posted
    where
      past : t ≤ newest w → Opened v (v.used + 1) t
      past k = opened_on c (omega (arith, grown c)) (le_refl _) (n.opened t l k)

      go : Posted w v → Opened v (v.used + 1) t
      go (none e q) = past (omega arith)
      go (one e m (inl q)) = past (omega arith)
      go (one e m (inr q)) = last (m.start q).tag (m.start q).raised (last_or t (newest w) (omega (arith, (m.start q).raised)))
        where
          last : (sent v v.used).view.0 ≡ newest w + 1 → newest v ≡ newest w + 1 → (t ≡ suc (newest w)) ⊎ (t ≤ newest w) → Opened v (v.used + 1) t
          last y z (inl k) = record { at = v.used; below = omega arith; is = q; tag = omega arith }
          last y z (inr k) = past k

  after_on : (k : ℕ) → k ≤ v.used → IsAnswer (sent v k) → (t : ℕ) → 2 ≤ t → t ≤ (sent v k).view.0 → Opened v k t
  after_on =
      each c (λ k m. IsAnswer m → (t : ℕ) → 2 ≤ t → t ≤ m.view.0 → Opened v k t) (λ k l i t a b. opened_on c (le_refl _) (omega arith) (n.after k l i t a b))
      (λ e m i t a b. opened_on c (omega arith) (le_refl _) (n.opened t a (omega (arith, (n.keyed _ _ (m.answer i).held).high))))

  based_mid : (s : ℕ) → Based v (w.used + 1) (server v s).view.0 (server v s).entry
  based_mid s = go (c.grew s).joined
    where
      go : Joined w (server w s) (server v s) → Based v (w.used + 1) (server v s).view.0 (server v s).entry
      go (stay e) = rw e (based_on c (le_refl _) (le_refl _) (c.grew s).entry (n.based s))
      go (join k p t u) =
          let e = c.old k p.below in
          rooted (record { at = k; below = omega (arith, p.below); is = rw e p.is; tag = rw e t; under = rw e u })

  wider : {a b t : ℕ} {e : Entry} → a ≤ b → Based v a t e → Based v b t e
  wider l (early k) = early k
  wider l (rooted r) = rooted (record { at = r.at; below = omega (arith, r.below); is = r.is; tag = r.tag; under = r.under })

  based_all : (s : ℕ) → Based v (v.used + 1) (server v s).view.0 (server v s).entry
  based_all s = wider (omega (arith, grown c)) (based_mid s)

  rooted_on : (k : ℕ) → k ≤ v.used → Fair v (sent v k) → Based v (v.used + 1) (sent v k).view.0 (sent v k).entry
  rooted_on =
      each c (λ k m. Fair v m → Based v (v.used + 1) m.view.0 m.entry) (λ k l f. based_on c (omega (arith, grown c)) (le_refl _) (≼_refl _) (n.rooted k l (fair_back c f)))
      (λ e m f. rw ((honest m f).home, (honest m f).current) (based_all _))

  -- START m of w, and of v
  start_on : (m : ℕ) → m ≤ w.used → StartOf w m → StartOf v m
  start_on m l o =
      let e : sent v m ≡ sent w m = c.old m l in
      let h : o.tag ≤ newest w = omega (arith, o.high) in
      record {
        tag = o.tag;
        low = o.low;
        next = rw e o.next;
        high = omega (arith, o.high, raised c);
        end = o.end;
        asks = o.asks;
        ends = rw (c.old o.end (omega (arith, o.asks))) o.ends;
        votes = rw (c.views o.tag h)
            (votes_on c (λ s k b i x t p.
            record { before = p.before; to = record { request = rw (c.old k b) p.to.request; covered = rw (c.old k b, e) p.to.covered } })
            o.votes);
      }

  -- the new START
  start_new : v.used ≡ w.used + 1 → Started w v (sent v v.used) → StartOf v v.used
  start_new e o =
      let a : o.end < o.chosen.at = omega (arith, o.chosen.request, n.later o.chosen.at o.chosen.below o.chosen.is) in
      let u : o.end ≤ w.used = omega (arith, o.chosen.below) in
      record {
        tag = newest w;
        low = n.low;
        next = o.tag;
        high = omega (arith, o.raised);
        end = o.end;
        asks = omega arith;
        ends = rw (c.old o.end u) o.ends;
        votes = rw (c.views (newest w) (le_refl _))
            (votes_on c (λ s k b i x t p. record { before = omega arith; to = record { request = rw (c.old k b) p.request; covered = rw (c.old k b) p.covered } }) o.votes);
      }

  started_on : (m : ℕ) → m ≤ v.used → (sent v m).kind ≡ START → StartOf v m
  started_on = each c (λ m x. x.kind ≡ START → StartOf v m) (λ m l k. start_on m l (n.started m l k)) (λ e m k. start_new e (m.start k))

  -- what a server keeps comes from a message that was there before
  kept_mid : (s : ℕ) → Origin v (w.used + 1) (server v s).entry
  kept_mid s = go (c.grew s).source
    where
      go : ((server v s).entry ≡ (server w s).entry) ⊎ Carried w (server v s).entry → Origin v (w.used + 1) (server v s).entry
      go (inl e) = rw e (origin_on c (le_refl _) (le_refl _) (n.kept s))
      go (inr (written k p e)) = let q = c.old k p.below in from k (omega (arith, p.below)) (rw q p.is) (rw q e)
      go (inr (begun k p e)) = rw (← e) (origin_on c (omega (arith, p.below)) (omega (arith, p.below)) (n.carried k p.below p.is))

  further : {a b : ℕ} {e : Entry} → a ≤ b → Origin v a e → Origin v b e
  further l (blank e) = blank e
  further l (from k h i e) = from k (omega arith) i e

  kept_on : (s : ℕ) → Origin v (v.used + 1) (server v s).entry
  kept_on s = further (omega (arith, grown c)) (kept_mid s)

  shown_on : (k : ℕ) → k ≤ v.used → IsAnswer (sent v k) → Origin v k (sent v k).entry
  shown_on = each c (λ k m. IsAnswer m → Origin v k m.entry) (λ k l i. origin_on c (le_refl _) (omega arith) (n.shown k l i)) (λ e m i. further (omega arith) (go _ (m.answer i).shows))
    where
      go : {e : Entry} (s : ℕ) → Shows w e (server v s).entry → Origin v (w.used + 1) e
      go s (nothing e) = blank e
      go s (old k p e) = let q = c.old k p.below in from k (omega (arith, p.below)) (rw q p.is) (rw q e)
      go s (its e) = rw e (kept_mid s)

  carried_on_lem : (m : ℕ) → m ≤ v.used → (sent v m).kind ≡ START → Origin v m (sent v m).entry
  carried_on_lem =
      each c (λ m x. x.kind ≡ START → Origin v m x.entry) (λ m l k. origin_on c (le_refl _) (omega arith) (n.carried m l k))
      (λ e m k. let o = (m.start k).chosen in rw (← o.entry) (origin_on c (omega (arith, o.below)) (omega (arith, o.below)) (n.shown o.at o.below o.is)))

-- the invariants are kept by every change
pub inv_on : {w v : World} → Change w v → Inv w → Inv v
inv_on c n =
    record {
      low = low_on c n;
      first = rw (c.old 0 (omega arith)) n.first;
      later = later_on c n;
      tagged = tagged_on c n;
      keyed = keyed_all c n;
      stamped = stamped_on c n;
      viewed = viewed_on c n;
      rising = rising_on c n;
      paid = paid_on c n;
      lost = lost_on c n;
      closed = closed_on c n;
      opened = opened_all c n;
      after = after_on c n;
      based = based_all c n;
      rooted = rooted_on c n;
      started = started_on c n;
      kept = kept_on c n;
      shown = shown_on c n;
      carried = carried_on_lem c n;
    }
