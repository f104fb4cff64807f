-- Every step keeps what is known of the operations of a run. Assumes nothing.
use Rattle.std.specs.Prelude.{ℕ, suc, ◌+◌, ◌≤◌, ◌<◌, Bool, true, false, not, ◌≡◌, ◌⊎◌, List, ◌++◌, map}
use Rattle.std.proofs.Common.{le_refl, arith, sym, ap, subst, ◌∙◌, inl, inr}
use Rattle.std.proofs.Math.Path.{refl}
use borrow.Author.Tests.{eq-eqb, ne_eqb}
use Rattle.protocol.specs.declared.StampCount.{StampCount}
use Rattle.protocol.specs.declared.MessageNumber.{MessageNumber}
use Rattle.protocol.specs.declared.Entry.{Entry}
use Rattle.protocol.specs.declared.Client.{Client}
use Rattle.protocol.specs.declared.Message.{Message}
use Rattle.protocol.specs.declared.Phase.{Phase}
use Rattle.protocol.specs.declared.Phase.TheVariants.{Idle, Reading, Writing}
use Rattle.protocol.specs.Entries.{empty, count_of}
use Rattle.protocol.specs.Servers.{WRITE}
use Rattle.protocol.specs.Clients.{WRITES, READS, number, is_idle}
use Rattle.protocol.specs.Worlds.{World, client}
use Rattle.protocol.specs.Consistent.{In}
use Rattle.protocol.specs.Runs.{Tracked, sent_write, tracked}
use Rattle.protocol.proofs.Laws.Tests.{by_test, clash, last_or}
use Rattle.protocol.proofs.Laws.Worlds.{sent}
use Rattle.protocol.proofs.Laws.Change.{Acted, same, began, wrote, ended, exchanged, gave_up, Writer, Posted, none, one, Change, Moved}
use Rattle.protocol.proofs.Laws.Lists.{in_map, map_in}
use Rattle.agreement.specs.Lists.{Rising}
use Rattle.agreement.proofs.Lists.{in_append, in_left, in_right, rising_append, rising_map}
use Rattle.agreement.specs.Invariants.{Inv}
use Rattle.agreement.proofs.Invariants.{grown}
use Rattle.agreement.specs.Carried.{Held}
use Rattle.agreement.specs.Operations.{Wrote, Open, reading, writing, Own, Fits, Earlier, Some, Story}
use Rattle.agreement.proofs.Operations.{given_by_grows, held_on, wrote_on, wrote_new, given_new, held_new, exchanged_on, exchanged_new, held_once}

-- ---- an operation after a step

-- o with another end, mark, WRITE and entry
abbrev turned : Tracked → ℕ → Bool → ℕ → Entry → Tracked
turned o e b j x = record { client = o.client; kind = o.kind; begin = o.begin; end = e; active = b; read = o.read; write = j; entry = x }

module _ (v : World) (i d : ℕ) (o : Tracked) where
  tracked_client : (tracked v i d o).client ≡ o.client
  unfolding tracked
  tracked_client = by_test o.active (λ e. rw e refl) (λ e. rw e refl)

  tracked_begin : (tracked v i d o).begin ≡ o.begin
  unfolding tracked
  tracked_begin = by_test o.active (λ e. rw e refl) (λ e. rw e refl)

  tracked_read : (tracked v i d o).read ≡ o.read
  unfolding tracked
  tracked_read = by_test o.active (λ e. rw e refl) (λ e. rw e refl)

  tracked_kind : (tracked v i d o).kind ≡ o.kind
  unfolding tracked
  tracked_kind = by_test o.active (λ e. rw e refl) (λ e. rw e refl)

  tracked_over : o.active ≡ false → tracked v i d o ≡ o
  unfolding tracked
  tracked_over h = rw h refl

  tracked_active : o.active ≡ true → (tracked v i d o).active ≡ not (is_idle (client v o.client).phase)
  unfolding tracked
  tracked_active h = rw h refl

  tracked_write : o.active ≡ true → (tracked v i d o).write ≡ sent_write (client v o.client).phase o.write
  unfolding tracked
  tracked_write h = rw h refl

  tracked_stays : o.active ≡ true → (d ≡ o.client → ⊥)
      → tracked v i d o ≡ turned o 0 (not (is_idle (client v o.client).phase)) (sent_write (client v o.client).phase o.write) empty
  unfolding tracked
  tracked_stays h n = rw (h, ne_eqb o.client d (λ e. n (sym e))) refl

  tracked_ends : o.active ≡ true → d ≡ o.client
      → tracked v i d o ≡ turned o i (not (is_idle (client v o.client).phase)) (sent_write (client v o.client).phase o.write) (client v d).entry
  unfolding tracked
  tracked_ends h n = rw (h, eq-eqb o.client d (sym n)) refl

-- the operation that a step began, by client c
pub record Fresh (w v : World) (place c kind : ℕ) (o : Tracked) : Type 0 where
  pub client : o.client ≡ c
  pub low : 1 ≤ c
  pub kinds : (o.kind ≡ WRITES) ⊎ (o.kind ≡ READS)
  pub same : o.kind ≡ kind
  pub begin : o.begin ≡ place
  pub end : o.end ≡ 0
  pub active : o.active ≡ true
  pub read : o.read ≡ v.used
  pub write : o.write ≡ 0

-- the operations that a step of starter began: one or none
pub record Newly (w v : World) (place starter kind : ℕ) (new : List Tracked) : Type 0 where
  pub fresh : (o : Tracked) → In o new → Fresh w v place starter kind o
  pub some : 1 ≤ starter → Some new (λ o. Unit {0})
  pub order : Rising (Earlier v) new

module _ {w v : World} {place done starter kind : ℕ} {l new : List Tracked} (n : Inv w) (m : Moved w v done starter kind) (s : Story w place l)
    (f : Newly w v place starter kind new) (pos : 1 ≤ place) where
  abbrev c : Change w v
  c = m.change

  abbrev tr : Tracked → Tracked
  tr = tracked v place done

  abbrev all : List Tracked
  all = map tr l ++ new

  -- a new operation finds its client idle, and its READ is the new message
  fresh_used : (o : Tracked) → In o new → v.used ≡ w.used + 1
  fresh_used o i = go (m.acted starter (f.fresh o i).low)
    where
      go : Acted w v done starter kind starter → v.used ≡ w.used + 1
      go (same e p q) = absurd (q refl)
      go (began e p u h k j g) = u
      go (wrote r p q u h k j y x) = u
      go (ended r p q h k j g x) = absurd (q refl)
      go (exchanged r p q y b k g x) = absurd (q refl)
      go (gave_up p q i g) = absurd (q refl)

  -- what is known of those that began later
  later_on : (o : Tracked) (bound : ℕ) → bound ≤ w.used → o.end < place → ((x : Tracked) → In x l → o.end < x.begin → bound < x.read) → (x : Tracked) → In x all → o.end < x.begin
      → bound < x.read
  later_on o bound b e h x i = go (in_append (map tr l) new i)
    where
      go : In x (map tr l) ⊎ In x new → o.end < x.begin → bound < x.read
      go (inl j) =
          let r = in_map tr l j in
          rw (← r.is) (rw (tracked_begin v place done r.of, tracked_read v place done r.of) (h r.of r.member))
      go (inr j) = λ _. omega (arith, (f.fresh x j).read, fresh_used x j)

  -- a client's largest count only grows
  given_grows : (x : ℕ) → 1 ≤ x → (client w x).given.0 ≤ (client v x).given.0
  given_grows x h = go (m.acted x h)
    where
      kept : (client v x).given ≡ (client w x).given → (client w x).given.0 ≤ (client v x).given.0
      kept g = omega (arith, ap (λ (n : StampCount). n.0) g)

      go : Acted w v done starter kind x → (client w x).given.0 ≤ (client v x).given.0
      go (same e p q) = kept (ap (λ (a : Client). a.given) e)
      go (began e p u y k j g) = kept g
      go (wrote r p q u y k j z i) = rw i.given (given_by_grows (client w x) i.entry)
      go (ended r p q y k j g i) = kept g
      go (exchanged r p q y b k g i) = kept g
      go (gave_up p q i g) = kept g

  given_on : (o : Tracked) → Fits w place l o → Own o → count_of (sent v o.write).entry ≤ (client v o.client).given.0
  given_on o a z =
      omega (arith, a.given z, given_grows o.client a.low, ap (λ (x : Message). count_of x.entry) (c.old o.write (a.wrote z.sent).below))

  fits_over : (o : Tracked) → In o l → o.active ≡ false → Fits v (place + 1) all (tr o)
  fits_over o i h =
      let a = s.fits o i in
      rw (tracked_over v place done o h)
      (record {
        low = a.low;
        kind = a.kind;
        read = omega (arith, a.read, grown c);
        began = omega (arith, a.began);
        ends = omega (arith, a.ends);
        spans = a.spans;
        wrote = λ z. wrote_on c n (a.wrote z);
        phase = λ z. clash z h;
        alike = λ z. clash z h;
        going = λ z. clash z h;
        given = given_on o a;
        done = λ z.
            let d = a.done z in
            record {
              entry = λ y. d.entry y ∙ sym (ap (λ (x : Message). x.entry) (c.old o.write (a.wrote y).below));
              once = λ y. exchanged_on c n (d.once y);
              bound = d.bound;
              below = omega (arith, d.below, grown c);
              held = held_on c n d.held;
              later = later_on o d.bound d.below a.ends d.later;
            };
      })

  -- ---- an active operation

  open_active : {who r j : ℕ} → Open w who r j → not (is_idle (client w who).phase) ≡ true
  open_active (reading p z) = ap (λ (x : Phase). not (is_idle x)) p
  open_active (writing p z x) = ap (λ (x : Phase). not (is_idle x)) p

  sent_same : (o : Tracked) → Open w o.client o.read o.write → client v o.client ≡ client w o.client → sent_write (client v o.client).phase o.write ≡ o.write
  sent_same o (reading p z) e = ap (λ (x : Client). sent_write x.phase o.write) e ∙ ap (λ (x : Phase). sent_write x o.write) p
  sent_same o (writing p z x) e = ap (λ (x : Client). sent_write x.phase o.write) e ∙ ap (λ (x : Phase). sent_write x o.write) p

  open_same : {who r j : ℕ} → (1 ≤ j → j ≤ w.used) → Open w who r j → client v who ≡ client w who → Open v who r j
  open_same b (reading p z) e = reading (ap (λ (x : Client). x.phase) e ∙ p) z
  open_same {who} {r} {j} b (writing p z x) e =
      writing (ap (λ (x : Client). x.phase) e ∙ p) z (ap (λ (x : Client). x.entry) e ∙ x ∙ sym (ap (λ (x : Message). x.entry) (c.old j (b z))))

  fits_same : (o : Tracked) → In o l → o.active ≡ true → (done ≡ o.client → ⊥) → client v o.client ≡ client w o.client → Fits v (place + 1) all (tr o)
  fits_same o i h d e =
      let a = s.fits o i in
      let b : not (is_idle (client v o.client).phase) ≡ true = ap (λ (x : Client). not (is_idle x.phase)) e ∙ open_active (a.phase h) in
      rw (tracked_stays v place done o h d, sent_same o (a.phase h) e, b)
      (record {
        low = a.low;
        kind = a.kind;
        read = omega (arith, a.read, grown c);
        began = omega (arith, a.began);
        ends = omega arith;
        spans = λ z. absurd (omega arith);
        wrote = λ z. wrote_on c n (a.wrote z);
        phase = λ z. open_same (λ y. (a.wrote y).below) (a.phase h) e;
        alike = λ z. ap (λ (x : Client). x.kind) e ∙ a.alike h;
        going = λ _. refl;
        given = λ z. given_on o a (record { write = z.write; sent = z.sent });
        done = λ z. absurd (omega arith);
      })

  number_is : {a b : ℕ} → number a ≡ number b → a ≡ b
  number_is e = ap (λ (x : MessageNumber). x.0) e

  was_reading : {who r j q : ℕ} → Open w who r j → (client w who).phase ≡ Reading (number q) → (r ≡ q) × (j ≡ 0)
  was_reading (reading p z) e = (number_is (cc), z)
  was_reading (writing p z x) e = let y : ◌≡◌ {A = ℕ} 0 1 = cc in absurd (omega arith)

  was_writing : {who r j q : ℕ} → Open w who r j → (client w who).phase ≡ Writing (number q) → (j ≡ q) × (1 ≤ j) × ((client w who).entry ≡ (sent w j).entry)
  was_writing (reading p z) e = let y : ◌≡◌ {A = ℕ} 0 1 = cc in absurd (omega arith)
  was_writing (writing p z x) e = (number_is (cc), z, x)

  never_idle : {who r j : ℕ} {A : Type 0} → Open w who r j → (client w who).phase ≡ Idle → A
  never_idle (reading p z) e = let y : ◌≡◌ {A = ℕ} 0 1 = cc in absurd (omega arith)
  never_idle (writing p z x) e = let y : ◌≡◌ {A = ℕ} 0 1 = cc in absurd (omega arith)

  none_later : (x : Tracked) → In x all → place < x.begin → ⊥
  none_later x i z = at (in_append (map tr l) new i)
    where
      at : In x (map tr l) ⊎ In x new → ⊥
      at (inl j) = let r = in_map tr l j in omega (arith, (s.fits r.of r.member).began, tracked_begin v place done r.of, ap (λ (t : Tracked). t.begin) r.is)
      at (inr j) = omega (arith, (f.fresh x j).begin)

  fits_on : (o : Tracked) → In o l → Fits v (place + 1) all (tr o)
  fits_on o i = by_test o.active (λ h. go h (m.acted o.client a.low)) (fits_over o i)
    where
      a : Fits w place l o
      a = s.fits o i

      go : o.active ≡ true → Acted w v done starter kind o.client → Fits v (place + 1) all (tr o)
      go h (same e p q) = fits_same o i h p e
      go h (began e p u y k j g) = never_idle (a.phase h) y
      go h (wrote r p q u y k j z x) =
          let b : o.read ≡ r = (was_reading (a.phase h) y).0 in
          rw (tracked_stays v place done o h p, ap (λ (x : Phase). sent_write x o.write) k, ap (λ (x : Phase). not (is_idle x)) k)
          (record {
            low = a.low;
            kind = a.kind;
            read = omega (arith, a.read, grown c);
            began = omega (arith, a.began);
            ends = omega arith;
            spans = λ z. absurd (omega arith);
            wrote = λ _. subst (λ (t : ℕ). Wrote v o.client o.kind t v.used) (sym b) (wrote_new c n u x (omega (arith, a.read)) o.kind (a.alike h));
            phase = λ _. writing k (omega arith) z;
            alike = λ _. j ∙ a.alike h;
            going = λ _. refl;
            given = λ z. (given_new c n x (a.alike h ∙ z.write)).1;
            done = λ t. absurd (omega arith);
          })
      go h (ended r p q y k j g0 x) =
          let (b, t, e) = was_writing (a.phase h) y in
          let g = a.wrote t in
          let old = ap (λ (x : Message). x.entry) (c.old o.write g.below) in
          let is : (client v done).entry ≡ (sent w o.write).entry = ap (λ (d : ℕ). (client v d).entry) p ∙ j ∙ e in
          rw (tracked_ends v place done o h p, ap (λ (x : Phase). sent_write x o.write) k, ap (λ (x : Phase). not (is_idle x)) k)
          (record {
            low = a.low;
            kind = a.kind;
            read = omega (arith, a.read, grown c);
            began = omega (arith, a.began);
            ends = omega arith;
            spans = λ _. a.began;
            wrote = λ _. wrote_on c n g;
            phase = λ z. clash z refl;
            alike = λ z. clash z refl;
            going = λ z. clash z refl;
            given = λ z. given_on o a (record { write = z.write; sent = z.sent });
            done = λ _. record {
              entry = λ _. is ∙ sym old;
              once = λ z. absurd (omega (arith, t));
              bound = v.used;
              below = le_refl _;
              held =
                  subst (λ (x : Entry). Held v x v.used) (ap (λ (q : ℕ). (sent w q).entry) (sym b) ∙ sym is)
                  (held_new c n x (omega (arith, g.below)) (ap (λ (q : ℕ). (sent w q).kind) (sym b) ∙ g.is));
              later = λ x i z. absurd (none_later x i z);
            };
          })
      go h (exchanged r p q y b k g x) =
          let (t, z) = was_reading (a.phase h) y in
          let is : (client v done).entry ≡ (client v o.client).entry = ap (λ (d : ℕ). (client v d).entry) p in
          rw (tracked_ends v place done o h p, ap (λ (x : Phase). sent_write x o.write) k, ap (λ (x : Phase). not (is_idle x)) k)
          (record {
            low = a.low;
            kind = a.kind;
            read = omega (arith, a.read, grown c);
            began = omega (arith, a.began);
            ends = omega arith;
            spans = λ _. a.began;
            wrote = λ z. wrote_on c n (a.wrote z);
            phase = λ z. clash z refl;
            alike = λ z. clash z refl;
            going = λ z. clash z refl;
            given = λ z. given_on o a (record { write = z.write; sent = z.sent });
            done = λ _. record {
              entry = λ j. absurd (omega (arith, j, z));
              once = λ _. exchanged_new c n x _ (sym (a.alike h) ∙ b) t is;
              bound = v.used;
              below = le_refl _;
              held = subst (λ (e : Entry). Held v e v.used) (sym is) (held_once c n x);
              later = λ x i z. absurd (none_later x i z);
            };
          })
      go h (gave_up p q k g) =
          rw (tracked_stays v place done o h p, ap (λ (x : Phase). sent_write x o.write) k, ap (λ (x : Phase). not (is_idle x)) k)
          (record {
            low = a.low;
            kind = a.kind;
            read = omega (arith, a.read, grown c);
            began = omega (arith, a.began);
            ends = omega arith;
            spans = λ z. absurd (omega arith);
            wrote = λ z. wrote_on c n (a.wrote z);
            phase = λ z. clash z refl;
            alike = λ z. clash z refl;
            going = λ z. clash z refl;
            given = λ z. given_on o a (record { write = z.write; sent = z.sent });
            done = λ z. absurd (omega arith);
          })

  -- ---- a new operation

  -- its client was idle, and reads now
  started : 1 ≤ starter → ((client w starter).phase ≡ Idle) × ((client v starter).phase ≡ Reading (number v.used)) × ((client v starter).kind ≡ kind)
  started h = go (m.acted starter h)
    where
      go : Acted w v done starter kind starter → ((client w starter).phase ≡ Idle) × ((client v starter).phase ≡ Reading (number v.used)) × ((client v starter).kind ≡ kind)
      go (same e p q) = absurd (q refl)
      go (began e p u y k j g) = (y, k, j)
      go (wrote r p q u y k j z x) = absurd (q refl)
      go (ended r p q y k j g x) = absurd (q refl)
      go (exchanged r p q y b k g x) = absurd (q refl)
      go (gave_up p q i g) = absurd (q refl)

  fits_new : (o : Tracked) → In o new → Fits v (place + 1) all o
  fits_new o i =
      let a = f.fresh o i in
      let (y, k, j) = started a.low in
      record {
        low = omega (arith, a.low, a.client);
        kind = a.kinds;
        read = omega (arith, a.read);
        began = omega (arith, a.begin);
        ends = omega (arith, a.end);
        spans = λ z. absurd (omega (arith, a.end));
        wrote = λ z. absurd (omega (arith, a.write));
        phase = λ _. reading (ap (λ (x : ℕ). (client v x).phase) a.client ∙ k ∙ ap (λ (x : ℕ). Reading (number x)) (sym a.read)) a.write;
        alike = λ _. ap (λ (x : ℕ). (client v x).kind) a.client ∙ j ∙ sym a.same;
        going = λ _. a.end;
        given = λ z. absurd (omega (arith, a.write, z.sent));
        done = λ z. absurd (omega (arith, a.end));
      }

  fits_all : (o : Tracked) → In o all → Fits v (place + 1) all o
  fits_all o i = go (in_append (map tr l) new i)
    where
      go : In o (map tr l) ⊎ In o new → Fits v (place + 1) all o
      go (inl j) = let r = in_map tr l j in subst (Fits v (place + 1) all) r.is (fits_on r.of r.member)
      go (inr j) = fits_new o j

  -- ---- the order of beginning

  -- the WRITE of an operation stays, or is new with a count above all that its client gave
  data Later (o : Tracked) : Type 0 where
    kept : (tr o).write ≡ o.write → Later o
    raised : (client w o.client).given.0 < count_of (sent v (tr o).write).entry → Later o

  later_write : (o : Tracked) → In o l → o.kind ≡ WRITES → Later o
  later_write o i k = by_test o.active (λ h. go h (m.acted o.client a.low)) (λ h. kept (ap (λ (t : Tracked). t.write) (tracked_over v place done o h)))
    where
      a : Fits w place l o
      a = s.fits o i

      go : o.active ≡ true → Acted w v done starter kind o.client → Later o
      go h (same e p q) = kept (tracked_write v place done o h ∙ sent_same o (a.phase h) e)
      go h (began e p u y b j g) = never_idle (a.phase h) y
      go h (wrote r p q u y b j z x) =
          let e : (tr o).write ≡ v.used = tracked_write v place done o h ∙ ap (λ (x : Phase). sent_write x o.write) b in
          raised (rw e (given_new c n x (a.alike h ∙ k)).0)
      go h (ended r p q y b j g x) = kept (tracked_write v place done o h ∙ ap (λ (x : Phase). sent_write x o.write) b)
      go h (exchanged r p q y z b g x) = kept (tracked_write v place done o h ∙ ap (λ (x : Phase). sent_write x o.write) b)
      go h (gave_up p q b g) = kept (tracked_write v place done o h ∙ ap (λ (x : Phase). sent_write x o.write) b)

  order_old : (a b : Tracked) → In a l → In b l → Earlier w a b → Earlier v (tr a) (tr b)
  order_old a b i j e =
      record {
        read = rw (tracked_read v place done a, tracked_read v place done b) e.read;
        begin = rw (tracked_begin v place done a, tracked_begin v place done b) e.begin;
        over = λ q. let h = e.over (one_client q) in rw (tracked_over v place done a h) h;
        counts = λ q x y. grows (one_client q) (e.over (one_client q)) x y;
      }
    where
      one_client : (tr a).client ≡ (tr b).client → a.client ≡ b.client
      one_client q = sym (tracked_client v place done a) ∙ q ∙ tracked_client v place done b

      old_count : (o : Tracked) → In o l → Own o → count_of (sent v o.write).entry ≡ count_of (sent w o.write).entry
      old_count o i z = ap (λ (x : Message). count_of x.entry) (c.old o.write ((s.fits o i).wrote z.sent).below)

      grows : a.client ≡ b.client → a.active ≡ false → Own (tr a) → Own (tr b) → count_of (sent v (tr a).write).entry < count_of (sent v (tr b).write).entry
      grows q h x y = rw (tracked_over v place done a h) (go (rw (tracked_over v place done a h) at x) (later_write b j kind_b))
        where
          kind_b : b.kind ≡ WRITES
          kind_b = sym (tracked_kind v place done b) ∙ y.write

          go : Own a → Later b → count_of (sent v a.write).entry < count_of (sent v (tr b).write).entry
          go x (kept z) =
              let own : Own b = record { write = kind_b; sent = omega (arith, y.sent, z) } in
              rw z (omega (arith, e.counts q x own, old_count a i x, old_count b j own))
          go x (raised z) = omega (arith, (s.fits a i).given x, z, old_count a i x, ap (λ (o : ℕ). (client w o).given.0) q)

  order_new : (x y : Tracked) → In x (map tr l) → In y new → Earlier v x y
  order_new x y i j = let r = in_map tr l i in subst (λ (z : Tracked). Earlier v z y) r.is (go r.of (s.fits r.of r.member))
    where
      b : Fresh w v place starter kind y
      b = f.fresh y j

      go : (a : Tracked) → Fits w place l a → Earlier v (tr a) y
      go a g =
          record {
            read = rw (tracked_read v place done a) (omega (arith, g.read, b.read, fresh_used y j));
            begin = rw (tracked_begin v place done a) (omega (arith, g.began, b.begin));
            over = λ q. by_test a.active
                (λ h. never_idle (g.phase h) (ap (λ (x : ℕ). (client w x).phase) (sym (tracked_client v place done a) ∙ q ∙ b.client) ∙ (started b.low).0))
                (λ h. rw (tracked_over v place done a h) h);
            counts = λ q x z. absurd (omega (arith, b.write, z.sent));
          }

  order_all : Rising (Earlier v) all
  order_all = rising_append (map tr l) new (rising_map tr l order_old s.order) f.order order_new

  -- ---- who is open, and who wrote

  found : {P Q : Tracked → Type 0} → ((o : Tracked) → In o l → P o → Q (tr o)) → Some l P → Some all Q
  found g x = record { of = tr x.of; member = in_left (map tr l) new (map_in tr l x.member); has = g x.of x.member x.has }

  stays_open : (x : ℕ) → is_idle (client v x).phase ≡ false → (o : Tracked) → In o l → (o.client ≡ x) × (o.active ≡ true) → ((tr o).client ≡ x) × ((tr o).active ≡ true)
  stays_open x k o i (e, h) =
      (tracked_client v place done o ∙ e, tracked_active v place done o h ∙ ap (λ (y : ℕ). not (is_idle (client v y).phase)) e ∙ ap not k)

  opener_on : (x : ℕ) → 1 ≤ x → is_idle (client v x).phase ≡ false → Some all (λ o. (o.client ≡ x) × (o.active ≡ true))
  opener_on x h k = go (m.acted x h)
    where
      go : Acted w v done starter kind x → Some all (λ o. (o.client ≡ x) × (o.active ≡ true))
      go (same e p q) = found (stays_open x k) (s.opener x h (sym (ap (λ (c : Client). is_idle c.phase) e) ∙ k))
      go (began e p u y b j g) =
          let a = f.some (omega arith) in
          let z = f.fresh a.of a.member in
          record { of = a.of; member = in_right (map tr l) new a.member; has = (z.client ∙ e, z.active) }
      go (wrote r p q u y b j z i) = found (stays_open x k) (s.opener x h (ap is_idle y))
      go (ended r p q y b j g i) = clash (ap is_idle b) k
      go (exchanged r p q y z b g i) = clash (ap is_idle b) k
      go (gave_up p q b g) = clash (ap is_idle b) k

  writes_on : (j : ℕ) → 1 ≤ j → (o : Tracked) → In o l → o.write ≡ j → (tr o).write ≡ j
  writes_on j h o i e = by_test o.active (λ z. go z (m.acted o.client a.low)) (λ z. ap (λ (t : Tracked). t.write) (tracked_over v place done o z) ∙ e)
    where
      a : Fits w place l o
      a = s.fits o i

      still : o.active ≡ true → sent_write (client v o.client).phase o.write ≡ o.write → (tr o).write ≡ j
      still z p = tracked_write v place done o z ∙ p ∙ e

      go : o.active ≡ true → Acted w v done starter kind o.client → (tr o).write ≡ j
      go z (same q p t) = still z (sent_same o (a.phase z) q)
      go z (began q p u y k b g) = never_idle (a.phase z) y
      go z (wrote r p q u y k b t x) = absurd (reads (a.phase z))
        where
          reads : Open w o.client o.read o.write → ⊥
          reads (reading p z) = omega arith
          reads (writing p z x) = let n : ◌≡◌ {A = ℕ} 0 1 = cc in omega arith
      go z (ended r p q y k b g x) = still z (ap (λ (x : Phase). sent_write x o.write) k)
      go z (exchanged r p q y b k g x) = still z (ap (λ (x : Phase). sent_write x o.write) k)
      go z (gave_up p q k g) = still z (ap (λ (x : Phase). sent_write x o.write) k)

  writer_on : (j : ℕ) → 1 ≤ j → j ≤ v.used → (sent v j).kind ≡ WRITE → Some all (λ o. o.write ≡ j)
  writer_on j h k e = go c.posted
    where
      past : j ≤ w.used → Some all (λ o. o.write ≡ j)
      past u = found (writes_on j h) (s.writer j h u (sym (ap (λ (x : Message). x.kind) (c.old j u)) ∙ e))

      new_write : j ≡ v.used → Writer w v (sent v v.used) → Some all (λ o. o.write ≡ j)
      new_write q x =
          found (λ o i (y, z). tracked_write v place done o z ∙ ap (λ (p : ℕ). sent_write (client v p).phase o.write) y ∙ ap (λ (p : Phase). sent_write p o.write) x.writing ∙ sym q)
          (s.opener (sent v v.used).sender x.low (ap is_idle x.reading))

      go : Posted w v → Some all (λ o. o.write ≡ j)
      go (none q t) = past (omega arith)
      go (one q x t) = at (last_or j w.used (omega arith))
        where
          at : (j ≡ suc w.used) ⊎ (j ≤ w.used) → Some all (λ o. o.write ≡ j)
          at (inl b) = let g : j ≡ v.used = omega arith in new_write g (x.write (ap (λ (i : ℕ). (sent v i).kind) (sym g) ∙ e))
          at (inr b) = past b

  pub story_on : Story v (place + 1) all
  story_on = record { fits = fits_all; order = order_all; opener = opener_on; writer = writer_on }
