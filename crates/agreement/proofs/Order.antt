-- The order of a run's operations: those that stand (specs/Order.antt), sorted. Assumes nothing.
use Rattle.std.specs.Prelude.{ℕ, zero, suc, ◌+◌, ◌≤◌, ◌<◌, Bool, ◌&&◌, ◌≡◌, ◌⊎◌, ◌↔◌, ◌≢◌, List, [], ◌∷◌, map, eqb, None, Some}
use Rattle.std.proofs.Math.Decide.{ℕ_discrete}
use Rattle.std.proofs.Common.{arith, subst, ◌∙◌}
use Rattle.std.proofs.Math.Bool.{true, false, not}
use Rattle.std.proofs.Math.Path.{refl, sym, ap}
use Rattle.std.proofs.Math.Logic.{inl, inr}
use Rattle.std.proofs.Math.Dec.{ltb}
use Rattle.std.specs.Cmp.{first_so, second_so}
use Rattle.std.proofs.lemmas.Bool.{and_from, or_cases, or_left, or_right}
use Rattle.std.proofs.lemmas.Option.{same_Some}
use borrow.Author.Tests.{ltb-true, eqb-true, eq-eqb, ne_eqb, lt-ltb, le-ltb}
use Rattle.protocol.specs.declared.Entry.{Entry}
use Rattle.protocol.specs.Tools.{if, any}
use Rattle.protocol.specs.Entries.{empty, same}
use Rattle.protocol.specs.Clients.{WRITES, READS}
use Rattle.protocol.specs.Worlds.{World, message}
use Rattle.protocol.specs.Consistent.{Operation, In, here, there, Before, now, later, Once, none as nobody, one, Stands, completed, surfaced, Ended, Between, Ordered}
use Rattle.protocol.specs.Runs.{Tracked, unfinished, operation_entry, operation}
use Rattle.protocol.proofs.Laws.Tests.{clash}
use Rattle.protocol.proofs.Laws.Entries.{◌≼◌, ≼_count, same_is, is_same}
use Rattle.protocol.proofs.Laws.Worlds.{sent}
use Rattle.protocol.proofs.Laws.Lists.{in_map, map_in, equal_reads, entry_at_lem}
use Rattle.agreement.specs.Lists.{Rising, next}
use Rattle.agreement.proofs.Lists.{Related, before, after, equal, related}
use Rattle.agreement.proofs.Sorting.{filter, in_filter, filter_in, filter_rising, sort, in_sort, sort_in, sort_sorted}
use Rattle.agreement.specs.Invariants.{Origin, blank, from}
use Rattle.agreement.specs.Carried.{Trusted, Read}
use Rattle.agreement.proofs.Carried.{sees}
use Rattle.agreement.specs.Operations.{Wrote, Own, Fits, Chose, Earlier, Some as SomeOf, Story, shows as entry_at}
use Rattle.agreement.proofs.Operations.{shows_done, shows_sent, chose}
use Rattle.agreement.specs.Precedence.{◌≺◌, count, Key, Precedes, by_stamp, by_kind, by_read}
use Rattle.agreement.proofs.Precedence.{≺_not, precedes_trans, precedes_self, compared, precedes_≼, precedes_≺}
use Rattle.agreement.proofs.Stamps.{unique, entry_done, entry_open, write_sent}
use Rattle.agreement.proofs.Legal.{Stand, Source, held, Asks, legal}
use Rattle.agreement.specs.Order.{returned, stands}

-- an element of a list that passes a test
record Passes (p : Tracked → Bool) (l : List Tracked) : Type 0 where
  of : Tracked
  member : In of l
  has : p of ≡ true

any_passes : (p : Tracked → Bool) (l : List Tracked) → any p l ≡ true → Passes p l
unfolding any
any_passes p [] e = clash e refl
any_passes p (x ∷ l) e = go (or_cases (p x) (any p l) e) (any_passes p l)
  where
    go : (p x ≡ true) ⊎ (any p l ≡ true) → (any p l ≡ true → Passes p l) → Passes p (x ∷ l)
    go (inl h) f = record { of = x; member = here refl; has = h }
    go (inr h) f = let r = f h in record { of = r.of; member = there r.member; has = r.has }

passes_any : (p : Tracked → Bool) {x : Tracked} {l : List Tracked} → In x l → p x ≡ true → any p l ≡ true
unfolding any
passes_any p (here {y} e) h = or_left (p y) _ (ap p e ∙ h)
passes_any p (there {y} i) h = or_right (p y) _ (passes_any p i h)

-- two elements of a list: one comes first, or they are one
data Placed (x y : Operation) (l : List Operation) : Type 0 where
  first : Before x y l → Placed x y l
  second : Before y x l → Placed x y l
  alike : x ≡ y → Placed x y l

placed : {x y : Operation} {l : List Operation} → In x l → In y l → Placed x y l
placed (here e) (here f) = alike (sym e ∙ f)
placed (here e) (there j) = first (now e j)
placed (there i) (here f) = second (now f i)
placed (there i) (there j) = go (placed i j)
  where
    go : {x y z : Operation} {l : List Operation} → Placed x y l → Placed x y (z ∷ l)
    go (first b) = first (later b)
    go (second b) = second (later b)
    go (alike e) = alike e

-- the elements behind two operations of an image, in their order
record Pair {A : Type 0} (f : A → Operation) (R : A → A → Type 0) (l : List A) (x y : Operation) : Type 0 where
  one : A
  two : A
  one_in : In one l
  two_in : In two l
  is_one : f one ≡ x
  is_two : f two ≡ y
  rel : R one two

pair : {A : Type 0} (f : A → Operation) {R : A → A → Type 0} (l : List A) {x y : Operation} → Rising R l → Before x y (map f l) → Pair f R l x y
pair f [] s b = elim b [ ]
pair f (a ∷ l) (next h s) (now e i) =
    let r = in_map f l i in
    record { one = a; two = r.of; one_in = here refl; two_in = there r.member; is_one = e; is_two = r.is; rel = h r.of r.member }
pair f (a ∷ l) (next h s) (later b) =
    let r = pair f l s b in
    record { one = r.one; two = r.two; one_in = there r.one_in; two_in = there r.two_in; is_one = r.is_one; is_two = r.is_two; rel = r.rel }

once_map : {A : Type 0} (f : A → Operation) {R : A → A → Type 0} (l : List A) → ((x y : A) → In x l → In y l → R x y → f x ≡ f y → ⊥) → Rising R l → Once (map f l)
once_map f [] n s = nobody
once_map f (x ∷ l) n (next h s) =
    one (λ i. let r = in_map f l i in n x r.of (here refl) (there r.member) (h r.of r.member) (sym r.is)) (once_map f l (λ a b i j. n a b (there i) (there j)) s)

-- ---- the operations l of a run that ends in w

module _ {w : World} {place : ℕ} {l : List Tracked} (t : Trusted w) (s : Story w place l) where
  abbrev shows : Tracked → Entry
  shows o = entry_at w o

  abbrev key : Tracked → Key
  key o = record { entry = shows o; kind = o.kind; read = o.read }

  unfoldable pub order : List Tracked
  order = sort (λ x y. Precedes (key x) (key y)) (λ x y. x.read ≢ y.read) (λ x y. compared (key x) (key y)) (filter (stands t s) l)

  finished : (o : Tracked) → not (unfinished o) ≡ true → 1 ≤ o.end
  finished o e = go (ℕ_discrete o.end 0)
    where
      go : Dec (o.end ≡ 0) → 1 ≤ o.end
      go (yes h) = clash e (ap not (eq-eqb o.end 0 h))
      go (no h) = omega arith

  is_finished : (o : Tracked) → 1 ≤ o.end → not (unfinished o) ≡ true
  is_finished o h = ap not (ne_eqb o.end 0 (λ e. omega arith))

  -- what stands in the order
  record Stood (o : Tracked) : Type 0 where
    member : In o l
    test : stands t s o ≡ true
    made : (1 ≤ o.write) ⊎ (1 ≤ o.end)

  stood : {o : Tracked} → In o order → Stood o
  unfolding order stands
  stood {o} i =
      let (m, e) = in_filter (stands t s) l (in_sort _ _ _ (filter (stands t s) l) i) in
      record { member = m; test = e; made = go (or_cases _ _ e) }
    where
      go : (not (unfinished o) ≡ true) ⊎ ((eqb o.kind WRITES && (ltb 0 o.write && returned t s o)) ≡ true) → (1 ≤ o.write) ⊎ (1 ≤ o.end)
      go (inl e) = inr (finished o e)
      go (inr e) = inl (ltb-true _ _ (first_so _ _ (second_so (eqb o.kind WRITES) _ e)))

  stand_in : {o : Tracked} → In o l → stands t s o ≡ true → In o order
  unfolding order
  stand_in i e = sort_in _ _ _ (filter (stands t s) l) (filter_in (stands t s) l i e)

  sorted : Rising (λ x y. Precedes (key x) (key y)) order
  unfolding order
  sorted = sort_sorted _ _ _ (λ x y z. precedes_trans) (filter (stands t s) l) (filter_rising (stands t s) l (apart s.order))
    where
      differ : {x y : Tracked} → Earlier w x y → x.read ≢ y.read
      differ h e = omega (arith, h.read)

      apart : {k : List Tracked} → Rising (Earlier w) k → Rising (λ x y. x.read ≢ y.read) k
      apart Rising.empty = Rising.empty
      apart (next h r) = next (λ y i. differ (h y i)) (apart r)

  -- ---- what the lemmas on quorums give

  seen_from : {e : Entry} {a b : ℕ} → a ≤ b → Read w e b → Read w e a
  seen_from h x =
      record {
        tag = x.tag;
        low = x.low;
        high = x.high;
        votes = record {
          seen = x.votes.seen;
          enough = x.votes.enough;
          vote = λ p q.
              let v = x.votes.vote p q in
              record { at = v.at; below = v.below; is = v.is; who = v.who; tag = v.tag; fact = record { after = omega (arith, v.fact.after); covered = v.fact.covered } };
        };
      }

  -- an operation that ended before another began: its entry is not above what the other chose
  sees_later : (a b : Tracked) → In a l → In b l → 1 ≤ a.end → a.end < b.begin → (g : Chose w b) → shows a ≼ g.chosen
  sees_later a b i j e h g =
      let d = (s.fits a i).done e in
      rw (shows_done w a e) (sees t d.held (seen_from (omega (arith, d.later b j h)) g.seen))

  -- W12: an entry is empty or that of a write operation
  data Written (e : Entry) : Type 0 where
    never : e ≡ empty → Written e
    by : (o : Tracked) → In o l → o.kind ≡ WRITES → 1 ≤ o.write → shows o ≡ e → Written e

  written : (n : ℕ) {e : Entry} → n ≤ w.used + 1 → Origin w n e → Written e
  written zero u (blank e) = never e
  written zero u (from k h i e) = absurd (omega arith)
  written (suc n) u (blank e) = never e
  written (suc n) {e = x} u (from k h i e) = at (ℕ_discrete k 0) (λ y o. written n (omega arith) o)
    where
      further : {e : Entry} {a b : ℕ} → a ≤ b → Origin w a e → Origin w b e
      further l (blank e) = blank e
      further l (from k h i e) = from k (omega arith) i e

      go : ((y : Entry) → Origin w n y → Written y) → SomeOf l (λ o. o.write ≡ k) → 1 ≤ k → Written x
      go ih b p = kinds (s.fits b.of b.member).kind
        where
          pos : 1 ≤ b.of.write
          pos = omega (arith, b.has)

          g : Wrote w b.of.client b.of.kind b.of.read b.of.write
          g = (s.fits b.of b.member).wrote pos

          is : (sent w b.of.write).entry ≡ x
          is = ap (λ (j : ℕ). (sent w j).entry) b.has ∙ e

          kinds : (b.of.kind ≡ WRITES) ⊎ (b.of.kind ≡ READS) → Written x
          kinds (inl q) = by b.of b.member q pos (shows_sent (s.fits b.of b.member) pos ∙ is)
          kinds (inr q) = subst Written (sym (g.back q) ∙ is) (ih g.chosen (further (omega (arith, b.has)) g.origin))

      at : Dec (k ≡ 0) → ((y : Entry) → Origin w n y → Written y) → Written x
      at (yes z) ih = absurd (omega (arith, t.inv.first, ap (λ (j : ℕ). (sent w j).kind) z, i))
      at (no z) ih = let p : 1 ≤ k = omega arith in go ih (s.writer k p (omega arith) i) p

  -- ---- the operations that stand, in their order

  chose_of : {o : Tracked} → In o order → Chose w o
  chose_of {o} i = let d = stood i in chose (s.fits o d.member) d.made

  own_of : {o : Tracked} → In o order → o.kind ≡ WRITES → Own o
  own_of {o} i k = let d = stood i in go d d.made
    where
      go : Stood o → (1 ≤ o.write) ⊎ (1 ≤ o.end) → Own o
      go d (inl h) = record { write = k; sent = h }
      go d (inr h) = write_sent s o d.member k h

  entry_of_lem : {o : Tracked} → In o order → operation_entry w o ≡ Some (shows o)
  unfolding stands
  entry_of_lem {o} i = let d = stood i in go d (or_cases _ _ d.test) (ℕ_discrete o.end 0)
    where
      go : Stood o → (not (unfinished o) ≡ true) ⊎ ((eqb o.kind WRITES && (ltb 0 o.write && returned t s o)) ≡ true) → Dec (o.end ≡ 0) → operation_entry w o ≡ Some (shows o)
      go d (inl e) z = entry_done s o (finished o e)
      go d (inr e) (yes z) = entry_open s o z (eqb-true _ _ (first_so _ _ e)) (ltb-true _ _ (first_so _ _ (second_so (eqb o.kind WRITES) _ e)))
      go d (inr e) (no z) = entry_done s o (omega arith)

  abbrev op : Tracked → Operation
  op = operation w

  stand_of : (o : Tracked) → In o order → Stand key op o
  unfolding operation
  stand_of o i = record { kind = refl; entry = entry_of_lem i; kinds = (s.fits o (stood i).member).kind }

  -- a read of the order has ended
  read_done : (o : Tracked) → In o order → o.kind ≡ READS → 1 ≤ o.end
  unfolding stands
  read_done o i k = go (or_cases _ _ (stood i).test)
    where
      go : (not (unfinished o) ≡ true) ⊎ ((eqb o.kind WRITES && (ltb 0 o.write && returned t s o)) ≡ true) → 1 ≤ o.end
      go (inl e) = finished o e
      go (inr e) = absurd (omega (arith, eqb-true o.kind WRITES (first_so _ _ e)))

  -- a write whose entry a completed read returned stands
  write_stands : (o x : Tracked) → In o l → In x l → o.kind ≡ WRITES → 1 ≤ o.write → 1 ≤ x.end → x.kind ≡ READS → shows x ≡ shows o → stands t s o ≡ true
  unfolding stands
  write_stands o x i j k g h q e =
      or_right (not (unfinished o)) _
      (and_from _ _ (eq-eqb _ _ k) (and_from _ _ (lt-ltb _ _ g)
      (passes_any (λ x. not (unfinished x) && (eqb x.kind READS && same (shows x) (shows o))) j (and_from _ _ (is_finished x h) (and_from _ _ (eq-eqb _ _ q) (is_same _ _ e))))))

  asks : Asks key op empty order
  asks =
      record {
        stand = stand_of;
        above = λ x i k. count (omega (arith, (chose_of i).above k));
        unique = λ x y i j p q v.
            let a = own_of i p in
            let b = own_of j q in
            unique s x y (stood i).member (stood j).member a b (rw (shows_sent (s.fits x (stood i).member) a.sent, shows_sent (s.fits y (stood j).member) b.sent) at v);
        source = λ x i k. go x i k (written _ (omega (arith, (chose_of i).below)) (chose_of i).origin);
      }
    where
      go : (x : Tracked) (i : In x order) → x.kind ≡ READS → Written (chose_of i).chosen → Source key op empty order x
      go x i k (never e) = held ((chose_of i).back k ∙ e)
      go x i k (by o j q g e) =
          let f = (chose_of i).back k ∙ sym e in
          Source.from o (stand_in j (write_stands o x j (stood i).member q g (read_done x i k) k f)) q (sym f)

  -- ---- the claim

  abbrev h : List Operation
  h = map op l

  op_end : (o : Tracked) → (op o).end ≡ o.end
  unfolding operation
  op_end o = refl

  op_begin : (o : Tracked) → (op o).begin ≡ o.begin
  unfolding operation
  op_begin o = refl

  op_kind : (o : Tracked) → (op o).kind ≡ o.kind
  unfolding operation
  op_kind o = refl

  op_entry : (o : Tracked) → (op o).entry ≡ operation_entry w o
  unfolding operation
  op_entry o = refl

  -- in the order, so in the history, where it stands
  stands_there : (o : Tracked) → In o order → Stands h (op o)
  unfolding stands
  stands_there o i = let d = stood i in go d (or_cases _ _ d.test) (ℕ_discrete o.end 0)
    where
      go : Stood o → (not (unfinished o) ≡ true) ⊎ ((eqb o.kind WRITES && (ltb 0 o.write && returned t s o)) ≡ true) → Dec (o.end ≡ 0) → Stands h (op o)
      go d (inl e) z = completed (rw (op_end o) (finished o e))
      go d (inr e) (no z) = completed (rw (op_end o) (omega arith))
      go d (inr e) (yes z) =
          let r = any_passes (λ x. not (unfinished x) && (eqb x.kind READS && same (shows x) (shows o))) l (second_so (ltb 0 o.write) _ (second_so (eqb o.kind WRITES) _ e)) in
          let x = r.of in
          let f = finished x (first_so _ _ r.has) in
          let k = second_so (not (unfinished x)) _ r.has in
          surfaced (op_kind o ∙ eqb-true _ _ (first_so _ _ e)) (op_end o ∙ z)
          (record {
            by = op x;
            held = map_in op l r.member;
            read = op_kind x ∙ eqb-true _ _ (first_so _ _ k);
            completed = rw (op_end x) f;
            same = op_entry x ∙ entry_done s x f ∙ ap Some (same_is _ _ (second_so (eqb x.kind READS) _ k)) ∙ sym (entry_of_lem i) ∙ sym (op_entry o);
          })

  -- in the history, and standing, so in the order
  done_stands : (o : Tracked) → 1 ≤ o.end → stands t s o ≡ true
  unfolding stands
  done_stands o h = or_left _ _ (is_finished o h)

  entry_none : (o : Tracked) → o.end ≡ 0 → o.write ≡ 0 → operation_entry w o ≡ None
  unfolding operation_entry
  entry_none o h g = rw (eq-eqb o.end 0 h) (go (eqb o.kind WRITES))
    where
      go : (b : Bool) → if (b && ltb 0 o.write) (Some (message w o.write).entry) None ≡ None
      go true = rw (le-ltb 0 o.write (omega arith)) refl
      go false = refl

  in_order : (o : Tracked) → In o l → Stands h (op o) → In o order
  in_order o i (completed e) = stand_in i (done_stands o (rw (op_end o) at e))
  in_order o i (surfaced k e r) = let m = in_map op l r.held in go m.of m.member m.is (ℕ_discrete o.write 0)
    where
      go : (x : Tracked) → In x l → op x ≡ r.by → Dec (o.write ≡ 0) → In o order
      go x j q d = at d
        where
          f : 1 ≤ x.end
          f = omega (arith, r.completed, ap (λ (y : Operation). y.end) q, op_end x)

          shown : Some (shows x) ≡ operation_entry w o
          shown = sym (entry_done s x f) ∙ sym (op_entry x) ∙ ap (λ (y : Operation). y.entry) q ∙ r.same ∙ op_entry o

          at : Dec (o.write ≡ 0) → In o order
          at (yes z) =
              let n : Some (shows x) ≡ None = shown ∙ entry_none o (sym (op_end o) ∙ e) z in
              let y : ◌≡◌ {A = ℕ} 0 1 = cc in
              absurd (omega arith)
          at (no z) =
              let p : 1 ≤ o.write = omega arith in
              let c = sym (op_kind o) ∙ k in
              stand_in i (write_stands o x i j c p f (sym (op_kind x) ∙ ap (λ (y : Operation). y.kind) q ∙ r.read) (same_Some _ _ (shown ∙ entry_open s o (sym (op_end o) ∙ e) c p)))

  members : (x : Operation) → In x (map op order) ↔ (In x h × Stands h x)
  members x = (there, back)
    where
      there : In x (map op order) → In x h × Stands h x
      there i =
          let m = in_map op order i in
          (subst (λ (y : Operation). In y h) m.is (map_in op l (stood m.member).member), subst (Stands h) m.is (stands_there m.of m.member))

      back : In x h × Stands h x → In x (map op order)
      back (i, d) =
          let m = in_map op l i in
          subst (λ (y : Operation). In y (map op order)) m.is (map_in op order (in_order m.of m.member (subst (Stands h) (sym m.is) d)))

  -- what ended before another began does not come after it
  late : (a b : Tracked) → In a order → In b order → 1 ≤ a.end → a.end < b.begin → Precedes (key b) (key a) → ⊥
  late a b i j e f p = go fb.kind
    where
      fa : Fits w place l a
      fa = s.fits a (stood i).member

      fb : Fits w place l b
      fb = s.fits b (stood j).member

      g : Chose w b
      g = chose_of j

      v : shows a ≼ g.chosen
      v = sees_later a b (stood i).member (stood j).member e f g

      span : a.begin < a.end
      span = fa.spans e

      reads : shows a ≼ shows b → b.kind ≡ READS → (a.kind ≡ WRITES) ⊎ (a.kind ≡ READS) → Precedes (key b) (key a) → Related (Earlier w) a b → ⊥
      reads x k d (by_stamp h) r = ≺_not h x
      reads x k (inl q) (by_kind l h) r = omega arith
      reads x k (inr q) (by_kind l h) r = omega arith
      reads x k d (by_read l q h) (before r) = omega (arith, r.read)
      reads x k d (by_read l q h) (after r) = omega (arith, r.begin, span)
      reads x k d (by_read l q h) (equal r) = omega (arith, ap (λ (o : Tracked). o.begin) r, span)

      go : (b.kind ≡ WRITES) ⊎ (b.kind ≡ READS) → ⊥
      go (inl k) = let c : shows a ≺ shows b = count (omega (arith, ≼_count v, g.above k)) in ≺_not c (precedes_≼ p)
      go (inr k) = reads (rw (g.back k) v) k fa.kind p (related s.order (stood i).member (stood j).member)

  real_time_lem : (x y : Operation) → In x (map op order) → In y (map op order) → Ended x y → Before x y (map op order)
  real_time_lem x y i j e = go (placed i j)
    where
      go : Placed x y (map op order) → Before x y (map op order)
      go (first b) = b
      go (second b) =
          let r = pair op order sorted b in
          let p : 1 ≤ r.two.end = omega (arith, e.completed, ap (λ (o : Operation). o.end) r.is_two, op_end r.two) in
          let q : r.two.end < r.one.begin =
          omega (arith, e.before, ap (λ (o : Operation). o.end) r.is_two, op_end r.two, ap (λ (o : Operation). o.begin) r.is_one, op_begin r.one) in
          absurd (late r.two r.one r.two_in r.one_in p q r.rel)
      go (alike q) =
          let m = in_map op order i in
          let o = m.of in
          let k : 1 ≤ o.end = omega (arith, e.completed, ap (λ (z : Operation). z.end) m.is, op_end o) in
          absurd
          (omega (
            arith,
            (s.fits o (stood m.member).member).spans k,
            e.before,
            ap (λ (z : Operation). z.end) m.is,
            op_end o,
            ap (λ (z : Operation). z.begin) (m.is ∙ q),
            op_begin o,
          ))

  -- the entries of elements that stand for operations with one entry
  one_entry : (a b : Tracked) → In a order → In b order → (op a).entry ≡ (op b).entry → shows a ≡ shows b
  one_entry a b i j e = same_Some _ _ (sym (entry_of_lem i) ∙ sym (op_entry a) ∙ e ∙ op_entry b ∙ entry_of_lem j)

  equal_iff : (x y : Operation) → x.kind ≡ READS → y.kind ≡ READS → Before x y (map op order) → (x.entry ≡ y.entry) ↔ (Between (map op order) x y → ⊥)
  equal_iff x y p q b =
      (apart, λ n. equal_reads (Some empty) (map op order) x y (legal key op empty order sorted asks) p q b (λ z k f g. n (record { by = z; write = k; after = f; before = g })))
    where
      apart : x.entry ≡ y.entry → Between (map op order) x y → ⊥
      apart e z =
          let c = pair op order sorted z.after in
          let d = pair op order sorted z.before in
          let k : c.two.kind < c.one.kind =
          omega (arith, p, z.write, ap (λ (o : Operation). o.kind) c.is_one, op_kind c.one, ap (λ (o : Operation). o.kind) c.is_two, op_kind c.two) in
          let mid = one_entry c.two d.one c.two_in d.one_in (entry_at_lem (c.is_two ∙ sym d.is_one)) in
          let ends = one_entry c.one d.two c.one_in d.two_in (entry_at_lem c.is_one ∙ e ∙ sym (entry_at_lem d.is_two)) in
          ≺_not (precedes_≺ c.rel k) (rw (mid, ends) (precedes_≼ d.rel))

  once : Once (map op order)
  once = once_map op order differ sorted
    where
      differ : (x y : Tracked) → In x order → In y order → Precedes (key x) (key y) → op x ≡ op y → ⊥
      differ x y i j r e = go (related s.order (stood i).member (stood j).member)
        where
          same_begin : x.begin ≡ y.begin
          same_begin = sym (op_begin x) ∙ ap (λ (o : Operation). o.begin) e ∙ op_begin y

          go : Related (Earlier w) x y → ⊥
          go (before d) = omega (arith, d.begin, same_begin)
          go (after d) = omega (arith, d.begin, same_begin)
          go (equal d) = precedes_self (subst (λ (o : Tracked). Precedes (key o) (key y)) d r)

  pub ordered : Ordered h (map op order)
  ordered = record { once = once; members = members; real_time = real_time_lem; reads = legal key op empty order sorted asks; equal = equal_iff }
