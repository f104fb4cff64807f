-- A yes is right: if the sorted lines of a well-formed log pass both tests, their operations are an order of the log (`sorted_sound`).
-- `line_stands` and `stands_line` tie the test `stands` to `Stands` of protocol; Complete uses them too.
use Rattle.std.specs.Prelude.{ℕ, zero, suc, ◌≤◌, ◌<◌, ◌^◌, Bool, not, ◌&&◌, ◌||◌, ◌≡◌, ◌⊎◌, ◌↔◌, leb, eqb, Some}
use Rattle.std.proofs.Math.Decide.{dec_lt, ℕ_discrete}
use native.Mathlib.Omega.{arith}
use Rattle.std.proofs.Math.Bool.{true, false}
use Rattle.std.proofs.Math.Path.{refl, ap}
use Rattle.std.proofs.Common.{sym, subst, ◌∙◌, inl, inr}
use mathlib.Core.List.{List, [], ◌∷◌, map}
use Rattle.std.proofs.Math.Dec.{ltb}
use Rattle.std.specs.Cmp.{first_so, second_so}
use Rattle.std.proofs.lemmas.Bool.{and_from, or_cases, or_left, or_right}
use Rattle.std.proofs.lemmas.Option.{same_Some}
use borrow.Author.Tests.{ltb-true, ltb-false, leb-true, eqb-true, eq-eqb, ne_eqb}
use Rattle.protocol.specs.declared.Entry.{Entry}
use Rattle.protocol.specs.Tools.{if}
use Rattle.protocol.specs.Entries.{empty, count_of, writer_of, same}
use Rattle.protocol.specs.Clients.{WRITES, READS}
use Rattle.protocol.specs.Consistent.{Operation, In, here, there, Before, now, later, Once, none as nobody, one, Stands, completed, surfaced, Ended, Reads, end, write, read, Between}
use Rattle.protocol.proofs.Laws.Tests.{clash, some_passing, passing_some}
use Rattle.protocol.proofs.Laws.Entries.{◌≼◌, by_count, by_writer, same_is, is_same}
use Rattle.protocol.proofs.Laws.Lists.{Image, in_map, map_in, equal_reads, entry_at_lem}
use Rattle.judging.specs.declared.Logged.{Logged}
use Rattle.judging.specs.Orders.{logged_operation, operations, NeverFalling, OrderOf}
use Rattle.judging.specs.Decision.{stamp_rank, rank, returns, returned, stands, sorted, follows, last_write, on_time, last_begin, along, answers, timely, passes}
use Rattle.judging.proofs.Lists.{Numbered, in_list_to, list_to_in}
use Rattle.judging.proofs.Sorted.{Sane, Fine, rank_begin, rank_stamp, rank_write, Rising, next, in_sorted, sorted_in, sorted_rising}

-- a number that is not 0
pub not_zero : (n : ℕ) → not (eqb n 0) ≡ true → 1 ≤ n
not_zero zero e = clash e refl
not_zero (suc n) e = omega arith

pub is_not_zero : (n : ℕ) → 1 ≤ n → not (eqb n 0) ≡ true
is_not_zero zero h = absurd (omega arith)
is_not_zero (suc n) h = rw (ne_eqb (suc n) 0 (λ e. omega arith)) refl

-- ---- what the two passes tell

module _ (line : ℕ → Logged) where
  abbrev pub op : ℕ → Operation
  op i = logged_operation (line i)

  answers_reads : (e : Entry) (l : List ℕ) → ((i : ℕ) → In i l → Sane (line i)) → answers line e l ≡ true → Reads (Some e) (map op l)
  unfolding along follows last_write
  answers_reads e [] s h = end
  answers_reads e (i ∷ l) s h =
      go (s i (here refl)).kind (first_so _ _ h) (answers_reads (last_write e (line i)) l (λ j m. s j (there m)) (second_so (follows e (line i)) _ h))
    where
      held : ((line i).kind ≡ READS) → (eqb (line i).kind WRITES ≡ true) ⊎ (same (line i).entry e ≡ true) → (line i).entry ≡ e
      held k (inl q) = absurd (omega (arith, eqb-true (line i).kind WRITES q))
      held k (inr q) = same_is _ _ q

      go : ((line i).kind ≡ WRITES) ⊎ ((line i).kind ≡ READS) → (eqb (line i).kind WRITES || same (line i).entry e) ≡ true
          → Reads (Some (if (eqb (line i).kind WRITES) (line i).entry e)) (map op l) → Reads (Some e) (op i ∷ map op l)
      go (inl k) t r = write k (rw (eq-eqb (line i).kind WRITES k) at r)
      go (inr k) t r = read k (ap Some (held k (or_cases _ _ t))) (rw (ne_eqb (line i).kind WRITES (λ q. omega arith)) at r)

  -- the last begin is at least both
  begin_held : (b : ℕ) (x : Logged) (e : ℕ) → last_begin b x ≤ e → (b ≤ e) × (x.begin ≤ e)
  unfolding last_begin
  begin_held b x e h = go (ltb b x.begin) refl h
    where
      go : (t : Bool) → ltb b x.begin ≡ t → if t x.begin b ≤ e → (b ≤ e) × (x.begin ≤ e)
      go true q k = let p : b < x.begin = ltb-true _ _ q in (omega arith, k)
      go false q k = let p : x.begin ≤ b = ltb-false _ _ q in (k, omega arith)

  on_time_lem : (b : ℕ) (x : Logged) → on_time b x ≡ true → 1 ≤ x.end → b ≤ x.end
  unfolding on_time
  on_time_lem b x h e = go (or_cases _ _ h)
    where
      go : (eqb x.end 0 ≡ true) ⊎ (leb b x.end ≡ true) → b ≤ x.end
      go (inl q) = let z : x.end ≡ 0 = eqb-true _ _ q in absurd (omega arith)
      go (inr q) = leb-true _ _ q

  -- no operation ended before the last begin so far
  timely_over : (b : ℕ) (l : List ℕ) → timely line b l ≡ true → (i : ℕ) → In i l → 1 ≤ (line i).end → b ≤ (line i).end
  unfolding along
  timely_over b [] h i x3 e = elim x3 [ ]
  timely_over b (j ∷ l) h i (here q) e = rw q at (on_time_lem b (line j) (first_so _ _ h) (rw q e))
  timely_over b (j ∷ l) h i (there k) e = (begin_held b (line j) (line i).end (timely_over (last_begin b (line j)) l (second_so (on_time b (line j)) _ h) i k e)).0

  timely_pair : (b : ℕ) (l : List ℕ) → Rising line l → timely line b l ≡ true → (i j : ℕ) → In i l → In j l → rank (line j) < rank (line i) → 1 ≤ (line i).end → (line j).begin ≤ (line i).end
  unfolding along
  timely_pair b [] _ h i j x7 _ g e = elim x7 [ ]
  timely_pair b (k ∷ l) (next r s) h i j (here p) (here q) g e = absurd (omega (arith, ap (λ (x : ℕ). rank (line x)) p, ap (λ (x : ℕ). rank (line x)) q))
  timely_pair b (k ∷ l) (next r s) h i j (here p) (there n) g e = absurd (omega (arith, ap (λ (x : ℕ). rank (line x)) p, r j n))
  timely_pair b (k ∷ l) (next r s) h i j (there m) (here q) g e =
      rw (← q) (begin_held b (line k) (line i).end (timely_over (last_begin b (line k)) l (second_so (on_time b (line k)) _ h) i m e)).1
  timely_pair b (k ∷ l) (next r s) h i j (there m) (there n) g e =
      timely_pair (last_begin b (line k)) l s (second_so (on_time b (line k)) _ h) i j m n g e

  -- ---- ranks and places

  pub ahead : {l : List ℕ} → Rising line l → {i j : ℕ} → In i l → In j l → rank (line i) < rank (line j) → Before (op i) (op j) (map op l)
  ahead Rattle.judging.proofs.Sorted.empty {i = i} {j = j} x7 _ g = elim x7 [ ]
  ahead (next r s) (here p) (here q) g = absurd (omega (arith, ap (λ (x : ℕ). rank (line x)) p, ap (λ (x : ℕ). rank (line x)) q))
  ahead (next {l = l} r s) (here p) (there n) g = now (ap op p) (map_in op l n)
  ahead (next r s) {i} (there m) (here q) g = absurd (omega (arith, ap (λ (x : ℕ). rank (line x)) q, r i m))
  ahead (next r s) (there m) (there n) g = later (ahead s m n g)

  -- the lines behind two operations, in their order
  pub record Pair (l : List ℕ) (x y : Operation) : Type 0 where
    pub one : ℕ
    pub two : ℕ
    pub one_in : In one l
    pub two_in : In two l
    pub is_one : op one ≡ x
    pub is_two : op two ≡ y
    pub less : rank (line one) < rank (line two)

  pub pair : (l : List ℕ) {x y : Operation} → Rising line l → Before x y (map op l) → Pair l x y
  pair [] s b = elim b [ ]
  pair (a ∷ l) (next h s) (now e i) =
      let r = in_map op l i in
      record { one = a; two = r.of; one_in = here refl; two_in = there r.member; is_one = e; is_two = r.is; less = h r.of r.member }
  pair (a ∷ l) (next h s) (later b) =
      let r = pair l s b in
      record { one = r.one; two = r.two; one_in = there r.one_in; two_in = there r.two_in; is_one = r.is_one; is_two = r.is_two; less = r.less }

  -- equal operations have equal lines
  pub op_line : (i j : ℕ) → op i ≡ op j → line i ≡ line j
  op_line i j e =
      let b = ap (λ (o : Operation). o.begin) e in
      let f = ap (λ (o : Operation). o.end) e in
      let k = ap (λ (o : Operation). o.kind) e in
      let q : (line i).entry ≡ (line j).entry = same_Some _ _ (ap (λ (o : Operation). o.entry) e) in
      λ t. record { begin = b t; end = f t; kind = k t; entry = q t }

  rising_once : (l : List ℕ) → Rising line l → Once (map op l)
  rising_once [] s = nobody
  rising_once (i ∷ l) (next h s) = one (λ m. differ (in_map op l m)) (rising_once l s)
    where
      differ : Image op l (op i) → ⊥
      differ r = omega (arith, h r.of r.member, ap rank (op_line r.of i r.is))

-- ---- which lines stand

module _ (line : ℕ → Logged) (n : ℕ) where
  abbrev h : List Operation
  h = operations line n

  pub line_in : (i : ℕ) → 1 ≤ i → i ≤ n → In (op line i) h
  unfolding operations
  line_in i a b = list_to_in (op line) n i a b

  pub in_line : {x : Operation} → In x h → Numbered (op line) n x
  unfolding operations
  in_line m = in_list_to (op line) n m

  pub line_stands : (i : ℕ) → stands line n i ≡ true → Stands h (op line i)
  unfolding stands returned returns
  line_stands i e = go (or_cases _ _ e) (ℕ_discrete (line i).end 0)
    where
      go : (not (eqb (line i).end 0) ≡ true) ⊎ ((eqb (line i).kind WRITES && returned line n (line i)) ≡ true) → Dec ((line i).end ≡ 0) → Stands h (op line i)
      go (inl q) z = completed (not_zero (line i).end q)
      go (inr q) (no z) = completed (omega arith)
      go (inr q) (yes z) =
          let r = some_passing (λ j. returns (line j) (line i)) n (second_so (eqb (line i).kind WRITES) _ q) in
          let t = second_so (eqb (line r.at).kind READS) _ r.test in
          surfaced (eqb-true _ _ (first_so _ _ q)) z
          (record {
            by = op line r.at;
            held = line_in r.at r.low r.high;
            read = eqb-true _ _ (first_so _ _ r.test);
            completed = not_zero (line r.at).end (first_so _ _ t);
            same = ap Some (same_is _ _ (second_so (not (eqb (line r.at).end 0)) _ t));
          })

  pub stands_line : (i : ℕ) → Stands h (op line i) → stands line n i ≡ true
  unfolding stands returned returns
  stands_line i (completed e) = or_left _ _ (is_not_zero (line i).end e)
  stands_line i (surfaced k z r) =
      let m = in_line r.held in
      let j = m.at in
      let c : 1 ≤ (line j).end = omega (arith, r.completed, ap (λ (o : Operation). o.end) m.is) in
      or_right (not (eqb (line i).end 0)) _
      (and_from _ _ (eq-eqb _ _ k)
      (passing_some (λ j. returns (line j) (line i)) n j m.low m.high
      (and_from _ _ (eq-eqb _ _ (ap (λ (o : Operation). o.kind) m.is ∙ r.read))
      (and_from _ _ (is_not_zero (line j).end c) (is_same _ _ (same_Some _ _ (ap (λ (o : Operation). o.entry) m.is ∙ r.same)))))))

  abbrev s : List ℕ
  s = sorted line n

  pub order_in : {x : Operation} → In x h → Stands h x → Image (op line) s x
  order_in {x} i d =
      let m = in_line i in
      let t : Stands h (op line m.at) = rw m.is d in
      record { of = m.at; member = sorted_in line n n m.at m.low m.high (stands_line m.at t); is = m.is }

  members : (x : Operation) → In x (map (op line) s) ↔ (In x h × Stands h x)
  members x = (to, back)
    where
      to : In x (map (op line) s) → In x h × Stands h x
      to i =
          let m = in_map (op line) s i in
          let d = in_sorted line n n m.member in
          (subst (λ (y : Operation). In y h) m.is (line_in m.of d.low d.high), subst (Stands h) m.is (line_stands m.of d.test))

      back : In x h × Stands h x → In x (map (op line) s)
      back (i, d) = let m = order_in i d in subst (λ (y : Operation). In y (map (op line) s)) m.is (map_in (op line) s m.member)

  -- a stamp of no larger rank
  rank_≼ : (a b : Entry) → writer_of a < 2 ^ 8 → writer_of b < 2 ^ 8 → stamp_rank a ≤ stamp_rank b → a ≼ b
  unfolding stamp_rank
  rank_≼ a b f g l = go (dec_lt (count_of a) (count_of b))
    where
      go : Dec (count_of a < count_of b) → a ≼ b
      go (yes c) = by_count c
      go (no c) = by_writer (omega arith) (omega arith)

  module _ (f : Fine line n) (pass : passes line n ≡ true) where
    sane : (i : ℕ) → In i s → Sane (line i)
    sane i m = let d = in_sorted line n n m in f.sane i d.low d.high

    rises : Rising line s
    rises = sorted_rising line n f n (omega arith)

    in_time : timely line 0 s ≡ true
    unfolding passes
    in_time = second_so (answers line empty s) _ pass

    legal : Reads (Some empty) (map (op line) s)
    unfolding passes
    legal = answers_reads line empty s sane (first_so _ _ pass)

    real_time_lem : (x y : Operation) → In x (map (op line) s) → In y (map (op line) s) → Ended x y → Before x y (map (op line) s)
    real_time_lem x y i j e = go (in_map (op line) s i) (in_map (op line) s j)
      where
        go : Image (op line) s x → Image (op line) s y → Before x y (map (op line) s)
        go p q = at (dec_lt (rank (line p.of)) (rank (line q.of))) (dec_lt (rank (line q.of)) (rank (line p.of)))
          where
            ends : 1 ≤ (line p.of).end
            ends = omega (arith, e.completed, ap (λ (o : Operation). o.end) p.is)

            late : (line p.of).end < (line q.of).begin
            late = omega (arith, e.before, ap (λ (o : Operation). o.end) p.is, ap (λ (o : Operation). o.begin) q.is)

            at : Dec (rank (line p.of) < rank (line q.of)) → Dec (rank (line q.of) < rank (line p.of)) → Before x y (map (op line) s)
            at (yes r) d =
                subst (λ (o : Operation). Before o y (map (op line) s)) p.is
                (subst (λ (o : Operation). Before (op line p.of) o (map (op line) s)) q.is (ahead line rises p.member q.member r))
            at (no r) (yes t) = absurd (omega (arith, late, timely_pair line 0 s rises in_time p.of q.of p.member q.member t ends))
            at (no r) (no t) =
                let b = rank_begin (sane p.of p.member) (sane q.of q.member) (omega arith) in
                absurd (omega (arith, late, (sane p.of p.member).spans ends))

    equal_iff : (x y : Operation) → x.kind ≡ READS → y.kind ≡ READS → Before x y (map (op line) s) → (x.entry ≡ y.entry) ↔ (Between (map (op line) s) x y → ⊥)
    equal_iff x y k m b = (apart, λ n. equal_reads (Some empty) (map (op line) s) x y legal k m b (λ z t f g. n (record { by = z; write = t; after = f; before = g })))
      where
        stamp_at : (i j : ℕ) → (op line i).entry ≡ (op line j).entry → stamp_rank (line i).entry ≡ stamp_rank (line j).entry
        stamp_at i j e = ap stamp_rank (same_Some _ _ e)

        apart : x.entry ≡ y.entry → Between (map (op line) s) x y → ⊥
        apart e z =
            let c = pair line s rises z.after in
            let d = pair line s rises z.before in
            let first = ap (λ (o : Operation). o.kind) c.is_one ∙ k in
            let second = ap (λ (o : Operation). o.kind) c.is_two ∙ z.write in
            let up = rank_write (sane c.one c.one_in) (sane c.two c.two_in) first second c.less in
            let on = rank_stamp (sane d.one d.one_in) (sane d.two d.two_in) d.less in
            let mid = stamp_at c.two d.one (entry_at_lem c.is_two ∙ sym (entry_at_lem d.is_one)) in
            let ends = stamp_at c.one d.two (entry_at_lem c.is_one ∙ e ∙ sym (entry_at_lem d.is_two)) in
            omega arith

    never_falling : NeverFalling (map (op line) s)
    never_falling = record { never = go }
      where
        go : (x y : Operation) → Before x y (map (op line) s) → (e g : Entry) → x.entry ≡ Some e → y.entry ≡ Some g → e ≼ g
        go x y b e g p q =
            let c = pair line s rises b in
            let u : (line c.one).entry ≡ e = same_Some _ _ (ap (λ (o : Operation). o.entry) c.is_one ∙ p) in
            let v : (line c.two).entry ≡ g = same_Some _ _ (ap (λ (o : Operation). o.entry) c.is_two ∙ q) in
            rw (← u, ← v) (rank_≼ (line c.one).entry (line c.two).entry (sane c.one c.one_in).writer (sane c.two c.two_in).writer
            (rank_stamp (sane c.one c.one_in) (sane c.two c.two_in) c.less))

    -- "A yes shows the order."
    pub sorted_sound : OrderOf h (map (op line) s)
    sorted_sound =
        record {
          ordered = record { once = rising_once line s rises; members = members; real_time = real_time_lem; reads = legal; equal = equal_iff };
          stamps = never_falling;
        }
