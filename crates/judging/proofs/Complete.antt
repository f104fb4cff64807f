-- A no is right: if a well-formed log has any order at all, its sorted lines pass both tests (`sorted_complete`). Any order puts
-- smaller stamps first, and the write of a stamp before its reads, so it differs from the sorted one only among reads of one
-- stamp; and these may stand by begin.
use Prim.Native.Nat.{ℕ, zero, suc, ◌≤◌, ◌<◌, ◌^◌}
use Rattle.std.proofs.Math.Decide.{dec_lt}
use native.Mathlib.Omega.{arith}
use Rattle.std.specs.Prelude.{Bool, false, ◌&&◌, ◌||◌, ◌≡◌, ◌⊎◌, ltb, eqb, Some}
use Rattle.std.proofs.Math.Bool.{true}
use Rattle.std.proofs.Math.Path.{refl}
use Rattle.std.proofs.Common.{sym, ap, subst, ◌∙◌, inl, inr}
use mathlib.Core.List.{List, [], ◌∷◌}
use Rattle.std.proofs.Math.Dec.{leb}
use Rattle.std.proofs.lemmas.Bool.{and_from}
use Rattle.std.proofs.lemmas.Option.{same_Some}
use borrow.Author.Tests.{le-leb, eq-eqb, ne_eqb}
use Rattle.protocol.specs.declared.Entry.{Entry}
use Rattle.protocol.specs.Tools.{if}
use Rattle.protocol.specs.Entries.{empty, writer_of}
use Rattle.protocol.specs.Clients.{WRITES, READS}
use Rattle.protocol.specs.Consistent.{Operation, In, here, there, Before}
use Rattle.protocol.proofs.Laws.Entries.{◌≼◌, by_count, by_writer, is_same}
use Rattle.protocol.proofs.Laws.Lists.{Image, before_in, one_way, From, held, from, returned_from}
use Rattle.judging.specs.declared.Logged.{Logged}
use Rattle.judging.specs.Orders.{operations, OrderOf}
use Rattle.judging.specs.Decision.{stamp_rank, rank, sorted, follows, last_write, on_time, last_begin, along, answers, timely, passes}
use Rattle.judging.proofs.Sorted.{Sane, Fine, rank_stamp, rank_write, rank_level, Rising, next, in_sorted, sorted_rising}
use Rattle.judging.proofs.Sound.{op, line_in, line_stands, order_in}

module _ (line : ℕ → Logged) where
  -- where the entry of a read comes from: e, or a write of the list
  data Source (e : Entry) (l : List ℕ) (i : ℕ) : Type 0 where
    kept : (line i).entry ≡ e → Source e l i
    given : (j : ℕ) → In j l → (line j).kind ≡ WRITES → (line j).entry ≡ (line i).entry → Source e l i

  -- what is asked of the lines l after a write of e
  record Asks (e : Entry) (l : List ℕ) : Type 0 where
    sane : (i : ℕ) → In i l → Sane (line i)
    above : (i : ℕ) → In i l → (line i).kind ≡ WRITES → stamp_rank e < stamp_rank (line i).entry
    unique : (i j : ℕ) → In i l → In j l → (line i).kind ≡ WRITES → (line j).kind ≡ WRITES → stamp_rank (line i).entry ≡ stamp_rank (line j).entry → i ≡ j
    source : (i : ℕ) → In i l → (line i).kind ≡ READS → Source e l i

  module _ {e : Entry} {x : ℕ} {l : List ℕ} (h : (j : ℕ) → In j l → rank (line x) < rank (line j)) (a : Asks e (x ∷ l)) where
    after_write : (line x).kind ≡ WRITES → Asks (line x).entry l
    after_write k =
        record {
          sane = λ j m. a.sane j (there m);
          above = λ j m q. rises j m q (rank_stamp (a.sane x (here refl)) (a.sane j (there m)) (h j m)) (λ t. a.unique x j (here refl) (there m) k q t);
          unique = λ i j m n. a.unique i j (there m) (there n);
          source = λ j m q. go j m (a.source j (there m) q);
        }
      where
        rises : (j : ℕ) → In j l → (line j).kind ≡ WRITES → stamp_rank (line x).entry ≤ stamp_rank (line j).entry
            → (stamp_rank (line x).entry ≡ stamp_rank (line j).entry → x ≡ j) → stamp_rank (line x).entry < stamp_rank (line j).entry
        rises j m q t u = at (dec_lt (stamp_rank (line x).entry) (stamp_rank (line j).entry))
          where
            at : Dec (stamp_rank (line x).entry < stamp_rank (line j).entry) → stamp_rank (line x).entry < stamp_rank (line j).entry
            at (yes c) = c
            at (no c) = absurd (omega (arith, h j m, ap (λ (i : ℕ). rank (line i)) (u (omega arith))))

        go : (j : ℕ) → In j l → Source e (x ∷ l) j → Source (line x).entry l j
        go j m (kept q) = absurd (omega (arith, a.above x (here refl) k, ap stamp_rank q, rank_stamp (a.sane x (here refl)) (a.sane j (there m)) (h j m)))
        go j m (given z (here r) t q) = kept (sym q ∙ ap (λ (i : ℕ). (line i).entry) (sym r))
        go j m (given z (there n) t q) = given z n t q

    after_read : (line x).kind ≡ READS → Asks e l
    after_read k =
        record {
          sane = λ j m. a.sane j (there m);
          above = λ j m. a.above j (there m);
          unique = λ i j m n. a.unique i j (there m) (there n);
          source = λ j m q. go j (a.source j (there m) q);
        }
      where
        go : (j : ℕ) → Source e (x ∷ l) j → Source e l j
        go j (kept q) = kept q
        go j (given z (here r) t q) = absurd (omega (arith, ap (λ (i : ℕ). (line i).kind) r))
        go j (given z (there n) t q) = given z n t q

    read_entry : (line x).kind ≡ READS → (line x).entry ≡ e
    read_entry k = go (a.source x (here refl) k)
      where
        go : Source e (x ∷ l) x → (line x).entry ≡ e
        go (kept q) = q
        go (given z (here r) t q) = absurd (omega (arith, ap (λ (i : ℕ). (line i).kind) r))
        go (given z (there n) t q) = absurd (omega (arith, rank_write (a.sane x (here refl)) (a.sane z (there n)) k t (h z n), ap stamp_rank q))

  -- each read has the entry of the last write before it
  asks_answers : (e : Entry) (l : List ℕ) → Rising line l → Asks e l → answers line e l ≡ true
  unfolding along follows last_write
  asks_answers e [] s a = refl
  asks_answers e (x ∷ l) (next h s) a = go (a.sane x (here refl)).kind (asks_answers (last_write e (line x)) l s)
    where
      go : ((line x).kind ≡ WRITES) ⊎ ((line x).kind ≡ READS) → (Asks (last_write e (line x)) l → answers line (last_write e (line x)) l ≡ true)
          → (follows e (line x) && answers line (last_write e (line x)) l) ≡ true
      go (inl k) f = and_from (follows e (line x)) _ (rw (eq-eqb (line x).kind WRITES k)) (f (rw (eq-eqb (line x).kind WRITES k) (after_write h a k)))
      go (inr k) f =
          let n = ne_eqb (line x).kind WRITES (λ q. omega arith) in
          and_from (follows e (line x)) _ (rw n (is_same _ _ (read_entry h a k))) (f (rw n (after_read h a k)))

  -- no operation of the list ended before b, or before one in front of it began
  pairs_timely : (b : ℕ) (l : List ℕ) → Rising line l → ((i : ℕ) → In i l → 1 ≤ (line i).end → b ≤ (line i).end)
      → ((i j : ℕ) → In i l → In j l → rank (line j) < rank (line i) → 1 ≤ (line i).end → (line j).begin ≤ (line i).end) → timely line b l ≡ true
  unfolding along on_time last_begin
  pairs_timely b [] s o p = refl
  pairs_timely b (k ∷ l) (next r s) o p =
      and_from _ _ (first (line k).end refl) (pairs_timely (last_begin b (line k)) l s over (λ i j m n. p i j (there m) (there n)))
    where
      first : (e : ℕ) → (line k).end ≡ e → (eqb e 0 || leb b e) ≡ true
      first zero q = refl
      first (suc e) q = rw (ne_eqb (suc e) 0 (λ z. omega arith)) (le-leb b (suc e) (omega (arith, q, o k (here refl) (omega arith))))

      over : (i : ℕ) → In i l → 1 ≤ (line i).end → last_begin b (line k) ≤ (line i).end
      over i m c = go (ltb b (line k).begin)
        where
          go : (t : Bool) → if t (line k).begin b ≤ (line i).end
          go true = p i k (there m) (here refl) (r i m) c
          go false = o i (there m) c

-- ---- from any order

module _ (line : ℕ → Logged) (n : ℕ) (f : Fine line n) (order : List Operation) (g : OrderOf (operations line n) order) where
  abbrev s : List ℕ
  s = sorted line n

  sane : (i : ℕ) → In i s → Sane (line i)
  sane i m = let d = in_sorted line n n m in f.sane i d.low d.high

  rises : Rising line s
  rises = sorted_rising line n f n (omega arith)

  one_stamp_lem : (i j : ℕ) → In i s → In j s → (line i).kind ≡ WRITES → (line j).kind ≡ WRITES → stamp_rank (line i).entry ≡ stamp_rank (line j).entry → i ≡ j
  one_stamp_lem i j m k p q e = let c = in_sorted line n n m in let d = in_sorted line n n k in f.stamps i j c.low c.high d.low d.high p q e

  -- the sorted list and the order have the same operations
  placed : (i : ℕ) → In i s → In (op line i) order
  placed i m = let d = in_sorted line n n m in (g.ordered.members (op line i)).1 (line_in line n i d.low d.high, line_stands line n i d.test)

  found : {x : Operation} → In x order → Image (op line) s x
  found {x} m = let d = (g.ordered.members x).0 m in order_in line n d.0 d.1

  source : (i : ℕ) → In i s → (line i).kind ≡ READS → Source line empty s i
  source i m k = go (returned_from g.ordered.reads (placed i m) k)
    where
      go : From (Some empty) order (op line i) → Source line empty s i
      go (held q) = kept (same_Some _ _ q)
      go (from w t q b) =
          let r = found (before_in b) in
          given r.of r.member (ap (λ (o : Operation). o.kind) r.is ∙ t) (same_Some _ _ (ap (λ (o : Operation). o.entry) r.is ∙ q))

  asks : Asks line empty s
  unfolding stamp_rank
  asks =
      record {
        sane = sane;
        above = λ i m k. omega (arith, (sane i m).counted k);
        unique = one_stamp_lem;
        source = source;
      }

  -- a stamp of no larger rank
  ≼_rank : {a b : Entry} → writer_of a < 2 ^ 8 → a ≼ b → stamp_rank a ≤ stamp_rank b
  unfolding stamp_rank
  ≼_rank w (by_count c) = omega arith
  ≼_rank w (by_writer e c) = omega arith

  in_time : (i j : ℕ) → In i s → In j s → rank (line j) < rank (line i) → 1 ≤ (line i).end → (line j).begin ≤ (line i).end
  in_time i j m k r e = at (dec_lt (line i).end (line j).begin)
    where
      -- i ended before j began, so it comes first in the order
      late : (line i).end < (line j).begin → Before (op line i) (op line j) order
      late c = g.ordered.real_time (op line i) (op line j) (placed i m) (placed j k) (record { completed = e; before = c })

      level : (line i).end < (line j).begin → stamp_rank (line i).entry ≡ stamp_rank (line j).entry
      level c = omega (arith, rank_stamp (sane j k) (sane i m) r, ≼_rank (sane i m).writer (g.stamps.never (op line i) (op line j) (late c) (line i).entry (line j).entry refl refl))

      alike : (line i).end < (line j).begin → (line j).kind ≡ (line i).kind → ⊥
      alike c q = omega (arith, rank_level (sane j k) (sane i m) q (sym (level c)) r, (sane i m).spans e)

      -- j is the write that i returned, and stands before it too
      write_read : (line i).end < (line j).begin → (line j).kind ≡ WRITES → (line i).kind ≡ READS → ⊥
      write_read c p q = go (returned_from g.ordered.reads (placed i m) q)
        where
          go : From (Some empty) order (op line i) → ⊥
          go (held z) = omega (arith, level c, ap stamp_rank (same_Some _ _ z), asks.above j k p)
          go (from w t z b) =
              let x = found (before_in b) in
              let u : x.of ≡ j = one_stamp_lem x.of j x.member k (ap (λ (o : Operation). o.kind) x.is ∙ t) p (ap stamp_rank (same_Some _ _ (ap (λ (o : Operation). o.entry) x.is ∙ z)) ∙ level c) in
              let y : w ≡ op line j = sym x.is ∙ ap (op line) u in
              one_way g.ordered.once (late c) (subst (λ (o : Operation). Before o (op line i) order) y b)

      kinds : (line i).end < (line j).begin → ((line i).kind ≡ WRITES) ⊎ ((line i).kind ≡ READS) → ((line j).kind ≡ WRITES) ⊎ ((line j).kind ≡ READS) → ⊥
      kinds c (inl p) (inl q) = alike c (q ∙ sym p)
      kinds c (inr p) (inr q) = alike c (q ∙ sym p)
      kinds c (inr p) (inl q) = write_read c q p
      kinds c (inl p) (inr q) = omega (arith, level c, rank_write (sane j k) (sane i m) q p r)

      at : Dec ((line i).end < (line j).begin) → (line j).begin ≤ (line i).end
      at (yes c) = absurd (kinds c (sane i m).kind (sane j k).kind)
      at (no c) = omega arith

  -- "A no means that none exists"
  pub sorted_complete : passes line n ≡ true
  unfolding passes
  sorted_complete = and_from _ _ (asks_answers line empty s rises asks) (pairs_timely line 0 s rises (λ i m e. omega arith) in_time)
