-- Lists: numbered ones, tests of all members, members of images, what stands before what, and what an order's `Reads` tells of a
-- read. Assumes nothing.
use Rattle.std.specs.Prelude.{ℕ, zero, suc, Bool, true, ◌≡◌, refl, ◌⊎◌, List, [], ◌∷◌, length, map, Option, eqb}
use Rattle.std.proofs.Common.{arith, sym, ap, ◌∙◌, inl, inr, eqb-true}
use Rattle.std.specs.Cmp.{first_so, second_so}
use Rattle.std.proofs.lemmas.Bool.{and_from, or_cases}
use Rattle.protocol.specs.declared.Entry.{Entry}
use Rattle.protocol.specs.Tools.{any, all}
use Rattle.protocol.specs.Worlds.{list_to}
use Rattle.protocol.specs.Clients.{WRITES, READS}
use Rattle.protocol.specs.Consistent.{Operation, In, here, there, Before, now, later, Once, one, Reads, write, read}
use Rattle.protocol.proofs.Laws.Tests.{clash}

pub length_list_to : {A : Type 0} (g : ℕ → A) (n : ℕ) → length (list_to g n) ≡ n
unfolding list_to
length_list_to g zero = refl
length_list_to g (suc n) = ap suc (length_list_to (λ i. g (suc i)) n)

-- ---- tests of all members

pub all_member : (p : ℕ → Bool) (ks : List ℕ) (k : ℕ) → all p ks ≡ true → any (eqb k) ks ≡ true → p k ≡ true
unfolding all any
all_member p [] k a m = clash m refl
all_member p (x ∷ ks) k a m = go (or_cases (eqb k x) (any (eqb k) ks) m) (all_member p ks k (second_so (p x) _ a))
  where
    go : (eqb k x ≡ true) ⊎ (any (eqb k) ks ≡ true) → (any (eqb k) ks ≡ true → p k ≡ true) → p k ≡ true
    go (inl e) f = rw (eqb-true k x e) (first_so _ _ a)
    go (inr e) f = f e

pub all_map : (p q : ℕ → Bool) (ks : List ℕ) → ((k : ℕ) → p k ≡ true → q k ≡ true) → all p ks ≡ true → all q ks ≡ true
unfolding all
all_map p q [] f e = refl
all_map p q (k ∷ ks) f e = and_from _ _ (f k (first_so _ _ e)) (all_map p q ks f (second_so (p k) _ e))

-- ---- members

pub no_member : {A B : Type 0} {x : A} → In x [] → B
no_member i = elim i [ ]

-- what an element of the image of a list comes from
pub record Image {A B : Type 0} (f : A → B) (l : List A) (y : B) : Type 0 where
  pub of : A
  pub member : In of l
  pub is : f of ≡ y

pub in_map : {A B : Type 0} (f : A → B) (l : List A) {y : B} → In y (map f l) → Image f l y
in_map f [] i = no_member i
in_map f (x ∷ l) (here e) = record { of = x; member = here refl; is = e }
in_map f (x ∷ l) (there i) = let r = in_map f l i in record { of = r.of; member = there r.member; is = r.is }

pub map_in : {A B : Type 0} (f : A → B) (l : List A) {x : A} → In x l → In (f x) (map f l)
map_in {A = A} {B = B} f [] x3 = elim x3 [ ]
map_in f (y ∷ l) (here e) = here (ap f e)
map_in f (y ∷ l) (there i) = there (map_in f l i)

-- ---- what stands before what

pub before_in : {x y : Operation} {l : List Operation} → Before x y l → In x l
before_in (now e i) = here e
before_in (later b) = there (before_in b)

pub behind_in : {x y : Operation} {l : List Operation} → Before x y l → In y l
behind_in (now e i) = there i
behind_in (later b) = there (behind_in b)

-- an element again, where another is equal to it
same_in : {x z : Operation} {l : List Operation} → z ≡ x → In x l → In z l
same_in e i = rw e i

-- of two operations of an order only one stands before the other
pub one_way : {x y : Operation} {l : List Operation} → Once l → Before x y l → Before y x l → ⊥
one_way {y = y} Rattle.protocol.specs.Consistent.none x6 _ = elim x6 [ ]
one_way (one n o) (now e i) (now f j) = n (same_in f i)
one_way (one n o) (now e i) (later c) = n (same_in e (behind_in c))
one_way (one n o) (later b) (now f j) = n (same_in f (behind_in b))
one_way (one n o) (later b) (later c) = one_way o b c

-- ---- where the entry of a read comes from: the entry before the list, or a write of the list that stands before it

pub data From (e : Option Entry) (l : List Operation) (x : Operation) : Type 0 where
  held : x.entry ≡ e → From e l x
  from : (w : Operation) → w.kind ≡ WRITES → w.entry ≡ x.entry → Before w x l → From e l x

pub returned_from : {e : Option Entry} {l : List Operation} {x : Operation} → Reads e l → In x l → x.kind ≡ READS → From e l x
returned_from (Rattle.protocol.specs.Consistent.end {e = e}) x11 h = elim x11 [ ]
returned_from (write k r) (here q) h = absurd (omega (arith, ap (λ (o : Operation). o.kind) q))
returned_from (write {x = w} k r) (there i) h = go i (returned_from r i h)
  where
    go : {x : Operation} {e : Option Entry} {l : List Operation} → In x l → From w.entry l x → From e (w ∷ l) x
    go i (held q) = from w k (sym q) (now refl i)
    go i (from z t q b) = from z t q (later b)
returned_from (read k f r) (here q) h = held (ap (λ (o : Operation). o.entry) (sym q) ∙ f)
returned_from (read {x = w} k f r) (there i) h = go (returned_from r i h)
  where
    go : {x : Operation} {e : Option Entry} {l : List Operation} → From e l x → From e (w ∷ l) x
    go (held q) = held q
    go (from z t q b) = from z t q (later b)

-- ---- two reads with no write between them

pub entry_at_lem : {a b : Operation} → a ≡ b → a.entry ≡ b.entry
entry_at_lem e = ap (λ (o : Operation). o.entry) e

first_read : (e : Option Entry) (l : List Operation) (y : Operation) → Reads e l → In y l → y.kind ≡ READS → ((z : Operation) → z.kind ≡ WRITES → Before z y l → ⊥) → y.entry ≡ e
first_read e l y r i h n = go (returned_from r i h)
  where
    go : From e l y → y.entry ≡ e
    go (held q) = q
    go (from z t q b) = absurd (n z t b)

pub equal_reads : (e : Option Entry) (l : List Operation) (x y : Operation) → Reads e l → x.kind ≡ READS → y.kind ≡ READS → Before x y l
    → ((z : Operation) → z.kind ≡ WRITES → Before x z l → Before z y l → ⊥) → x.entry ≡ y.entry
equal_reads e [] x y _ hx hy x8 n = elim x8 [ ]
equal_reads e (w ∷ l) x y (write k r) hx hy (now q i) n = absurd (omega (arith, ap (λ (o : Operation). o.kind) q))
equal_reads e (w ∷ l) x y (write k r) hx hy (later b) n = equal_reads w.entry l x y r hx hy b (λ z t f g. n z t (later f) (later g))
equal_reads e (w ∷ l) x y (read k f r) hx hy (now q i) n =
    ap (λ (o : Operation). o.entry) (sym q) ∙ f ∙ sym (first_read e l y r i hy (λ z t b. n z t (now q (before_in b)) (later b)))
equal_reads e (w ∷ l) x y (read k f r) hx hy (later b) n = equal_reads e l x y r hx hy b (λ z t f g. n z t (later f) (later g))
