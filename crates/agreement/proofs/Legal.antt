-- A list of operations in the order of their keys: each read returns the last write before it. Assumes nothing.
use Rattle.std.proofs.Common.{arith, sym, ap, ◌∙◌, inl, inr}
use Rattle.std.specs.Prelude.{◌≡◌, refl, ◌⊎◌, List, [], ◌∷◌, map, Some}
use Rattle.protocol.specs.declared.Entry.{Entry}
use Rattle.protocol.specs.Clients.{WRITES, READS}
use Rattle.protocol.specs.Consistent.{Operation, In, here, there, Reads, end, write, read}
use Rattle.protocol.proofs.Laws.Entries.{≼_refl}
use Rattle.agreement.specs.Lists.{Rising, next}
use Rattle.agreement.specs.Precedence.{◌≺◌, Level, Key, Precedes, by_stamp, by_kind, by_read}
use Rattle.agreement.proofs.Precedence.{≺_not, precedes_≼, precedes_≺}

module _ {A : Type 0} (key : A → Key) (op : A → Operation) where
  abbrev Ahead : A → A → Type 0
  Ahead x y = Precedes (key x) (key y)

  -- an element stands for an operation with its kind and entry
  pub record Stand (x : A) : Type 0 where
    pub kind : (op x).kind ≡ (key x).kind
    pub entry : (op x).entry ≡ Some (key x).entry
    pub kinds : ((key x).kind ≡ WRITES) ⊎ ((key x).kind ≡ READS)

  -- where the entry of a read comes from: e, or a write of the list
  pub data Source (e : Entry) (l : List A) (x : A) : Type 0 where
    held : (key x).entry ≡ e → Source e l x
    from : (y : A) → In y l → (key y).kind ≡ WRITES → (key y).entry ≡ (key x).entry → Source e l x

  -- what is asked of the operations l after a write of e
  pub record Asks (e : Entry) (l : List A) : Type 0 where
    pub stand : (x : A) → In x l → Stand x
    pub above : (x : A) → In x l → (key x).kind ≡ WRITES → e ≺ (key x).entry
    pub unique : (x y : A) → In x l → In y l → (key x).kind ≡ WRITES → (key y).kind ≡ WRITES → Level (key x).entry (key y).entry → x ≡ y
    pub source : (x : A) → In x l → (key x).kind ≡ READS → Source e l x

  module _ {e : Entry} {x : A} {l : List A} (h : (y : A) → In y l → Ahead x y) (a : Asks e (x ∷ l)) where
    after_write : (key x).kind ≡ WRITES → Asks (key x).entry l
    after_write k =
        record {
          stand = λ y i. a.stand y (there i);
          above = λ y i q. rises y i q (h y i);
          unique = λ y z i j. a.unique y z (there i) (there j);
          source = λ y i q. go y i (a.source y (there i) q);
        }
      where
        rises : (y : A) → In y l → (key y).kind ≡ WRITES → Ahead x y → (key x).entry ≺ (key y).entry
        rises y i q (by_stamp s) = s
        rises y i q (by_kind b s) = absurd (omega arith)
        rises y i q (by_read b r s) = let z = a.unique x y (here refl) (there i) k q b in absurd (omega (arith, ap (λ (o : A). (key o).read) z))

        go : (y : A) → In y l → Source e (x ∷ l) y → Source (key x).entry l y
        go y i (held q) = ≺_not (a.above x (here refl) k) (rw q at (precedes_≼ (h y i)))
        go y i (from z (here r) t q) = held (sym q ∙ ap (λ (o : A). (key o).entry) (sym r))
        go y i (from z (there j) t q) = from z j t q

    after_read : (key x).kind ≡ READS → Asks e l
    after_read k =
        record {
          stand = λ y i. a.stand y (there i);
          above = λ y i. a.above y (there i);
          unique = λ y z i j. a.unique y z (there i) (there j);
          source = λ y i q. go y (a.source y (there i) q);
        }
      where
        go : (y : A) → Source e (x ∷ l) y → Source e l y
        go y (held q) = held q
        go y (from z (here r) t q) = absurd (omega (arith, ap (λ (o : A). (key o).kind) r))
        go y (from z (there j) t q) = from z j t q

    read_entry : (key x).kind ≡ READS → (key x).entry ≡ e
    read_entry k = go (a.source x (here refl) k)
      where
        go : Source e (x ∷ l) x → (key x).entry ≡ e
        go (held q) = q
        go (from z (here r) t q) = absurd (omega (arith, ap (λ (o : A). (key o).kind) r))
        go (from z (there j) t q) = ≺_not (precedes_≺ (h z j) (omega arith)) (rw q (≼_refl (key x).entry))

  -- each read returns the last write before it
  pub legal : (e : Entry) (l : List A) → Rising Ahead l → Asks e l → Reads (Some e) (map op l)
  legal e [] s a = end
  legal e (x ∷ l) (next h s) a = go b.kinds (legal (key x).entry l s) (legal e l s)
    where
      b : Stand x
      b = a.stand x (here refl)

      go : ((key x).kind ≡ WRITES) ⊎ ((key x).kind ≡ READS) → (Asks (key x).entry l → Reads (Some (key x).entry) (map op l)) → (Asks e l → Reads (Some e) (map op l)) → Reads (Some e) (op x ∷ map op l)
      go (inl k) f g = let r : Reads (op x).entry (map op l) = rw b.entry (f (after_write h a k)) in write (b.kind ∙ k) r
      go (inr k) f g = read (b.kind ∙ k) (b.entry ∙ ap Some (read_entry h a k)) (g (after_read h a k))
