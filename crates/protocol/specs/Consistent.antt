-- Demand 3's claim about a history of operations. Assumes nothing.
use Rattle.std.specs.Prelude.{ℕ, ◌<◌, ◌≡◌, ◌↔◌, List, [], ◌∷◌, Option, Some}
use Rattle.protocol.specs.Types.{Entry}
use Rattle.protocol.specs.Entries.{empty}
use Rattle.protocol.specs.Clients.{WRITES, READS}

-- kind 1 write or 2 read; the places of its begin and end (0, unfinished); its entry, if it has one
pub record Operation : Type 0 where
  pub kind : ℕ
  pub begin : ℕ
  pub end : ℕ
  pub entry : Option Entry

-- x stands in a list; x stands before y in it; no two places of it hold one operation
pub data In {A : Type 0} (x : A) : List A → Type 0 where
  here : {y : A} {l : List A} → y ≡ x → In x (y ∷ l)
  there : {y : A} {l : List A} → In x l → In x (y ∷ l)

pub data Before (x y : Operation) : List Operation → Type 0 where
  now : {z : Operation} {l : List Operation} → z ≡ x → In y l → Before x y (z ∷ l)
  later : {z : Operation} {l : List Operation} → Before x y l → Before x y (z ∷ l)

pub data Once : List Operation → Type 0 where
  none : Once []
  one : {x : Operation} {l : List Operation} → (In x l → ⊥) → Once l → Once (x ∷ l)

abbrev pub Completed : Operation → Type 0
Completed x = 0 < x.end

-- a completed read returned the entry of x: "Reads are equal if their entries agree in every field"
pub record Returned (h : List Operation) (x : Operation) : Type 0 where
  pub by : Operation
  pub held : In by h
  pub read : by.kind ≡ READS
  pub completed : Completed by
  pub same : by.entry ≡ x.entry

-- "all completed operations and ... those unfinished writes whose entry a completed read returned"
pub data Stands (h : List Operation) (x : Operation) : Type 0 where
  completed : Completed x → Stands h x
  surfaced : x.kind ≡ WRITES → x.end ≡ 0 → Returned h x → Stands h x

-- "an operation that ended before another began comes first"
pub record Ended (x y : Operation) : Type 0 where
  pub completed : Completed x
  pub before : x.end < y.begin

-- "a read returns the entry of the last write before it": e is that of the last write before the list,
-- "or the empty entry if no write is before it"
pub data Reads : Option Entry → List Operation → Type 0 where
  end : {e : Option Entry} → Reads e []
  write : {e : Option Entry} {x : Operation} {l : List Operation} → x.kind ≡ WRITES → Reads x.entry l → Reads e (x ∷ l)
  read : {e : Option Entry} {x : Operation} {l : List Operation} → x.kind ≡ READS → x.entry ≡ e → Reads e l → Reads e (x ∷ l)

-- a write is between two "if the order has it after one and before the other"
pub record Between (order : List Operation) (x y : Operation) : Type 0 where
  pub by : Operation
  pub write : by.kind ≡ WRITES
  pub after : Before x by order
  pub before : Before by y order

-- one order of the operations of a history
pub record Ordered (h order : List Operation) : Type 0 where
  pub once : Once order
  pub members : (x : Operation) → In x order ↔ (In x h × Stands h x)
  pub real_time : (x y : Operation) → In x order → In y order → Ended x y → Before x y order
  pub reads : Reads (Some empty) order
  -- "Two completed reads are equal exactly when no write stands between them."
  pub equal : (x y : Operation) → x.kind ≡ READS → y.kind ≡ READS → Before x y order → (x.entry ≡ y.entry) ↔ (Between order x y → ⊥)

-- "the completed operations have one order"
pub record Consistent (h : List Operation) : Type 0 where
  pub order : List Operation
  pub ordered : Ordered h order
