-- The order of operations: by stamp, writes before reads, by the number of their READ. Assumes nothing.
use Rattle.std.specs.Prelude.{ℕ, ◌<◌, ◌≡◌}
use Rattle.protocol.specs.declared.Entry.{Entry}
use Rattle.protocol.specs.Entries.{count_of, writer_of}

infix 50 ◌≺◌
-- the stamp of a is below that of b; the two are one stamp
pub data ◌≺◌ (a b : Entry) : Type 0 where
  count : count_of a < count_of b → a ≺ b
  writer : count_of a ≡ count_of b → writer_of a < writer_of b → a ≺ b

pub record Level (a b : Entry) : Type 0 where
  pub count : count_of a ≡ count_of b
  pub writer : writer_of a ≡ writer_of b

-- what an operation is ordered by
pub record Key : Type 0 where
  pub entry : Entry
  pub kind : ℕ
  pub read : ℕ

pub data Precedes (x y : Key) : Type 0 where
  by_stamp : x.entry ≺ y.entry → Precedes x y
  by_kind : Level x.entry y.entry → x.kind < y.kind → Precedes x y
  by_read : Level x.entry y.entry → x.kind ≡ y.kind → x.read < y.read → Precedes x y
