-- What a judgement is about, free of any search: `operations` are those of a log's lines, and `OrderOf` says that a list is an
-- order of them "as the mission describes it, with stamps never falling along it". Everything else of this crate is proved
-- against `OrderOf`; the mission's order is `Ordered` of protocol, as it stands.
use Rattle.std.specs.Prelude.{ℕ, ◌≡◌, List, Some}
use Rattle.protocol.specs.declared.Entry.{Entry}
use Rattle.protocol.specs.Worlds.{list_to}
use Rattle.protocol.specs.Consistent.{Operation, Before, Ordered}
use Rattle.protocol.proofs.Laws.Entries.{◌≼◌}
use Rattle.judging.specs.declared.Logged.{Logged}

-- "begin number ..., end number (u16, 0 unfinished), kind (1 write, 2 read), entry"
abbrev pub logged_operation : Logged → Operation
logged_operation x = record { kind = x.kind; begin = x.begin; end = x.end; entry = Some x.entry }

-- the operations of the lines 1 to n
unfoldable pub operations : (ℕ → Logged) → ℕ → List Operation
operations line n = list_to (λ i. logged_operation (line i)) n

-- "stamps never falling along it"
pub record NeverFalling (order : List Operation) : Type 0 where
  pub never : (x y : Operation) → Before x y order → (e f : Entry) → x.entry ≡ Some e → y.entry ≡ Some f → e ≼ f

-- "an order exists as the mission describes it, with stamps never falling along it"
pub record OrderOf (h order : List Operation) : Type 0 where
  pub ordered : Ordered h order
  pub stamps : NeverFalling order
