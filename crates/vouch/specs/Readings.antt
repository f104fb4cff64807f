-- Document 001 tests only the candidate with the largest stamp: "it selects the pair with the highest timestamp, provided that it
-- is not countermanded": `provided`.
use Rattle.std.specs.Prelude.{ℕ, List, Option, None, Some}
use Rattle.protocol.specs.declared.Entry.{Entry}
use Rattle.protocol.specs.Tools.{if}
use Rattle.vouch.specs.Choices.{dropped}

-- the choice, unless it is dropped
abbrev pub provided : List ℕ → ℕ → Option Entry → Option Entry
provided l c None = None
provided l c (Some e) = if (dropped l c e) None (Some e)
