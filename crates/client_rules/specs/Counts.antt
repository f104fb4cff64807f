-- The count that a write of its own needs. Assumes nothing.
use Rattle.std.specs.Prelude.{leb, Option, None, Some}
use Rattle.protocol.specs.declared.Entry.{Entry}
use Rattle.protocol.specs.declared.Client.{Client}
use Rattle.protocol.specs.declared.StampCount.{StampCount}
use Rattle.protocol.specs.Tools.{if}
use Rattle.protocol.specs.Sizes.{last_count}
use Rattle.protocol.specs.Clients.{next_count}

-- the next count, if one is left
abbrev pub count_next : Client → Entry → Option StampCount
count_next c e = if (leb (next_count c e) last_count) (Some (record { 0 = next_count c e })) None
