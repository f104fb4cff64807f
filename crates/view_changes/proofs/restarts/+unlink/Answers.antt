-- What the check does not find alone.
use Rattle.std.proofs.Common.{arith}
use Rattle.takes.specs.Takes.{walk_low, walk_on}
use Rattle.view_changes.specs.Restarts.{unlink_zero, unlink_none, unlink_on}
use Rattle.view_changes.proofs.restarts.+unlink.Goals.{then-n-eq0-via-then-n-eq0, then-n-eq0-via-else-n-eq0+then-left-eq0}
use Rattle.view_changes.proofs.restarts.+unlink.Goals as goal

pub returns-then-n-eq0 : goal.returns-then-n-eq0
returns-then-n-eq0 t c =
    elim c.then-n-eq0.branch [
      | then-n-eq0-via-then-n-eq0 w ↦ unlink_zero c.requires w.if-n-eq0.true
      | then-n-eq0-via-else-n-eq0+then-left-eq0 w ↦ unlink_none c.requires w.if-left-eq0.true
    ]

pub load_message-m-requires : goal.load_message-m-requires
load_message-m-requires t c = walk_low c.requires (omega arith) (omega arith)

pub unlink-requires : goal.unlink-requires
unlink-requires t c =
    let h = c.requires in
    (omega arith, walk_on h (omega arith) (omega arith) _ c.load_message-m.ensures)

pub store_message-requires : goal.store_message-requires
store_message-requires t c = walk_low c.requires (omega arith) (omega arith)

pub returns : goal.returns
returns t c =
    let h = c.requires in
    unlink_on h (omega arith) (omega arith) _ _ c.load_message-m.ensures c.linked.ensures c.unlink.ensures c.store_message.ensures
