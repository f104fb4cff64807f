-- What the check does not find alone.
use Rattle.view_changes.specs.Restarts.{end_walk, emptied_image}
use Rattle.view_changes.proofs.restarts.empty.Goals as goal

pub unlink-requires : goal.unlink-requires
unlink-requires c =
    end_walk c.requires _ c.load_message-q.ensures

pub returns : goal.returns
returns c =
    emptied_image c.requires _ _ c.load_message-q.ensures c.linked.ensures c.unlink.ensures c.store_message.ensures
