-- What the check does not find alone.
use Rattle.takes.specs.Takes.{request_low, linked_image}
use Rattle.takes.proofs.take.link.Goals as goal

pub load_message-q-requires : goal.load_message-q-requires
load_message-q-requires c = request_low c.requires _ c.load_message-a.ensures

pub store_message-requires-2 : goal.store_message-requires-2
store_message-requires-2 c = request_low c.requires _ c.load_message-a.ensures

pub returns : goal.returns
returns c =
    linked_image c.requires _ c.load_message-a.ensures _ c.load_message-q.ensures _ _ c.linked.ensures c.linked-2.ensures c.store_message.ensures
    c.store_message-2.ensures
