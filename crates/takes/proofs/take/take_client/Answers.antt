-- What the check does not find alone.
use Rattle.protocol.specs.Steps.{link}
use Rattle.codec.specs.Images.{decode}
use Rattle.mail.specs.Stored.{does, by}
use Rattle.takes.specs.Takes.{view_low, size_known, once_known, client_open, client_closed}
use Rattle.takes.proofs.take.take_client.Goals as goal

pub load_view-v-requires : goal.load_view-v-requires
load_view-v-requires c = view_low c.requires.0 _ c.load_message-m.ensures

pub returns-in_default : goal.returns-in_default
returns-in_default c =
    let a = c.args in
    let w = decode a.image.now in
    let p = c.requires in
    let s = size_known p.0 a.c p.1 p.2 _ _ _ _ c.load_message-m.ensures c.load_view-v.ensures c.load_client.ensures c.close_size-size.ensures in
    does 0 (link w a.k.0) a.image.now _ _
    (client_open w a.k.0 c.taken_with.result c.close_size-size.result c.taken_with.ensures a.c s c.in_default.is) c.link.ensures

pub returns : goal.returns
returns c =
    let a = c.args in
    let p = c.requires in
    let s = size_known p.0 a.c p.1 p.2 _ _ _ _ c.load_message-m.ensures c.load_view-v.ensures c.load_client.ensures c.close_size-size.ensures in
    let o = once_known p.0 _ _ c.in-Some.x.one _ c.load_message-m.ensures c.load_view-v.ensures c.at_once.ensures in
    by
    (client_closed (decode a.image.now) a.k.0 c.taken_with.result c.close_size-size.result c.taken_with.ensures a.c s _ c.in-Some.is _ o)
    c.close_client.ensures
