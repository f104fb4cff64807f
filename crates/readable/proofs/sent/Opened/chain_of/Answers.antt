-- What the check does not find alone.
use Rattle.std.proofs.Common.{sym, ◌∙◌, arith}
use Rattle.protocol.specs.Sizes.{messages}
use Rattle.codec.specs.Images.{decode}
use Rattle.codec.specs.Laws.{message_decode}
use Rattle.readable.specs.Walks.{chained, walked_broken}
use Rattle.readable.proofs.sent.Opened.chain_of.Goals as goal

pub returns-in-1024 : goal.returns-in-1024
unfolding chained
returns-in-1024 c =
    let i = c.args.self.now.image.now in
    let r = c.args.r.0 in
    let e = c.load_message-m.ensures ∙ sym (message_decode i r c.requires) in
    rw (← e, sym c.is_request.ensures ∙ c.if-not-is_request.false) (walked_broken (decode i) r messages _ 0 _ (omega arith) c.walk.ensures c.in-1024.is)
