-- What the check does not find alone.
use Rattle.std.proofs.Common.{true, false, sym, ap, ◌∙◌}
use Rattle.protocol.specs.declared.Message.{Message}
use Rattle.protocol.specs.declared.refusals.Refusal.TheVariants.{NoMessage, NotApplicable}
use Rattle.codec.specs.Images.{decode}
use Rattle.mail.specs.Stored.{refuses, by}
use Rattle.takes.specs.Takes.{client_taken, sent_low, sent_kind, sent_mark, takable_at, request_low, request_is, asked_kind, asked_at, open_known, asked_end, take_missing, take_other, take_again, take_closed, take_end, take_client}
use Rattle.takes.proofs.take.take.Goals as goal

pub returns-then-not-present : goal.returns-then-not-present
returns-then-not-present c =
    let a = c.args in refuses NoMessage a.image.now _ (take_missing (decode a.image.now) a.k.0 (sym c.if-not-present.ensures))

pub load_message-m-requires : goal.load_message-m-requires
load_message-m-requires c = sent_low c.requires _ c.if-not-present.ensures

pub returns-then-not-is : goal.returns-then-not-is
returns-then-not-is c =
    let a = c.args in
    refuses NoMessage a.image.now _
    (take_other (decode a.image.now) a.k.0 (sym c.if-not-present.ensures) (sent_kind c.requires _ c.if-not-present.ensures _ c.load_message-m.ensures false c.if-not-is.ensures))

pub returns-then-m : goal.returns-then-m
returns-then-m c =
    let a = c.args in
    refuses NotApplicable a.image.now _
    (take_again (decode a.image.now) a.k.0 (sym c.if-not-present.ensures)
    (sent_kind c.requires _ c.if-not-present.ensures _ c.load_message-m.ensures true c.if-not-is.ensures)
    (sent_mark c.requires _ c.if-not-present.ensures _ c.load_message-m.ensures true c.if-m.true))

pub load_message-q-requires : goal.load_message-q-requires
load_message-q-requires c =
    let h = takable_at c.requires _ c.if-not-present.ensures _ c.load_message-m.ensures c.if-not-is.ensures c.if-m.false in
    request_low h _ c.load_message-m.ensures

pub is_open-requires : goal.is_open-requires
is_open-requires c =
    let h = takable_at c.requires _ c.if-not-present.ensures _ c.load_message-m.ensures c.if-not-is.ensures c.if-m.false in
    asked_at h _ c.load_message-m.ensures _ c.load_message-q.ensures

pub returns-then-not-is_open : goal.returns-then-not-is_open
returns-then-not-is_open c =
    let h = takable_at c.requires _ c.if-not-present.ensures _ c.load_message-m.ensures c.if-not-is.ensures c.if-m.false in
    refuses NotApplicable c.args.image.now _ (take_closed h (sym (open_known h _ c.load_message-m.ensures _ c.if-not-is_open.ensures)))

pub take_end-requires : goal.take_end-requires
take_end-requires c =
    let h = takable_at c.requires _ c.if-not-present.ensures _ c.load_message-m.ensures c.if-not-is.ensures c.if-m.false in
    let o = sym (open_known h _ c.load_message-m.ensures _ c.if-not-is_open.ensures) in
    (h, asked_end h (asked_kind h _ c.load_message-m.ensures _ c.load_message-q.ensures true c.if-is.ensures) o)

pub returns-then-is : goal.returns-then-is
returns-then-is c =
    let h = takable_at c.requires _ c.if-not-present.ensures _ c.load_message-m.ensures c.if-not-is.ensures c.if-m.false in
    let o = sym (open_known h _ c.load_message-m.ensures _ c.if-not-is_open.ensures) in
    by (take_end h o (asked_kind h _ c.load_message-m.ensures _ c.load_message-q.ensures true c.if-is.ensures)) c.take_end.ensures

pub take_client-requires : goal.take_client-requires
take_client-requires c =
    let h = takable_at c.requires _ c.if-not-present.ensures _ c.load_message-m.ensures c.if-not-is.ensures c.if-m.false in
    let (l, u) = (asked_at h _ c.load_message-m.ensures _ c.load_message-q.ensures).client c.if-is.ensures in
    (h, l, u)

pub returns-else-is : goal.returns-else-is
returns-else-is c =
    let a = c.args in
    let h = takable_at c.requires _ c.if-not-present.ensures _ c.load_message-m.ensures c.if-not-is.ensures c.if-m.false in
    let o = sym (open_known h _ c.load_message-m.ensures _ c.if-not-is_open.ensures) in
    by
    (take_client h o (asked_kind h _ c.load_message-m.ensures _ c.load_message-q.ensures false c.if-is.ensures)
    ∙ ap (λ (m : Message). client_taken (decode a.image.now) a.k.0 m.sender) (sym (request_is h _ c.load_message-m.ensures _ c.load_message-q.ensures)))
    c.take_client.ensures
