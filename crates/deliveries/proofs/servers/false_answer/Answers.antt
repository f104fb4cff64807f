-- What the check does not find alone.
use Rattle.std.proofs.Common.{sym}
use Rattle.std.proofs.lemmas.Result.{err_from_is_err_and}
use Rattle.mail.specs.Stored.{passed_on}
use Rattle.deliveries.specs.Delivers.{sent_low, unasked, lie_no, lie_full, lie_done}
use Rattle.deliveries.proofs.servers.false_answer.Goals as goal

pub returns-then-not-present : goal.returns-then-not-present
returns-then-not-present c =
    let a = c.args in unasked c.requires.0 a.s.0 a.t.0 a.n.0 a.source.0 (sym c.if-not-present.ensures)

pub load_message-asked-requires : goal.load_message-asked-requires
load_message-asked-requires c = sent_low c.requires.0 _ (sym c.if-not-present.ensures)

pub returns-in_err-may_answer : goal.returns-in_err-may_answer
returns-in_err-may_answer c =
    let r = c.requires in let a = c.args in
    passed_on (err_from_is_err_and _ c.from_residual.ensures.1)
    (lie_no r.0 a.s.0 a.t.0 a.n.0 a.source.0 r.1 r.2 (sym c.if-not-present.ensures) _ _ _ _ c.load_message-asked.ensures c.load_server-a.ensures
    c.is_source.ensures c.may_answer.ensures _ c.in_err-may_answer.was)

pub returns-in_err-number : goal.returns-in_err-number
returns-in_err-number c =
    let r = c.requires in let a = c.args in
    passed_on (err_from_is_err_and _ c.from_residual-in_err-number.ensures.1)
    (lie_full r.0 a.s.0 a.t.0 a.n.0 a.source.0 r.1 r.2 (sym c.if-not-present.ensures) _ _ _ _ c.load_message-asked.ensures c.load_server-a.ensures
    c.is_source.ensures c.may_answer.ensures _ c.in_ok-may_answer.was _ c.in_err-number.ensures)

pub returns : goal.returns
returns c =
    let r = c.requires in let a = c.args in
    lie_done r.0 a.s.0 a.t.0 a.n.0 a.source.0 r.1 r.2 (sym c.if-not-present.ensures) _ _ _ _ c.load_message-asked.ensures c.load_server-a.ensures
    c.is_source.ensures c.may_answer.ensures _ c.in_ok-may_answer.was _
    c.in_ok-number.ensures c.shown_entry-entry.ensures c.answer.ensures c.send.ensures
