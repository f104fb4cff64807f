-- What the check does not find alone.
use Rattle.std.proofs.Common.{sym}
use Rattle.std.proofs.lemmas.Result.{err_from_is_err_and}
use Rattle.mail.specs.Stored.{passed_on, by}
use Rattle.deliveries.specs.Delivers.{sent_low, tag_low, absent, deliver_no, deliver_kept, deliver_correct, deliver_answers}
use Rattle.deliveries.proofs.servers.deliver.Goals as goal

pub returns-then-not-present : goal.returns-then-not-present
returns-then-not-present c = absent c.requires.0 c.args.s.0 c.args.n.0 (sym c.if-not-present.ensures)

pub load_message-m-requires : goal.load_message-m-requires
load_message-m-requires c = sent_low c.requires.0 _ (sym c.if-not-present.ensures)

pub is_member-requires : goal.is_member-requires
is_member-requires c = tag_low c.requires.0 _ _ c.load_message-m.ensures (sym c.if-not-present.ensures)

pub returns-in_err-served : goal.returns-in_err-served
returns-in_err-served c =
    let r = c.requires in
    passed_on (err_from_is_err_and _ c.from_residual.ensures.1)
    (deliver_no r.0 c.args.s.0 c.args.n.0 r.1 r.2 (sym c.if-not-present.ensures) _ _ _ _ c.load_message-m.ensures c.load_server-a.ensures c.is_member.ensures c.serve.ensures _ c.in_err-served.was)

pub returns-in_default : goal.returns-in_default
returns-in_default c =
    let r = c.requires in
    deliver_kept r.0 c.args.s.0 c.args.n.0 r.1 r.2 (sym c.if-not-present.ensures) _ _ _ _ c.load_message-m.ensures c.load_server-a.ensures c.is_member.ensures c.serve.ensures _ c.in_ok-served.was _
    c.in_default.is c.keep_started.ensures

pub reply-requires : goal.reply-requires
reply-requires c =
    let r = c.requires in
    let f = deliver_correct r.0 c.args.s.0 c.args.n.0 r.1 r.2 (sym c.if-not-present.ensures) _ _ _ _ c.load_message-m.ensures c.load_server-a.ensures
    c.is_member.ensures c.serve.ensures _ c.in_ok-served.was _ c.in-Some.is in
    (r.0, r.1, r.2, f.0, f.1)

pub returns : goal.returns
returns c =
    let r = c.requires in
    by
    (deliver_answers r.0 c.args.s.0 c.args.n.0 r.1 r.2 (sym c.if-not-present.ensures) _ _ _ _ c.load_message-m.ensures c.load_server-a.ensures
    c.is_member.ensures c.serve.ensures _ c.in_ok-served.was _ c.in-Some.is)
    c.reply.ensures
