-- What the check does not find alone.
use Rattle.std.proofs.Common.{sym, ap, ◌∙◌}
use Rattle.std.proofs.Math.Path.{refl}
use Rattle.codec.specs.Images.{decode}
use Rattle.protocol.specs.Steps.{row_of, new_view, restarts}
use Rattle.protocol.proofs.Laws.Kinds.{client_of_lem as who_client, server_of_lem as who_server, source_of}
use Rattle.mail.specs.Stored.{by}
use Rattle.world.specs.Performs.{is_kind, is_named, as_write, as_read, as_deliver, as_take, as_fault, as_false, as_view, as_give_up, as_restart}
use Rattle.world.proofs.step.perform.Goals as goal

pub returns-in_default : goal.returns-in_default
returns-in_default c = absurd (is_named c.args.st c.requires.1 c.in_default.is c.try_from.ensures)

pub begins-requires : goal.begins-requires
unfolding row_of
begins-requires c = let i = who_client c.args.st 1 c.requires.1 (is_kind c.args.st c.in-Ok.is c.in-Write.is c.try_from.ensures) refl in (c.requires.0, i.low, i.high)

pub begins-requires-in-Read : goal.begins-requires-in-Read
unfolding row_of
begins-requires-in-Read c = let i = who_client c.args.st 2 c.requires.1 (is_kind c.args.st c.in-Ok.is c.in-Read.is c.try_from.ensures) refl in (c.requires.0, i.low, i.high)

pub deliver-requires : goal.deliver-requires
unfolding row_of
deliver-requires c = let i = who_server c.args.st 3 c.requires.1 (is_kind c.args.st c.in-Ok.is c.in-Deliver.is c.try_from.ensures) refl refl in (c.requires.0, i.low, i.high)

pub fault-requires : goal.fault-requires
unfolding row_of
fault-requires c = let i = who_server c.args.st 5 c.requires.1 (is_kind c.args.st c.in-Ok.is c.in-Fault.is c.try_from.ensures) refl refl in (c.requires.0, i.low, i.high)

pub false_answer-requires : goal.false_answer-requires
unfolding row_of
false_answer-requires c =
    let i = who_server c.args.st 6 c.requires.1 (is_kind c.args.st c.in-Ok.is c.in-FalseAnswer.is c.try_from.ensures) refl refl in
    (c.requires.0, i.low, i.high, source_of c.args.st c.requires.1)

pub gives_up-requires : goal.gives_up-requires
unfolding row_of
gives_up-requires c = let i = who_client c.args.st 8 c.requires.1 (is_kind c.args.st c.in-Ok.is c.in-GiveUp.is c.try_from.ensures) refl in (c.requires.0, i.low, i.high)

pub returns-in-Write : goal.returns-in-Write
returns-in-Write c = by (as_write (decode c.args.image.now) c.args.st (is_kind c.args.st c.in-Ok.is c.in-Write.is c.try_from.ensures)) (rw c.from.ensures at c.begins.ensures)

pub returns-in-Read : goal.returns-in-Read
returns-in-Read c = by (as_read (decode c.args.image.now) c.args.st (is_kind c.args.st c.in-Ok.is c.in-Read.is c.try_from.ensures)) (rw c.from-in-Read.ensures at c.begins-in-Read.ensures)

pub returns-in-Deliver : goal.returns-in-Deliver
returns-in-Deliver c = by (as_deliver (decode c.args.image.now) c.args.st (is_kind c.args.st c.in-Ok.is c.in-Deliver.is c.try_from.ensures)) c.deliver.ensures

pub returns-in-Take : goal.returns-in-Take
returns-in-Take c = by (as_take (decode c.args.image.now) c.args.st (is_kind c.args.st c.in-Ok.is c.in-Take.is c.try_from.ensures)) c.take.ensures

pub returns-in-Fault : goal.returns-in-Fault
returns-in-Fault c = by (as_fault (decode c.args.image.now) c.args.st (is_kind c.args.st c.in-Ok.is c.in-Fault.is c.try_from.ensures)) c.fault.ensures

pub returns-in-FalseAnswer : goal.returns-in-FalseAnswer
returns-in-FalseAnswer c = by (as_false (decode c.args.image.now) c.args.st (is_kind c.args.st c.in-Ok.is c.in-FalseAnswer.is c.try_from.ensures)) c.false_answer.ensures

pub returns-in-GiveUp : goal.returns-in-GiveUp
returns-in-GiveUp c = by (as_give_up (decode c.args.image.now) c.args.st (is_kind c.args.st c.in-Ok.is c.in-GiveUp.is c.try_from.ensures)) c.gives_up.ensures

pub returns-in-NewView : goal.returns-in-NewView
returns-in-NewView c =
    let k = is_kind c.args.st c.in-Ok.is c.in-NewView.is c.try_from.ensures in
    by (as_view (decode c.args.image.now) c.args.st k ∙ ap (new_view (decode c.args.image.now)) (sym c.view_asked.ensures)) c.new_view.ensures

pub returns-in-Restart : goal.returns-in-Restart
returns-in-Restart c =
    let k = is_kind c.args.st c.in-Ok.is c.in-Restart.is c.try_from.ensures in
    by (as_restart (decode c.args.image.now) c.args.st k ∙ ap (restarts (decode c.args.image.now)) (sym c.view_asked-in-Restart.ensures)) c.restarts.ensures
