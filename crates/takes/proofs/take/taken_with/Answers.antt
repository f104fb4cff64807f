-- What the check does not find alone.
use Rattle.takes.specs.Takes.{request_low, head_walk}
use Rattle.takes.specs.Gathered.{gathers_taken}
use Rattle.takes.proofs.take.taken_with.Goals as goal

pub load_message-q-requires : goal.load_message-q-requires
load_message-q-requires c = request_low c.requires _ c.load_message-m.ensures

pub gather-answers-requires : goal.gather-answers-requires
gather-answers-requires c =
    head_walk c.requires _ c.load_message-m.ensures _ c.load_message-q.ensures

pub returns : goal.returns
returns c =
    gathers_taken c.requires _ c.load_message-m.ensures _ c.load_message-q.ensures c.args.size _ _ _ _ c.alone.ensures
    c.new-first.ensures c.gather-answers.ensures _ c.opened.ensures c.closes.ensures
