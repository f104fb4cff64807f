-- What the check does not find alone.
use Rattle.protocol.specs.Worlds.{fresh_world}
use Rattle.shorten.specs.Trials.{held_steps, held_below, step_stays, step_goes}
use Rattle.shorten.proofs.shorten.Start.drop_step.Goals as goal

pub refusal_without-stop-requires : goal.refusal_without-stop-requires
refusal_without-stop-requires c =
    let a = c.args in held_below a.shorter.now a.steps c.requires.0 (held_steps a.shorter.now a.steps c.requires.0 c.as_chunks.ensures.front) a.place c.requires.1

pub returns-then-not-is_stop : goal.returns-then-not-is_stop
returns-then-not-is_stop c =
    let a = c.args in let (h, b) = c.requires in
    step_stays (fresh_world a.self.view) a.refusal a.shorter.now a.steps a.place h b _ (held_steps a.shorter.now a.steps h c.as_chunks.ensures.front) c.refusal_without-stop.ensures
    c.if-not-is_stop.ensures

pub returns : goal.returns
returns c =
    let a = c.args in let (h, b) = c.requires in
    step_goes (fresh_world a.self.view) a.refusal a.shorter.now a.steps a.place h b _ (held_steps a.shorter.now a.steps h c.as_chunks.ensures.front) c.refusal_without-stop.ensures _
    c.if-not-is_stop.ensures c.remove.ensures
