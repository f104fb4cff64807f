-- What the check does not find alone.
use Rattle.std.proofs.Common.{rules}
use Rattle.shorten.specs.Trials.{begun_legible, begun_played, trial_stops, trial_ends}
use Rattle.shorten.proofs.shorten.Start.refusal_without.Goals as goal

pub play-first-requires : goal.play-first-requires
play-first-requires c = search (begun_legible, rules) depth 7 fits 4000

pub returns-then-first-place : goal.returns-then-first-place
returns-then-first-place c = search (trial_stops, rules) depth 7 fits 4000

pub play-requires : goal.play-requires
play-requires c = begun_played c.args.self.view c.args.self.begins _ c.write.ensures _ _ _ c.play-first.ensures

pub returns : goal.returns
returns c = search (trial_ends, rules) depth 7 fits 4000
