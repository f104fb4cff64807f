-- What the check does not find alone.
use Rattle.shorten.specs.Trials.{begun_legible}
use Rattle.shorten.proofs.Ends.{copied_held, none_left, some_left}
use Rattle.shorten.proofs.shorten.Start.reduce.Goals as goal

pub play-requires : goal.play-requires
play-requires c = let v = c.args.self in begun_legible v.view v.begins _ c.requires.0

pub returns-in_default : goal.returns-in_default
returns-in_default c =
    let v = c.args.self in
    none_left v.view v.begins _ c.args.journal.now _ c.requires.0 c.as_chunks.ensures.front _ _ c.play.ensures _ c.in_default.is c.write.ensures

pub passes-left-requires : goal.passes-left-requires
passes-left-requires c =
    copied_held c.args.shorter.now c.args.journal.now _ c.as_chunks.ensures.front_len c.requires.1 c.requires.2 c.put_bytes.ensures

pub returns : goal.returns
returns c =
    let v = c.args.self in
    some_left v.view v.begins _ c.args.journal.now _ c.requires.0 c.as_chunks.ensures.front _ _ c.play.ensures _ _ _ _ _ c.in-Some.is c.requires.2 c.put_bytes.ensures c.as_chunks.ensures.front_len
    c.passes-left.ensures c.write-2.ensures
