-- What the check does not find alone.
use mathlib.Core.Path.{ap, ◌∙◌}
use mathlib.Core.Bool.{true}
use mathlib.Core.List.{List}
use Prim.Native.Nat.{ℕ}
use Rattle.codec.specs.Places.{put_server}
use Rattle.deliveries.specs.Delivers.{fault_no, fault_done}
use borrow.Author.Rules.{rules}
use Rattle.deliveries.proofs.servers.fault.Goals as goal

pub returns-then-a : goal.returns-then-a
returns-then-a c = search (fault_no, rules) depth 7 fits 4000

pub returns : goal.returns
returns c =
    let x = c.load_server-a in
    fault_done c.requires.0 c.args.s.0 c.requires.1 c.requires.2 x.result x.ensures _ c.if-a.false
    (c.store_server.ensures ∙ ap (λ (i : List ℕ). put_server i c.args.s.0
    (record { view = x.result.view; faulty = true; keys = x.result.keys; entry = x.result.entry })) c.raise.ensures)
