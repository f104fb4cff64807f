-- The server's rule as it was before WRITE took the sequence of document 000, for the comparison alone: no other file uses it.
-- `serve_as_before` for every server, message and membership, `deliver_as_before` for every world: the rule and the step are the
-- former ones, refusals included. Assumes nothing.
use Rattle.std.specs.Prelude.{ℕ, Bool, not, ◌≡◌, refl, eqb}
use Rattle.protocol.specs.Types.{Entry, Server, Message}
use Rattle.protocol.specs.Tools.{if, within, holds, Result, done, guard, then}
use Rattle.protocol.specs.Entries.{larger}
use Rattle.protocol.specs.Servers.{READ, WRITE, START, Reply, answering, comparing, replacing, read, write, end, start, serve}
use Rattle.protocol.specs.Worlds.{World, server, message, member, present}
use Rattle.protocol.specs.Steps.{After, answers, deliver}

-- "it first keeps the larger stamp of its own and the written entry (equal stamps: its own)"
unfoldable keeping : Server → Entry → Server
keeping a e = record { view = a.view; faulty = a.faulty; keys = a.keys; entry = larger a.entry e }

-- "WRITE (2): it first keeps the larger stamp ..., then answers likewise."
abbrev former_write : Server → Message → Result Reply
former_write a m = done (answering (keeping a m.entry) (keeping a m.entry))

unfoldable former_serve : Server → Message → Bool → Result Reply
former_serve a m member =
    guard (within READ START m.kind) 5
    (if (eqb m.kind START) (start a m member)
    (guard (not a.faulty) 6
    (guard (holds a.keys.0 a.view.0) 7
    (if (eqb m.kind READ) (read a m)
    (if (eqb m.kind WRITE) (former_write a m) (end a m))))))

unfoldable former_deliver : World → ℕ → ℕ → Result After
former_deliver w s n =
    guard (present w n) 5
    (then (former_serve (server w s) (message w n) (member w (message w n).view.0 s)) (λ r. answers r.answer w s n r.server))

write_as_before : (a : Server) (m : Message) → done (write a m.entry) ≡ former_write a m
unfolding comparing replacing keeping larger
write_as_before a m = refl

serve_as_before : (a : Server) (m : Message) (member : Bool) → serve a m member ≡ former_serve a m member
unfolding serve former_serve
serve_as_before a m member = rw (write_as_before a m) refl

deliver_as_before : (w : World) (s n : ℕ) → deliver w s n ≡ former_deliver w s n
unfolding deliver former_deliver
deliver_as_before w s n = rw (serve_as_before (server w s) (message w n) (member w (message w n).view.0 s)) refl
