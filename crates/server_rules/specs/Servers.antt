-- The parts of a server's rule, and the rule for a view that a key can name. Assumes nothing.
use Rattle.std.specs.Prelude.{ℕ, ◌≤◌, Bool, not, ◌≡◌, leb, None, true, false, refl}
use Rattle.std.proofs.Common.{arith, sym}
use Rattle.std.proofs.Math.Dec.{eqb}
use borrow.Author.Tests.{le-leb}
use Rattle.std.proofs.lemmas.Grind.{common_steps}
use Rattle.protocol.specs.declared.Server.{Server}
use Rattle.protocol.specs.declared.Message.{Message}
use Rattle.protocol.specs.declared.Shown.{Shown}
use Rattle.protocol.specs.Tools.{if, holds, Result, refused, done, guard, number_of, within}
use Rattle.protocol.specs.Sizes.{views}
use Rattle.protocol.specs.declared.Reply.{Reply}
use Rattle.protocol.specs.Servers.{READ, WRITE, START, answering, without_key, gathering, joining, read, write, end, serve}

-- what a server answers with
abbrev pub shown_by : Server → Shown
shown_by a = record { view = a.view; entry = a.entry }

-- what a server that serves does on kinds 1 to 3
abbrev pub served_by_kind : Server → Message → Result Reply
served_by_kind a m = if (eqb m.kind READ) (read a m) (if (eqb m.kind WRITE) (done (write a m.entry)) (end a m))

-- kinds 1 to 3: a correct server serves them while it holds the key of its own view
abbrev pub requested : Server → Message → Result Reply
requested a m = guard (not a.faulty) 6 (guard (holds a.keys.0 a.view.0) 7 (served_by_kind a m))

-- the server's rule; 3 for a message whose view no key can name
unfoldable pub serve_in : Server → Message → Bool → Result Reply
serve_in a m member = guard (leb m.view.0 views) 3 (serve a m member)

pub serve_in_lem : (a : Server) (m : Message) (member : Bool) → m.view.0 ≤ 32 → serve_in a m member ≡ serve a m member
unfolding serve_in guard
serve_in_lem a m member h = simp (le-leb _ _ h)

-- what becomes of a server on START that its rule does not refuse; its own record for a view that no key can name
unfoldable pub entering : Server → Message → Server
entering a m = if (leb m.view.0 views) (if a.faulty (gathering a m) (joining a m)) a

-- a record kept without an answer
abbrev quiet : Server → Reply
quiet b = record { server = b; answer = None }

-- what a server does on READ, WRITE, or any other kind as END, where its rule does not refuse
unfoldable pub replying : Server → Message → Reply
replying a m = if (eqb m.kind WRITE) (write a m.entry) (answering a (if (eqb m.kind READ) a (without_key a)))

-- what a server does on a message that its rule does not refuse: START alone has no answer
abbrev pub accepting : Server → Message → Reply
accepting a m = if (eqb m.kind START) (quiet (entering a m)) (replying a m)

-- a refusal is known by its number
-- No proof cites it; it stands for who reads the definitions.
pub refused_by : {A : Type 0} (x : Result A) (n : ℕ) → number_of x ≡ n → (n ≡ 0 → ⊥) → x ≡ refused n
refused_by (refused k) n e f = cc
refused_by (done a) n e f = absurd (f (sym e))

-- a server that serves kinds 1 to 3
-- No proof cites it; it stands for who reads the definitions.
pub serves : (a : Server) (m : Message) (member : Bool) → leb m.view.0 views ≡ true → within READ START m.kind ≡ true
    → eqb m.kind START ≡ false → a.faulty ≡ false → holds a.keys.0 a.view.0 ≡ true → serve_in a m member ≡ served_by_kind a m
unfolding serve_in serve guard
serves a m member v k s f h = rw (v, k, s, f, h) refl

-- "every refusal numbered": what is not refused is done as the rule says
pub serve_done : (a : Server) (m : Message) (member : Bool) → number_of (serve_in a m member) ≡ 0 → serve_in a m member ≡ done (accepting a m)
unfolding serve_in serve guard entering replying
serve_done a m member e = grind (arith, common_steps)
