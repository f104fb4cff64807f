-- A server that answers shows the view and the entry of the record that its rule leaves. Assumes nothing.
use Rattle.std.specs.Prelude.{ℕ, Bool, ◌≡◌, ◌⊎◌, List, None, Some}
use Rattle.std.proofs.Common.{arith}
use Rattle.std.proofs.lemmas.Grind.{common_steps}
use Rattle.protocol.specs.declared.Server.{Server}
use Rattle.protocol.specs.declared.Message.{Message}
use Rattle.protocol.specs.Tools.{done, guard}
use Rattle.protocol.specs.declared.Reply.{Reply}
use Rattle.protocol.specs.Servers.{replacing, without_key, serve}
use Rattle.checked.specs.Rules.{serve_rule}
use Rattle.single.specs.Rules.{server_asked}
use Rattle.single.specs.Calls.{server_call}

-- no answer, or the view and the entry of the record
abbrev pub ShowsOwn : Reply → Type 0
ShowsOwn r = (r.answer ≡ None) ⊎ (r.answer ≡ Some (record { view = r.server.view; entry = r.server.entry }))

own_serve : (a : Server) (m : Message) (member : Bool) (r : Reply) → serve a m member ≡ done r → ShowsOwn r
unfolding serve replacing without_key guard
own_serve a m member r e = grind (arith, common_steps)

own_rule : (a : Server) (m : Message) (rule flag t : ℕ) (r : Reply) → server_asked a m rule flag t ≡ done r → ShowsOwn r
unfolding server_asked serve_rule guard
own_rule a m rule flag t r e = grind (arith, common_steps, own_serve)

pub shows_own : (s b : List ℕ) (r : Reply) → server_call s b ≡ done r → ShowsOwn r
unfolding server_call guard
shows_own s b r e = grind (arith, common_steps, own_rule)
