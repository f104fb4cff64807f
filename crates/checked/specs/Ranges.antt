-- The ranges of single records, for a machine that knows no newest view. Assumes nothing.
use Rattle.std.specs.Prelude.{ℕ, ◌≤◌, ◌<◌, ◌≡◌, Bool, true, ◌&&◌, ltb, leb, None, Some}
use Rattle.std.proofs.Common.{arith}
use Rattle.std.proofs.lemmas.Grind.{common_steps}
use Rattle.checked.specs.Types.{Server, Phase, Idle, Reading, Writing, Client, Ending, Administrator, Message}
use Rattle.protocol.specs.Tools.{within}
use Rattle.protocol.specs.Sizes.{views, messages}
use Rattle.protocol.specs.Clients.{is_ending}
use Rattle.protocol.specs.Readable.{client_range}
use Rattle.protocol.specs.Readable.{server_rule, idle_rule, kind_rule, reading_rule, message_rule}

-- "messages 1 to 1,023"
unfoldable pub number_fits : ℕ → Bool
number_fits n = within 1 messages n

-- "views 1 to 32", "0 none yet"
unfoldable pub server_in_range : Server → Bool
server_in_range a = server_rule views a

-- "views 1 to 32"; a request that is answered and a next are of "messages 1 to 1,023"
unfoldable pub message_in_range : Message → Bool
message_in_range m = leb m.next.0 messages && message_rule views m (number_fits m.request.0)

abbrev pub phase_in_range : Client → Phase → Bool
phase_in_range c Idle = idle_rule c
phase_in_range c (Reading r) = reading_rule c (number_fits r.0)
phase_in_range c (Writing r) = kind_rule c.kind && number_fits r.0

unfoldable pub client_in_range : Client → Bool
client_in_range c = client_range c && phase_in_range c c.phase

-- "while ending, newest is below 32"
unfoldable pub end_fits : ℕ → ℕ → Bool
end_fits newest n = ltb newest views && number_fits n

abbrev pub ending_in_range : ℕ → Ending → Bool
ending_in_range newest None = true
ending_in_range newest (Some r) = end_fits newest r.0

unfoldable pub administrator_in_range : Administrator → Bool
administrator_in_range a = within 1 views a.newest.0 && ending_in_range a.newest.0 a.ending

-- the view of a message in range is one that a key can name
pub message_view : (m : Message) → message_in_range m ≡ true → m.view.0 ≤ views
unfolding message_in_range
message_view m e = grind (arith, common_steps)

-- an administrator in range that is ending has a view after the newest
pub ending_newest : (a : Administrator) → administrator_in_range a ≡ true → is_ending a.ending ≡ true → a.newest.0 < views
unfolding administrator_in_range end_fits
ending_newest a e h = grind (arith, common_steps)
