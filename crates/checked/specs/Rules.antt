-- "One machine's rule: 3, record out of range; then as its step." Assumes nothing.
use Rattle.std.specs.Prelude.{ℕ, Bool, true, false, not, ◌&&◌, ◌||◌, eqb, leb}
use Rattle.checked.specs.Types.{Entry, View, Server, Phase, Idle, Reading, Writing, Client, Administrator, Message}
use Rattle.protocol.specs.Tools.{within, Result, done, guard}
use Rattle.protocol.specs.Sizes.{clients, views, messages}
use Rattle.protocol.specs.Entries.{entry_fits}
use Rattle.protocol.specs.declared.Reply.{Reply}
use Rattle.protocol.specs.Servers.{ANSWER, serve, may_answer}
use Rattle.protocol.specs.Clients.{WRITES, READS, begin, give_up, Close, once, close, is_ending, call, bare_fits, restart, advance}
use Rattle.checked.specs.Ranges.{number_fits, server_in_range, message_in_range, client_in_range, administrator_in_range}

-- a message reaches a server
unfoldable pub serve_rule : Server → Message → Bool → Result Reply
serve_rule a m member = guard (server_in_range a && message_in_range m) 3 (serve a m member)

-- a faulty server answers with view t
unfoldable pub false_answer_rule : Server → ℕ → Message → Bool → Result Server
false_answer_rule a t m source = guard (server_in_range a && (message_in_range m && within 1 views t)) 3 (may_answer a t m source)

-- a client begins a write, and a read
unfoldable pub write_rule : Client → ℕ → ℕ → Result Client
write_rule c value n = guard (client_in_range c && number_fits n) 3 (begin c WRITES value n)

unfoldable pub read_rule : Client → ℕ → Result Client
read_rule c n = guard (client_in_range c && number_fits n) 3 (begin c READS 0 n)

-- a client gives its operation up
unfoldable pub give_up_rule : Client → Result Client
give_up_rule c = guard (client_in_range c) 3 (give_up c)

-- the answer m is taken, r being the request that waits, or 0: "5, not an answer; 7, taken before, or its request is neither that of an open phase nor the END number"
unfoldable pub take_rule : Message → ℕ → Result Message
take_rule m r =
    guard (message_in_range m && leb r messages) 3
    (guard (eqb m.kind ANSWER) 5 (guard (not m.taken && eqb m.request.0 r) 7 (done m)))

abbrev pub is_reading : Phase → Bool
is_reading Idle = false
is_reading (Reading r) = true
is_reading (Writing r) = false

-- a number is needed where the close sends
abbrev pub close_number_fits : Client → Bool → ℕ → Bool
close_number_fits c one n = (not (is_reading c.phase) || once c one) || number_fits n

-- a client's phase closes; one: all answers of the chosen view carry the entry e, and the view permits one exchange
unfoldable pub close_rule : Client → ℕ → Entry → Bool → ℕ → Result Close
close_rule c who e one n =
    guard (client_in_range c && (within 1 clients who && (entry_fits e && close_number_fits c one n))) 3 (close c who e one n)

-- the administrator calls a new view
unfoldable pub call_rule : Administrator → View → ℕ → Result Administrator
call_rule a v n = guard (administrator_in_range a && number_fits n) 3 (call a v n)

-- the administrator restarted
unfoldable pub restart_rule : Administrator → View → Result Administrator
restart_rule a v = guard (administrator_in_range a && bare_fits v) 3 (restart a v)

-- END closes
unfoldable pub advance_rule : Administrator → Result Administrator
advance_rule a = guard (administrator_in_range a) 3 (guard (is_ending a.ending) 7 (done (advance a)))
