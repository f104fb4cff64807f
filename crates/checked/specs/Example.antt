-- A session of single machines, computed on the definitions. View 1 has server 1 alone, view 2 servers 1 and 2. Assumes nothing.
use Rattle.std.specs.Prelude.{ℕ, true, false, ◌≡◌, refl, None, Some}
use Rattle.checked.specs.Types.{Entry, Server, Phase, Idle, Reading, Writing, Client, Administrator, Message}
use Rattle.protocol.specs.Tools.{count_to, holds, bit_of, Result, refused, done, guard}
use Rattle.protocol.specs.Sizes.{quorum, size, sized, read_size, view_with}
use Rattle.protocol.specs.Entries.{entry, empty, below, larger, same, entry_fits}
use Rattle.protocol.specs.declared.Reply.{Reply}
use Rattle.protocol.specs.Servers.{READ, WRITE, END, START, ANSWER, comparing, replacing, without_key, joining, serve}
use Rattle.protocol.specs.Readable.{client_range}
use Rattle.protocol.specs.Clients.{NONE, WRITES, READS, number, begin, next_count, to_write, given_by, count_left, close, call, advance}
use Rattle.values.specs.Bits.{bit_in}
use Rattle.values.specs.Tallies.{first_answer, closes_at}
use Rattle.checked.specs.Ranges.{number_fits, server_in_range, message_in_range, client_in_range, end_fits, administrator_in_range}
use Rattle.checked.specs.Rules.{serve_rule, write_rule, take_rule, close_rule, call_rule, advance_rule}

server : ℕ → ℕ → Entry → Server
server t keys e = record { view = record { 0 = t }; faulty = false; keys = record { 0 = keys }; entry = e }

client : Phase → ℕ → Entry → ℕ → Client
client p kind e given = record { phase = p; kind = kind; entry = e; given = record { 0 = given } }

administrator : ℕ → Administrator
administrator t = record { newest = record { 0 = t }; ending = None }

ending : ℕ → ℕ → Administrator
ending t n = record { newest = record { 0 = t }; ending = Some (number n) }

request : ℕ → ℕ → ℕ → Entry → Message
request kind who t e =
    record { kind = kind; sender = who; view = record { 0 = t }; taken = false; request = number 0; next = number 0; entry = e }

answer : ℕ → ℕ → ℕ → Entry → Message
answer s t n e =
    record { kind = ANSWER; sender = s; view = record { 0 = t }; taken = false; request = number n; next = number 0; entry = e }

-- the record after a rule, with or without an answer
answers : Server → ℕ → Entry → Result Reply
answers a t e = done (record { server = a; answer = Some (record { view = record { 0 = t }; entry = e }) })

silent : Server → Result Reply
silent a = done (record { server = a; answer = None })

-- client 1 writes 7
write_begins : write_rule (client Idle NONE empty 0) 7 1 ≡ done (client (Reading (number 1)) WRITES (entry 0 0 7) 0)
unfolding client write_rule guard client_in_range client_range entry_fits same number_fits begin
write_begins = refl

read_served : serve_rule (server 1 1 empty) (request READ 1 0 empty) false ≡ answers (server 1 1 empty) 1 empty
unfolding server request answers serve_rule guard server_in_range message_in_range entry_fits same bit_of serve holds
read_served = refl

-- a client that waits for nothing takes no answer
none_taken : take_rule (answer 1 1 1 empty) 0 ≡ refused 7
unfolding answer take_rule guard message_in_range entry_fits same number_fits
none_taken = refl

read_taken : take_rule (answer 1 1 1 empty) 1 ≡ done (answer 1 1 1 empty)
unfolding answer take_rule guard message_in_range entry_fits same number_fits
read_taken = refl

read_closes : closes_at (first_answer (answer 1 1 1 empty)) (read_size (view_with 1 0 0)) ≡ Some (record { entry = empty; one = true })
unfolding answer closes_at first_answer bit_in bit_of holds count_to read_size quorum size
read_closes = refl

write_next_lem : close_rule (client (Reading (number 1)) WRITES (entry 0 0 7) 0) 1 empty true 3
    ≡ done (record { client = client (Writing (number 3)) WRITES (entry 1 1 7) 1; complete = false })
unfolding client close_rule guard client_in_range client_range entry_fits number_fits close count_left next_count to_write given_by
write_next_lem = refl

write_served : serve_rule (server 1 1 empty) (request WRITE 1 0 (entry 1 1 7)) false ≡ answers (server 1 1 (entry 1 1 7)) 1 (entry 1 1 7)
unfolding server request answers serve_rule guard server_in_range message_in_range entry_fits same bit_of serve holds comparing replacing below
write_served = refl

write_complete : close_rule (client (Writing (number 3)) WRITES (entry 1 1 7) 1) 1 (entry 1 1 7) false 5
    ≡ done (record { client = client Idle WRITES (entry 1 1 7) 1; complete = true })
unfolding client close_rule guard client_in_range client_range entry_fits number_fits close
write_complete = refl

-- a read whose answers carry one entry is complete, and needs no number; one whose answers differ writes back
read_once : close_rule (client (Reading (number 1)) READS empty 0) 2 (entry 1 1 7) true 0
    ≡ done (record { client = client Idle READS (entry 1 1 7) 0; complete = true })
unfolding client close_rule guard client_in_range client_range entry_fits number_fits close
read_once = refl

read_back : close_rule (client (Reading (number 1)) READS empty 0) 2 (entry 1 1 7) false 3
    ≡ done (record { client = client (Writing (number 3)) READS (entry 1 1 7) 0; complete = false })
unfolding client close_rule guard client_in_range client_range entry_fits number_fits close count_left next_count to_write given_by
read_back = refl

-- view 2 is called
view_called : call_rule (administrator 1) (view_with 3 0 0) 5 ≡ done (ending 1 5)
unfolding administrator ending call_rule guard administrator_in_range number_fits call sized size count_to holds
view_called = refl

end_served : serve_rule (server 1 1 (entry 1 1 7)) (request END 0 1 empty) true ≡ answers (server 1 0 (entry 1 1 7)) 1 (entry 1 1 7)
unfolding server request answers serve_rule guard server_in_range message_in_range entry_fits same bit_of serve holds without_key
end_served = refl

end_closes : advance_rule (ending 1 5) ≡ done (administrator 2)
unfolding administrator ending advance_rule guard administrator_in_range end_fits number_fits advance
end_closes = refl

start_served : serve_rule (server 0 0 empty) (request START 0 2 (entry 1 1 7)) true ≡ silent (server 2 2 (entry 1 1 7))
unfolding server request silent serve_rule guard server_in_range message_in_range entry_fits same bit_of serve holds joining larger below
start_served = refl

-- a retired server is silent
late_read : serve_rule (server 1 0 (entry 1 1 7)) (request READ 2 0 empty) false ≡ refused 7
unfolding server request serve_rule guard server_in_range message_in_range entry_fits same bit_of serve holds
late_read = refl
