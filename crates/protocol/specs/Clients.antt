-- The rules of one client and of the administrator. Assumes nothing.
use Rattle.std.specs.Prelude.{ℕ, ◌+◌, Bool, true, false, not, ◌&&◌, ◌||◌, ltb, leb, eqb, None, Some}
use Rattle.protocol.specs.Types.{StampCount, MessageNumber, Entry, View, Phase, Idle, Reading, Writing, Client, Ending, Administrator, Closing, WritesNext, Completed}
use Rattle.protocol.specs.Tools.{if, Result, refused, done, guard}
use Rattle.protocol.specs.Sizes.{views, last_count, sized, read_size, write_size}
use Rattle.protocol.specs.Entries.{entry, empty, count_of}

-- "kind u8 (0 none yet, 1 write, 2 read)"
abbrev pub NONE : ℕ
NONE = 0

abbrev pub WRITES : ℕ
WRITES = 1

abbrev pub READS : ℕ
READS = 2

abbrev pub number : ℕ → MessageNumber
number n = record { 0 = n }

-- "A phase is idle, reading or writing"
abbrev pub is_idle : Phase → Bool
is_idle Idle = true
is_idle (Reading r) = false
is_idle (Writing r) = false

-- "an open phase carries its request's number"; 0 when idle
abbrev pub request_of : Phase → ℕ
request_of Idle = 0
request_of (Reading r) = r.0
request_of (Writing r) = r.0

-- "An operation has a READ phase, then a WRITE phase.": the client with its READ, number n.
-- "4, client not idle"; "in phase 1 of a write only its value is set, of a read it is zero"
unfoldable pub begin : Client → ℕ → ℕ → ℕ → Result Client
begin c kind value n =
    guard (is_idle c.phase) 4 (done (record { phase = Reading (number n); kind = kind; entry = entry 0 0 value; given = c.given }))

-- the answers that close a phase
abbrev pub close_size : Phase → View → ℕ
close_size Idle v = write_size v
close_size (Reading r) v = read_size v
close_size (Writing r) v = write_size v

-- "the count is one above the larger of the count read and the largest this client ever gave a write of its own"
unfoldable pub next_count : Client → Entry → ℕ
next_count c e = if (ltb (count_of e) c.given.0) c.given.0 (count_of e) + 1

-- "A reader writes the chosen entry back. A writer writes (count, own number, its value)."
unfoldable pub to_write : Client → ℕ → Entry → Entry
to_write c who e = if (eqb c.kind WRITES) (entry (next_count c e) who c.entry.value) e

-- "The client record ends with the latter": the largest count that it ever gave, once READ closed with the entry e
unfoldable pub given_by : Client → Entry → StampCount
given_by c e = if (eqb c.kind WRITES) (record { 0 = next_count c e }) c.given

-- "11, the closing write would need a count over 4,294,967,295"; "11 is judged on the new count"
unfoldable pub count_left : Client → Entry → Bool
count_left c e = not (eqb c.kind WRITES) || leb (next_count c e) last_count

-- the client after its phase closed, and whether its operation is complete
pub record Close : Type 0 where
  pub client : Client
  pub complete : Bool

-- READ closed with the entry e: its WRITE, number n, is next
abbrev pub write_next : Client → ℕ → Entry → ℕ → Result Close
write_next c who e n =
    guard (count_left c e) 11
    (done (record { client = record { phase = Writing (number n); kind = c.kind; entry = to_write c who e; given = given_by c e }; complete = false }))

-- the operation is complete, and e is its result
abbrev pub complete_with : Client → Entry → Close
complete_with c e = record { client = record { phase = Idle; kind = c.kind; entry = e; given = c.given }; complete = true }

-- "a READ phase of a read closes and all its taken answers of the chosen view carry one entry"
abbrev pub once : Client → Bool → Bool
once c one = eqb c.kind READS && one

-- "the read is complete and sends nothing"; else its WRITE is next. "Closing WRITE completes the operation; the entry is its result."
abbrev pub close_by : Phase → Client → ℕ → Entry → Bool → ℕ → Result Close
close_by Idle c who e one n = refused 7
close_by (Reading r) c who e one n = if (once c one) (done (complete_with c e)) (write_next c who e n)
close_by (Writing r) c who e one n = done (complete_with c c.entry)

-- a phase closes with the entry e; one: all answers of the chosen view carry it
unfoldable pub close : Client → ℕ → Entry → Bool → ℕ → Result Close
close c who e one n = close_by c.phase c who e one n

-- "makes an open phase idle, with kind 0, request 0 and the empty entry"; "12, the client is idle"
unfoldable pub give_up : Client → Result Client
give_up c = guard (not (is_idle c.phase)) 12 (done (record { phase = Idle; kind = NONE; entry = empty; given = c.given }))

-- "END number u16 (0 unless ending)"
abbrev pub end_of : Ending → ℕ
end_of None = 0
end_of (Some r) = r.0

abbrev pub is_ending : Ending → Bool
is_ending None = false
is_ending (Some r) = true

-- "New view t+1, t being the newest: its members and f are recorded and END t is sent", number n.
-- "4, ending; 8, size rule broken or newest is 32"
unfoldable pub call : Administrator → View → ℕ → Result Administrator
call a v n =
    guard (not (is_ending a.ending)) 4
    (guard (sized v && ltb a.newest.0 views) 8 (done (record { newest = a.newest; ending = Some (number n) })))

-- a restart of the administrator without member bits: the pending view stays
abbrev pub keeps_view : View → Bool
keeps_view v = eqb v.members.0 0

-- "with value 0 both are 0, else 3": a restart that leaves the pending view names neither f nor a read size
abbrev pub bare_fits : View → Bool
bare_fits v = not (keeps_view v) || (eqb v.f 0 && eqb v.r 0)

-- "It restarted between END and START": its record stays as it is. "7, nothing is being ended; then 8."
unfoldable pub restart : Administrator → View → Result Administrator
restart a v = guard (is_ending a.ending) 7 (guard (keeps_view v || sized v) 8 (done a))

-- "t+1 becomes the newest"
unfoldable pub advance : Administrator → Administrator
advance a = record { newest = record { 0 = a.newest.0 + 1 }; ending = None }

-- the client of each case, and whether its operation is complete
abbrev pub closing : Closing → Close
closing (WritesNext c) = record { client = c; complete = false }
closing (Completed c) = record { client = c; complete = true }
