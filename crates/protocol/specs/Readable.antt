-- Readable worlds: document 01's sentence, clause by clause. What a clause asks of one record alone is its rule (`view_rule`,
-- `server_rule`, `idle_rule`, `reading_rule`, `message_rule` ..), said of a record and of what it must know of its world: newest is the
-- world's newest view, and 32 for a host that knows none. `values` tests these rules, `checked` and `image` use them. The clauses of a
-- world (`view_fits` ..) are its records' rules; `Formed` in Laws takes them apart.
use Rattle.std.specs.Prelude.{ℕ, suc, ◌+◌, ◌^◌, Bool, true, not, ◌&&◌, ◌||◌, List, [], ◌∷◌, length, ltb, leb, eqb, None, Some}
use Rattle.protocol.specs.Types.{View, Server, Phase, Idle, Reading, Writing, Client, Ending, Administrator, Message}
use Rattle.protocol.specs.Tools.{if, within, bit, all_to, any, all, bit_of}
use Rattle.protocol.specs.Sizes.{clients, servers, views, messages, sized}
use Rattle.protocol.specs.Entries.{empty, count_of, writer_of, same, entry_fits}
use Rattle.protocol.specs.Servers.{READ, WRITE, END, START, ANSWER, is_request}
use Rattle.protocol.specs.Clients.{NONE, WRITES, READS, is_ending}
use Rattle.protocol.specs.Worlds.{World, view, server, client, message, newest, present}
use Rattle.protocol.specs.Chains.{follow, chain}

-- the lists have their full lengths
unfoldable pub shape : World → Bool
shape w =
    eqb (length w.view_list) views
    && (eqb (length w.server_list) servers && (eqb (length w.client_list) clients && eqb (length w.message_list) (suc messages)))

-- message n was sent, and is of that kind and sender
unfoldable pub is_sent : World → ℕ → ℕ → ℕ → Bool
is_sent w n kind sender = present w n && (eqb (message w n).kind kind && eqb (message w n).sender sender)

-- "while ending, newest is below 32 and the END is that of newest"; "the END number name[s] a message of the right kind and sender"
abbrev pub ending_fits : World → Ending → Bool
ending_fits w None = true
ending_fits w (Some r) = ltb (newest w) views && (is_sent w r.0 END 0 && eqb (message w r.0).view.0 (newest w))

unfoldable pub header_fits : World → Bool
header_fits w = leb w.used messages && (within 1 views (newest w) && ending_fits w w.administrator.ending)

-- "Beyond newest (newest+1 while ending) all zero.": the last view that is not
abbrev pub last_of : Administrator → ℕ
last_of a = a.newest.0 + bit (is_ending a.ending)

unfoldable pub last_view : World → ℕ
last_view w = last_of w.administrator

abbrev pub zero_view : View → Bool
zero_view v = eqb v.members.0 0 && (eqb v.f 0 && eqb v.r 0)

-- "views obey the size rule"
abbrev pub view_rule : ℕ → ℕ → View → Bool
view_rule last t v = if (leb t last) (sized v) (zero_view v)

unfoldable pub view_fits : World → ℕ → Bool
view_fits w t = view_rule (last_view w) t (view w t)

-- "a correct server has no key but its own view's"
abbrev pub key_rule : Server → Bool
key_rule a = a.faulty || (eqb a.keys.0 0 || eqb a.keys.0 (bit_of a.view.0))

-- "server ... and key views do not exceed newest"
abbrev pub server_rule : ℕ → Server → Bool
server_rule newest a = leb a.view.0 newest && (ltb a.keys.0 (2 ^ newest) && (key_rule a && entry_fits a.entry))

unfoldable pub server_fits : World → ℕ → Bool
server_fits w s = server_rule (newest w) (server w s)

-- "Kind 0 goes only with phase 0 and the empty entry."
abbrev pub idle_rule : Client → Bool
idle_rule a = leb a.kind READS && (not (eqb a.kind NONE) || same a.entry empty)

-- an open phase is that of a write or a read
abbrev pub kind_rule : ℕ → Bool
kind_rule kind = within WRITES READS kind

-- "in phase 1 of a write only its value is set, of a read it is zero"
abbrev pub asking_rule : Client → Bool
asking_rule a = eqb (count_of a.entry) 0 && (eqb (writer_of a.entry) 0 && (eqb a.kind WRITES || eqb a.entry.value 0))

-- a reading client; sent: its READ was
abbrev pub reading_rule : Client → Bool → Bool
reading_rule a sent = kind_rule a.kind && (sent && asking_rule a)

-- "open phases ... name a message of the right kind and sender"; "in phase 2 it is what is written"
abbrev pub phase_fits : World → ℕ → Client → Phase → Bool
phase_fits w c a Idle = idle_rule a
phase_fits w c a (Reading r) = reading_rule a (is_sent w r.0 READ c)
phase_fits w c a (Writing r) = kind_rule a.kind && (is_sent w r.0 WRITE c && same a.entry (message w r.0).entry)

-- the ranges of its entry and of the largest count that it gave
unfoldable pub client_range : Client → Bool
client_range a = entry_fits a.entry && ltb a.given.0 (2 ^ 32)

unfoldable pub client_fits : World → ℕ → Bool
client_fits w c = client_range (client w c) && phase_fits w c (client w c) (client w c).phase

-- "sender u8 (client; administrator 0; server for an answer)"
abbrev pub sender_fits : ℕ → ℕ → Bool
sender_fits kind sender =
    if (leb kind WRITE) (within 1 clients sender) (if (leb kind START) (eqb sender 0) (within 1 servers sender))

-- "view u8 (0 for 1 and 2)"; "message ... views do not exceed newest, and messages of kind 3 to 5 have a view of at least 1"
abbrev pub tag_rule : ℕ → ℕ → ℕ → Bool
tag_rule newest kind t = if (leb kind WRITE) (eqb t 0) (within 1 newest t)

-- "an answer's request has kind 1 to 3"
abbrev pub is_asked : World → ℕ → Bool
is_asked w n = present w n && is_request (message w n).kind

-- "taken u8 (0 or 1) and request u16 (both 0 but in answers)"; asked: the request can be an answer's
abbrev pub request_rule : Message → Bool → Bool
request_rule m asked = if (eqb m.kind ANSWER) asked (not m.taken && eqb m.request.0 0)

abbrev pub request_fits : World → Message → Bool
request_fits w m = request_rule m (is_asked w m.request.0)

-- "next u16 (0 in a START and an untaken answer)"
abbrev pub next_fits : Message → Bool
next_fits m = (is_request m.kind || m.taken) || eqb m.next.0 0

-- "entry (zero for 1 and 3)"
abbrev pub entry_zero : Message → Bool
entry_zero m = not (eqb m.kind READ || eqb m.kind END) || same m.entry empty

-- "kind u8 (1 to 4, or 5 answer)", and the other fields by the kind
abbrev pub message_rule : ℕ → Message → Bool → Bool
message_rule newest m asked =
    within READ ANSWER m.kind
    && (sender_fits m.kind m.sender
    && (tag_rule newest m.kind m.view.0 && (request_rule m asked && (next_fits m && (entry_zero m && entry_fits m.entry)))))

unfoldable pub sent_fits : World → Message → Bool
sent_fits w m = message_rule (newest w) m (is_asked w m.request.0)

unfoldable pub zero_message : Message → Bool
zero_message m =
    eqb m.kind 0
    && (eqb m.sender 0
    && (eqb m.view.0 0
    && (not m.taken && (eqb m.request.0 0 && (eqb m.next.0 0 && same m.entry empty)))))

-- "messages beyond used are zero"
unfoldable pub message_fits : World → ℕ → Bool
message_fits w n = if (leb n w.used) (sent_fits w (message w n)) (zero_message (message w n))

-- message k is a taken answer of request r
unfoldable pub taken_answer : World → ℕ → ℕ → Bool
taken_answer w r k = present w k && (eqb (message w k).kind ANSWER && ((message w k).taken && eqb (message w k).request.0 r))

-- "each one time"
unfoldable pub distinct : List ℕ → Bool
distinct [] = true
distinct (k ∷ ks) = not (any (eqb k) ks) && distinct ks

-- the links end at zero: one more allowed meets no more of them
unfoldable pub ends : World → ℕ → Bool
ends w r = eqb (length (follow w (suc messages) (message w r).next.0)) (length (chain w r))

-- "each chain holds only taken answers of its request, all of them, each one time"
unfoldable pub chain_fits : World → ℕ → Bool
chain_fits w r =
    not (is_request (message w r).kind)
    || (ends w r
    && (all (taken_answer w r) (chain w r)
    && (all_to (λ k. not (taken_answer w r k) || any (eqb k) (chain w r)) w.used && distinct (chain w r))))

-- "An image is readable if ..."
unfoldable pub well_formed : World → Bool
well_formed w =
    shape w
    && (header_fits w
    && (all_to (view_fits w) views
    && (all_to (server_fits w) servers
    && (all_to (client_fits w) clients
    && (zero_message (message w 0) && (all_to (message_fits w) messages && all_to (chain_fits w) w.used))))))
