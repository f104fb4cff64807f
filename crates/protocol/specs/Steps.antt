-- The steps of a world, kinds 1 to 9, each with its refusals in the order tested. Assumes nothing.
use Rattle.std.specs.Prelude.{ℕ, ◌+◌, ◌/◌, ◌%◌, Bool, true, false, not, ◌&&◌, ◌||◌, List, [], ◌∷◌, get_or, eqb, Option, None, Some}
use Rattle.protocol.specs.Types.{Entry, View, Server, Message, Step, Range, Shown}
use Rattle.protocol.specs.Tools.{if, within, Result, done, guard, then}
use Rattle.protocol.specs.Sizes.{clients, servers, views, messages, view_with, write_size, one_exchange}
use Rattle.protocol.specs.Entries.{empty, chosen}
use Rattle.protocol.specs.Servers.{READ, WRITE, END, START, ANSWER, serve, may_answer}
use Rattle.protocol.specs.Clients.{WRITES, READS, number, begin, give_up, request_of, close_size, close, end_of, call, keeps_view, bare_fits, restart, advance}
use Rattle.protocol.specs.Worlds.{World, view, server, client, message, newest, member, present, room, with_server, with_client, with_view, with_message, with_administrator, send, as_sent, next_number}
use Rattle.protocol.specs.Chains.{chain, enough, shown, agreed}

-- "1 write ... 2 read ... 3 deliver ... 4 take ... 5 fault ... 6 false answer ... 7 new view"; "a new step of kind 8"; "a step of kind 9"
abbrev pub write_step : ℕ
write_step = 1

abbrev pub read_step : ℕ
read_step = 2

abbrev pub deliver_step : ℕ
deliver_step = 3

abbrev pub take_step : ℕ
take_step = 4

abbrev pub fault_step : ℕ
fault_step = 5

abbrev pub false_step : ℕ
false_step = 6

abbrev pub view_step : ℕ
view_step = 7

abbrev pub give_up_step : ℕ
give_up_step = 8

abbrev pub restart_step : ℕ
restart_step = 9

-- the fields that a step may use, a flag each; who is a client, a server or a read size
abbrev pub CLIENT : ℕ
CLIENT = 1

abbrev pub SERVER : ℕ
SERVER = 2

abbrev pub VIEW : ℕ
VIEW = 4

abbrev pub F : ℕ
F = 8

abbrev pub MESSAGE : ℕ
MESSAGE = 16

abbrev pub SOURCE : ℕ
SOURCE = 32

abbrev pub VALUE : ℕ
VALUE = 64

abbrev pub SIZE : ℕ
SIZE = 128

-- "Which fields each kind uses is one table": the row of kind k is number k
abbrev pub field_table : List ℕ
field_table =
    0
    ∷ (CLIENT + VALUE)
    ∷ CLIENT
    ∷ (SERVER + MESSAGE)
    ∷ MESSAGE
    ∷ SERVER
    ∷ (SERVER + VIEW + MESSAGE + SOURCE)
    ∷ (SIZE + F + VALUE)
    ∷ CLIENT
    ∷ (SIZE + F + VALUE)
    ∷ []

unfoldable pub row_of : ℕ → ℕ
row_of kind = get_or field_table kind 0

-- whether a row has a field; whether a kind uses it
abbrev pub in_row : ℕ → ℕ → Bool
in_row row flag = eqb (row / flag % 2) 1

abbrev pub uses : ℕ → ℕ → Bool
uses kind flag = in_row (row_of kind) flag

-- the largest u8 and u32
abbrev pub last_byte : ℕ
last_byte = 255

abbrev pub last_word : ℕ
last_word = 4294967295

-- "Clients are 1 to 16, servers 1 to 32, views 1 to 32, messages 1 to 1,023." "Any f and value are in range; source is 0 to 1,023."
abbrev pub range : ℕ → ℕ → Range
range low high = record { low = low; high = high }

abbrev pub client_range : Range
client_range = range 1 clients

abbrev pub server_range : Range
server_range = range 1 servers

abbrev pub view_range : Range
view_range = range 1 views

abbrev pub threshold_range : Range
threshold_range = range 0 last_byte

-- any read size: 8 judges it
abbrev pub read_range : Range
read_range = range 0 last_byte

abbrev pub message_range : Range
message_range = range 1 messages

abbrev pub source_range : Range
source_range = range 0 messages

abbrev pub value_range : Range
value_range = range 0 last_word

-- who is the number of a client or of a server; else it is a read size, or unused
abbrev pub who_named : ℕ → Bool
who_named row = in_row row CLIENT || in_row row SERVER

abbrev pub who_used : ℕ → Bool
who_used row = who_named row || in_row row SIZE

abbrev pub who_range : ℕ → Range
who_range row = if (in_row row CLIENT) client_range (if (in_row row SERVER) server_range read_range)

-- a used field is in its range; "an unused field is zero"
abbrev pub field : Bool → Range → ℕ → Bool
field used r x = if used (within r.low r.high x) (eqb x 0)

-- "new view: f, value (member bits)", and the read size "in its who"; likewise a restart
abbrev pub view_asked : Step → View
view_asked st = view_with st.value st.f st.who

-- "with value 0 both are 0, else 3": of a restart
abbrev pub restart_fits : Step → Bool
restart_fits st = not (eqb st.kind restart_step) || bare_fits (view_asked st)

-- "3, unknown kind, a field out of range or an unused field set" is what fails this.
unfoldable pub fields_fit : Step → Bool
fields_fit st =
    within write_step restart_step st.kind
    && (field (who_used (row_of st.kind)) (who_range (row_of st.kind)) st.who
    && (field (uses st.kind VIEW) view_range st.view.0
    && (field (uses st.kind F) threshold_range st.f
    && (field (uses st.kind MESSAGE) message_range st.message.0
    && (field (uses st.kind SOURCE) source_range st.source.0
    && (field (uses st.kind VALUE) value_range st.value && restart_fits st))))))

-- the world after an accepted step, and the client whose operation it completed, or 0
pub record After : Type 0 where
  pub world : World
  pub completed : ℕ

abbrev pub moved : World → Result After
moved w = done (record { world = w; completed = 0 })

-- a message that is no answer
abbrev pub request : ℕ → ℕ → ℕ → Entry → Message
request kind sender t e =
    record { kind = kind; sender = sender; view = record { 0 = t }; taken = false; request = number 0; next = number 0; entry = e }

-- the answer of server s to message n
abbrev pub answer : ℕ → ℕ → Shown → Message
answer s n a =
    record { kind = ANSWER; sender = s; view = a.view; taken = false; request = number n; next = number 0; entry = a.entry }

-- "Write, read: 4, client not idle; 10"
unfoldable pub begins : World → ℕ → ℕ → ℕ → Result After
begins w c kind value =
    then (begin (client w c) kind value (next_number w))
    (λ a. guard (room w) 10 (moved (send (with_client w c a) (request READ c 0 empty))))

-- "Giving up an operation": 12
unfoldable pub gives_up : World → ℕ → Result After
gives_up w c = then (give_up (client w c)) (λ a. moved (with_client w c a))

-- the server's record is kept, and its answer sent: "10 for kinds 1 to 3"
abbrev pub answers : Option Shown → World → ℕ → ℕ → Server → Result After
answers None w s n a = moved (with_server w s a)
answers (Some x) w s n a = guard (room w) 10 (moved (send (with_server w s a) (answer s n x)))

-- "Deliver: 5, no such message or an answer; 6 ...; 7, the server's rule does not apply; 10"
unfoldable pub deliver : World → ℕ → ℕ → Result After
deliver w s n =
    guard (present w n) 5
    (then (serve (server w s) (message w n) (member w (message w n).view.0 s)) (λ r. answers r.answer w s n r.server))

-- the answer k becomes the head of the chain of its request
unfoldable pub link : World → ℕ → World
link w k =
    let a : Message = message w k in
    let q : Message = message w a.request.0 in
    with_message
    (with_message w k
    (record { kind = a.kind; sender = a.sender; view = a.view; taken = true; request = a.request; next = q.next; entry = a.entry }))
    a.request.0
    (record { kind = q.kind; sender = q.sender; view = q.view; taken = q.taken; request = q.request; next = number k; entry = q.entry })

-- the request r is "that of an open phase", its sender's, or "the END number"
unfoldable pub open? : World → ℕ → Bool
open? w r =
    if (eqb (message w r).kind END) (eqb (end_of w.administrator.ending) r)
    (eqb (request_of (client w (message w r).sender).phase) r)

-- the answers to the request of k that are taken once k is, from the newest to the oldest
abbrev pub taken_with : World → ℕ → List ℕ
taken_with w k = k ∷ chain w (message w k).request.0

-- a read may end in one exchange: "all its taken answers of the chosen view carry one entry", and the view permits it
abbrev pub at_once : World → ℕ → List ℕ → Bool
at_once w t ks = agreed w t ks && one_exchange (view w t)

-- a phase of client c closes with the entry e: its WRITE is sent, or its operation is complete
unfoldable pub closes : World → ℕ → ℕ → Entry → Bool → Result After
closes w k c e one =
    then (close (client w c) c e one (next_number w))
    (λ x. if x.complete (done (record { world = with_client (link w k) c x.client; completed = c }))
    (guard (room w) 10 (moved (send (with_client (link w k) c x.client) (request WRITE c 0 x.client.entry)))))

-- "t+1 becomes the newest and START t+1 is sent with their largest entry"
unfoldable pub starts : World → ℕ → Entry → Result After
starts w k e =
    guard (room w) 10
    (moved (send (with_administrator (link w k) (advance w.administrator)) (request START 0 (newest w + 1) e)))

-- "A phase closes when, by the answer just taken, the answers taken with that answer's view t come from at least q(t)
-- different servers.", q(t) being the read size or the write size of t. END: "answers tagged t"; "Answers to END with another view are taken and count for nothing."
unfoldable pub takes : World → ℕ → ℕ → ℕ → Result After
takes w k r t =
    if (eqb (message w r).kind END)
    (if (eqb t (newest w) && enough w t (taken_with w k) (write_size (view w t))) (starts w k (chosen (shown w t (taken_with w k)))) (moved (link w k)))
    (if (enough w t (taken_with w k) (close_size (client w (message w r).sender).phase (view w t)))
    (closes w k (message w r).sender (chosen (shown w t (taken_with w k))) (at_once w t (taken_with w k))) (moved (link w k)))

-- "Take: 5, not an answer; 7, taken before, or its request is neither that of an open phase nor the END number; 11; 10"
unfoldable pub take : World → ℕ → Result After
take w k =
    guard (present w k && eqb (message w k).kind ANSWER) 5
    (guard (not (message w k).taken && open? w (message w k).request.0) 7
    (takes w k (message w k).request.0 (message w k).view.0))

-- "Fault: 6, faulty already."
unfoldable pub fault : World → ℕ → Result After
fault w s =
    let a : Server = server w s in
    guard (not a.faulty) 6 (moved (with_server w s (record { view = a.view; faulty = true; keys = a.keys; entry = a.entry })))

-- "the empty entry or the entry of any WRITE sent"
unfoldable pub source? : World → ℕ → Bool
source? w n = eqb n 0 || (present w n && eqb (message w n).kind WRITE)

-- "False answer: 5, message not of kind 1 to 3, or source neither 0 nor a WRITE; 6, server not faulty; 9, it lacks that key; 10."
unfoldable pub lie : World → ℕ → ℕ → ℕ → ℕ → Result After
lie w s t n source =
    guard (present w n) 5
    (then (may_answer (server w s) t (message w n) (source? w source))
    (λ a. guard (room w) 10
    (moved (send w (answer s n (record { view = record { 0 = t }; entry = if (eqb source 0) empty (message w source).entry }))))))

-- "New view: 4, ending; 8, size rule broken or newest is 32; 10."
unfoldable pub new_view : World → View → Result After
new_view w v =
    then (call w.administrator v (next_number w))
    (λ a. guard (room w) 10
    (moved (send (with_view (with_administrator w a) (newest w + 1) v) (request END 0 (newest w) empty))))

-- "empties the chain of the open END and marks its answers untaken": the request r and its taken answers are as they were sent
unfoldable pub emptied : World → ℕ → World
emptied w r = as_sent w (r ∷ chain w r)

-- "A value other than 0 is new member bits for the pending view, with f, and r in who": view t, unless v has none
abbrev pub planned : World → ℕ → View → World
planned w t v = if (keeps_view v) w (with_view w t v)

-- "The administrator's PC stops": "7, nothing is being ended; then 8."
unfoldable pub restarts : World → View → Result After
restarts w v =
    then (restart w.administrator v)
    (λ a. moved (planned (with_administrator (emptied w (end_of a.ending)) a) (newest w + 1) v))

-- what a step does, by its kind
unfoldable pub perform : World → Step → Result After
perform w st =
    if (eqb st.kind write_step) (begins w st.who WRITES st.value)
    (if (eqb st.kind read_step) (begins w st.who READS 0)
    (if (eqb st.kind deliver_step) (deliver w st.who st.message.0)
    (if (eqb st.kind take_step) (take w st.message.0)
    (if (eqb st.kind fault_step) (fault w st.who)
    (if (eqb st.kind false_step) (lie w st.who st.view.0 st.message.0 st.source.0)
    (if (eqb st.kind view_step) (new_view w (view_asked st))
    (if (eqb st.kind give_up_step) (gives_up w st.who)
    (restarts w (view_asked st)))))))))

-- a step of a world: 3, then by kind
unfoldable pub step : World → Step → Result After
step w st = guard (fields_fit st) 3 (perform w st)
