-- The world: header, views, servers, clients and every message sent. Assumes nothing.
use Rattle.std.specs.Prelude.{ℕ, zero, suc, ◌+◌, Bool, false, ◌&&◌, List, [], ◌∷◌, get_or, set, replicate, ltb, leb, None}
use Rattle.protocol.specs.Types.{View, Server, Idle, Client, Administrator, Message}
use Rattle.protocol.specs.Tools.{if, count_to, all_to, within, holds, nth, replace, Result, done, guard}
use Rattle.protocol.specs.Sizes.{clients, servers, messages, view_with, sized}
use Rattle.protocol.specs.Entries.{empty}
use Rattle.protocol.specs.Clients.{NONE, number}

-- "views 1 to 32", "servers 1 to 32", "clients 1 to 16", "messages 0 to 1,023"; used is the last number used
pub record World : Type 0 where
  pub used : ℕ
  pub administrator : Administrator
  pub view_list : List View
  pub server_list : List Server
  pub client_list : List Client
  pub message_list : List Message

abbrev pub no_view : View
no_view = view_with 0 0 0

abbrev pub no_server : Server
no_server = record { view = record { 0 = 0 }; faulty = false; keys = record { 0 = 0 }; entry = empty }

abbrev pub no_client : Client
no_client = record { phase = Idle; kind = NONE; entry = empty; given = record { 0 = 0 } }

abbrev pub no_message : Message
no_message = record { kind = 0; sender = 0; view = record { 0 = 0 }; taken = false; request = number 0; next = number 0; entry = empty }

unfoldable pub view : World → ℕ → View
view w t = nth w.view_list t no_view

unfoldable pub server : World → ℕ → Server
server w s = nth w.server_list s no_server

unfoldable pub client : World → ℕ → Client
client w c = nth w.client_list c no_client

unfoldable pub message : World → ℕ → Message
message w n = get_or w.message_list n no_message

abbrev pub newest : World → ℕ
newest w = w.administrator.newest.0

-- server s is in N(t)
unfoldable pub member : World → ℕ → ℕ → Bool
member w t s = holds (view w t).members.0 s

-- a message of that number was sent
unfoldable pub present : World → ℕ → Bool
present w n = within 1 w.used n

-- a message number is left: "10, all 1,023 message numbers used"
unfoldable pub room : World → Bool
room w = ltb w.used messages

-- one record of the world replaced
unfoldable pub with_server : World → ℕ → Server → World
with_server w s a =
    record { used = w.used; administrator = w.administrator; view_list = w.view_list; server_list = replace w.server_list s a; client_list = w.client_list; message_list = w.message_list }

unfoldable pub with_client : World → ℕ → Client → World
with_client w c a =
    record { used = w.used; administrator = w.administrator; view_list = w.view_list; server_list = w.server_list; client_list = replace w.client_list c a; message_list = w.message_list }

unfoldable pub with_view : World → ℕ → View → World
with_view w t v =
    record { used = w.used; administrator = w.administrator; view_list = replace w.view_list t v; server_list = w.server_list; client_list = w.client_list; message_list = w.message_list }

unfoldable pub with_message : World → ℕ → Message → World
with_message w n m =
    record { used = w.used; administrator = w.administrator; view_list = w.view_list; server_list = w.server_list; client_list = w.client_list; message_list = set w.message_list n m }

unfoldable pub with_administrator : World → Administrator → World
with_administrator w a =
    record { used = w.used; administrator = a; view_list = w.view_list; server_list = w.server_list; client_list = w.client_list; message_list = w.message_list }

-- "A new message takes the number after the last used."
unfoldable pub send : World → Message → World
send w m =
    record { used = w.used + 1; administrator = w.administrator; view_list = w.view_list; server_list = w.server_list; client_list = w.client_list; message_list = set w.message_list (w.used + 1) m }

-- a message as it was sent: not taken, and leading to none
unfoldable pub content : Message → Message
content m =
    record { kind = m.kind; sender = m.sender; view = m.view; taken = false; request = m.request; next = number 0; entry = m.entry }

-- the messages ks of a list as they were sent, the last of them first
unfoldable pub unlinked : List Message → List ℕ → List Message
unlinked l [] = l
unlinked l (k ∷ ks) = set (unlinked l ks) k (content (get_or (unlinked l ks) k no_message))

unfoldable pub as_sent : World → List ℕ → World
as_sent w ks =
    record { used = w.used; administrator = w.administrator; view_list = w.view_list; server_list = w.server_list; client_list = w.client_list; message_list = unlinked w.message_list ks }

-- the number of the next message
abbrev pub next_number : World → ℕ
next_number w = w.used + 1

-- "Members hold view 1, key 1 and the empty entry"
abbrev pub fresh_server : ℕ → ℕ → Server
fresh_server bits s = if (holds bits s) (record { view = record { 0 = 1 }; faulty = false; keys = record { 0 = 1 }; entry = empty }) no_server

-- the list of g 1 to g n
unfoldable pub list_to : {A : Type 0} → (ℕ → A) → ℕ → List A
list_to g zero = []
list_to g (suc n) = g 1 ∷ list_to (λ i. g (suc i)) n

-- "all else is zero but version and newest view 1"
unfoldable pub fresh_world : View → World
fresh_world v =
    record {
      used = 0;
      administrator = record { newest = record { 0 = 1 }; ending = None };
      view_list = v ∷ replicate 31 no_view;
      server_list = list_to (fresh_server v.members.0) servers;
      client_list = replicate clients no_client;
      message_list = replicate (suc messages) no_message;
    }

-- "Fresh world (member bits, f): ... 8, size rule broken."; "The fresh world takes r"
unfoldable pub fresh : ℕ → ℕ → ℕ → Result World
fresh bits f r =
    let v : View = view_with bits f r in
    guard (sized v) 8 (done (fresh_world v))

-- "a faulty server counts against view t as long as it holds key t"
unfoldable pub bad : World → ℕ → ℕ → Bool
bad w t s = (server w s).faulty && holds (server w s).keys.0 t

-- "The premise holds if no view t has more than f(t) such servers"
unfoldable pub premise : World → Bool
premise w = all_to (λ t. leb (count_to (bad w t) servers) (view w t).f) (newest w)
