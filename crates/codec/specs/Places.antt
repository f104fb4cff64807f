-- The records of an image by their numbers. Assumes nothing.
use Rattle.std.specs.Prelude.{List, ℕ, get_or}
use Rattle.protocol.specs.declared.View.{View}
use Rattle.protocol.specs.declared.Server.{Server}
use Rattle.protocol.specs.declared.Client.{Client}
use Rattle.protocol.specs.declared.Administrator.{Administrator}
use Rattle.protocol.specs.declared.Message.{Message}
use Rattle.protocol.specs.Runs.{u16_at}
use Rattle.codec.specs.Layout.{view_width, server_width, client_width, message_width, used_place, administrator_place, administrator_width, view_place, holder_place, server_place, client_place, message_place}
use Rattle.codec.specs.Lists.{part, put}
use Rattle.codec.specs.Bytes.{le16}
use Rattle.codec.specs.Records.{view_of, view_bytes, holder_bytes, server_of, server_bytes, client_of, client_bytes, message_of, message_bytes, administrator_of, administrator_bytes}

unfoldable pub used_at : List ℕ → ℕ
used_at l = u16_at l used_place

unfoldable pub put_used : List ℕ → ℕ → List ℕ
put_used l n = put l used_place (le16 n)

unfoldable pub administrator_at : List ℕ → Administrator
administrator_at l = administrator_of (part l administrator_place administrator_width)

unfoldable pub put_administrator : List ℕ → Administrator → List ℕ
put_administrator l a = put l administrator_place (administrator_bytes a)

unfoldable pub view_at : List ℕ → ℕ → View
view_at l t = view_of (part l (view_place t) view_width)

unfoldable pub put_view : List ℕ → ℕ → View → List ℕ
put_view l t v = put l (view_place t) (view_bytes v)

-- the number of the faulty key holders of view t
unfoldable pub holder_at : List ℕ → ℕ → ℕ
holder_at l t = get_or l (holder_place t) 0

unfoldable pub put_holder : List ℕ → ℕ → ℕ → List ℕ
put_holder l t n = put l (holder_place t) (holder_bytes n)

unfoldable pub server_at : List ℕ → ℕ → Server
server_at l s = server_of (part l (server_place s) server_width)

unfoldable pub put_server : List ℕ → ℕ → Server → List ℕ
put_server l s v = put l (server_place s) (server_bytes v)

unfoldable pub client_at : List ℕ → ℕ → Client
client_at l c = client_of (part l (client_place c) client_width)

unfoldable pub put_client : List ℕ → ℕ → Client → List ℕ
put_client l c v = put l (client_place c) (client_bytes v)

unfoldable pub message_at : List ℕ → ℕ → Message
message_at l n = message_of (part l (message_place n) message_width)

unfoldable pub put_message : List ℕ → ℕ → Message → List ℕ
put_message l n m = put l (message_place n) (message_bytes m)
