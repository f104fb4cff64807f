-- Worlds as images, and back. `holders` is the full count of a view's faulty key holders; `encode` writes it, so a world has no
-- field for it and `decode` does not read it. Used by all that speaks of images. Assumes nothing.
use Rattle.std.specs.Prelude.{List, ◌∷◌, ◌++◌, ℕ}
use Rattle.protocol.specs.Sizes.{clients, servers, views, messages}
use Rattle.protocol.specs.Tools.{count_to}
use Rattle.protocol.specs.Worlds.{World, bad, list_to}
use Rattle.codec.specs.Lists.{flat}
use Rattle.codec.specs.Records.{header_bytes, view_bytes, holder_bytes, server_bytes, client_bytes, message_bytes}
use Rattle.codec.specs.Places.{used_at, administrator_at, view_at, server_at, client_at, message_at}

-- "the number of its faulty key holders": of view t, a count of all servers
unfoldable pub holders : World → ℕ → ℕ
holders w t = count_to (bad w t) servers

unfoldable pub holder_list : World → List ℕ
holder_list w = list_to (holders w) views

-- "header 16; views 1 to 32 ...; servers 1 to 32 ...; clients 1 to 16 ...; messages 0 to 1,023", and "32 bytes after the views", one
-- for each view: c
unfoldable pub image_with : World → List ℕ → List ℕ
image_with w c =
    header_bytes w.used w.administrator
    ++ (flat view_bytes w.view_list
    ++ (flat holder_bytes c
    ++ (flat server_bytes w.server_list ++ (flat client_bytes w.client_list ++ flat message_bytes w.message_list))))

-- "Keep for each view a byte with the number of its faulty key holders"
unfoldable pub encode : World → List ℕ
encode w = image_with w (holder_list w)

-- the world whose fields an image spells
unfoldable pub decode : List ℕ → World
decode l =
    record {
      used = used_at l;
      administrator = administrator_at l;
      view_list = list_to (view_at l) views;
      server_list = list_to (server_at l) servers;
      client_list = list_to (client_at l) clients;
      message_list = message_at l 0 ∷ list_to (message_at l) messages;
    }
