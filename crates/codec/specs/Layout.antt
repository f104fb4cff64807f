-- Widths and places of the format, each named once: a place is the one before it and the width of what stands there, so that a
-- changed width moves all that follows. The limits are in protocol's Sizes, a step's places with its reading in protocol's Runs.
-- Used by the definitions of Records, Places and Images, and by the contracts of all that reads or writes an image.
use Rattle.std.specs.Prelude.{ℕ, suc, ◌+◌, ◌*◌, ◌-◌}
use Rattle.protocol.specs.Sizes.{clients, servers, views, messages}
use Rattle.protocol.specs.Runs.{u8_width, u16_width, u32_width}

-- "version 3"
abbrev pub version : ℕ
version = 3

-- "Entry, 12: count u32, writer u8, 3 zero bytes, value u32." No zero bytes end it.
abbrev pub count_place : ℕ
count_place = 0

abbrev pub writer_place : ℕ
writer_place = count_place + u32_width

abbrev pub entry_spare_place : ℕ
entry_spare_place = writer_place + u8_width

abbrev pub entry_spare : ℕ
entry_spare = 3

abbrev pub value_place : ℕ
value_place = entry_spare_place + entry_spare

abbrev pub entry_rest_place : ℕ
entry_rest_place = value_place + u32_width

abbrev pub entry_rest : ℕ
entry_rest = 0

abbrev pub entry_width : ℕ
entry_width = entry_rest_place + entry_rest

-- "View: member bits u32 (bit s-1 is server s), f u8, 3 zero."; "a read size r in the first of its zero bytes"
abbrev pub members_place : ℕ
members_place = 0

abbrev pub threshold_place : ℕ
threshold_place = members_place + u32_width

abbrev pub read_size_place : ℕ
read_size_place = threshold_place + u8_width

abbrev pub view_spare_place : ℕ
view_spare_place = read_size_place + u8_width

abbrev pub view_spare : ℕ
view_spare = 2

abbrev pub view_width : ℕ
view_width = view_spare_place + view_spare

-- "for each view a byte with the number of its faulty key holders"
abbrev pub holder_width : ℕ
holder_width = u8_width

-- "Server: view u8 (0 none yet), faulty u8, 2 zero, key bits u32 (bit t-1), entry."
abbrev pub server_view_place : ℕ
server_view_place = 0

abbrev pub faulty_place : ℕ
faulty_place = server_view_place + u8_width

abbrev pub server_spare_place : ℕ
server_spare_place = faulty_place + u8_width

abbrev pub server_spare : ℕ
server_spare = 2

abbrev pub keys_place : ℕ
keys_place = server_spare_place + server_spare

abbrev pub server_entry_place : ℕ
server_entry_place = keys_place + u32_width

abbrev pub server_width : ℕ
server_width = server_entry_place + entry_width

-- "Client: phase u8 (0 idle, 1 reading, 2 writing), kind u8 ..., request u16 (0 when idle), entry."
abbrev pub phase_place : ℕ
phase_place = 0

abbrev pub client_kind_place : ℕ
client_kind_place = phase_place + u8_width

abbrev pub client_request_place : ℕ
client_request_place = client_kind_place + u8_width

abbrev pub client_entry_place : ℕ
client_entry_place = client_request_place + u16_width

-- "The client record ends with the latter (u32)"
abbrev pub given_place : ℕ
given_place = client_entry_place + entry_width

abbrev pub client_width : ℕ
client_width = given_place + u32_width

-- "Message: kind u8 ..., sender u8 ..., view u8 ..., taken u8 (0 or 1) and request u16 ..., next u16 ..., entry"
abbrev pub message_kind_place : ℕ
message_kind_place = 0

abbrev pub sender_place : ℕ
sender_place = message_kind_place + u8_width

abbrev pub message_view_place : ℕ
message_view_place = sender_place + u8_width

abbrev pub taken_place : ℕ
taken_place = message_view_place + u8_width

abbrev pub message_request_place : ℕ
message_request_place = taken_place + u8_width

abbrev pub next_place : ℕ
next_place = message_request_place + u16_width

abbrev pub message_entry_place : ℕ
message_entry_place = next_place + u16_width

abbrev pub message_width : ℕ
message_width = message_entry_place + entry_width

-- The administrator's record: "newest view u8, ending u8 (0 or 1), END number u16 (0 unless ending)"
abbrev pub newest_place : ℕ
newest_place = 0

abbrev pub ending_place : ℕ
ending_place = newest_place + u8_width

abbrev pub end_place : ℕ
end_place = ending_place + u8_width

abbrev pub administrator_width : ℕ
administrator_width = end_place + u16_width

-- "Header: version u16, messages used u16, newest view u8, ending u8 (0 or 1), END number u16 (0 unless ending), 8 zero bytes."
abbrev pub version_place : ℕ
version_place = 0

abbrev pub used_place : ℕ
used_place = version_place + u16_width

abbrev pub administrator_place : ℕ
administrator_place = used_place + u16_width

abbrev pub header_spare_place : ℕ
header_spare_place = administrator_place + administrator_width

abbrev pub header_spare : ℕ
header_spare = 8

abbrev pub header_width : ℕ
header_width = header_spare_place + header_spare

-- "header 16; views 1 to 32 ...; servers 1 to 32 ...; clients 1 to 16 ...; messages 0 to 1,023", and "32 bytes after the views": where
-- each group begins
abbrev pub views_at : ℕ
views_at = header_width

abbrev pub holders_at : ℕ
holders_at = views_at + views * view_width

abbrev pub servers_at : ℕ
servers_at = holders_at + views * holder_width

abbrev pub clients_at : ℕ
clients_at = servers_at + servers * server_width

abbrev pub messages_at : ℕ
messages_at = clients_at + clients * client_width

-- the image, 21,744 bytes
abbrev pub image_size : ℕ
image_size = messages_at + suc messages * message_width

-- where the record of a number begins
abbrev pub view_place : ℕ → ℕ
view_place t = views_at + view_width * (t - 1)

abbrev pub holder_place : ℕ → ℕ
holder_place t = holders_at + holder_width * (t - 1)

abbrev pub server_place : ℕ → ℕ
server_place s = servers_at + server_width * (s - 1)

abbrev pub client_place : ℕ → ℕ
client_place c = clients_at + client_width * (c - 1)

abbrev pub message_place : ℕ → ℕ
message_place n = messages_at + message_width * n
