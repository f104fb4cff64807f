-- Each record as bytes: what it reads as (`..Of`), what it is written as (`..Bytes`), and whether its spare bytes, flags and
-- tags are those of its writing (`..Plain`). Record to bytes to record: `view_of_bytes`, `server_of_bytes` and so on, for records
-- whose numbers fit (`ViewFits` ..); bytes to record to bytes is in Spelling. Used by the code of `records` and by Places.
use Rattle.std.specs.Prelude.{◌≡◌, refl, Bool, true, false, not, ◌&&◌, ◌||◌, List, [], ◌∷◌, ◌++◌, ℕ, ◌<◌, ◌^◌, get_or, length, replicate, eqb, ltb, leb, None, Some}
use Rattle.std.proofs.Common.{ap, sym, ltb-true}
use Rattle.std.specs.Cmp.{first_so, second_so}
use Rattle.protocol.specs.declared.Entry.{Entry}
use Rattle.protocol.specs.declared.View.{View}
use Rattle.protocol.specs.declared.Server.{Server}
use Rattle.protocol.specs.declared.Phase.{Phase}
use Rattle.protocol.specs.declared.Phase.TheVariants.{Idle, Reading, Writing}
use Rattle.protocol.specs.declared.Client.{Client}
use Rattle.protocol.specs.Types.{Ending}
use Rattle.protocol.specs.declared.Administrator.{Administrator}
use Rattle.protocol.specs.declared.Message.{Message}
use Rattle.protocol.specs.Tools.{if, bit}
use Rattle.protocol.specs.Sizes.{clients}
use Rattle.protocol.specs.Entries.{entry, count_of, writer_of, entry_fits}
use Rattle.protocol.specs.Clients.{number, request_of, end_of, is_ending}
use Rattle.protocol.specs.Runs.{u16_at, u32_at}
use Rattle.codec.specs.Layout.{version, version_place, administrator_place, administrator_width, header_spare_place, header_spare, header_width}
use Rattle.codec.specs.Layout.{count_place, writer_place, entry_spare_place, entry_spare, value_place, entry_rest_place, entry_rest, entry_width}
use Rattle.codec.specs.Layout.{members_place, threshold_place, read_size_place, view_spare_place, view_spare, view_width, holder_width, newest_place, ending_place, end_place}
use Rattle.codec.specs.Layout.{server_view_place, faulty_place, server_spare_place, server_spare, keys_place, server_entry_place, server_width}
use Rattle.codec.specs.Layout.{phase_place, client_kind_place, client_request_place, client_entry_place, given_place, client_width}
use Rattle.codec.specs.Layout.{message_kind_place, sender_place, message_view_place, taken_place, message_request_place, next_place, message_entry_place, message_width}
use Rattle.codec.specs.Lists.{part}
use Rattle.codec.specs.Bytes.{le16, le32, zeros, half_le16, word_le32}

-- a flag: 0 or 1
abbrev pub flag_of : ℕ → Bool
flag_of n = not (eqb n 0)

-- a number that is 0 where its tag is 0
abbrev pub untagged : ℕ → ℕ → Bool
untagged tag n = not (eqb tag 0) || eqb n 0

-- "Entry, 12: count u32, writer u8, 3 zero bytes, value u32."
unfoldable pub entry_of : List ℕ → Entry
entry_of b = entry (u32_at b count_place) (get_or b writer_place 0) (u32_at b value_place)

unfoldable pub entry_bytes : Entry → List ℕ
entry_bytes e = le32 (count_of e) ++ (writer_of e ∷ (replicate entry_spare 0 ++ (le32 e.value ++ replicate entry_rest 0)))

unfoldable pub entry_plain : List ℕ → Bool
entry_plain b = zeros b entry_spare_place entry_spare && zeros b entry_rest_place entry_rest

-- "View: member bits u32 (bit s-1 is server s), f u8, 3 zero."; "a read size r in the first of its zero bytes"
unfoldable pub view_of : List ℕ → View
view_of b = record { members = record { 0 = u32_at b members_place }; f = get_or b threshold_place 0; r = get_or b read_size_place 0 }

unfoldable pub view_bytes : View → List ℕ
view_bytes v = le32 v.members.0 ++ (v.f ∷ v.r ∷ replicate view_spare 0)

unfoldable pub view_plain : List ℕ → Bool
view_plain b = zeros b view_spare_place view_spare

-- "for each view a byte with the number of its faulty key holders"
unfoldable pub holder_bytes : ℕ → List ℕ
holder_bytes n = n ∷ []

-- "Server: view u8 (0 none yet), faulty u8, 2 zero, key bits u32 (bit t-1), entry."
unfoldable pub server_of : List ℕ → Server
server_of b =
    record {
      view = record { 0 = get_or b server_view_place 0 };
      faulty = flag_of (get_or b faulty_place 0);
      keys = record { 0 = u32_at b keys_place };
      entry = entry_of (part b server_entry_place entry_width);
    }

unfoldable pub server_bytes : Server → List ℕ
server_bytes s = s.view.0 ∷ bit s.faulty ∷ (replicate server_spare 0 ++ (le32 s.keys.0 ++ entry_bytes s.entry))

unfoldable pub server_plain : List ℕ → Bool
server_plain b =
    leb (get_or b faulty_place 0) 1 && (zeros b server_spare_place server_spare && entry_plain (part b server_entry_place entry_width))

-- "Client: phase u8 (0 idle, 1 reading, 2 writing), kind u8 ..., request u16 (0 when idle), entry."
unfoldable pub phase_of : ℕ → ℕ → Phase
phase_of tag n = if (eqb tag 0) Idle (if (eqb tag 1) (Reading (number n)) (Writing (number n)))

abbrev pub phase_tag : Phase → ℕ
phase_tag Idle = 0
phase_tag (Reading r) = 1
phase_tag (Writing r) = 2

abbrev pub last_phase : ℕ
last_phase = 2

unfoldable pub client_of : List ℕ → Client
client_of b =
    record {
      phase = phase_of (get_or b phase_place 0) (u16_at b client_request_place);
      kind = get_or b client_kind_place 0;
      entry = entry_of (part b client_entry_place entry_width);
      given = record { 0 = u32_at b given_place };
    }

unfoldable pub client_bytes : Client → List ℕ
client_bytes c = phase_tag c.phase ∷ c.kind ∷ (le16 (request_of c.phase) ++ (entry_bytes c.entry ++ le32 c.given.0))

unfoldable pub client_plain : List ℕ → Bool
client_plain b =
    leb (get_or b phase_place 0) last_phase
    && (untagged (get_or b phase_place 0) (u16_at b client_request_place) && entry_plain (part b client_entry_place entry_width))

-- "Message: kind u8 ..., sender u8 ..., view u8 ..., taken u8 (0 or 1) and request u16 ..., next u16 ..., entry"
unfoldable pub message_of : List ℕ → Message
message_of b =
    record {
      kind = get_or b message_kind_place 0;
      sender = get_or b sender_place 0;
      view = record { 0 = get_or b message_view_place 0 };
      taken = flag_of (get_or b taken_place 0);
      request = number (u16_at b message_request_place);
      next = number (u16_at b next_place);
      entry = entry_of (part b message_entry_place entry_width);
    }

unfoldable pub message_bytes : Message → List ℕ
message_bytes m =
    m.kind ∷ m.sender ∷ m.view.0 ∷ bit m.taken ∷ (le16 m.request.0 ++ (le16 m.next.0 ++ entry_bytes m.entry))

unfoldable pub message_plain : List ℕ → Bool
message_plain b = leb (get_or b taken_place 0) 1 && entry_plain (part b message_entry_place entry_width)

-- "newest view u8, ending u8 (0 or 1), END number u16 (0 unless ending)"
unfoldable pub ending_of : ℕ → ℕ → Ending
ending_of tag n = if (eqb tag 0) None (Some (number n))

unfoldable pub administrator_of : List ℕ → Administrator
administrator_of b = record { newest = record { 0 = get_or b newest_place 0 }; ending = ending_of (get_or b ending_place 0) (u16_at b end_place) }

unfoldable pub administrator_bytes : Administrator → List ℕ
administrator_bytes a = a.newest.0 ∷ bit (is_ending a.ending) ∷ le16 (end_of a.ending)

unfoldable pub administrator_plain : List ℕ → Bool
administrator_plain b = leb (get_or b ending_place 0) 1 && untagged (get_or b ending_place 0) (u16_at b end_place)

-- "Header: version u16, messages used u16, newest view u8, ending u8 (0 or 1), END number u16 (0 unless ending), 8 zero bytes."
unfoldable pub header_bytes : ℕ → Administrator → List ℕ
header_bytes used a = le16 version ++ (le16 used ++ (administrator_bytes a ++ replicate header_spare 0))

unfoldable pub header_plain : List ℕ → Bool
header_plain b =
    eqb (u16_at b version_place) version
    && (administrator_plain (part b administrator_place administrator_width) && zeros b header_spare_place header_spare)

-- ---- the widths

pub length_entry_bytes : (e : Entry) → length (entry_bytes e) ≡ entry_width
unfolding entry_bytes
length_entry_bytes e = refl

pub length_view_bytes : (v : View) → length (view_bytes v) ≡ view_width
unfolding view_bytes
length_view_bytes v = refl

pub length_holder_bytes : (n : ℕ) → length (holder_bytes n) ≡ holder_width
unfolding holder_bytes
length_holder_bytes n = refl

pub length_server_bytes : (s : Server) → length (server_bytes s) ≡ server_width
unfolding server_bytes entry_bytes
length_server_bytes s = refl

pub length_client_bytes : (c : Client) → length (client_bytes c) ≡ client_width
unfolding client_bytes entry_bytes
length_client_bytes c = refl

pub length_message_bytes : (m : Message) → length (message_bytes m) ≡ message_width
unfolding message_bytes entry_bytes
length_message_bytes m = refl

pub length_administrator_bytes : (a : Administrator) → length (administrator_bytes a) ≡ administrator_width
unfolding administrator_bytes
length_administrator_bytes a = refl

pub length_header_bytes : (n : ℕ) (a : Administrator) → length (header_bytes n a) ≡ header_width
unfolding header_bytes administrator_bytes
length_header_bytes n a = refl

-- ---- what a record's numbers must fit to be read back

pub record EntryFits (e : Entry) : Type 0 where
  pub count : count_of e < 2 ^ 32
  pub value : e.value < 2 ^ 32

pub entry_fits_lem : (e : Entry) → entry_fits e ≡ true → EntryFits e
unfolding entry_fits
entry_fits_lem e p =
    let q = second_so (ltb (count_of e) (2 ^ 32)) _ p in
    record { count = ltb-true (count_of e) (2 ^ 32) (first_so _ _ p); value = ltb-true e.value (2 ^ 32) (second_so (leb (writer_of e) clients) _ q) }

pub record ViewFits (v : View) : Type 0 where
  pub members : v.members.0 < 2 ^ 32

pub record ServerFits (s : Server) : Type 0 where
  pub keys : s.keys.0 < 2 ^ 32
  pub entry : EntryFits s.entry

pub record ClientFits (c : Client) : Type 0 where
  pub request : request_of c.phase < 2 ^ 16
  pub entry : EntryFits c.entry
  pub given : c.given.0 < 2 ^ 32

pub record MessageFits (m : Message) : Type 0 where
  pub request : m.request.0 < 2 ^ 16
  pub next : m.next.0 < 2 ^ 16
  pub entry : EntryFits m.entry

pub record AdministratorFits (a : Administrator) : Type 0 where
  pub ending : end_of a.ending < 2 ^ 16

-- ---- record to bytes to record

flag_back : (b : Bool) → flag_of (bit b) ≡ b
flag_back true = refl
flag_back false = refl

pub view_of_bytes : (v : View) → ViewFits v → view_of (view_bytes v) ≡ v
unfolding view_of view_bytes
view_of_bytes v h = simp (word_le32 _ h.members)

pub server_of_bytes : (s : Server) → ServerFits s → server_of (server_bytes s) ≡ s
unfolding server_of server_bytes part entry_bytes entry_of
server_of_bytes s h = simp (word_le32 _ h.keys, word_le32 _ h.entry.count, word_le32 _ h.entry.value, flag_back)

phase_back : (p : Phase) (n : ℕ) → request_of p ≡ n → phase_of (phase_tag p) n ≡ p
unfolding phase_of
phase_back Idle n e = refl
phase_back (Reading m) n e = ap (λ (k : ℕ). Reading (number k)) (sym e)
phase_back (Writing m) n e = ap (λ (k : ℕ). Writing (number k)) (sym e)

pub client_of_bytes : (c : Client) → ClientFits c → client_of (client_bytes c) ≡ c
unfolding client_of client_bytes part entry_bytes entry_of
client_of_bytes c h =
    simp (word_le32 _ h.entry.count, word_le32 _ h.entry.value, word_le32 _ h.given)
    (λ i. record { phase = phase_back c.phase _ (sym (half_le16 _ h.request)) i; kind = c.kind; entry = c.entry; given = c.given })

pub message_of_bytes : (m : Message) → MessageFits m → message_of (message_bytes m) ≡ m
unfolding message_of message_bytes part entry_bytes entry_of
message_of_bytes m h =
    simp (half_le16 _ h.request, half_le16 _ h.next, word_le32 _ h.entry.count, word_le32 _ h.entry.value, flag_back)

ending_back : (x : Ending) (n : ℕ) → end_of x ≡ n → ending_of (bit (is_ending x)) n ≡ x
unfolding ending_of
ending_back None n e = refl
ending_back (Some m) n e = ap (λ (k : ℕ). Some (number k)) (sym e)

pub administrator_of_bytes : (a : Administrator) → AdministratorFits a → administrator_of (administrator_bytes a) ≡ a
unfolding administrator_of administrator_bytes
administrator_of_bytes a h =
    λ i. record { newest = a.newest; ending = ending_back a.ending _ (sym (half_le16 _ h.ending)) i }
