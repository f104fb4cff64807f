-- Bytes that spell a record and are its bytes again: `entry_plain_lem`, `view_plain_lem` and so on, where the record is plain, and only
-- there (`plain_entry`, `plain_view` ..). Each record is spelled piece by piece, in the order of its places. Used by Whole.
use Rattle.std.specs.Prelude.{◌≡◌, refl, Bool, true, false, not, ◌&&◌, ◌||◌, List, [], ◌∷◌, ℕ, zero, suc, ◌+◌, ◌*◌, ◌/◌, ◌%◌, ◌≤◌, ◌<◌, length, get_or, leb, eqb, None, Some}
use Rattle.std.proofs.Common.{sym, ap, ◌∙◌, arith, eqb-true, leb-true, eq-eqb, le-leb}
use Rattle.std.proofs.lemmas.Bool.{and_parts, and_from}
use Rattle.protocol.specs.declared.Phase.{Phase}
use Rattle.protocol.specs.declared.Phase.TheVariants.{Idle, Reading, Writing}
use Rattle.protocol.specs.Tools.{bit, if}
use Rattle.protocol.specs.Clients.{number, request_of, end_of, is_ending}
use Rattle.protocol.specs.Runs.{u16_at}
use Rattle.protocol.proofs.Laws.Counts.{bit_le}
use Rattle.codec.specs.Layout.{version, version_place, used_place, administrator_place, administrator_width, header_spare_place, header_spare, header_width}
use Rattle.codec.specs.Layout.{count_place, writer_place, entry_spare_place, entry_spare, value_place, entry_rest_place, entry_rest, entry_width}
use Rattle.codec.specs.Layout.{members_place, threshold_place, read_size_place, view_spare_place, view_spare, view_width, newest_place, ending_place, end_place}
use Rattle.codec.specs.Layout.{server_view_place, faulty_place, server_spare_place, server_spare, keys_place, server_entry_place, server_width}
use Rattle.codec.specs.Layout.{phase_place, client_kind_place, client_request_place, client_entry_place, given_place, client_width}
use Rattle.codec.specs.Layout.{message_kind_place, sender_place, message_view_place, taken_place, message_request_place, next_place, message_entry_place, message_width}
use Rattle.codec.specs.Lists.{part, length_part, spells_none, spells, spelled}
use Rattle.codec.specs.Bytes.{Bytes, le16, zeros, byte_part, le16_part, le32_part, zeros_part, zeros_back, bytes_part}
use Rattle.codec.specs.Records.{flag_of, untagged, entry_of, entry_bytes, entry_plain, view_of, view_bytes, view_plain, server_of, server_bytes, server_plain}
use Rattle.codec.specs.Records.{phase_of, phase_tag, last_phase, client_of, client_bytes, client_plain, message_of, message_bytes, message_plain}
use Rattle.codec.specs.Records.{ending_of, administrator_of, administrator_bytes, administrator_plain, header_bytes, header_plain}

-- ---- flags and tags

flag_of_lem : (n : ℕ) → leb n 1 ≡ true → bit (flag_of n) ≡ n
flag_of_lem zero h = refl
flag_of_lem (suc zero) h = refl
flag_of_lem (suc (suc n)) h = absurd (omega (arith, leb-true (suc (suc n)) 1 h))

of_flag : (n : ℕ) → bit (flag_of n) ≡ n → leb n 1 ≡ true
of_flag n h = le-leb n 1 (omega (arith, bit_le (flag_of n)))

tag_of : (n k : ℕ) → leb n 2 ≡ true → phase_tag (phase_of n k) ≡ n
unfolding phase_of
tag_of zero k h = refl
tag_of (suc zero) k h = refl
tag_of (suc (suc zero)) k h = refl
tag_of (suc (suc (suc n))) k h = absurd (omega (arith, leb-true (suc (suc (suc n))) 2 h))

tag_le : (p : Phase) → phase_tag p ≤ 2
tag_le Idle = omega arith
tag_le (Reading r) = omega arith
tag_le (Writing r) = omega arith

-- a phase by its tests, of which the first says that it is idle
abbrev picked : Bool → Bool → ℕ → Phase
picked t u k = if t Idle (if u (Reading (number k)) (Writing (number k)))

request_of_lem : (t u : Bool) (k : ℕ) → not t || eqb k 0 ≡ true → request_of (picked t u k) ≡ k
request_of_lem true u k h = sym (eqb-true k 0 h)
request_of_lem false true k h = refl
request_of_lem false false k h = refl

of_request : (t u : Bool) (k a b : ℕ) → k ≡ a + 256 * b → a ≡ request_of (picked t u k) % 256 → b ≡ request_of (picked t u k) / 256 % 256
    → not t || eqb k 0 ≡ true
of_request true u k a b e x y = eq-eqb k 0 (omega arith)
of_request false u k a b e x y = refl

ending_of_lem : (t : Bool) (k : ℕ) → not t || eqb k 0 ≡ true → end_of (if t None (Some (number k))) ≡ k
ending_of_lem true k h = sym (eqb-true k 0 h)
ending_of_lem false k h = refl

of_ending : (t : Bool) (k a b : ℕ) → k ≡ a + 256 * b → a ≡ end_of (if t None (Some (number k))) % 256
    → b ≡ end_of (if t None (Some (number k))) / 256 % 256 → not t || eqb k 0 ≡ true
of_ending true k a b e x y = eq-eqb k 0 (omega arith)
of_ending false k a b e x y = refl

is_ending_lem : (t : Bool) (k : ℕ) → is_ending (if t None (Some (number k))) ≡ not t
is_ending_lem true k = refl
is_ending_lem false k = refl

-- a byte that is told otherwise
one_part : (b : List ℕ) (i n : ℕ) → n ≡ get_or b i 0 → i < length b → n ∷ [] ≡ part b i 1
one_part b i n e h = ap (λ (k : ℕ). k ∷ []) e ∙ byte_part b i h

half_part : (b : List ℕ) (i n : ℕ) → Bytes b → n ≡ u16_at b i → i + 2 ≤ length b → le16 n ≡ part b i 2
half_part b i n y e h = ap le16 e ∙ le16_part b i y h

-- the element at i of two equal lists, and a part
at : (i : ℕ) {a b : List ℕ} → a ≡ b → get_or b i 0 ≡ get_or a i 0
at i e = sym (ap (λ (l : List ℕ). get_or l i 0) e)

of_part : (i n : ℕ) {a b : List ℕ} → a ≡ b → part a i n ≡ part b i n
of_part i n e = ap (λ (l : List ℕ). part l i n) e

-- ---- entry

pub entry_plain_lem : (b : List ℕ) → length b ≡ entry_width → Bytes b → entry_plain b ≡ true → entry_bytes (entry_of b) ≡ b
unfolding entry_plain entry_bytes entry_of
entry_plain_lem b e y p =
    let z = and_parts (zeros b entry_spare_place entry_spare) (zeros b entry_rest_place entry_rest) p in
    spelled
    (spells _
    (spells _
    (spells _ (spells _ (spells _ (spells_none b) (le32_part b count_place y (omega arith))) (byte_part b writer_place (omega arith)))
    (zeros_part b entry_spare_place entry_spare (omega arith) z.0))
    (le32_part b value_place y (omega arith)))
    (zeros_part b entry_rest_place entry_rest (omega arith) z.1))
    e

pub plain_entry : (b : List ℕ) → entry_bytes (entry_of b) ≡ b → entry_plain b ≡ true
unfolding entry_plain entry_bytes entry_of part
plain_entry b e =
    and_from _ _ (zeros_back b entry_spare_place entry_spare (of_part entry_spare_place entry_spare e))
    (zeros_back b entry_rest_place entry_rest (of_part entry_rest_place entry_rest e))

-- the entry of a longer record
entry_part : (b : List ℕ) (i : ℕ) → i + entry_width ≤ length b → Bytes b → entry_plain (part b i entry_width) ≡ true
    → entry_bytes (entry_of (part b i entry_width)) ≡ part b i entry_width
entry_part b i h y p = entry_plain_lem (part b i entry_width) (length_part b i entry_width h) (bytes_part b i entry_width y) p

-- ---- view

pub view_plain_lem : (b : List ℕ) → length b ≡ view_width → Bytes b → view_plain b ≡ true → view_bytes (view_of b) ≡ b
unfolding view_plain view_bytes view_of
view_plain_lem b e y p =
    spelled
    (spells _ (spells _ (spells _ (spells _ (spells_none b) (le32_part b members_place y (omega arith))) (byte_part b threshold_place (omega arith))) (byte_part b read_size_place (omega arith)))
    (zeros_part b view_spare_place view_spare (omega arith) p))
    e

pub plain_view : (b : List ℕ) → view_bytes (view_of b) ≡ b → view_plain b ≡ true
unfolding view_plain view_bytes view_of part
plain_view b e = zeros_back b view_spare_place view_spare (of_part view_spare_place view_spare e)

-- ---- server

pub server_plain_lem : (b : List ℕ) → length b ≡ server_width → Bytes b → server_plain b ≡ true → server_bytes (server_of b) ≡ b
unfolding server_plain server_bytes server_of
server_plain_lem b e y p =
    let f = and_parts (leb (get_or b faulty_place 0) 1) (zeros b server_spare_place server_spare && entry_plain (part b server_entry_place entry_width)) p in
    let z = and_parts (zeros b server_spare_place server_spare) (entry_plain (part b server_entry_place entry_width)) f.1 in
    spelled
    (spells _
    (spells _
    (spells _
    (spells _ (spells _ (spells_none b) (byte_part b server_view_place (omega arith)))
    (one_part b faulty_place _ (flag_of_lem (get_or b faulty_place 0) f.0) (omega arith)))
    (zeros_part b server_spare_place server_spare (omega arith) z.0))
    (le32_part b keys_place y (omega arith)))
    (entry_part b server_entry_place (omega arith) y z.1))
    e

pub plain_server : (b : List ℕ) → server_bytes (server_of b) ≡ b → server_plain b ≡ true
unfolding server_plain server_bytes server_of entry_bytes part
plain_server b e =
    and_from _ _ (of_flag (get_or b faulty_place 0) (sym (at faulty_place e)))
    (and_from _ _ (zeros_back b server_spare_place server_spare (of_part server_spare_place server_spare e))
    (plain_entry (part b server_entry_place entry_width) (of_part server_entry_place entry_width e)))

-- ---- client

pub client_plain_lem : (b : List ℕ) → length b ≡ client_width → Bytes b → client_plain b ≡ true → client_bytes (client_of b) ≡ b
unfolding client_plain client_bytes client_of phase_of
client_plain_lem b e y p =
    let k : ℕ = u16_at b client_request_place in
    let n : ℕ = get_or b phase_place 0 in
    let t = and_parts (leb n last_phase) (untagged n k && entry_plain (part b client_entry_place entry_width)) p in
    let r = and_parts (untagged n k) (entry_plain (part b client_entry_place entry_width)) t.1 in
    spelled
    (spells _
    (spells _
    (spells _
    (spells _ (spells _ (spells_none b) (one_part b phase_place _ (tag_of n k t.0) (omega arith))) (byte_part b client_kind_place (omega arith)))
    (half_part b client_request_place _ y (request_of_lem (eqb n 0) (eqb n 1) k r.0) (omega arith)))
    (entry_part b client_entry_place (omega arith) y r.1))
    (le32_part b given_place y (omega arith)))
    e

pub plain_client : (b : List ℕ) → client_bytes (client_of b) ≡ b → client_plain b ≡ true
unfolding client_plain client_bytes client_of phase_of entry_bytes part
plain_client b e =
    let k : ℕ = u16_at b client_request_place in
    let n : ℕ = get_or b phase_place 0 in
    and_from _ _ (le-leb n last_phase (omega (arith, at phase_place e, tag_le (phase_of n k))))
    (and_from _ _ (of_request (eqb n 0) (eqb n 1) k (get_or b client_request_place 0) (get_or b (client_request_place + 1) 0) refl (at client_request_place e) (at (client_request_place + 1) e))
    (plain_entry (part b client_entry_place entry_width) (of_part client_entry_place entry_width e)))

-- ---- message

pub message_plain_lem : (b : List ℕ) → length b ≡ message_width → Bytes b → message_plain b ≡ true → message_bytes (message_of b) ≡ b
unfolding message_plain message_bytes message_of
message_plain_lem b e y p =
    let f = and_parts (leb (get_or b taken_place 0) 1) (entry_plain (part b message_entry_place entry_width)) p in
    spelled
    (spells _
    (spells _
    (spells _
    (spells _
    (spells _
    (spells _ (spells _ (spells_none b) (byte_part b message_kind_place (omega arith))) (byte_part b sender_place (omega arith)))
    (byte_part b message_view_place (omega arith)))
    (one_part b taken_place _ (flag_of_lem (get_or b taken_place 0) f.0) (omega arith)))
    (le16_part b message_request_place y (omega arith)))
    (le16_part b next_place y (omega arith)))
    (entry_part b message_entry_place (omega arith) y f.1))
    e

pub plain_message : (b : List ℕ) → message_bytes (message_of b) ≡ b → message_plain b ≡ true
unfolding message_plain message_bytes message_of entry_bytes part
plain_message b e =
    and_from _ _ (of_flag (get_or b taken_place 0) (sym (at taken_place e)))
    (plain_entry (part b message_entry_place entry_width) (of_part message_entry_place entry_width e))

-- ---- administrator and header

pub administrator_plain_lem : (b : List ℕ) → length b ≡ administrator_width → Bytes b → administrator_plain b ≡ true → administrator_bytes (administrator_of b) ≡ b
unfolding administrator_plain administrator_bytes administrator_of ending_of
administrator_plain_lem b e y p =
    let k : ℕ = u16_at b end_place in
    let n : ℕ = get_or b ending_place 0 in
    let f = and_parts (leb n 1) (untagged n k) p in
    spelled
    (spells _
    (spells _ (spells _ (spells_none b) (byte_part b newest_place (omega arith)))
    (one_part b ending_place _ (ap bit (is_ending_lem (eqb n 0) k) ∙ flag_of_lem n f.0) (omega arith)))
    (half_part b end_place _ y (ending_of_lem (eqb n 0) k f.1) (omega arith)))
    e

pub plain_administrator : (b : List ℕ) → administrator_bytes (administrator_of b) ≡ b → administrator_plain b ≡ true
unfolding administrator_plain administrator_bytes administrator_of ending_of
plain_administrator b e =
    let k : ℕ = u16_at b end_place in
    let n : ℕ = get_or b ending_place 0 in
    and_from _ _ (of_flag n (sym (at ending_place e ∙ ap bit (is_ending_lem (eqb n 0) k))))
    (of_ending (eqb n 0) k (get_or b end_place 0) (get_or b (end_place + 1) 0) refl (at end_place e) (at (end_place + 1) e))

-- the header's bytes of an image
abbrev pub header_of : List ℕ → List ℕ
header_of b = header_bytes (u16_at b used_place) (administrator_of (part b administrator_place administrator_width))

pub header_plain_lem : (b : List ℕ) → length b ≡ header_width → Bytes b → header_plain b ≡ true → header_of b ≡ b
unfolding header_plain header_bytes
header_plain_lem b e y p =
    let v = and_parts (eqb (u16_at b version_place) version) (administrator_plain (part b administrator_place administrator_width) && zeros b header_spare_place header_spare) p in
    let z = and_parts (administrator_plain (part b administrator_place administrator_width)) (zeros b header_spare_place header_spare) v.1 in
    spelled
    (spells _
    (spells _
    (spells _ (spells _ (spells_none b) (half_part b version_place version y (sym (eqb-true (u16_at b version_place) version v.0)) (omega arith)))
    (le16_part b used_place y (omega arith)))
    (administrator_plain_lem (part b administrator_place administrator_width) (length_part b administrator_place administrator_width (omega arith))
    (bytes_part b administrator_place administrator_width y) z.0))
    (zeros_part b header_spare_place header_spare (omega arith) z.1))
    e

pub plain_header : (b : List ℕ) → header_of b ≡ b → header_plain b ≡ true
unfolding header_plain header_bytes administrator_bytes part
plain_header b e =
    and_from _ _ (eq-eqb (u16_at b version_place) version (omega (arith, at version_place e, at (version_place + 1) e)))
    (and_from _ _ (plain_administrator (part b administrator_place administrator_width) (of_part administrator_place administrator_width e))
    (zeros_back b header_spare_place header_spare (of_part header_spare_place header_spare e)))
