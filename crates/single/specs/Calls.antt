-- The calls of single machines on lent bytes. Assumes nothing.
use Rattle.std.specs.Prelude.{ℕ, ◌+◌, Bool, true, false, ◌≡◌, List, length, get_or, eqb, Option, None, Some}
use Rattle.std.proofs.Common.{sym, ◌∙◌, eqb-true}
use Rattle.protocol.specs.declared.Administrator.{Administrator}
use Rattle.protocol.specs.declared.Shown.{Shown}
use Rattle.protocol.specs.Tools.{bit, Result, refused, done, guard, passed}
use Rattle.protocol.specs.declared.Reply.{Reply}
use Rattle.protocol.specs.Clients.{Close}
use Rattle.protocol.specs.Runs.{u16_width, u16_at}
use Rattle.codec.specs.Layout.{entry_width, view_width, server_width, client_width, message_width, administrator_width}
use Rattle.codec.specs.Lists.{part, put, put_all}
use Rattle.codec.specs.Bytes.{clear}
use Rattle.codec.specs.Records.{entry_of, view_of, server_of, server_bytes, client_of, client_bytes, message_of, administrator_of, administrator_bytes}
use Rattle.codec.specs.Records.{length_server_bytes, length_client_bytes, length_administrator_bytes, entry_plain, view_plain, server_plain, client_plain, message_plain, administrator_plain}
use Rattle.single.specs.Rules.{server_asked, client_asked, administrator_asked}

-- what is asked begins with four bytes of its own: the rule, three more by the machine
abbrev pub rule_place : ℕ
rule_place = 0

abbrev pub flag_place : ℕ
flag_place = 1

abbrev pub asked_view_place : ℕ
asked_view_place = 2

abbrev pub server_spare_place : ℕ
server_spare_place = 3

abbrev pub client_number_place : ℕ
client_number_place = 1

abbrev pub number_place : ℕ
number_place = 2

abbrev pub administrator_spare_place : ℕ
administrator_spare_place = 1

abbrev pub asked : ℕ
asked = number_place + u16_width

-- rule u8, flag u8, view u8, 1 zero, message
unfoldable pub server_call : List ℕ → List ℕ → Result Reply
server_call s b =
    guard (eqb (length s) server_width) 1
    (guard (eqb (length b) (asked + message_width)) 1
    (guard (server_plain s) 3
    (guard (clear b server_spare_place) 3
    (guard (message_plain (part b asked message_width)) 3
    (server_asked (server_of s) (message_of (part b asked message_width)) (get_or b rule_place 0) (get_or b flag_place 0) (get_or b asked_view_place 0))))))

-- what is asked of a client ends with a flag: all answers of the chosen view carry the entry, and the view permits one exchange
abbrev pub one_place : ℕ
one_place = asked + entry_width

-- rule u8, client u8, number u16, entry, one u8
unfoldable pub client_call : List ℕ → List ℕ → Result Close
client_call c b =
    guard (eqb (length c) client_width) 1
    (guard (eqb (length b) (one_place + 1)) 1
    (guard (client_plain c) 3
    (guard (entry_plain (part b asked entry_width)) 3
    (client_asked (client_of c) (get_or b rule_place 0) (get_or b client_number_place 0) (u16_at b number_place) (entry_of (part b asked entry_width)) (get_or b one_place 0)))))

-- rule u8, 1 zero, number u16, view
unfoldable pub administrator_call : List ℕ → List ℕ → Result Administrator
administrator_call a b =
    guard (eqb (length a) administrator_width) 1
    (guard (eqb (length b) (asked + view_width)) 1
    (guard (administrator_plain a) 3
    (guard (clear b administrator_spare_place) 3
    (guard (view_plain (part b asked view_width)) 3
    (administrator_asked (administrator_of a) (get_or b rule_place 0) (u16_at b number_place) (view_of (part b asked view_width)))))))

-- ---- what a call answers, and the record that it leaves: "A refusal changes no byte"

abbrev pub is_some : Option Shown → Bool
is_some None = false
is_some (Some x) = true

-- 1 if the server answers, with the view and entry of its record
abbrev pub replied : Result Reply → Result ℕ
replied (refused n) = refused n
replied (done r) = done (bit (is_some r.answer))

abbrev pub server_left : List ℕ → Result Reply → List ℕ
server_left s (refused n) = s
server_left s (done r) = server_bytes r.server

-- 1 if the operation is complete
abbrev pub completed : Result Close → Result ℕ
completed (refused n) = refused n
completed (done x) = done (bit x.complete)

abbrev pub client_left : List ℕ → Result Close → List ℕ
client_left c (refused n) = c
client_left c (done x) = client_bytes x.client

abbrev pub accepted : Result Administrator → Result ℕ
accepted (refused n) = refused n
accepted (done a) = done 0

abbrev pub administrator_left : List ℕ → Result Administrator → List ℕ
administrator_left a (refused n) = a
administrator_left a (done x) = administrator_bytes x

-- ---- a call that is done has a record of its width, and what is written over it is all of it

pub server_size : (s b : List ℕ) (x : Reply) → server_call s b ≡ done x → length s ≡ server_width
unfolding server_call
server_size s b x e = eqb-true _ _ (passed _ _ _ _ e).0

pub server_written : (s b : List ℕ) (x : Reply) → server_call s b ≡ done x → put s 0 (server_bytes x.server) ≡ server_bytes x.server
server_written s b x e = put_all s (server_bytes x.server) (length_server_bytes x.server ∙ sym (server_size s b x e))

pub client_size : (c b : List ℕ) (x : Close) → client_call c b ≡ done x → length c ≡ client_width
unfolding client_call
client_size c b x e = eqb-true _ _ (passed _ _ _ _ e).0

pub client_written : (c b : List ℕ) (x : Close) → client_call c b ≡ done x → put c 0 (client_bytes x.client) ≡ client_bytes x.client
client_written c b x e = put_all c (client_bytes x.client) (length_client_bytes x.client ∙ sym (client_size c b x e))

pub administrator_size : (a b : List ℕ) (x : Administrator) → administrator_call a b ≡ done x → length a ≡ administrator_width
unfolding administrator_call
administrator_size a b x e = eqb-true _ _ (passed _ _ _ _ e).0

pub administrator_written : (a b : List ℕ) (x : Administrator) → administrator_call a b ≡ done x → put a 0 (administrator_bytes x) ≡ administrator_bytes x
administrator_written a b x e = put_all a (administrator_bytes x) (length_administrator_bytes (x) ∙ sym (administrator_size a b x e))
