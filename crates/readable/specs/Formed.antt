-- A well-formed world, part by part; its records can be stored. Assumes nothing.
use Rattle.std.specs.Prelude.{◌≡◌, true, not, ◌&&◌, ℕ, ◌≤◌, leb, eqb}
use Rattle.std.proofs.Common.{sym, ◌∙◌, eqb-true, le-leb}
use Rattle.std.proofs.lemmas.Bool.{not-true, and_parts, and_from}
use Rattle.protocol.specs.declared.Message.{Message}
use Rattle.protocol.specs.Sizes.{views, messages}
use Rattle.protocol.specs.Servers.{ANSWER, is_request}
use Rattle.protocol.specs.Worlds.{World, message, newest, present}
use Rattle.protocol.specs.Readable.{is_sent, header_fits, request_fits, sent_fits, zero_message, message_fits}
use Rattle.codec.specs.Laws.{Full}
use Rattle.protocol.proofs.Laws.Tests.{by_test, clash}
use Rattle.protocol.proofs.Laws.Formed.{Formed, header_parts, SentParts, sent_parts}
use Rattle.protocol.proofs.Laws.Moves.{present_is}
use Rattle.readable.specs.Tests.{if_true, if_false}

-- the lists of a readable world have their full lengths
pub full_lists : {w : World} → Formed w → Full w
full_lists f = record { view = f.view_count; server = f.server_count; client = f.client_count; message = f.message_count }

-- what a header that fits says
pub record Headed (w : World) : Type 0 where
  pub used : w.used ≤ messages
  pub high : newest w ≤ views

pub headed : (w : World) → header_fits w ≡ true → Headed w
headed w e = let h = header_parts w e in record { used = h.0; high = h.1.1 }

pub in_present : (w : World) (n : ℕ) → 1 ≤ n → n ≤ w.used → present w n ≡ true
unfolding present
in_present w n a b = and_from _ _ (le-leb 1 n a) (le-leb n w.used b)

sent_present : (w : World) (n kind sender : ℕ) → is_sent w n kind sender ≡ true → n ≤ w.used
unfolding is_sent
sent_present w n kind sender e = (present_is w n (and_parts (present w n) (eqb (message w n).kind kind && eqb (message w n).sender sender) e).0).1

-- ---- a message that was sent

-- the message of a number of 1 to used
pub sent_at : (w : World) (n : ℕ) → n ≤ w.used → message_fits w n ≡ true → SentParts w (message w n)
unfolding message_fits
sent_at w n l e =
    sent_parts w (message w n) (sym (if_true (leb n w.used) (sent_fits w (message w n)) (zero_message (message w n)) (le-leb n w.used l)) ∙ e)

-- a taken message is an answer, and its request is one of kind 1 to 3
pub record Answer (w : World) (m : Message) : Type 0 where
  pub kind : m.kind ≡ ANSWER
  pub present : present w m.request.0 ≡ true
  pub request : is_request (message w m.request.0).kind ≡ true

pub taken_answer_lem : (w : World) (m : Message) → request_fits w m ≡ true → m.taken ≡ true → Answer w m
taken_answer_lem w m e t =
    by_test (eqb m.kind ANSWER)
    (λ k.
    let f = sym (if_true (eqb m.kind ANSWER) (present w m.request.0 && is_request (message w m.request.0).kind) (not m.taken && eqb m.request.0 0) k) ∙ e in
    let g = and_parts (present w m.request.0) (is_request (message w m.request.0).kind) f in
    record { kind = eqb-true m.kind ANSWER k; present = g.0; request = g.1 })
    (λ k.
    let f = sym (if_false (eqb m.kind ANSWER) (present w m.request.0 && is_request (message w m.request.0).kind) (not m.taken && eqb m.request.0 0) k) ∙ e in
    clash t (not-true m.taken (and_parts (not m.taken) (eqb m.request.0 0) f).0))
