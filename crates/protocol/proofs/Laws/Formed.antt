-- Readable worlds by their clauses: `formed` takes the sentence apart, `well_formed_lem` puts it together. Used by all that rests on a
-- readable world: what the steps keep (`preservation`), what an image holds (`image`).
use Rattle.std.specs.Prelude.{ℕ, suc, ◌≤◌, true, ◌≡◌, length, leb, eqb}
use Rattle.std.proofs.Common.{leb-true, eqb-true, le-leb, eq-eqb}
use Rattle.std.specs.Cmp.{first_so, second_so}
use Rattle.std.proofs.lemmas.Bool.{and_from}
use Rattle.protocol.specs.Tools.{within, all_to}
use Rattle.protocol.specs.Sizes.{clients, servers, views, messages}
use Rattle.protocol.specs.Entries.{entry_fits}
use Rattle.protocol.specs.Servers.{READ, ANSWER}
use Rattle.protocol.specs.Worlds.{World, message, newest}
use Rattle.protocol.specs.Types.{Message}
use Rattle.protocol.specs.Readable.{shape, ending_fits, header_fits, view_fits, server_fits, client_fits, zero_message, message_fits, chain_fits, well_formed, sent_fits, sender_fits, tag_rule, request_fits, next_fits, entry_zero}
use Rattle.protocol.proofs.Laws.Tests.{within_true, is_within, all_to_at, all_to_lem}

-- the clauses, one by one
pub record Formed (w : World) : Type 0 where
  pub view_count : length w.view_list ≡ views
  pub server_count : length w.server_list ≡ servers
  pub client_count : length w.client_list ≡ clients
  pub message_count : length w.message_list ≡ suc messages
  pub full : w.used ≤ messages
  pub low : 1 ≤ newest w
  pub high : newest w ≤ views
  pub ending : ending_fits w w.administrator.ending ≡ true
  pub viewed : (t : ℕ) → 1 ≤ t → t ≤ views → view_fits w t ≡ true
  pub served : (s : ℕ) → 1 ≤ s → s ≤ servers → server_fits w s ≡ true
  pub client : (c : ℕ) → 1 ≤ c → c ≤ clients → client_fits w c ≡ true
  pub zero : zero_message (message w 0) ≡ true
  pub mail : (n : ℕ) → 1 ≤ n → n ≤ messages → message_fits w n ≡ true
  pub chained : (r : ℕ) → 1 ≤ r → r ≤ w.used → chain_fits w r ≡ true

pub header_parts : (w : World) → header_fits w ≡ true
    → (w.used ≤ messages) × ((1 ≤ newest w) × (newest w ≤ views)) × (ending_fits w w.administrator.ending ≡ true)
unfolding header_fits
header_parts w e =
    let r = second_so (leb w.used messages) _ e in
    (leb-true _ _ (first_so _ _ e), within_true 1 views (newest w) (first_so _ _ r), second_so (within 1 views (newest w)) _ r)

pub header_of_lem : {w : World} → Formed w → header_fits w ≡ true
unfolding header_fits
header_of_lem {w} h = and_from _ _ (le-leb _ _ h.full) (and_from _ _ (is_within 1 views (newest w) h.low h.high) h.ending)

pub formed : (w : World) → well_formed w ≡ true → Formed w
unfolding well_formed shape
formed w e =
    let s = first_so _ _ e in
    let e1 = second_so (shape w) _ e in
    let h = first_so _ _ e1 in
    let e2 = second_so (header_fits w) _ e1 in
    let e3 = second_so (all_to (view_fits w) views) _ e2 in
    let e4 = second_so (all_to (server_fits w) servers) _ e3 in
    let e5 = second_so (all_to (client_fits w) clients) _ e4 in
    let e6 = second_so (zero_message (message w 0)) _ e5 in
    let s1 = second_so (eqb (length w.view_list) views) _ s in
    let s2 = second_so (eqb (length w.server_list) servers) _ s1 in
    let n = header_parts w h in
    record {
      view_count = eqb-true _ _ (first_so _ _ s);
      server_count = eqb-true _ _ (first_so _ _ s1);
      client_count = eqb-true _ _ (first_so _ _ s2);
      message_count = eqb-true _ _ (second_so (eqb (length w.client_list) clients) _ s2);
      full = n.0;
      low = n.1.0;
      high = n.1.1;
      ending = n.2;
      viewed = λ t l u. all_to_at (view_fits w) views t (first_so _ _ e2) l u;
      served = λ t l u. all_to_at (server_fits w) servers t (first_so _ _ e3) l u;
      client = λ t l u. all_to_at (client_fits w) clients t (first_so _ _ e4) l u;
      zero = first_so _ _ e5;
      mail = λ t l u. all_to_at (message_fits w) messages t (first_so _ _ e6) l u;
      chained = λ t l u. all_to_at (chain_fits w) w.used t (second_so (all_to (message_fits w) messages) _ e6) l u;
    }

pub well_formed_lem : (w : World) → Formed w → well_formed w ≡ true
unfolding well_formed shape
well_formed_lem w h =
    and_from _ _ (and_from _ _ (eq-eqb _ _ h.view_count) (and_from _ _ (eq-eqb _ _ h.server_count) (and_from _ _ (eq-eqb _ _ h.client_count) (eq-eqb _ _ h.message_count))))
    (and_from _ _ (header_of_lem h)
    (and_from _ _ (all_to_lem (view_fits w) views h.viewed)
    (and_from _ _ (all_to_lem (server_fits w) servers h.served)
    (and_from _ _ (all_to_lem (client_fits w) clients h.client)
    (and_from _ _ h.zero (and_from _ _ (all_to_lem (message_fits w) messages h.mail) (all_to_lem (chain_fits w) w.used h.chained)))))))

-- what the clause of a message that was sent says, part by part
pub record SentParts (w : World) (m : Message) : Type 0 where
  pub kind : within READ ANSWER m.kind ≡ true
  pub sender : sender_fits m.kind m.sender ≡ true
  pub tag : tag_rule (newest w) m.kind m.view.0 ≡ true
  pub request : request_fits w m ≡ true
  pub next : next_fits m ≡ true
  pub zero : entry_zero m ≡ true
  pub entry : entry_fits m.entry ≡ true

pub sent_parts : (w : World) (m : Message) → sent_fits w m ≡ true → SentParts w m
unfolding sent_fits
sent_parts w m e =
    let e1 = second_so (within READ ANSWER m.kind) _ e in
    let e2 = second_so (sender_fits m.kind m.sender) _ e1 in
    let e3 = second_so (tag_rule (newest w) m.kind m.view.0) _ e2 in
    let e4 = second_so (request_fits w m) _ e3 in
    let e5 = second_so (next_fits m) _ e4 in
    record {
      kind = first_so _ _ e;
      sender = first_so _ _ e1;
      tag = first_so _ _ e2;
      request = first_so _ _ e3;
      next = first_so _ _ e4;
      zero = first_so _ _ e5;
      entry = second_so (entry_zero m) _ e5;
    }
