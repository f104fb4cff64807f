-- The record of a phase says what the step take does, `take_by_record`: in a readable world the record of the answers that were taken
-- to a request goes by one more to the record of those and the one, it is closed where the step closes or is refused with 10 or 11,
-- and with the same entry and the same leave to end a read. `record_of` is that record, `verdict_of` what it says. It begins as what opening writes, `open_record`.
-- No code rests on it.
use Prim.Native.Nat.{ℕ, ◌+◌, ◌*◌, ◌≤◌, ◌<◌, ◌^◌}
use Rattle.std.proofs.Math.Decide.{ℕ_discrete}
use Rattle.std.proofs.Common.{arith, ap₂, ◌∙◌, length-append}
use Rattle.std.specs.Prelude.{Bool, not, ◌&&◌, ◌≡◌, length, leb, ltb, None, Some}
use Rattle.std.proofs.Math.Bool.{true, false}
use Rattle.std.proofs.Math.Path.{refl, sym, ap}
use mathlib.Core.List.{List, [], ◌∷◌, ◌++◌, append-nil}
use Rattle.std.proofs.Math.Dec.{eqb}
use Rattle.std.specs.Cmp.{first_so, second_so}
use Rattle.std.proofs.lemmas.Bool.{and_from, not-true}
use borrow.Author.Tests.{eqb-true, eq-eqb, ne_eqb, le-leb, lt-ltb, ltb-true}
use Rattle.values.specs.declared.tally.Tally.{Tally}
use Rattle.protocol.specs.declared.Choice.{Choice}
use Rattle.protocol.specs.declared.Entry.{Entry}
use Rattle.protocol.specs.declared.Message.{Message}
use Rattle.protocol.specs.declared.MessageNumber.{MessageNumber}
use Rattle.protocol.specs.declared.Phase.{Phase}
use Rattle.protocol.specs.declared.Phase.TheVariants.{Idle, Reading, Writing}
use Rattle.protocol.specs.declared.Client.{Client}
use Rattle.protocol.specs.Types.{Ending}
use Rattle.protocol.specs.declared.View.{View}
use Rattle.protocol.specs.Tools.{if, within, bit, all, nth, replace, done, guard}
use Rattle.protocol.specs.Sizes.{clients, servers, views, messages, sized, write_size}
use Rattle.protocol.specs.Entries.{chosen, same, entry_fits}
use Rattle.protocol.specs.Servers.{READ, WRITE, END, ANSWER, is_request}
use Rattle.protocol.specs.Clients.{request_of, close, end_of}
use Rattle.protocol.specs.Worlds.{World, view, client, message, newest, present}
use Rattle.protocol.specs.Chains.{chain, enough, shown, agreed}
use Rattle.protocol.specs.Steps.{moved, link, open?, at_once, closes, starts, takes, take}
use Rattle.protocol.specs.Readable.{is_sent, ending_fits, kind_rule, phase_fits, client_range, client_fits, view_fits, last_view}
use Rattle.protocol.specs.Readable.{sender_fits, tag_rule, is_asked, request_rule, next_fits, entry_zero, message_fits, taken_answer, ends, chain_fits}
use Rattle.protocol.proofs.Laws.Formed.{Formed, SentParts, sent_parts}
use Rattle.protocol.proofs.Laws.Tests.{by_test, clash, within_true, is_within}
use Rattle.values.specs.Tallies.{choice}
use Rattle.protocol.proofs.Laws.Worlds.{nth_same, nth_other, length_replace}
use Rattle.codec.specs.Bytes.{zeros, half_le16, word_le32}
use Rattle.codec.specs.Records.{entry_of, entry_bytes, entry_plain, view_of, view_bytes, message_of, message_bytes, message_plain, entry_fits_lem}
use Rattle.codec.specs.Records.{ViewFits, MessageFits, view_of_bytes, message_of_bytes, length_view_bytes, length_message_bytes}
use Rattle.codec.specs.Spelling.{plain_view, plain_message}
use Rattle.codec.specs.Layout.{entry_width, view_width, message_width}
use Rattle.checked.specs.Rules.{take_rule}
use Rattle.checked.specs.Ranges.{number_fits, message_in_range}
use Rattle.codec.specs.Lists.{part, put, flat, length_flat, part_number, put_number, nth_list_to, list_to_nth}
use Rattle.protocol.specs.Worlds.{list_to}
use Rattle.protocol.proofs.Laws.Lists.{length_list_to}
use Rattle.phases.specs.declared.phase_record.Head.{Head}
use Rattle.phases.specs.Layout.{head_width, tally_width, tally_place, tallies_width, phase_width, asked_width}
use Rattle.phases.specs.Records.{head_of, head_bytes, head_at, ended_fits, open_fits, head_fits, length_head_bytes}
use Rattle.phases.specs.Records.{tally_read, tally_bytes, tally_plain, tally_rule, tally_at, put_tally, plain_at, tally_fits, length_tally_bytes}
use Rattle.phases.specs.Rules.{size_by, counts, may_end, closed_with, record_closes}
use Rattle.phases.specs.Calls.{record_opened, open_on, tally_with, taking, records_fit, may_take, asked_message, asked_view, asked_plain, answer_on}
use Rattle.phases.specs.Lists.{no_tally, tally_in, valid_answer}
use Rattle.phases.proofs.Lists.{TallyStorable, in_sound, newer_closes}
use Rattle.phases.specs.Same.{head_in, phase_bytes, record_of, verdict_of, carried, asked_of, told_of, ByRecord}

-- ---- what the record says, by the list

abbrev enough_in : World → ℕ → ℕ → List ℕ → Bool
enough_in w r t ks = counts (head_in w r) t && enough w t ks (size_by (message w r).kind (view w t))

abbrev choice_in : World → ℕ → ℕ → List ℕ → Choice
choice_in w r t ks = record { entry = chosen (shown w t ks); one = may_end (message w r).kind (agreed w t ks) (view w t) }

verdict_list : (w : World) (r t : ℕ) (ks : List ℕ) → all (valid_answer w) ks ≡ true
    → verdict_of w r t ks ≡ if (enough_in w r t ks) (Some (choice_in w r t ks)) None
unfolding record_closes
verdict_list w r t ks e =
    rw (newer_closes w t ks (size_by (message w r).kind (view w t)) e) (go (counts (head_in w r) t) (enough w t ks (size_by (message w r).kind (view w t))))
  where
    go : (a b : Bool) → if a (closed_with (message w r).kind (view w t) (if b (Some (choice w t ks)) None)) None ≡ if (a && b) (Some (choice_in w r t ks)) None
    go true true = refl
    go true false = refl
    go false b = refl

-- ---- what a readable world says of a message that was sent

parts : (w : World) (n : ℕ) → Formed w → present w n ≡ true → SentParts w (message w n)
unfolding present message_fits
parts w n f p =
    let (l, u) = within_true 1 w.used n p in
    let i : n ≤ messages = omega (arith, f.full) in
    sent_parts w (message w n) (rw (le-leb n w.used u) at (f.mail n l i))

-- the answers of a chain are answers
is_answerer : (w : World) (k : ℕ) → Formed w → present w k ≡ true → (message w k).kind ≡ ANSWER → valid_answer w k ≡ true
is_answerer w k f p e =
    let h = parts w k f p in
    and_from (within 1 servers (message w k).sender) _ (rw e at h.sender) h.entry

all_answerers : (w : World) (r : ℕ) (ks : List ℕ) → Formed w → all (taken_answer w r) ks ≡ true → all (valid_answer w) ks ≡ true
unfolding all taken_answer
all_answerers w r [] f e = refl
all_answerers w r (k ∷ ks) f e =
    let a = first_so (taken_answer w r k) _ e in
    let b = second_so (present w k) _ a in
    and_from (valid_answer w k) _ (is_answerer w k f (first_so (present w k) _ a) (eqb-true (message w k).kind ANSWER (first_so (eqb (message w k).kind ANSWER) _ b)))
    (all_answerers w r ks f (second_so (taken_answer w r k) _ e))

chain_answerers : (w : World) (r : ℕ) → Formed w → is_asked w r ≡ true → all (valid_answer w) (chain w r) ≡ true
unfolding chain_fits present
chain_answerers w r f e =
    let (l, u) = within_true 1 w.used r (first_so (present w r) _ e) in
    let q = second_so (present w r) _ e in
    let c = rw q at (f.chained r l u) in
    all_answerers w r (chain w r) f (first_so (all (taken_answer w r) (chain w r)) _ (second_so (ends w r) _ c))

-- ---- the step that takes an answer, in a readable world

-- message k may be taken, r being its request
record MayBeTaken (w : World) (k r : ℕ) : Type 0 where
  formed : Formed w
  sent : present w k ≡ true
  answers : (message w k).kind ≡ ANSWER
  untaken : (message w k).taken ≡ false
  named : (message w k).request.0 ≡ r
  asked : is_asked w r ≡ true
  is_open : open? w r ≡ true

taking_of : (w : World) (k : ℕ) → Formed w → present w k && eqb (message w k).kind ANSWER ≡ true
    → not (message w k).taken && open? w (message w k).request.0 ≡ true → MayBeTaken w k (message w k).request.0
taking_of w k f a b =
    let p = first_so (present w k) _ a in
    let e : (message w k).kind ≡ ANSWER = eqb-true (message w k).kind ANSWER (second_so (present w k) _ a) in
    record {
      formed = f;
      sent = p;
      answers = e;
      untaken = not-true (message w k).taken (first_so _ _ b);
      named = refl;
      asked = rw (eq-eqb (message w k).kind ANSWER e) at (parts w k f p).request;
      is_open = second_so (not (message w k).taken) _ b;
    }

-- "while ending, newest is below 32 ..., and the END is that of newest"
end_view : (w : World) (r : ℕ) (x : Ending) → ending_fits w x ≡ true → eqb (end_of x) r ≡ true → 1 ≤ r
    → ((message w r).view.0 ≡ newest w) × (newest w < views)
end_view w r None e h l = absurd (omega (arith, eqb-true 0 r h))
end_view w r (Some n) e h l =
    let q : n.0 ≡ r = eqb-true n.0 r h in
    let s = second_so (is_sent w n.0 END 0) _ (second_so (ltb (newest w) views) _ e) in
    (rw q at (eqb-true (message w n.0).view.0 (newest w) s), ltb-true (newest w) views (first_so _ _ e))

-- "open phases ... name a message of the right kind"
data KindWaits (kind : ℕ) (p : Phase) : Type 0 where
  reads : kind ≡ READ → (n : MessageNumber) → p ≡ Reading n → KindWaits kind p
  writes : kind ≡ WRITE → (n : MessageNumber) → p ≡ Writing n → KindWaits kind p

kind_waits : (w : World) (c r : ℕ) (a : Client) (p : Phase) → phase_fits w c a p ≡ true → eqb (request_of p) r ≡ true → 1 ≤ r → KindWaits (message w r).kind p
unfolding is_sent
kind_waits w c r a Idle e h l = absurd (omega (arith, eqb-true 0 r h))
kind_waits w c r a (Reading n) e h l =
    let q : n.0 ≡ r = eqb-true n.0 r h in
    let s = first_so (is_sent w n.0 READ c) _ (second_so (kind_rule a.kind) _ e) in
    let k = first_so (eqb (message w n.0).kind READ) _ (second_so (present w n.0) _ s) in
    reads (rw q at (eqb-true (message w n.0).kind READ k)) n refl
kind_waits w c r a (Writing n) e h l =
    let q : n.0 ≡ r = eqb-true n.0 r h in
    let s = first_so (is_sent w n.0 WRITE c) _ (second_so (kind_rule a.kind) _ e) in
    let k = first_so (eqb (message w n.0).kind WRITE) _ (second_so (present w n.0) _ s) in
    writes (rw q at (eqb-true (message w n.0).kind WRITE k)) n refl

-- for a WRITE phase it makes no difference whether the answers carry one entry
closes_writing : (w : World) (k c : ℕ) (e : Entry) (one : Bool) (n : MessageNumber) → (client w c).phase ≡ Writing n
    → closes w k c e one ≡ closes w k c e false
unfolding closes close
closes_writing w k c e one n p = rw p refl

carried_if : (w : World) (k r : ℕ) (b : Bool) (x : Choice) → carried w k r (if b (Some x) None) ≡ if b (carried w k r (Some x)) (moved (link w k))
carried_if w k r true x = refl
carried_if w k r false x = refl

module _ (w : World) (k r t : ℕ) (q : (message w k).request.0 ≡ r) (a : all (valid_answer w) (k ∷ chain w r) ≡ true) where
  by_list : if (enough_in w r t (k ∷ chain w r)) (carried w k r (Some (choice_in w r t (k ∷ chain w r)))) (moved (link w k))
      ≡ carried w k r (verdict_of w r t (k ∷ chain w r))
  by_list =
      sym (ap (carried w k r) (verdict_list w r t (k ∷ chain w r) a) ∙ carried_if w k r (enough_in w r t (k ∷ chain w r)) (choice_in w r t (k ∷ chain w r)))

  -- an END that is closed by its own view
  end_carried : (message w r).kind ≡ END → (message w r).view.0 ≡ newest w → takes w k r t ≡ carried w k r (verdict_of w r t (k ∷ chain w r))
  unfolding takes
  end_carried e v =
      let ks : List ℕ = k ∷ chain w r in
      rw (← by_list, q, e)
      (ap (λ (x : ℕ). if (eqb t x && enough w t ks (write_size (view w t))) (starts w k (chosen (shown w t ks))) (moved (link w k))) (sym v))

  -- a phase that is closed by any view
  phase_carried : KindWaits (message w r).kind (client w (message w r).sender).phase → takes w k r t ≡ carried w k r (verdict_of w r t (k ∷ chain w r))
  unfolding takes
  phase_carried (reads e n p) = rw (← by_list, q, e, p) refl
  phase_carried (writes e n p) =
      rw (← by_list, q, e, p, closes_writing w k (message w r).sender (chosen (shown w t (k ∷ chain w r))) (at_once w t (k ∷ chain w r)) n p) refl

-- ---- a request of a readable world

module _ (w : World) (r : ℕ) (f : Formed w) (a : is_asked w r ≡ true) (o : open? w r ≡ true) where
  r_sent : present w r ≡ true
  r_sent = first_so (present w r) _ a

  r_kind : is_request (message w r).kind ≡ true
  r_kind = second_so (present w r) _ a

  r_low : 1 ≤ r
  unfolding present
  r_low = (within_true 1 w.used r r_sent).0

  r_high : r ≤ messages
  unfolding present
  r_high = omega (arith, (within_true 1 w.used r r_sent).1, f.full)

  not_end : eqb (message w r).kind END ≡ false → (message w r).kind ≤ WRITE
  not_end e = below (message w r).kind (within_true READ END (message w r).kind r_kind).1 (λ q. clash (eq-eqb (message w r).kind END q) e)
    where
      below : (n : ℕ) → n ≤ END → (n ≡ END → ⊥) → n ≤ WRITE
      below n l q = omega arith

  -- an END that is open ends the newest view, which is not the last
  r_ended : eqb (message w r).kind END ≡ true → ((message w r).view.0 ≡ newest w) × (newest w < views)
  unfolding open?
  r_ended e = end_view w r w.administrator.ending f.ending (rw e at o) r_low

  r_ended_fits : ended_fits (message w r).kind (message w r).view.0 ≡ true
  r_ended_fits =
      let p = (parts w r f r_sent).tag in
      by_test (eqb (message w r).kind END)
      (λ e.
      let q : within 1 (newest w) (message w r).view.0 ≡ true = rw (eqb-true (message w r).kind END e) at p in
      let (l, u) = within_true 1 (newest w) (message w r).view.0 q in
      let (n, v) = r_ended e in
      rw (e, le-leb 1 (message w r).view.0 l, lt-ltb (message w r).view.0 views (omega (arith, n, v))) refl)
      (λ e. rw e (rw (le-leb (message w r).kind WRITE (not_end e)) at p))

  -- its head is that of an open phase
  r_open : open_fits (head_in w r) ≡ true
  unfolding open_fits number_fits
  r_open =
      and_from (within READ END (message w r).kind) _ r_kind
      (and_from (ended_fits (message w r).kind (message w r).view.0) _ r_ended_fits (is_within 1 messages r r_low r_high))

  r_head : head_fits (head_in w r) ≡ true
  unfolding head_fits
  r_head =
      let l = (within_true READ END (message w r).kind r_kind).0 in
      rw (ne_eqb (message w r).kind 0 (λ e. absurd (omega arith))) r_open

-- what is known of the request of an answer that may be taken
module _ (w : World) (k r : ℕ) (h : MayBeTaken w k r) where
  with_answerers : all (valid_answer w) (k ∷ chain w r) ≡ true
  unfolding all
  with_answerers = and_from (valid_answer w k) _ (is_answerer w k h.formed h.sent h.answers) (chain_answerers w r h.formed h.asked)

  r_waits : eqb (message w r).kind END ≡ false → KindWaits (message w r).kind (client w (message w r).sender).phase
  unfolding open? client_fits
  r_waits e =
      let c : ℕ = (message w r).sender in
      let s = rw (le-leb (message w r).kind WRITE (not_end w r h.formed h.asked h.is_open e)) at (parts w r h.formed (r_sent w r h.formed h.asked h.is_open)).sender in
      let (l, u) = within_true 1 clients c s in
      let o : eqb (request_of (client w c).phase) r ≡ true = rw e at h.is_open in
      kind_waits w c r (client w c) (client w c).phase (second_so (client_range (client w c)) _ (h.formed.client c l u)) o (r_low w r h.formed h.asked h.is_open)

  take_carried : takes w k r (message w k).view.0 ≡ carried w k r (verdict_of w r (message w k).view.0 (k ∷ chain w r))
  take_carried =
      by_test (eqb (message w r).kind END)
      (λ e. end_carried w k r (message w k).view.0 h.named with_answerers (eqb-true (message w r).kind END e) (r_ended w r h.formed h.asked h.is_open e).0)
      (λ e. phase_carried w k r (message w k).view.0 h.named with_answerers (r_waits e))

-- ---- the record as bytes

tallies_long : (g : ℕ → Tally) → length (flat tally_bytes (list_to g views)) ≡ tallies_width
tallies_long g = length_flat tally_bytes tally_width length_tally_bytes (list_to g views) ∙ ap (λ (n : ℕ). n * tally_width) (length_list_to g views)

bytes_long : (h : Head) (g : ℕ → Tally) → length (phase_bytes h g) ≡ phase_width
unfolding phase_bytes
bytes_long h g = length-append (head_bytes h) _ ∙ ap₂ (λ (a b : ℕ). a + b) (length_head_bytes h) (tallies_long g)

head_back : (h : Head) (g : ℕ → Tally) → h.request.0 < 2 ^ 16 → head_at (phase_bytes h g) ≡ h
unfolding head_at head_of phase_bytes head_bytes part
head_back h g l = simp (half_le16 h.request.0 l)

tally_back : (a : Tally) → TallyStorable a → tally_read (tally_bytes a) ≡ a
unfolding tally_read tally_bytes part entry_bytes entry_of
tally_back a s =
    let e = entry_fits_lem a.best s.fits in
    simp (word_le32 _ s.small, word_le32 _ e.count, word_le32 _ e.value, flag_back)
  where
    flag_back : (b : Bool) → eqb (bit (not b)) 0 ≡ b
    flag_back true = refl
    flag_back false = refl

tally_clean : (a : Tally) → tally_plain (tally_bytes a) ≡ true
unfolding tally_plain tally_bytes part entry_bytes entry_plain zeros
tally_clean a = go a.one
  where
    go : (b : Bool) → leb (bit (not b)) 1 && true ≡ true
    go true = refl
    go false = refl

tally_obeys : (a : Tally) → TallyStorable a → tally_rule a ≡ true
unfolding tally_rule same
tally_obeys a s =
    and_from (entry_fits a.best) _ s.fits
    (by_test (eqb a.seen.0 0)
    (λ z. let (p, q) = s.quiet (eqb-true a.seen.0 0 z) in rw (z, p, q) refl)
    (λ z. rw z refl))

module _ (h : Head) (g : ℕ → Tally) (t : ℕ) (l : 1 ≤ t) (u : t ≤ views) where
  part_tally : part (phase_bytes h g) (tally_place t) tally_width ≡ tally_bytes (g t)
  unfolding phase_bytes
  part_tally =
      ap (λ (x : List ℕ). part (head_bytes h ++ x) (tally_place t) tally_width) (sym (append-nil (flat tally_bytes (list_to g views))))
      ∙ part_number tally_bytes tally_width length_tally_bytes (head_bytes h) (list_to g views) [] head_width t no_tally (length_head_bytes h) l (omega (arith, length_list_to g views))
      ∙ ap tally_bytes (nth_list_to g views t no_tally l u)

  put_tally_lem : (f : ℕ → Tally) → ((s : ℕ) → (s ≡ t → ⊥) → f s ≡ g s) → put_tally (phase_bytes h g) t (f t) ≡ phase_bytes h f
  unfolding phase_bytes put_tally
  put_tally_lem f o =
      ap (λ (x : List ℕ). put (head_bytes h ++ x) (tally_place t) (tally_bytes (f t))) (sym (append-nil (flat tally_bytes (list_to g views))))
      ∙ put_number tally_bytes tally_width length_tally_bytes (head_bytes h) (list_to g views) [] head_width t (f t) (length_head_bytes h) l (omega (arith, length_list_to g views))
      ∙ ap (λ (x : List ℕ). head_bytes h ++ x) (append-nil (flat tally_bytes (replace (list_to g views) t (f t))) ∙ ap (flat tally_bytes) (sym same_list))
    where
      each : (s : ℕ) → 1 ≤ s → s ≤ views → f s ≡ nth (replace (list_to g views) t (f t)) s no_tally
      each s a b =
          elim (ℕ_discrete s t) [
            | yes e ↦ rw e (sym (nth_same (list_to g views) t (f t) no_tally l (omega (arith, length_list_to g views))))
            | no e ↦ o s e ∙ sym (nth_other (list_to g views) t (f t) no_tally s e ∙ nth_list_to g views s no_tally a b)
          ]

      same_list : list_to f views ≡ replace (list_to g views) t (f t)
      same_list = list_to_nth f (replace (list_to g views) t (f t)) no_tally views (length_replace (list_to g views) t (f t) ∙ length_list_to g views) each

asked_parts : (m : Message) (v : View) → (part (message_bytes m ++ view_bytes v) 0 message_width ≡ message_bytes m)
    × (part (message_bytes m ++ view_bytes v) message_width view_width ≡ view_bytes v)
unfolding message_bytes view_bytes entry_bytes part
asked_parts m v = (refl, refl)

asked_bytes_long : (m : Message) (v : View) → length (message_bytes m ++ view_bytes v) ≡ asked_width
asked_bytes_long m v = length-append (message_bytes m) (view_bytes v) ∙ ap₂ (λ (a b : ℕ). a + b) (length_message_bytes m) (length_view_bytes v)

asked_clean : (m : Message) (v : View) → MessageFits m → ViewFits v → asked_plain (message_bytes m ++ view_bytes v) ≡ true
unfolding asked_plain
asked_clean m v f g =
    let (a, b) = asked_parts m v in
    rw (a, b)
    (and_from (message_plain (message_bytes m)) _ (plain_message (message_bytes m) (ap message_bytes (message_of_bytes m f)))
    (plain_view (view_bytes v) (ap view_bytes (view_of_bytes v g))))

module _ (w : World) (k r : ℕ) (h : MayBeTaken w k r) where
  t_within : within 1 (newest w) (message w k).view.0 ≡ true
  t_within = rw h.answers at (parts w k h.formed h.sent).tag

  t_low : 1 ≤ (message w k).view.0
  t_low = (within_true 1 (newest w) (message w k).view.0 t_within).0

  t_newest : (message w k).view.0 ≤ newest w
  t_newest = (within_true 1 (newest w) (message w k).view.0 t_within).1

  t_high : (message w k).view.0 ≤ views
  t_high = omega (arith, t_newest, h.formed.high)

  t_sized : sized (view w (message w k).view.0) ≡ true
  unfolding view_fits last_view
  t_sized =
      let last : (message w k).view.0 ≤ last_view w = omega (arith, t_newest) in
      rw (le-leb (message w k).view.0 (last_view w) last) at (h.formed.viewed (message w k).view.0 t_low t_high)

  -- "next u16 (0 in ... an untaken answer)"
  k_next : (message w k).next.0 ≡ 0
  k_next = eqb-true (message w k).next.0 0 (rw (h.answers, h.untaken) at (parts w k h.formed h.sent).next)

  k_fits : MessageFits (message w k)
  k_fits =
      record {
        request = omega (arith, h.named, r_high w r h.formed h.asked h.is_open);
        next = omega (arith, k_next);
        entry = entry_fits_lem (message w k).entry (parts w k h.formed h.sent).entry;
      }

  v_fits : ViewFits (view w (message w k).view.0)
  unfolding sized
  v_fits = record { members = ltb-true (view w (message w k).view.0).members.0 (2 ^ 32) (first_so _ _ t_sized) }

  k_range : message_in_range (message w k) ≡ true
  unfolding message_in_range number_fits
  k_range =
      let m : Message = message w k in
      let p = parts w k h.formed h.sent in
      let n : m.next.0 ≤ messages = omega (arith, k_next) in
      let q : within 1 messages m.request.0 ≡ true = rw h.named (is_within 1 messages r (r_low w r h.formed h.asked h.is_open) (r_high w r h.formed h.asked h.is_open)) in
      and_from (leb m.next.0 messages) _ (le-leb m.next.0 messages n)
      (and_from (within READ ANSWER m.kind) _ p.kind
      (and_from (sender_fits m.kind m.sender) _ p.sender
      (and_from (tag_rule views m.kind m.view.0) _ (rw h.answers (is_within 1 views m.view.0 t_low t_high))
      (and_from (request_rule m (within 1 messages m.request.0)) _ (rw h.answers q)
      (and_from (next_fits m) _ p.next (and_from (entry_zero m) _ p.zero p.entry))))))

  -- ---- the record of the answers taken so far, and one more

  chain_sound_lem : (s : ℕ) → TallyStorable (tally_in w s (chain w r))
  chain_sound_lem s = in_sound w s (chain w r) (chain_answerers w r h.formed h.asked)

  head_is : head_at (record_of w r (chain w r)) ≡ head_in w r
  head_is = head_back (head_in w r) (λ s. tally_in w s (chain w r)) (omega (arith, r_high w r h.formed h.asked h.is_open))

  tally_is : tally_at (record_of w r (chain w r)) (message w k).view.0 ≡ tally_in w (message w k).view.0 (chain w r)
  unfolding tally_at
  tally_is =
      ap tally_read (part_tally (head_in w r) (λ s. tally_in w s (chain w r)) (message w k).view.0 t_low t_high)
      ∙ tally_back (tally_in w (message w k).view.0 (chain w r)) (chain_sound_lem (message w k).view.0)

  tally_fits_lem : tally_fits (record_of w r (chain w r)) (message w k).view.0 ≡ true
  unfolding tally_fits plain_at
  tally_fits_lem =
      let t : ℕ = (message w k).view.0 in
      let z : eqb t 0 ≡ false = ne_eqb t 0 (λ e. absurd (omega (arith, t_low))) in
      rw (z, part_tally (head_in w r) (λ s. tally_in w s (chain w r)) t t_low t_high, tally_is)
      (and_from (tally_plain (tally_bytes (tally_in w t (chain w r)))) _ (tally_clean (tally_in w t (chain w r)))
      (tally_obeys (tally_in w t (chain w r)) (chain_sound_lem t)))

  may_take_lem : may_take (record_of w r (chain w r)) (message w k) (view w (message w k).view.0) ≡ done (message w k)
  unfolding may_take records_fit take_rule guard
  may_take_lem =
      let u = le-leb r messages (r_high w r h.formed h.asked h.is_open) in
      let q = eq-eqb (message w k).request.0 r h.named in
      rw (head_is, r_head w r h.formed h.asked h.is_open, k_range, tally_fits_lem, u, h.answers, h.untaken, q, t_sized) refl

  own_tally : tally_with (record_of w r (chain w r)) (message w k) ≡ tally_in w (message w k).view.0 (k ∷ chain w r)
  unfolding tally_in
  own_tally = rw (tally_is, eq-eqb (message w k).view.0 (message w k).view.0 refl) refl

  other_tally : (s : ℕ) → (s ≡ (message w k).view.0 → ⊥) → tally_in w s (k ∷ chain w r) ≡ tally_in w s (chain w r)
  unfolding tally_in
  other_tally s n = rw (ne_eqb (message w k).view.0 s (λ e. n (sym e))) refl

  next_phase : put_tally (record_of w r (chain w r)) (message w k).view.0 (tally_in w (message w k).view.0 (k ∷ chain w r)) ≡ record_of w r (k ∷ chain w r)
  next_phase =
      put_tally_lem (head_in w r) (λ s. tally_in w s (chain w r)) (message w k).view.0 t_low t_high (λ s. tally_in w s (k ∷ chain w r)) other_tally

take_told : (w : World) (k r : ℕ) → MayBeTaken w k r
    → taking (record_of w r (chain w r)) (message w k) (view w (message w k).view.0) ≡ told_of w r (message w k).view.0 (k ∷ chain w r)
unfolding taking
take_told w k r h = rw (own_tally w k r h, head_is w k r h, next_phase w k r h) refl

answer_told : (w : World) (k r : ℕ) (e : List ℕ) → MayBeTaken w k r → length e ≡ entry_width
    → answer_on (record_of w r (chain w r)) (asked_of w k) e ≡ done (told_of w r (message w k).view.0 (k ∷ chain w r))
unfolding answer_on guard
answer_told w k r e h l =
    let m : Message = message w k in
    let v : View = view w m.view.0 in
    let (a, b) = asked_parts m v in
    let x : asked_message (asked_of w k) ≡ m = ap message_of a ∙ message_of_bytes m (k_fits w k r h) in
    let y : asked_view (asked_of w k) ≡ v = ap view_of b ∙ view_of_bytes v (v_fits w k r h) in
    let n = eq-eqb _ _ (bytes_long (head_in w r) (λ s. tally_in w s (chain w r))) in
    rw (n, eq-eqb _ _ (asked_bytes_long m v), eq-eqb (length e) entry_width l, asked_clean m v (k_fits w k r h) (v_fits w k r h), x, y, may_take_lem w k r h, take_told w k r h)
    refl

-- the record of a request to which no answer was taken is what opening writes
none_taken : (w : World) (r : ℕ) → record_of w r [] ≡ record_opened (head_in w r)
unfolding phase_bytes record_opened tally_in list_to flat tally_bytes entry_bytes
none_taken w r = refl

pub open_record : (w : World) (r : ℕ) (p : List ℕ) → Formed w → is_asked w r ≡ true → open? w r ≡ true → length p ≡ phase_width
    → open_on p (message w r).kind (message w r).view.0 r ≡ done (record_of w r [])
unfolding open_on guard
open_record w r p f a o l = rw (eq-eqb (length p) phase_width l, r_open w r f a o, none_taken w r) refl

pub take_by_record : (w : World) (k : ℕ) (e : List ℕ) → Formed w → present w k && eqb (message w k).kind ANSWER ≡ true
    → not (message w k).taken && open? w (message w k).request.0 ≡ true → length e ≡ entry_width → ByRecord w k e
unfolding take guard
take_by_record w k e f a b l =
    let h = taking_of w k f a b in
    record { told = answer_told w k (message w k).request.0 e h l; step = rw (a, b) (take_carried w k (message w k).request.0 h) }
