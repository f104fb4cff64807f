-- "message 0 all zero" and "messages beyond used are zero", tested as bytes. `zero_bytes` is the test; `zero_record`: all bytes of a
-- message's record are zero where its spare bytes are and the message that it spells is zero; `first_zero` and `beyond_zero` say it
-- of message 0 and of all messages beyond those used. The functions of `beyond` and `messages_ok` rest on them. Assumes nothing.
use Rattle.std.specs.Prelude.{◌≡◌, refl, Bool, true, not, ◌&&◌, length, take, replicate, eqb}
use Rattle.std.proofs.Common.{sym, ap₂, ◌∙◌, add-one, take-append-drop, drop_of_length-le, drop-drop}
use Rattle.std.proofs.Math.Path.{ap}
use Rattle.std.proofs.Math.Bool.{and-true, and_assoc}
use mathlib.Core.List.{List, [], ◌∷◌, ◌++◌}
use Prim.Native.Nat.{ℕ, zero, suc, ◌+◌, ◌-◌, ◌≤◌, ◌<◌}
use native.Mathlib.Omega.{arith}
use Rattle.std.proofs.Math.ListN.{drop}
use Rattle.std.specs.Int.Bits.{bit_or, or_zero_l, or_add_and}
use Rattle.std.specs.List.{fold}
use Rattle.std.proofs.lemmas.Nat.{and_le_l, and_le_r}
use Rattle.std.proofs.lemmas.Bool.{and_parts, and_from}
use Rattle.std.specs.Cmp.{both_ways}
use borrow.Author.Tests.{eqb-true, eq-eqb, lt-leb, not-true}
use Rattle.protocol.specs.declared.Message.{Message}
use Rattle.protocol.specs.Tools.{all_to, all}
use Rattle.protocol.specs.Sizes.{messages}
use Rattle.protocol.specs.Entries.{count_of, writer_of, same}
use Rattle.protocol.specs.Readable.{zero_message}
use Rattle.codec.specs.Layout.{image_size, message_width, message_place}
use Rattle.codec.specs.Lists.{part, length_part}
use Rattle.codec.specs.Bytes.{Bytes, bytes_part, zeros as zeros_from}
use Rattle.codec.specs.Records.{entry_of, entry_bytes, message_of, message_bytes, message_plain, entry_plain}
use Rattle.codec.specs.Places.{used_at, message_at}
use Rattle.codec.specs.Laws.{message_decode}
use Rattle.codec.specs.Spelling.{message_plain_lem}
use Rattle.codec.specs.Whole.{message_plain_at}
use Rattle.readable.specs.Scan.{first_ok, message_ok, beyond_rule}

-- every byte is zero
unfoldable pub zero_bytes : List ℕ → Bool
zero_bytes b = all (λ x. eqb x 0) b

-- ---- bytes joined one after another

-- two numbers joined are zero where both are
-- The kit has it in proofs of its own, which std does not hand on.
or_zero : (a b : ℕ) → eqb (bit_or a b) 0 ≡ eqb a 0 && eqb b 0
or_zero a b =
    both_ways (eqb (bit_or a b) 0) (eqb a 0 && eqb b 0)
    (λ e.
    let z = eqb-true (bit_or a b) 0 e in
    let s = or_add_and a b in
    let l = and_le_l a b in
    let r = and_le_r a b in
    and_from _ _ (eq-eqb a 0 (omega arith)) (eq-eqb b 0 (omega arith)))
    (λ e. let p = and_parts (eqb a 0) (eqb b 0) e in rw (eqb-true a 0 p.0, eqb-true b 0 p.1) (ap (λ (n : ℕ). eqb n 0) (or_zero_l 0)))

zero_append : (a b : List ℕ) → zero_bytes (a ++ b) ≡ zero_bytes a && zero_bytes b
unfolding zero_bytes all
zero_append [] b = refl
zero_append (x ∷ a) b = ap (λ (t : Bool). eqb x 0 && t) (zero_append a b) ∙ sym (and_assoc (eqb x 0) (zero_bytes a) (zero_bytes b))

joined : (b : List ℕ) (n : ℕ) → eqb (fold (λ a x. bit_or a x) n b) 0 ≡ eqb n 0 && zero_bytes b
unfolding zero_bytes all
joined [] n = sym (and-true (eqb n 0))
joined (x ∷ b) n =
    joined b (bit_or n x) ∙ ap (λ (t : Bool). t && zero_bytes b) (or_zero n x) ∙ and_assoc (eqb n 0) (eqb x 0) (zero_bytes b)

pub zero_joined : (b : List ℕ) → zero_bytes b ≡ eqb (fold (λ a x. bit_or a x) 0 b) 0
zero_joined b = sym (joined b 0)

-- ---- the record of a message that is zero

zeros : (b : List ℕ) → zero_bytes b ≡ true → b ≡ replicate (length b) 0
unfolding zero_bytes all
zeros [] e = refl
zeros (x ∷ b) e = let p = and_parts (eqb x 0) (zero_bytes b) e in ap₂ (λ (y : ℕ) (r : List ℕ). y ∷ r) (eqb-true x 0 p.0) (zeros b p.1)

zero_spelled : (m : Message) → zero_message m ≡ true → message_bytes m ≡ replicate message_width 0
unfolding zero_message same message_bytes entry_bytes
zero_spelled m e =
    let a = and_parts (eqb m.kind 0) _ e in
    let b = and_parts (eqb m.sender 0) _ a.1 in
    let c = and_parts (eqb m.view.0 0) _ b.1 in
    let d = and_parts (not m.taken) _ c.1 in
    let f = and_parts (eqb m.request.0 0) _ d.1 in
    let g = and_parts (eqb m.next.0 0) _ f.1 in
    let h = and_parts (eqb (count_of m.entry) 0) _ g.1 in
    let k = and_parts (eqb (writer_of m.entry) 0) _ h.1 in
    simp (
      eqb-true m.kind 0 a.0,
      eqb-true m.sender 0 b.0,
      eqb-true m.view.0 0 c.0,
      not-true m.taken d.0,
      eqb-true m.request.0 0 f.0,
      eqb-true m.next.0 0 g.0,
      eqb-true (count_of m.entry) 0 h.0,
      eqb-true (writer_of m.entry) 0 k.0,
      eqb-true m.entry.value 0 k.1,
    )

-- all bytes of a record are zero where its spare bytes are and the message that it spells is zero
zero_record : (b : List ℕ) → length b ≡ message_width → Bytes b → message_plain b && zero_message (message_of b) ≡ zero_bytes b
unfolding message_plain entry_plain zeros_from message_of entry_of part zero_message same zero_bytes all
zero_record b e y =
    both_ways (message_plain b && zero_message (message_of b)) (zero_bytes b)
    (λ p.
    let q = and_parts (message_plain b) (zero_message (message_of b)) p in
    rw (sym (message_plain_lem b e y q.0) ∙ zero_spelled (message_of b) q.1) refl)
    (λ p. rw (zeros b p ∙ ap (λ (n : ℕ). replicate n 0) e) refl)

-- ---- the records of an image

module _ (i : List ℕ) (size : length i ≡ image_size) (bytes : Bytes i) where
  zero_at : (n : ℕ) → n ≤ messages → message_plain_at i n && zero_message (message_at i n) ≡ zero_bytes (part i (message_place n) message_width)
  unfolding message_at
  zero_at n h =
      zero_record (part i (message_place n) message_width) (length_part i (message_place n) message_width (omega arith)) (bytes_part i (message_place n) message_width bytes)

  pub first_zero : first_ok i ≡ zero_bytes (part i (message_place 0) message_width)
  unfolding first_ok
  first_zero = rw (message_decode i 0 (omega arith)) (zero_at 0 (omega arith))

  module _ (used : ℕ) (is : used ≡ used_at i) where
    beyond_one : (n : ℕ) → used < n → n ≤ messages → message_ok i n ≡ zero_bytes (part i (message_place n) message_width)
    unfolding message_ok
    beyond_one n l h = rw (beyond_rule i used n is h, lt-leb n used l) (zero_at n h)

    -- one record, and what lies behind it
    zero_split : (n : ℕ) → zero_bytes (drop (message_place n) i) ≡ zero_bytes (part i (message_place n) message_width) && zero_bytes (drop (message_place (suc n)) i)
    unfolding part
    zero_split n =
        let e : message_place n + message_width ≡ message_place (suc n) = omega arith in
        ap zero_bytes (sym (take-append-drop message_width (drop (message_place n) i)))
        ∙ zero_append (take message_width (drop (message_place n) i)) (drop message_width (drop (message_place n) i))
        ∙ ap (λ (r : List ℕ). zero_bytes (take message_width (drop (message_place n) i)) && zero_bytes r) (drop-drop message_width (message_place n) i ∙ ap (λ (k : ℕ). drop k i) e)

    none_behind : zero_bytes (drop (message_place (suc messages)) i) ≡ true
    unfolding zero_bytes all
    none_behind = rw (drop_of_length-le i {i = message_place (suc messages)} (omega arith))

    from : (d n : ℕ) → n + d ≡ messages → used ≤ n → all_to (message_ok i) messages ≡ all_to (message_ok i) n && zero_bytes (drop (message_place (suc n)) i)
    unfolding all_to
    from zero n e l = let s : n ≡ messages = omega arith in rw (s, none_behind) (sym (and-true (all_to (message_ok i) messages)))
    from (suc d) n e l =
        from d (suc n) (omega arith) (omega arith)
        ∙ and_assoc (all_to (message_ok i) n) (message_ok i (suc n)) (zero_bytes (drop (message_place (suc (suc n))) i))
        ∙ ap (λ (t : Bool). all_to (message_ok i) n && (t && zero_bytes (drop (message_place (suc (suc n))) i))) (beyond_one (suc n) (omega arith) (omega arith))
        ∙ ap (λ (t : Bool). all_to (message_ok i) n && t) (sym (zero_split (suc n)))

    -- "messages beyond used are zero": all bytes from the first record beyond them to the end
    pub beyond_zero : used ≤ messages → all_to (message_ok i) messages ≡ all_to (message_ok i) used && zero_bytes (drop (message_place (used + 1)) i)
    beyond_zero h = rw (add-one used) (from (messages - used) used (omega arith) (omega arith))
