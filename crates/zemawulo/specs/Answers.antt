-- Answers of the C interface. Assumes nothing.
use Rattle.std.specs.Prelude.{ℕ, zero, suc, ◌+◌, ◌*◌, ◌/◌, ◌%◌, ◌^◌, ◌≤◌, Bool, ◌≡◌, refl, List, ◌++◌, length, eqb, is_some, unwrap_or, Option, None, Some, Result as Outcome, Ok, Err}
use Rattle.std.proofs.Common.{sym, ap, ◌∙◌, arith, eq-eqb, ne_eqb}
use Rattle.protocol.specs.Tools.{if, bit, within, Result, refused, done}
use Rattle.protocol.specs.declared.Reply.{Reply}
use Rattle.protocol.specs.declared.Shown.{Shown}
use Rattle.protocol.specs.Sizes.{Both}
use Rattle.protocol.proofs.Laws.Tests.{by_test, within_true, is_within}
use Rattle.codec.specs.Lists.{put, put_put, put_all}
use Rattle.codec.specs.Bytes.{le32}
use Rattle.image.specs.Steps.{Played, unplayed}
use Rattle.journal.specs.Watch.{watch_on}
use Rattle.protocol.specs.declared.refusals.Refusal.{Refusal}
use Rattle.protocol.specs.Refusals.{refusal_number, outcome}
use Rattle.mail.specs.Images.{some_of, told}
use Rattle.single.specs.Calls.{replied}
use Rattle.phases.specs.Calls.{RecordTold, told_number, phase_left, entry_after, given_code, Answers}

-- refusal + 256 * result: "Beside a refusal every other result is 0"
abbrev pub packed : Result ℕ → ℕ
packed (refused n) = n
packed (done k) = 256 * k

-- both sizes: read size + 256 * write size
abbrev pub sizes_in : Result Both → Result ℕ
sizes_in (refused n) = refused n
sizes_in (done b) = done (b.reads + 256 * b.writes)

-- 1 for yes, 0 for no
abbrev pub flagged : Result Bool → Result ℕ
flagged (refused n) = refused n
flagged (done b) = done (bit b)

-- the counts of a replay stand beside a refusal too; 56 bits of an answer are left for them
abbrev pub packed_replay : Played → ℕ
packed_replay p = p.refusal + 256 * (p.steps % 2 ^ 56)

-- a number, or 0 where there is none
abbrev pub number_or_zero : Option ℕ → ℕ
number_or_zero None = 0
number_or_zero (Some n) = n

pub number_is : (o : Option ℕ) → unwrap_or o 0 ≡ number_or_zero o
number_is None = refl
number_is (Some n) = refl

pub some_of_number : (n : ℕ) → number_or_zero (some_of n) ≡ n
some_of_number zero = refl
some_of_number (suc n) = refl

-- a server's reply, with whether it answers
pub replied_code : (r : Reply) (b : Bool) → b ≡ is_some r.answer → 256 * bit b ≡ packed (replied (done r))
replied_code r b e = go r.answer e
  where
    go : (o : Option Shown) → b ≡ is_some o → 256 * bit b ≡ packed (replied (done (record { server = r.server; answer = o })))
    go None e = ap (λ (x : Bool). 256 * bit x) e
    go (Some x) e = ap (λ (x : Bool). 256 * bit x) e

-- what a step tells: its refusal, or the client whose operation it completed, or 0
abbrev pub step_code : Outcome (Option ℕ) Refusal → ℕ
step_code (Err y) = refusal_number y
step_code (Ok c) = 256 * number_or_zero c

pub step_told : (x : Result ℕ) (r : Outcome (Option ℕ) Refusal) → outcome r ≡ told x → step_code r ≡ packed x
step_told (refused n) (Err y) e = cc
step_told (refused n) (Ok c) e = cc
step_told (done n) (Err y) e = cc
step_told (done n) (Ok c) e = let d : c ≡ some_of n = cc in ap (λ (k : Option ℕ). 256 * number_or_zero k) d ∙ ap (λ (k : ℕ). 256 * k) (some_of_number n)

-- ---- the second form of replay, with a buffer for the step that it names

-- "first": 8 bytes, a u64
abbrev pub first_width : ℕ
first_width = 8

unfoldable pub first_bytes : ℕ → List ℕ
first_bytes n = le32 (n % 2 ^ 32) ++ le32 (n / 2 ^ 32)

-- the buffer b, written unless the refusal is 1 or 2, which come before any step
unfoldable pub first_in : List ℕ → ℕ → ℕ → List ℕ
first_in b refusal n = if (within 1 2 refusal) b (first_bytes n)

pub record Lent : Type 0 where
  pub played : Played
  pub first : List ℕ

-- 1 for a buffer of another length too
unfoldable pub watch_lent : List ℕ → List ℕ → List ℕ → Lent
watch_lent i j b =
    if (eqb (length b) first_width)
    (record { played = (watch_on i j).played; first = first_in b (watch_on i j).played.refusal (watch_on i j).first })
    (record { played = unplayed i 1; first = b })

pub lent_wrong : (i j b : List ℕ) → (length b ≡ first_width → ⊥) → watch_lent i j b ≡ record { played = unplayed i 1; first = b }
unfolding watch_lent
lent_wrong i j b h = rw (ne_eqb (length b) first_width h) refl

pub lent_right : (i j b : List ℕ) → length b ≡ first_width
    → watch_lent i j b ≡ record { played = (watch_on i j).played; first = first_in b (watch_on i j).played.refusal (watch_on i j).first }
unfolding watch_lent
lent_right i j b h = rw (eq-eqb (length b) first_width h) refl

-- both halves put one behind the other
pub first_put : (b : List ℕ) (n : ℕ) → length b ≡ first_width → put (put b 0 (le32 (n % 2 ^ 32))) 4 (le32 (n / 2 ^ 32)) ≡ first_bytes n
unfolding first_bytes
first_put b n h =
    put_put b 0 (le32 (n % 2 ^ 32)) (le32 (n / 2 ^ 32)) (omega arith) ∙ put_all b (le32 (n % 2 ^ 32) ++ le32 (n / 2 ^ 32)) (sym h)

pub first_kept : (b : List ℕ) (r n : ℕ) → 1 ≤ r → r ≤ 2 → b ≡ first_in b r n
unfolding first_in
first_kept b r n l h = rw (is_within 1 2 r l h) refl

pub first_told : (b : List ℕ) (r n : ℕ) → (r ≡ 1 → ⊥) → (r ≡ 2 → ⊥) → first_bytes n ≡ first_in b r n
unfolding first_in
first_told b r n l h =
    by_test (within 1 2 r) (λ e. let (x, y) = within_true 1 2 r e in absurd (other r x y l h)) (λ e. rw e refl)
  where
    other : (k : ℕ) → 1 ≤ k → k ≤ 2 → (k ≡ 1 → ⊥) → (k ≡ 2 → ⊥) → ⊥
    other k a b c d = omega arith

-- ---- an answer given to a phase

-- what it comes to, and what it leaves of the record and of the entry
pub record Gives (n : ℕ) (out_phase out_entry p e : List ℕ) (x : Result RecordTold) : Type 0 where
  pub code : n ≡ packed (told_number x)
  pub phase : out_phase ≡ phase_left p x
  pub entry : out_entry ≡ entry_after e x

pub given_told : {r : Outcome (Option Bool) Refusal} {out last p e : List ℕ} {x : Result RecordTold} {n : ℕ} → n ≡ packed (given_code r) → Answers r out last p e x
    → Gives n out last p e x
given_told q h = record { code = q ∙ ap packed h.code; phase = h.phase; entry = h.entry }
