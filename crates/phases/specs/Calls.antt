-- The two calls on lent bytes, for all of them: `open_on` opens a phase, `answer_on` gives it one answer; what they answer and leave. The
-- contracts of the public functions cite these.
use Rattle.std.specs.Prelude.{ℕ, ◌+◌, Bool, ◌&&◌, ◌≡◌, List, ◌++◌, length, replicate, eqb, Option, None, Some, Result as Outcome}
use Rattle.values.specs.declared.tally.Tally.{Tally}
use Rattle.protocol.specs.declared.Choice.{Choice}
use Rattle.protocol.specs.declared.Message.{Message}
use Rattle.protocol.specs.declared.View.{View}
use Rattle.protocol.specs.Tools.{bit, Result, refused, done, guard, then, number_of}
use Rattle.protocol.specs.declared.refusals.Refusal.{Refusal}
use Rattle.protocol.specs.Refusals.{outcome_by}
use Rattle.protocol.specs.Sizes.{sized}
use Rattle.checked.specs.Ranges.{message_in_range}
use Rattle.checked.specs.Rules.{take_rule}
use Rattle.codec.specs.Layout.{entry_width, view_width, message_width}
use Rattle.codec.specs.Lists.{part, put}
use Rattle.codec.specs.Records.{entry_bytes, view_of, view_plain, message_of, message_plain}
use Rattle.phases.specs.declared.phase_record.Head.{Head}
use Rattle.phases.specs.Layout.{head_width, tallies_width, phase_width, asked_width}
use Rattle.phases.specs.Records.{head, head_bytes, open_fits, head_fits, head_at, tally_at, put_tally, tally_fits}
use Rattle.phases.specs.Rules.{count_answer, record_closes}

-- ---- a phase is opened: the head, and nobody heard in any view

unfoldable pub record_opened : Head → List ℕ
record_opened h = head_bytes h ++ replicate tallies_width 0

-- 1, then 3
unfoldable pub open_on : List ℕ → ℕ → ℕ → ℕ → Result (List ℕ)
open_on p kind t r = guard (eqb (length p) phase_width) 1 (guard (open_fits (head kind t r)) 3 (done (record_opened (head kind t r))))

abbrev pub open_left : List ℕ → Result (List ℕ) → List ℕ
open_left p (refused n) = p
open_left p (done q) = q

pub record Opens (r : ℕ) (out p : List ℕ) (x : Result (List ℕ)) : Type 0 where
  pub code : r ≡ number_of x
  pub bytes : out ≡ open_left p x

-- ---- an answer is given to it

-- the record of the phase after an answer, and what closes it, if anything does
pub record RecordTold : Type 0 where
  pub phase : List ℕ
  pub choice : Option Choice

-- where the phase closes nothing is open: the head is zero
abbrev pub head_left : List ℕ → Option Choice → List ℕ
head_left p None = p
head_left p (Some x) = put p 0 (replicate head_width 0)

abbrev pub tally_with : List ℕ → Message → Tally
tally_with p m = count_answer (tally_at p m.view.0) m

-- the answer m with view v is taken
unfoldable pub taking : List ℕ → Message → View → RecordTold
taking p m v =
    record {
      phase = head_left (put_tally p m.view.0 (tally_with p m)) (record_closes (head_at p) (tally_with p m) m.view.0 v);
      choice = record_closes (head_at p) (tally_with p m) m.view.0 v;
    }

-- not "3, record out of range": the head, the message and the tally of its view
unfoldable pub records_fit : List ℕ → Message → Bool
records_fit p m = head_fits (head_at p) && (message_in_range m && tally_fits p m.view.0)

-- 3; then as the step take: "5, not an answer; 7, taken before, or its request is neither that of an open phase nor the END number"; 8,
-- the view that is lent breaks the size rule
unfoldable pub may_take : List ℕ → Message → View → Result Message
may_take p m v = guard (records_fit p m) 3 (then (take_rule m (head_at p).request.0) (λ x. guard (sized v) 8 (done x)))

abbrev pub answer_by : List ℕ → Message → View → Result RecordTold
answer_by p m v = then (may_take p m v) (λ x. done (taking p m v))

-- the answer that is lent, and its view
abbrev pub asked_message : List ℕ → Message
asked_message b = message_of (part b 0 message_width)

abbrev pub asked_view : List ℕ → View
asked_view b = view_of (part b message_width view_width)

-- "any other length is refused with 1"
abbrev pub lent_fit : List ℕ → List ℕ → List ℕ → Bool
lent_fit p b e = eqb (length p) phase_width && (eqb (length b) asked_width && eqb (length e) entry_width)

unfoldable pub asked_plain : List ℕ → Bool
asked_plain b = message_plain (part b 0 message_width) && view_plain (part b message_width view_width)

-- 1, 3, 5, 7, 8
unfoldable pub answer_on : List ℕ → List ℕ → List ℕ → Result RecordTold
answer_on p b e = guard (lent_fit p b e) 1 (guard (asked_plain b) 3 (answer_by p (asked_message b) (asked_view b)))

-- ---- what it answers: 0 the phase is open; 1 it is closed; 2 it is closed, and a read may end with it

abbrev pub verdict : Option Choice → ℕ
verdict None = 0
verdict (Some x) = 1 + bit x.one

abbrev pub told_number : Result RecordTold → Result ℕ
told_number (refused n) = refused n
told_number (done x) = done (verdict x.choice)

-- and what it leaves: "A refusal changes no byte of any buffer"; the entry is written where the phase is closed
abbrev pub phase_left : List ℕ → Result RecordTold → List ℕ
phase_left p (refused n) = p
phase_left p (done x) = x.phase

abbrev pub chosen_left : List ℕ → Option Choice → List ℕ
chosen_left e None = e
chosen_left e (Some x) = entry_bytes x.entry

abbrev pub entry_after : List ℕ → Result RecordTold → List ℕ
entry_after e (refused n) = e
entry_after e (done x) = chosen_left e x.choice

-- the code's answer
abbrev pub said : Option Bool → ℕ
said None = 0
said (Some one) = 1 + bit one

abbrev pub given_code : Outcome (Option Bool) Refusal → Result ℕ
given_code r = outcome_by said r

pub record Answers (r : Outcome (Option Bool) Refusal) (out_phase out_entry p e : List ℕ) (x : Result RecordTold) : Type 0 where
  pub code : given_code r ≡ told_number x
  pub phase : out_phase ≡ phase_left p x
  pub entry : out_entry ≡ entry_after e x

-- the answer as it is counted, as it is taken, and as the entry is written
pub record Counted (r : Tally) (out p : List ℕ) (m : Message) : Type 0 where
  pub tally : r ≡ tally_with p m
  pub phase : out ≡ put_tally p m.view.0 (tally_with p m)

pub record Takes (r : Option Choice) (out : List ℕ) (x : RecordTold) : Type 0 where
  pub choice : r ≡ x.choice
  pub phase : out ≡ x.phase

pub record Writes (r : Option Bool) (out e : List ℕ) (x : Option Choice) : Type 0 where
  pub code : said r ≡ verdict x
  pub bytes : out ≡ chosen_left e x
