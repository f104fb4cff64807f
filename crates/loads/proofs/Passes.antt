-- "each step passes check 3": `step_passes`, of every drawn step; `load_passes`, of every step of every load as it is read from its
-- journal. By the table alone: `drawn_fits` for each field, and no split by kind. Assumes nothing.
use Rattle.std.specs.Prelude.{ℕ, zero, suc, ◌+◌, ◌*◌, ◌/◌, ◌%◌, ◌^◌, ◌≤◌, ◌<◌, Bool, true, false, ◌||◌, ◌⊎◌, ◌≡◌, refl, List, ◌++◌, length, take, drop}
use Rattle.std.proofs.Common.{not-suc-le-zero, le_of_eq, arith, inl, inr, ap, ◌∙◌, length-drop, drop_at, take_all, le-leb, ne_eqb}
use Rattle.std.proofs.lemmas.List.{drop-append-le, take-append-le}
use Rattle.protocol.specs.declared.Step.{Step}
use Rattle.protocol.specs.declared.Range.{Range}
use Rattle.protocol.proofs.Laws.Tests.{within_true, last_or}
use Rattle.protocol.proofs.Laws.Kinds.{fits}
use Rattle.protocol.specs.Steps.{write_step, restart_step, CLIENT, SERVER, SIZE, VIEW, F, MESSAGE, SOURCE, VALUE, row_of, in_row, field, restart_fits, fields_fit, last_word}
use Rattle.protocol.specs.Steps.{range, view_range, threshold_range, message_range, source_range, value_range, client_range, server_range, read_range, who_named, who_used, who_range}
use Rattle.protocol.specs.Tools.{if}
use Rattle.protocol.specs.Sizes.{messages}
use Rattle.protocol.specs.Runs.{step_width, step_of}
use Rattle.loads.specs.Draws.{Drawn, start, drawn, load_kinds, load_thresholds, drawn_step}
use Rattle.loads.proofs.Drawing.{drawn_fits, drawn_high}
use Rattle.loads.specs.Load.{spelled, longer, load_from, journal_of, length_spelled, length_load}

-- a field of a narrower range fits the wider one
wider : (used : Bool) (r q : Range) (x : ℕ) → q.low ≤ r.low → r.high ≤ q.high → field used r x ≡ true → field used q x ≡ true
wider true r q x l h e = let (a, b) = within_true r.low r.high x e in rw (le-leb q.low x (omega arith), le-leb x q.high (omega arith)) refl
wider false r q x l h e = e

-- who is drawn where it is a client or a server, and 0 is a read size
who_fits : (row state : ℕ) → field (who_used row) (who_range row) (drawn (who_named row) (who_range row) state).value ≡ true
unfolding drawn
who_fits row state = go (in_row row CLIENT) (in_row row SERVER) (in_row row SIZE)
  where
    go : (a b c : Bool) → field ((a || b) || c) (if a client_range (if b server_range read_range)) (drawn (a || b) (if a client_range (if b server_range read_range)) state).value ≡ true
    go true b c = drawn_fits true client_range state (omega arith)
    go false true c = drawn_fits true server_range state (omega arith)
    go false false true = refl
    go false false false = refl

-- a load has no restart
no_restart : (st : Step) → field true load_kinds st.kind ≡ true → restart_fits st ≡ true
no_restart st e =
    let (l, h) = within_true load_kinds.low load_kinds.high st.kind e in
    rw (ne_eqb st.kind restart_step (λ q. omega arith)) refl

pub step_passes : (state : ℕ) → fields_fit (drawn_step state).step ≡ true
unfolding drawn_step
step_passes state =
    let kind : Drawn = drawn true load_kinds state in
    let row : ℕ = row_of kind.value in
    let who : Drawn = drawn (who_named row) (who_range row) kind.state in
    let view : Drawn = drawn (in_row row VIEW) view_range who.state in
    let f : Drawn = drawn (in_row row F) load_thresholds view.state in
    let message : Drawn = drawn (in_row row MESSAGE) message_range f.state in
    let source : Drawn = drawn (in_row row SOURCE) source_range message.state in
    fits (drawn_step state).step
    (record {
      kind = wider true load_kinds (range write_step restart_step) kind.value (omega arith) (omega arith) (drawn_fits true load_kinds state (omega arith));
      who = who_fits row kind.state;
      view = drawn_fits (in_row row VIEW) view_range who.state (omega arith);
      f = wider (in_row row F) load_thresholds threshold_range f.value (omega arith) (omega arith) (drawn_fits (in_row row F) load_thresholds view.state (omega arith));
      message = drawn_fits (in_row row MESSAGE) message_range f.state (omega arith);
      source = drawn_fits (in_row row SOURCE) source_range message.state (omega arith);
      value = drawn_fits (in_row row VALUE) value_range source.state (omega arith);
      restart = no_restart (drawn_step state).step (drawn_fits true load_kinds state (omega arith));
    })

-- ---- the steps that a journal spells

-- step number i of a journal, counted from 0
abbrev pub step_at : List ℕ → ℕ → Step
step_at l i = step_of (take step_width (drop (step_width * i) l))

half_back : (n : ℕ) → n < 2 ^ 16 → n % 256 + 256 * (n / 256 % 256) ≡ n
half_back n h = omega arith

word_back : (n : ℕ) → n < 2 ^ 32
    → n % 256 + 256 * (n / 256 % 256) + 65536 * (n / 256 / 256 % 256 + 256 * (n / 256 / 256 / 256 % 256)) ≡ n
word_back n h = omega arith

pub spelled_back : (st : Step) → st.message.0 < 2 ^ 16 → st.source.0 < 2 ^ 16 → st.value < 2 ^ 32 → step_of (spelled st) ≡ st
unfolding step_of spelled
spelled_back st m s v = simp (half_back _ m, half_back _ s, word_back _ v)

numbers_high : (state : ℕ) → let st : Step = (drawn_step state).step in (st.message.0 ≤ messages) × (st.source.0 ≤ messages) × (st.value ≤ last_word)
unfolding drawn_step
numbers_high state = (drawn_high _ message_range _ (omega arith), drawn_high _ source_range _ (omega arith), drawn_high _ value_range _ (omega arith))

drawn_back : (state : ℕ) → step_of (spelled (drawn_step state).step) ≡ (drawn_step state).step
drawn_back state =
    let h = numbers_high state in
    spelled_back (drawn_step state).step (omega (arith, h.0)) (omega (arith, h.1)) (omega (arith, h.2))

-- the bytes of step i of a load
part_of : (state n i : ℕ) → i < n → take step_width (drop (step_width * i) (load_from state n).journal) ≡ spelled (drawn_step (load_from state i).state).step
unfolding load_from longer
part_of state zero i h = absurd (not-suc-le-zero h)
part_of state (suc n) i h = go (last_or (suc i) n h) (part_of state n i)
  where
    a : List ℕ
    a = (load_from state n).journal

    v : List ℕ
    v = spelled (drawn_step (load_from state n).state).step

    go : (suc i ≡ suc n) ⊎ (suc i ≤ n) → (i < n → take step_width (drop (step_width * i) a) ≡ spelled (drawn_step (load_from state i).state).step)
        → take step_width (drop (step_width * i) (a ++ v)) ≡ spelled (drawn_step (load_from state i).state).step
    go (inl e) ih =
        let q : i ≡ n = omega arith in
        rw q (ap (take step_width) (drop_at a v (step_width * n) (length_load state n)) ∙ take_all step_width v (le_of_eq (length_spelled (drawn_step (load_from state n).state).step)))
    go (inr k) ih =
        let h1 : step_width * i ≤ length a = omega (arith, length_load state n) in
        let h2 : step_width ≤ length (drop (step_width * i) a) = simp length-drop (omega (arith, length_load state n)) in
        ap (take step_width) (drop-append-le (step_width * i) a v h1) ∙ take-append-le step_width (drop (step_width * i) a) v h2 ∙ ih k

pub load_passes : (seed n i : ℕ) → i < n → fields_fit (step_at (journal_of seed n) i) ≡ true
unfolding journal_of
load_passes seed n i h =
    ap (λ (b : List ℕ). fields_fit (step_of b)) (part_of (start seed) n i h)
    ∙ ap fields_fit (drawn_back (load_from (start seed) i).state)
    ∙ step_passes (load_from (start seed) i).state
