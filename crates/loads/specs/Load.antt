-- The load: `load_from` a state, `journal_of` a seed, and what the operation does with a lent buffer, `load_on`. Its width: `length_load`. A
-- load goes on where it was left: `state_split`, `journal_split`, and as the program writes it, `split_none`, `split_more`. Assumes nothing.
use Rattle.std.specs.Prelude.{ℕ, zero, suc, ◌+◌, ◌-◌, ◌*◌, ◌/◌, ◌%◌, ◌≤◌, ◌≡◌, refl, List, [], ◌∷◌, ◌++◌, length, take, eqb}
use Rattle.std.proofs.Common.{add-zero, add-suc, arith, sym, ap, ◌∙◌, append_assoc, append-nil, length-append, take_at, length-take-le}
use Rattle.protocol.specs.declared.Step.{Step}
use Rattle.protocol.specs.Tools.{if}
use Rattle.protocol.specs.Runs.{step_width}
use Rattle.loads.specs.Draws.{DrawnStep, start, drawn_step}

-- "Step, 12 bytes: kind u8, who u8, view u8, f u8, message u16, source u16, value u32", "little-endian"
unfoldable pub spelled : Step → List ℕ
spelled st =
    let m : ℕ = st.message.0 in
    let s : ℕ = st.source.0 in
    let v : ℕ = st.value in
    st.kind
    ∷ st.who
    ∷ st.view.0
    ∷ st.f
    ∷ m % 256
    ∷ m / 256 % 256
    ∷ s % 256
    ∷ s / 256 % 256
    ∷ v % 256
    ∷ v / 256 % 256
    ∷ v / 256 / 256 % 256
    ∷ v / 256 / 256 / 256 % 256
    ∷ []

-- the first n steps from a state, and the state after them
pub record Load : Type 0 where
  pub journal : List ℕ
  pub state : ℕ

-- one step more
unfoldable pub longer : Load → DrawnStep → Load
longer l d = record { journal = l.journal ++ spelled d.step; state = d.state }

unfoldable pub load_from : ℕ → ℕ → Load
load_from state zero = record { journal = []; state = state }
load_from state (suc n) = longer (load_from state n) (drawn_step (load_from state n).state)

-- "From a seed (u32) and a number of steps, write a journal."
unfoldable pub journal_of : ℕ → ℕ → List ℕ
journal_of seed n = (load_from (start seed) n).journal

-- the answer, and the lent buffer after it: 1, a buffer of another length
pub record Outcome : Type 0 where
  pub refusal : ℕ
  pub journal : List ℕ

unfoldable pub load_on : List ℕ → ℕ → ℕ → Outcome
load_on l seed n = if (eqb (length l) (step_width * n)) (record { refusal = 0; journal = journal_of seed n }) (record { refusal = 1; journal = l })

-- ---- the width

pub length_spelled : (st : Step) → length (spelled st) ≡ step_width
unfolding spelled
length_spelled st = refl

pub length_load : (state n : ℕ) → length (load_from state n).journal ≡ step_width * n
unfolding load_from longer
length_load state zero = refl
length_load state (suc n) =
    let v : List ℕ = spelled (drawn_step (load_from state n).state).step in
    let e : length (load_from state n).journal + length v ≡ step_width * suc n = omega (arith, length_load state n, length_spelled (drawn_step (load_from state n).state).step) in
    length-append (load_from state n).journal v ∙ e

-- ---- a load in pieces: it goes on from the state where it was left

pub state_split : (state n m : ℕ) → (load_from state (n + m)).state ≡ (load_from (load_from state n).state m).state
unfolding load_from longer
state_split state n zero = ap (λ (k : ℕ). (load_from state k).state) (add-zero n)
state_split state n (suc m) = ap (λ (k : ℕ). (load_from state k).state) (add-suc n m) ∙ ap (λ (s : ℕ). (drawn_step s).state) (state_split state n m)

pub journal_split : (state n m : ℕ) → (load_from state (n + m)).journal ≡ (load_from state n).journal ++ (load_from (load_from state n).state m).journal
unfolding load_from longer
journal_split state n zero = ap (λ (k : ℕ). (load_from state k).journal) (add-zero n) ∙ sym (append-nil (load_from state n).journal)
journal_split state n (suc m) =
    let on : ℕ = (load_from state n).state in
    let v : List ℕ = spelled (drawn_step (load_from on m).state).step in
    ap (λ (k : ℕ). (load_from state k).journal) (add-suc n m)
    ∙ ap (λ (s : ℕ). (load_from state (n + m)).journal ++ spelled (drawn_step s).step) (state_split state n m)
    ∙ ap (λ (l : List ℕ). l ++ v) (journal_split state n m)
    ∙ append_assoc (load_from state n).journal (load_from on m).journal v

pub split_none : (state n : ℕ) → state ≡ (load_from state (n - n)).state
unfolding load_from
split_none state n = let e : n - n ≡ 0 = omega arith in rw e refl

pub split_more : (state n left k s t : ℕ) → left ≤ n → k ≤ left → s ≡ (load_from state (n - left)).state → t ≡ (load_from s k).state
    → t ≡ (load_from state (n - (left - k))).state
split_more state n left k s t h i p q =
    let e : n - left + k ≡ n - (left - k) = omega arith in
    q ∙ ap (λ (x : ℕ). (load_from x k).state) p ∙ sym (state_split state (n - left) k) ∙ ap (λ (x : ℕ). (load_from state x).state) e

-- a piece at the start of a longer buffer, before and after it is filled
-- No proof cites it; it stands for who reads the definitions.
pub prefix : (n : ℕ) (l : List ℕ) → n ≤ length l → n ≡ length (take n l)
prefix n l h = sym (length-take-le n l h)

-- No proof cites it; it stands for who reads the definitions.
pub filled_prefix : (state n : ℕ) (x rest : List ℕ) → x ≡ (load_from state n).journal → step_width * n ≡ length (take (step_width * n) (x ++ rest))
filled_prefix state n x rest p =
    rw p
    (sym (ap (λ (l : List ℕ). length l) (take_at (load_from state n).journal rest (step_width * n) (length_load state n)) ∙ length_load state n))
