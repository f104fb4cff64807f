-- What the program does with each record of its input. Assumes nothing.
use Rattle.std.specs.Prelude.{ℕ, Bool, true, false, ◌&&◌, ◌≡◌, refl, List, [], ◌∷◌, length, eqb, Option, None, Some, MatchOption, Result as Outcome, Ok, Err, zero, suc}
use Rattle.std.proofs.Common.{sym, ap, ap₂, subst, ◌∙◌, arith, eq-eqb, ne_eqb}
use Rattle.protocol.specs.declared.Step.{Step}
use Rattle.protocol.specs.Tools.{if, within, Result, refused, done, guard, same_done}
use Rattle.protocol.specs.Sizes.{clients}
use Rattle.protocol.specs.Steps.{After, step}
use Rattle.protocol.specs.Runs.{step_width, step_of}
use Rattle.protocol.specs.Worlds.{World, fresh}
use Rattle.protocol.proofs.Laws.Refusals.{among_ranged, fresh_refuses}
use Rattle.codec.specs.Layout.{image_size}
use Rattle.codec.specs.Places.{client_at}
use Rattle.codec.specs.Images.{encode, decode}
use Rattle.image.specs.Fresh.{Outcome as Made, outcome as made, fresh_on}
use Rattle.image.specs.Steps.{step_on, left_by}
use Rattle.protocol.specs.declared.refusals.Refusal.{Refusal}
use Rattle.protocol.specs.Refusals.{refusal_number, outcome_by}
use Rattle.arrayvec.specs.ArrayString.{ArrayString}
use Rattle.preservation.proofs.Begun.{fresh_kept}
use Rattle.readable.specs.Readable.{readable, world_readable}
use Rattle.mail.specs.Images.{Stepped, some_of, Legible, Does}
use Rattle.journal.specs.Replays.{spelled}
use Rattle.lines.specs.Lines.{operation_line}

-- "12 bytes (kind 0, f, member bits in value, other fields zero)", but r "in its first record's who"
unfoldable pub first_fits : Step → Bool
first_fits s = eqb s.kind 0 && (eqb s.view.0 0 && (eqb s.message.0 0 && eqb s.source.0 0))

-- "A record cut short stops it with 1, a first record of another form with 3, a refused world with 8."
unfoldable pub first_on : List ℕ → List ℕ → Made
first_on i b =
    if (eqb (length b) step_width)
    (if (first_fits (step_of b)) (fresh_on i (step_of b).value (step_of b).f (step_of b).who) (record { refusal = 3; image = i }))
    (record { refusal = 1; image = i })

-- the line of the operation that client c completed, from its record in the image; none for no client
unfoldable pub line_on : List ℕ → ℕ → List ℕ
line_on i c = if (within 1 clients c) (operation_line c (client_at i c)) []

-- "one line per completed operation": a step's refusal, or the line that it leaves
abbrev pub lined : Result After → Result (List ℕ)
lined (refused n) = refused n
lined (done a) = done (line_on (encode a.world) a.completed)

-- the bytes of a line; none where there is no line
abbrev pub bytes_of : Option ArrayString → List ℕ
bytes_of None = []
bytes_of (Some l) = l.bytes

-- the line of a step's answer, where its image is l
abbrev line_told : List ℕ → Option ℕ → List ℕ
line_told l None = []
line_told l (Some c) = line_on l c

-- ---- a turn is its step

told_line : (l : List ℕ) (k : ℕ) → line_told l (some_of k) ≡ line_on l k
unfolding line_on
told_line l zero = refl
told_line l (suc k) = refl

-- what a step answers is its line: a refusal, or the client whose operation it completed
answer_line : (r : Stepped) (x : Result After) (l l' : List ℕ) → Does r l l' x → outcome_by (line_told l') r ≡ lined x
answer_line (Ok c) (done a) l l' d =
    let e : c ≡ some_of a.completed = same_done d.answer in
    ap done (ap₂ line_told d.image e ∙ told_line (encode a.world) a.completed)
answer_line (Err n) (refused m) l l' d = let e : refusal_number n ≡ m = same d.answer in ap refused e
  where
    same : {x y : ℕ} → ◌≡◌ {A = Result (Option ℕ)} (refused x) (refused y) → x ≡ y
    same e = cc
answer_line (Ok c) (refused n) l l' d = absurd (let e : done c ≡ refused n = d.answer in let z : ◌≡◌ {A = ℕ} 0 1 = cc in omega arith)
answer_line (Err n) (done a) l l' d = absurd (let e : refused (refusal_number n) ≡ done (some_of a.completed) = d.answer in let z : ◌≡◌ {A = ℕ} 0 1 = cc in omega arith)

-- ---- a readable image stays one

-- a step of the right length on it is its world's
pub step_legible : (l b : List ℕ) → Legible l → length b ≡ step_width → step_on l b ≡ step (decode l) (step_of b)
unfolding step_on guard
step_legible l b h e =
    let r : readable l ≡ true = subst (λ (x : List ℕ). readable x ≡ true) h.image (world_readable (decode l) h.formed) in
    rw (eq-eqb (length l) image_size h.size, eq-eqb (length b) step_width e, r) refl

pub step_short : (l b : List ℕ) → Legible l → (length b ≡ step_width → ⊥) → step_on l b ≡ refused 1
unfolding step_on guard
step_short l b h e = rw (eq-eqb (length l) image_size h.size, ne_eqb (length b) step_width e) refl

turn_told : (r : Stepped) (l l' b : List ℕ) → Legible l → length b ≡ step_width → Does r l l' (step (decode l) (step_of b))
    → (outcome_by (line_told l') r ≡ lined (step_on l b)) × (l' ≡ left_by l (step_on l b))
turn_told r l l' b h e d =
    let d' : Does r l l' (step_on l b) = subst (Does r l l') (sym (step_legible l b h e)) d in (answer_line r (step_on l b) l l' d', d'.image)

pub turn_short : (l b : List ℕ) → Legible l → (length b ≡ step_width → ⊥) → (refused 1 ≡ lined (step_on l b)) × (l ≡ left_by l (step_on l b))
turn_short l b h e = let s = step_short l b h e in rw s (refl, refl)

-- what a turn answers, where its step was taken
abbrev Told : Outcome (Option ArrayString) Refusal → List ℕ → List ℕ → List ℕ → Type 0
Told r l l' b = (outcome_by bytes_of r ≡ lined (step_on l b)) × (l' ≡ left_by l (step_on l b))

pub turn_refused : (r : Outcome (Option ArrayString) Refusal) (n : Refusal) (l l' b : List ℕ) → (m : Refusal) × (r ≡ Err m) × (m ≡ n)
    → Legible l → length b ≡ step_width → Does (Err n) l l' (step (decode l) (step_of b)) → Told r l l' b
turn_refused r n l l' b (m, p, q) h e d = rw (p, q) (turn_told (Err n) l l' b h e d)

pub turn_done : (c : Option ℕ) (line : Option ArrayString) (l l' b : List ℕ) → MatchOption c (line ≡ None) (λ k. bytes_of line ≡ line_on l' k)
    → Legible l → length b ≡ step_width → Does (Ok c) l l' (step (decode l) (step_of b)) → Told (Ok line) l l' b
turn_done c line l l' b m h e d = let (p, q) = turn_told (Ok c) l l' b h e d in (ap done (go c m) ∙ p, q)
  where
    go : (c : Option ℕ) → MatchOption c (line ≡ None) (λ k. bytes_of line ≡ line_on l' k) → bytes_of line ≡ line_told l' c
    go None m = ap bytes_of m
    go (Some k) m = m

-- the fresh world's
fresh_legible : (i : List ℕ) (members f r : ℕ) → (fresh_on i members f r).refusal ≡ 0 → Legible (fresh_on i members f r).image
unfolding fresh_on guard
fresh_legible i members f r e = go (eqb (length i) image_size) (fresh members f r) refl e
  where
    go : (b : Bool) (x : Result World) → fresh members f r ≡ x → (made i (guard b 1 x)).refusal ≡ 0 → Legible (made i (guard b 1 x)).image
    go true (done w) q e = spelled w (fresh_kept members f r w q) (encode w) refl
    go true (refused n) q e = absurd (let (l, u) = among_ranged 8 8 (8 ∷ []) n refl ((fresh_refuses members f r).numbers n q) in omega arith)
    go false x q e = absurd (omega arith)

pub first_legible : (i b : List ℕ) → (first_on i b).refusal ≡ 0 → Legible (first_on i b).image
unfolding first_on
first_legible i b e =
    go (eqb (length b) step_width) (first_fits (step_of b)) (fresh_on i (step_of b).value (step_of b).f (step_of b).who) (fresh_legible i (step_of b).value (step_of b).f (step_of b).who) e
  where
    go : (p q : Bool) (x : Made) → (x.refusal ≡ 0 → Legible x.image)
        → (if p (if q x (record { refusal = 3; image = i })) (record { refusal = 1; image = i })).refusal ≡ 0
        → Legible (if p (if q x (record { refusal = 3; image = i })) (record { refusal = 1; image = i })).image
    go true true x h e = h e
    go true false x h e = absurd (omega arith)
    go false q x h e = absurd (omega arith)
