-- The premise report of an image, and the premise by the bytes beside its views (`premise_bytes`). Assumes nothing.
use Rattle.std.specs.Prelude.{◌≡◌, refl, Bool, ◌&&◌, true, List, ℕ, zero, suc, ◌+◌, ◌*◌, ◌-◌, ◌≤◌, ◌<◌, length, get_or, leb, eqb}
use Rattle.std.proofs.Common.{sym, ap, ◌∙◌, add-zero, arith, le-leb}
use Rattle.std.proofs.Math.Decide.{dec_lt}
use Rattle.std.proofs.Math.Bool.{and-true, and_assoc}
use Rattle.std.specs.Cmp.{both_ways}
use Rattle.protocol.specs.Tools.{count_to, all_to, Result, done, guard}
use Rattle.protocol.specs.Sizes.{servers, views}
use Rattle.protocol.specs.Worlds.{view, newest, bad, premise}
use Rattle.protocol.specs.Runs.{u32_at}
use Rattle.protocol.proofs.Laws.Tests.{all_to_at, all_to_lem}
use Rattle.protocol.proofs.Laws.Formed.{formed}
use Rattle.codec.specs.Layout.{image_size, holders_at, holder_place, holder_width}
use Rattle.codec.specs.Places.{view_at, holder_at}
use Rattle.codec.specs.Images.{decode}
use Rattle.codec.specs.Laws.{view_decode}
use Rattle.codec.specs.Whole.{plain_image}
use Rattle.key_holders.specs.Holders.{holders_count, holders_beyond}
use Rattle.readable.specs.Readable.{readable, read}

-- no more than f(t) faulty servers hold key t, by the byte that counts them
unfoldable pub few_hold : List ℕ → ℕ → Bool
few_hold i t = leb (holder_at i t) (view_at i t).f

-- the premise of a readable image by these bytes and the views' f: no view beyond the newest has a faulty key holder
pub premise_bytes : (i : List ℕ) → readable i ≡ true → premise (decode i) ≡ all_to (few_hold i) views
unfolding premise few_hold
premise_bytes i e =
    let r = read i e in
    let f = formed (decode i) r.world in
    let byte = (plain_image i r.image).holder in
    let same : (t : ℕ) → 1 ≤ t → t ≤ views → few_hold i t ≡ leb (count_to (bad (decode i) t) servers) (view (decode i) t).f
    = λ t a b. rw (byte t a b, holders_count (decode i) t, view_decode i t a b) in
    let none : (t : ℕ) → 1 ≤ t → t ≤ views → newest (decode i) < t → few_hold i t ≡ true
    = λ t a b h. rw (byte t a b, holders_beyond (record { one = f.served }) t h) (le-leb 0 (view_at i t).f (omega arith)) in
    both_ways (premise (decode i)) (all_to (few_hold i) views)
    (λ p.
    all_to_lem (few_hold i) views
    (λ t a b.
    elim (dec_lt (newest (decode i)) t) [
      | yes h ↦ none t a b h
      | no h ↦ same t a b ∙ all_to_at (λ t. leb (count_to (bad (decode i) t) servers) (view (decode i) t).f) (newest (decode i)) t p a (omega arith)
    ]))
    (λ p.
    all_to_lem (λ t. leb (count_to (bad (decode i) t) servers) (view (decode i) t).f) (newest (decode i))
    (λ t a b. let c : t ≤ views = omega (arith, f.high) in sym (same t a c) ∙ all_to_at (few_hold i) views t p a c))

-- the views whose bytes are read as one u32
abbrev pub group : ℕ
group = 4

-- where that is 0, no view of the group has a faulty key holder
zero_byte : (i : List ℕ) (at : ℕ) → u32_at i at ≡ 0 → (j : ℕ) → j < 4 → get_or i (at + j) 0 ≡ 0
zero_byte i at e zero h = ap (λ (n : ℕ). get_or i n 0) (add-zero at) ∙ (let q : get_or i at 0 ≡ 0 = omega arith in q)
zero_byte i at e (suc zero) h = omega arith
zero_byte i at e (suc (suc zero)) h = omega arith
zero_byte i at e (suc (suc (suc zero))) h =
    let q : at + 3 ≡ at + 2 + 1 = omega arith in
    ap (λ (n : ℕ). get_or i n 0) q ∙ (let z : get_or i (at + 2 + 1) 0 ≡ 0 = omega arith in z)
zero_byte i at e (suc (suc (suc (suc j)))) h = absurd (omega arith)

pub none_held : (i : List ℕ) (k : ℕ) → u32_at i (holders_at + holder_width * k) ≡ 0 → all_to (λ j. few_hold i (k + j)) group ≡ true
unfolding few_hold holder_at
none_held i k e =
    all_to_lem (λ j. few_hold i (k + j)) group
    (λ j a b.
    let at : holder_place (k + j) ≡ holders_at + holder_width * k + (j - 1) = omega arith in
    let zero : holder_at i (k + j) ≡ 0 = ap (λ (n : ℕ). get_or i n 0) at ∙ zero_byte i (holders_at + holder_width * k) e (j - 1) (omega arith) in
    rw zero (le-leb 0 (view_at i (k + j)).f (omega arith)))

-- all groups of the views, one after another
all_add : (p : ℕ → Bool) (a b : ℕ) → all_to p (a + b) ≡ all_to p a && all_to (λ j. p (a + j)) b
unfolding all_to
all_add p a zero = rw add-zero (sym (and-true (all_to p a)))
all_add p a (suc b) =
    let e : a + suc b ≡ suc (a + b) = omega arith in
    rw e (ap (λ (t : Bool). t && p (suc (a + b))) (all_add p a b) ∙ and_assoc (all_to p a) (all_to (λ j. p (a + j)) b) (p (suc (a + b))))

pub all_groups : (p : ℕ → Bool) (n : ℕ) → all_to (λ g. all_to (λ j. p (group * (g - 1) + j)) group) n ≡ all_to p (group * n)
unfolding all_to
all_groups p zero = refl
all_groups p (suc n) =
    let e : group * suc n ≡ group * n + group = omega arith in
    let d : suc n - 1 ≡ n = omega arith in
    rw (e, d, all_groups p n) (sym (all_add p (group * n) group))

-- "Premise report: 1, 2.", else the answer
unfoldable pub premise_on : List ℕ → Result Bool
premise_on i = guard (eqb (length i) image_size) 1 (guard (readable i) 2 (done (premise (decode i))))
