-- Counting the numbers 1 to n. Assumes nothing.
use Rattle.std.specs.Prelude.{◌≡◌, refl, Bool, true, false, not, ◌&&◌, ◌||◌, List, [], ◌∷◌, ℕ, zero, suc, ◌+◌, ◌≤◌, length, eqb, leb}
use Rattle.std.proofs.Common.{sym, ap, ◌∙◌, arith, eqb-true, eq-eqb, ne_eqb, leb-true}
use Rattle.std.proofs.Math.Decide.{dec_lt}
use Rattle.std.proofs.lemmas.Bool.{not-true, and_parts}
use Rattle.protocol.specs.Tools.{if, bit, within, count_to, sum_to, any, all}
use Rattle.protocol.specs.Readable.{distinct}
use Rattle.protocol.proofs.Laws.Counts.{bit_mono, count_mono}

-- what holds of each of the numbers 1 to n
pub record Each (n : ℕ) (P : ℕ → Type 0) : Type 0 where
  pub one : (k : ℕ) → 1 ≤ k → k ≤ n → P k

less : {n : ℕ} {P : ℕ → Type 0} → Each (suc n) P → Each n P
less h = record { one = λ k l m. h.one k l (omega arith) }

top : {n : ℕ} {P : ℕ → Type 0} → Each (suc n) P → P (suc n)
top {n} h = h.one (suc n) (omega arith) (omega arith)

-- a number of 1 to n + 1 is below or the last
upto : {P : ℕ → Type 0} (n : ℕ) → Each n P → P (suc n) → Each (suc n) P
upto n h p =
    record {
      one = λ k l m. elim (dec_lt k (suc n)) [ yes x ↦ h.one k l (omega arith) | no x ↦ rw (let e : k ≡ suc n = omega arith in e) p ];
    }

-- ---- counts

pub count_ext : (p q : ℕ → Bool) (n : ℕ) → Each n (λ k. p k ≡ q k) → count_to p n ≡ count_to q n
unfolding count_to
count_ext p q zero h = refl
count_ext p q (suc n) h = rw (count_ext p q n (less h), top h)

-- tests that differ at s alone
pub count_but : (p q : ℕ → Bool) (s n : ℕ) → 1 ≤ s → s ≤ n → ((k : ℕ) → (k ≡ s → ⊥) → p k ≡ q k) → count_to p n + bit (q s) ≡ count_to q n + bit (p s)
unfolding count_to
count_but p q s zero a b h = absurd (omega arith)
count_but p q s (suc n) a b h =
    elim (dec_lt s (suc n)) [
      | yes l ↦
          let ih = count_but p q s n a (omega arith) h in
          let e : bit (p (suc n)) ≡ bit (q (suc n)) = ap (λ (t : Bool). bit t) (h (suc n) (λ k. omega arith)) in
          omega arith
      | no l ↦
          let e : s ≡ suc n = omega arith in
          let c : count_to p n ≡ count_to q n = count_ext p q n (record { one = λ k x y. h k (λ z. omega arith) }) in
          rw (e, c) (omega arith)
    ]

pub count_none : (p : ℕ → Bool) (n : ℕ) → Each n (λ k. p k ≡ false) → count_to p n ≡ 0
unfolding count_to
count_none p zero h = refl
count_none p (suc n) h = rw (count_none p n (less h), top h)

bit_same : (a b : Bool) → bit a ≡ bit b → b ≡ true → a ≡ true
bit_same true b e p = refl
bit_same false true e p = absurd (omega arith)
bit_same false false e p = p

-- of two counts that agree, one test within the other: the tests agree
pub count_same : (p q : ℕ → Bool) (n : ℕ) → Each n (λ k. p k ≡ true → q k ≡ true) → count_to p n ≡ count_to q n → Each n (λ k. q k ≡ true → p k ≡ true)
unfolding count_to
count_same p q zero h e = record { one = λ k l m. absurd (omega arith) }
count_same p q (suc n) h e =
    let a = count_mono p q n (less h).one in
    let b = bit_mono (p (suc n)) (q (suc n)) (top h) in
    upto n (count_same p q n (less h) (omega arith)) (bit_same (p (suc n)) (q (suc n)) (omega arith))

pub bit_or_lem : (a b : Bool) → (a ≡ true → b ≡ false) → bit (a || b) ≡ bit a + bit b
bit_or_lem true b f = rw (f refl)
bit_or_lem false true f = refl
bit_or_lem false false f = refl

pub count_or : (p q : ℕ → Bool) (n : ℕ) → ((k : ℕ) → p k ≡ true → q k ≡ false) → count_to (λ k. p k || q k) n ≡ count_to p n + count_to q n
unfolding count_to
count_or p q zero f = refl
count_or p q (suc n) f =
    let ih = count_or p q n f in
    omega (arith, bit_or_lem (p (suc n)) (q (suc n)) (f (suc n)))

-- one number is counted one time
pub count_one : (x n : ℕ) → 1 ≤ x → x ≤ n → count_to (λ k. eqb k x) n ≡ 1
unfolding count_to
count_one x zero l m = absurd (omega arith)
count_one x (suc n) l m =
    elim (dec_lt x (suc n)) [
      | yes h ↦
          let e : eqb (suc n) x ≡ false = ne_eqb (suc n) x (λ q. omega arith) in
          rw (count_one x n l (omega arith), e)
      | no h ↦
          let s : x ≡ suc n = omega arith in
          rw (count_none (λ k. eqb k x) n (record { one = λ k a b. ne_eqb k x (λ q. omega arith) }), eq-eqb (suc n) x (sym s))
    ]

-- a list of numbers of 1 to n that holds each one time is as long as the count of its members
pub count_list : (l : List ℕ) (n : ℕ) → distinct l ≡ true → all (within 1 n) l ≡ true → count_to (λ k. any (eqb k) l) n ≡ length l
unfolding distinct all any
count_list [] n d a = count_none (λ k. false) n (record { one = λ k x y. refl })
count_list (x ∷ l) n d a =
    let d2 = and_parts (not (any (eqb x) l)) (distinct l) d in
    let a2 = and_parts (within 1 n x) (all (within 1 n) l) a in
    let r = and_parts (leb 1 x) (leb x n) a2.0 in
    count_or (λ k. eqb k x) (λ k. any (eqb k) l) n (λ k e. rw (eqb-true k x e) (not-true _ d2.0))
    ∙ ap (λ (m : ℕ). m + count_to (λ k. any (eqb k) l) n) (count_one x n (leb-true 1 x r.0) (leb-true x n r.1))
    ∙ (let ih = count_list l n d2.1 a2.1 in omega arith)

-- ---- sums

pub sum_le : (f g : ℕ → ℕ) (n : ℕ) → Each n (λ k. f k ≤ g k) → sum_to f n ≤ sum_to g n
unfolding sum_to
sum_le f g zero h = omega arith
sum_le f g (suc n) h = let ih = sum_le f g n (less h) in omega (arith, top h)

-- of two sums that agree, one within the other: they agree term by term
pub sum_same : (f g : ℕ → ℕ) (n : ℕ) → Each n (λ k. f k ≤ g k) → sum_to f n ≡ sum_to g n → Each n (λ k. f k ≡ g k)
unfolding sum_to
sum_same f g zero h e = record { one = λ k l m. absurd (omega arith) }
sum_same f g (suc n) h e =
    let a = sum_le f g n (less h) in
    let b = top h in
    upto n (sum_same f g n (less h) (omega arith)) (omega arith)

pub sum_ext : (f g : ℕ → ℕ) (n : ℕ) → Each n (λ k. f k ≡ g k) → sum_to f n ≡ sum_to g n
unfolding sum_to
sum_ext f g zero h = refl
sum_ext f g (suc n) h = rw (sum_ext f g n (less h), top h)

pub sum_add : (f g : ℕ → ℕ) (n : ℕ) → sum_to (λ k. f k + g k) n ≡ sum_to f n + sum_to g n
unfolding sum_to
sum_add f g zero = refl
sum_add f g (suc n) = let ih = sum_add f g n in omega arith

pub sum_bit : (p : ℕ → Bool) (n : ℕ) → sum_to (λ k. bit (p k)) n ≡ count_to p n
unfolding sum_to count_to
sum_bit p zero = refl
sum_bit p (suc n) = rw (sum_bit p n)

pub sum_zero : (f : ℕ → ℕ) (n : ℕ) → ((k : ℕ) → f k ≡ 0) → sum_to f n ≡ 0
unfolding sum_to
sum_zero f zero h = refl
sum_zero f (suc n) h = rw (sum_zero f n h, h (suc n))

if_zero : (b : Bool) → ◌≡◌ {A = ℕ} (if b 0 0) 0
if_zero true = refl
if_zero false = refl

if_more : (b c : Bool) (m : ℕ) → if b (m + bit c) 0 ≡ if b m 0 + bit (b && c)
if_more true c m = refl
if_more false c m = refl

-- pairs counted by their first numbers, where t says of each second number whether it has a first one, and no two
pub swap : (q : ℕ → Bool) (p : ℕ → ℕ → Bool) (t : ℕ → Bool) (n m : ℕ) → Each m (λ k. count_to (λ r. q r && p r k) n ≡ bit (t k))
    → sum_to (λ r. if (q r) (count_to (p r) m) 0) n ≡ count_to t m
unfolding count_to
swap q p t n zero h = sum_zero (λ r. if (q r) 0 0) n (λ r. if_zero (q r))
swap q p t n (suc m) h =
    sum_ext (λ r. if (q r) (count_to (p r) m + bit (p r (suc m))) 0) (λ r. if (q r) (count_to (p r) m) 0 + bit (q r && p r (suc m))) n
    (record { one = λ r a b. if_more (q r) (p r (suc m)) (count_to (p r) m) })
    ∙ sum_add (λ r. if (q r) (count_to (p r) m) 0) (λ r. bit (q r && p r (suc m))) n
    ∙ (let ih = swap q p t n m (less h) in
    let e = sum_bit (λ r. q r && p r (suc m)) n in
    let z = top h in
    omega arith)
