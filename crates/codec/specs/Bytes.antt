-- Numbers as bytes, the lowest first, and zero bytes. Number to bytes to number: `half_le16`, `word_le32`; bytes to number to
-- bytes: `le16_part`, `le32_part`; one byte and zero bytes: `byte_part`, `zeros_part`, and back `zeros_back`.
-- Used by the laws of Records and Spelling and by the code of `bytes`.
use Rattle.std.specs.Prelude.{◌≡◌, refl, Bool, true, ◌&&◌, List, [], ◌∷◌, ◌++◌, ℕ, zero, suc, ◌+◌, ◌*◌, ◌/◌, ◌%◌, ◌≤◌, ◌<◌, ◌^◌, get_or, length, take, drop, replicate, eqb}
use Rattle.std.proofs.Common.{sym, ap, ◌∙◌, add-one, arith, length-take, length-drop, get_or-drop, eqb-true, eq-eqb}
use Rattle.std.proofs.Math.Decide.{dec_lt}
use Rattle.std.specs.List.{list_all}
use Rattle.std.proofs.lemmas.List.{get_or-replicate}
use Rattle.std.proofs.lemmas.List.Folds.{list_all_more}
use Rattle.std.proofs.Math.ListN.{get_or-eq_default}
use Rattle.std.specs.Cmp.{first_so, second_so}
use Rattle.std.proofs.lemmas.Bool.{and_from}
use Rattle.protocol.specs.Runs.{u16_width, u32_width, u16_at, u32_at}
use Rattle.codec.specs.Lists.{part, part_one, part_add, get_d_part}

-- "little-endian": the number that two bytes spell, and four
abbrev pub half : ℕ → ℕ → ℕ
half a b = a + 256 * b

abbrev pub word : ℕ → ℕ → ℕ → ℕ → ℕ
word a b c d = half a b + 65536 * half c d

-- the bytes of a u16 and of a u32
abbrev pub le16 : ℕ → List ℕ
le16 n = n % 256 ∷ n / 256 % 256 ∷ []

abbrev pub le32 : ℕ → List ℕ
le32 n = n % 256 ∷ n / 256 % 256 ∷ n / 256 / 256 % 256 ∷ n / 256 / 256 / 256 % 256 ∷ []

-- number to bytes to number
pub half_le16 : (n : ℕ) → n < 2 ^ 16 → half (n % 256) (n / 256 % 256) ≡ n
half_le16 n h = omega arith

pub word_le32 : (n : ℕ) → n < 2 ^ 32 → word (n % 256) (n / 256 % 256) (n / 256 / 256 % 256) (n / 256 / 256 / 256 % 256) ≡ n
word_le32 n h = omega arith

-- a lowest digit, and what stands above it
low : (a m : ℕ) → a < 256 → (a + 256 * m) % 256 ≡ a
low a m h = omega arith

high : (a m : ℕ) → a < 256 → (a + 256 * m) / 256 ≡ m
high a m h = omega arith

low1 : (a : ℕ) → a < 256 → a % 256 ≡ a
low1 a h = omega arith

nested : (a b c d : ℕ) → word a b c d ≡ a + 256 * (b + 256 * (c + 256 * d))
nested a b c d = omega arith

-- the digits of a number that bytes spell
module _ (a b : ℕ) (ha : a < 256) (hb : b < 256) where
  half_0 : half a b % 256 ≡ a
  half_0 = low a b ha

  half_1 : half a b / 256 % 256 ≡ b
  half_1 = rw (high a b ha) (low1 b hb)

module _ (a b c d : ℕ) (ha : a < 256) (hb : b < 256) (hc : c < 256) (hd : d < 256) where
  word_0 : word a b c d % 256 ≡ a
  word_0 = rw (nested a b c d) (low a _ ha)

  word_1 : word a b c d / 256 % 256 ≡ b
  word_1 = rw (nested a b c d, high a _ ha) (low b _ hb)

  word_2 : word a b c d / 256 / 256 % 256 ≡ c
  word_2 = rw (nested a b c d, high a _ ha, high b _ hb) (low c _ hc)

  word_3 : word a b c d / 256 / 256 / 256 % 256 ≡ d
  word_3 = rw (nested a b c d, high a _ ha, high b _ hb, high c _ hc) (low1 d hd)

-- every element is a byte
abbrev pub Bytes : List ℕ → Type 0
Bytes l = (i : ℕ) → get_or l i 0 < 256

-- bytes to number to bytes
pub byte_part : (b : List ℕ) (i : ℕ) → i < length b → get_or b i 0 ∷ [] ≡ part b i 1
byte_part b i h = sym (part_one b i h)

module _ (b : List ℕ) (at : ℕ) (y : Bytes b) where
  pub le16_part : at + u16_width ≤ length b → le16 (u16_at b at) ≡ part b at u16_width
  le16_part h =
      rw (half_0 (get_or b at 0) (get_or b (at + 1) 0) (y at) (y (at + 1)), half_1 (get_or b at 0) (get_or b (at + 1) 0) (y at) (y (at + 1)))
      (sym (part_add b at 1 1 ∙ rw (part_one b at (omega arith), part_one b (at + 1) (omega arith))))

  pub le32_part : at + u32_width ≤ length b → le32 (u32_at b at) ≡ part b at u32_width
  le32_part h =
      let y0 = y at in
      let y1 = y (at + 1) in
      let y2 = y (at + 2) in
      let y3 = y (at + 2 + 1) in
      rw (
        word_0 (get_or b at 0) (get_or b (at + 1) 0) (get_or b (at + 2) 0) (get_or b (at + 2 + 1) 0) y0 y1 y2 y3,
        word_1 (get_or b at 0) (get_or b (at + 1) 0) (get_or b (at + 2) 0) (get_or b (at + 2 + 1) 0) y0 y1 y2 y3,
        word_2 (get_or b at 0) (get_or b (at + 1) 0) (get_or b (at + 2) 0) (get_or b (at + 2 + 1) 0) y0 y1 y2 y3,
        word_3 (get_or b at 0) (get_or b (at + 1) 0) (get_or b (at + 2) 0) (get_or b (at + 2 + 1) 0) y0 y1 y2 y3,
      )
      (sym
      (part_add b at 2 2 ∙ rw (part_add b at 1 1, part_add b (at + 2) 1 1)
      (rw (part_one b at (omega arith), part_one b (at + 1) (omega arith), part_one b (at + 2) (omega arith), part_one b (at + 2 + 1) (omega arith)))))

short : (l : List ℕ) (a n i : ℕ) → (i < n → ⊥) → length (part l a n) ≤ i
unfolding part
short l a n i h = simp length-take (omega arith)

pub bytes_part : (l : List ℕ) (a n : ℕ) → Bytes l → Bytes (part l a n)
bytes_part l a n y i =
    elim (dec_lt i n) [ yes h ↦ rw (get_d_part l a n i h) (y (a + i)) | no h ↦ rw (get_or-eq_default (part l a n) 0 (short l a n i h)) (omega arith) ]

-- ---- zero bytes

-- byte i is zero; the n bytes from at on are
abbrev pub clear : List ℕ → ℕ → Bool
clear b i = eqb (get_or b i 0) 0

unfoldable pub zeros : List ℕ → ℕ → ℕ → Bool
zeros b at zero = true
zeros b at (suc n) = zeros b at n && clear b (at + n)

-- as an iterator finds it
pub zeros_all : (b : List ℕ) (at n : ℕ) → at + n ≤ length b → zeros b at n ≡ list_all (λ x. eqb x 0) (take n (drop at b))
unfolding zeros
zeros_all b at zero h = refl
zeros_all b at (suc n) h =
    let l : n < length (drop at b) = simp length-drop (omega arith) in
    rw (← add-one n, list_all_more (λ x. eqb x 0) (drop at b) n 0 l, get_or-drop, ← zeros_all b at n (omega arith))

replicate_more : (n : ℕ) → ◌++◌ {A = ℕ} (replicate n 0) (0 ∷ []) ≡ replicate (suc n) 0
replicate_more zero = refl
replicate_more (suc n) = ap (λ (r : List ℕ). 0 ∷ r) (replicate_more n)

pub zeros_part : (b : List ℕ) (at n : ℕ) → at + n ≤ length b → zeros b at n ≡ true → replicate n 0 ≡ part b at n
unfolding zeros part
zeros_part b at zero h z = refl
zeros_part b at (suc n) h z =
    let e : part b at (n + 1) ≡ replicate n 0 ++ (0 ∷ [])
    = part_add b at n 1 ∙ rw (
      sym (zeros_part b at n (omega arith) (first_so (zeros b at n) (clear b (at + n)) z)),
      part_one b (at + n) (omega arith),
      eqb-true (get_or b (at + n) 0) 0
          (second_so (zeros b at n) (clear b (at + n)) z),
    ) in
    sym (ap (part b at) (sym (add-one n)) ∙ e ∙ replicate_more n)

pub zeros_back : (b : List ℕ) (at n : ℕ) → replicate n 0 ≡ part b at n → zeros b at n ≡ true
unfolding zeros
zeros_back b at n e = go n (λ i h. sym (get_d_part b at n i h) ∙ ap (λ (l : List ℕ). get_or l i 0) (sym e) ∙ get_or-replicate n i 0 0 h)
  where
    go : (k : ℕ) → ((i : ℕ) → i < k → get_or b (at + i) 0 ≡ 0) → zeros b at k ≡ true
    go zero f = refl
    go (suc k) f = and_from _ _ (go k (λ i h. f i (omega arith))) (eq-eqb (get_or b (at + k) 0) 0 (f k (omega arith)))
