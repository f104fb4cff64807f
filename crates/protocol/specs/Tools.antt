-- Tests, counting from 1, sets of numbers as bits, numbered lists, and refusals by number. Assumes nothing.
use Rattle.std.specs.Prelude.{ℕ, zero, suc, ◌+◌, ◌/◌, ◌%◌, ◌^◌, Bool, true, false, ◌&&◌, ◌||◌, ◌≡◌, refl, List, [], ◌∷◌, get_or, set, leb, eqb}

abbrev pub if : {A : Type 0} → Bool → A → A → A
if true x y = x
if false x y = y

-- low ≤ n ≤ high
abbrev pub within : ℕ → ℕ → ℕ → Bool
within low high n = leb low n && leb n high

-- 1 where a test passes, else 0
abbrev pub bit : Bool → ℕ
bit true = 1
bit false = 0

-- how many of the numbers 1 to n pass p; whether all of them do
unfoldable pub count_to : (ℕ → Bool) → ℕ → ℕ
count_to p zero = 0
count_to p (suc n) = count_to p n + bit (p (suc n))

unfoldable pub all_to : (ℕ → Bool) → ℕ → Bool
all_to p zero = true
all_to p (suc n) = all_to p n && p (suc n)

-- whether one of the numbers 1 to n passes p
unfoldable pub some_to : (ℕ → Bool) → ℕ → Bool
some_to p zero = false
some_to p (suc n) = some_to p n || p (suc n)

-- the sum of g 1 to g n
unfoldable pub sum_to : (ℕ → ℕ) → ℕ → ℕ
sum_to g zero = 0
sum_to g (suc n) = sum_to g n + g (suc n)

-- whether some element of a list passes p; whether all do
unfoldable pub any : {A : Type 0} → (A → Bool) → List A → Bool
any p [] = false
any p (x ∷ xs) = p x || any p xs

unfoldable pub all : {A : Type 0} → (A → Bool) → List A → Bool
all p [] = true
all p (x ∷ xs) = p x && all p xs

-- a set of the numbers from 1 on: number k is bit k-1
unfoldable pub holds : ℕ → ℕ → Bool
holds bits zero = false
holds bits (suc k) = eqb (bits / 2 ^ k % 2) 1

unfoldable pub bit_of : ℕ → ℕ
bit_of zero = 0
bit_of (suc k) = 2 ^ k

-- the element number k of a list that is numbered from 1, d where there is none; and the list with v there
unfoldable pub nth : {A : Type 0} → List A → ℕ → A → A
nth l zero d = d
nth l (suc k) d = get_or l k d

unfoldable pub replace : {A : Type 0} → List A → ℕ → A → List A
replace l zero v = l
replace l (suc k) v = set l k v

-- an answer: a refusal by its number, or what was done
pub data Result (A : Type 0) : Type 0 where
  refused : ℕ → Result A
  done : A → Result A

-- the refusal n unless the test passes
unfoldable pub guard : {A : Type 0} → Bool → ℕ → Result A → Result A
guard true n x = x
guard false n x = refused n

-- what follows on a result that is no refusal
abbrev pub then : {A B : Type 0} → Result A → (A → Result B) → Result B
then (refused n) f = refused n
then (done a) f = f a

-- the number of an answer: 0 means done
abbrev pub number_of : {A : Type 0} → Result A → ℕ
number_of (refused n) = n
number_of (done a) = 0

pub same_done : {A : Type 0} {x y : A} → done x ≡ done y → x ≡ y
same_done e = cc

pub passed : {A : Type 0} (b : Bool) (n : ℕ) (x : Result A) (v : A) → guard b n x ≡ done v → (b ≡ true) × (x ≡ done v)
unfolding guard
passed true n x v e = (refl, e)
passed false n x v e = (cc, cc)

-- an answer found test by test: a test of a row passes and the rest decides
pub pass : {a b r : Bool} → a ≡ true → r ≡ b → r ≡ a && b
pass e f = rw e f
