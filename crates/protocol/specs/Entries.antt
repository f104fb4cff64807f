-- Entries and their stamps. Assumes nothing.
use Rattle.std.specs.Prelude.{ℕ, ◌^◌, Bool, ◌&&◌, ◌||◌, List, [], ◌∷◌, ltb, leb, eqb, ◌≡◌}
use Rattle.protocol.specs.Types.{Entry}
use Rattle.protocol.specs.Tools.{if}
use Rattle.protocol.specs.Sizes.{clients}

-- "An entry is a count, a writer and a value."
abbrev pub entry : ℕ → ℕ → ℕ → Entry
entry count writer value = record { stamp = record { count = record { 0 = count }; writer = writer }; value = value }

-- "The empty entry is 0, 0, 0."
abbrev pub empty : Entry
empty = entry 0 0 0

abbrev pub count_of : Entry → ℕ
count_of e = e.stamp.count.0

abbrev pub writer_of : Entry → ℕ
writer_of e = e.stamp.writer

-- "Its stamp is (count, writer), compared by count, then writer."
unfoldable pub below : Entry → Entry → Bool
below a b = ltb (count_of a) (count_of b) || (eqb (count_of a) (count_of b) && ltb (writer_of a) (writer_of b))

-- the larger stamp of two; a where the stamps are equal
unfoldable pub larger : Entry → Entry → Entry
larger a b = if (below a b) b a

-- "the largest stamp among those" of a list from the newest taken to the oldest ("equal stamps: the one taken first"),
-- e being the largest of those before it
unfoldable pub largest : Entry → List Entry → Entry
largest e [] = e
largest e (x ∷ xs) = largest (larger x e) xs

abbrev pub chosen : List Entry → Entry
chosen [] = empty
chosen (e ∷ es) = largest e es

-- equal in every field
unfoldable pub same : Entry → Entry → Bool
same a b = eqb (count_of a) (count_of b) && (eqb (writer_of a) (writer_of b) && eqb a.value b.value)

-- the ranges of an entry's fields: "writers are at most 16"
unfoldable pub entry_fits : Entry → Bool
entry_fits e = ltb (count_of e) (2 ^ 32) && (leb (writer_of e) clients && ltb e.value (2 ^ 32))

-- an entry whose fields are all zero, as `Entry::default` gives it
pub empty_is : {e : Entry} → ((e.stamp.count.0 ≡ 0) × (e.stamp.writer ≡ 0)) × (e.value ≡ 0) → e ≡ empty
empty_is {e} z = λ i. record { stamp = record { count = record { 0 = z.0.0 i }; writer = z.0.1 i }; value = z.1 i }
