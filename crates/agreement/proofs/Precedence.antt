-- The order of operations (specs/Precedence.antt) is strict, and of two keys with different reads one precedes the other. Assumes nothing.
use Rattle.std.specs.Prelude.{ℕ, ◌<◌, ◌≡◌, ◌⊎◌, ◌≢◌}
use Rattle.std.proofs.Math.Decide.{dec_lt}
use Rattle.std.proofs.Common.{arith, sym, inl, inr}
use Rattle.protocol.specs.declared.Entry.{Entry}
use Rattle.protocol.specs.Entries.{count_of, writer_of}
use Rattle.protocol.proofs.Laws.Entries.{◌≼◌, by_count, by_writer, ≼_refl}
use Rattle.agreement.specs.Precedence.{◌≺◌, count, writer, Level, Key, Precedes, by_stamp, by_kind, by_read}

pub ≺_trans : {a b c : Entry} → a ≺ b → b ≺ c → a ≺ c
≺_trans (count h) (count k) = count (omega arith)
≺_trans (count h) (writer e k) = count (omega arith)
≺_trans (writer e h) (count k) = count (omega arith)
≺_trans (writer e h) (writer f k) = writer (omega arith) (omega arith)

≺_level : {a b c : Entry} → a ≺ b → Level b c → a ≺ c
≺_level (count h) l = count (omega (arith, l.count))
≺_level (writer e h) l = writer (omega (arith, l.count)) (omega (arith, l.writer))

level_≺ : {a b c : Entry} → Level a b → b ≺ c → a ≺ c
level_≺ l (count h) = count (omega (arith, l.count))
level_≺ l (writer e h) = writer (omega (arith, l.count)) (omega (arith, l.writer))

-- no stamp is below one that is at most it
pub ≺_not : {A : Type 0} {a b : Entry} → a ≺ b → b ≼ a → A
≺_not (count h) (by_count k) = absurd (omega arith)
≺_not (count h) (by_writer f k) = absurd (omega arith)
≺_not (writer e h) (by_count k) = absurd (omega arith)
≺_not (writer e h) (by_writer f k) = absurd (omega arith)

pub ≺_≼ : {a b : Entry} → a ≺ b → a ≼ b
≺_≼ (count h) = by_count h
≺_≼ (writer e h) = by_writer e (omega arith)

pub level_≼ : {a b : Entry} → Level a b → a ≼ b
level_≼ l = by_writer l.count (omega (arith, l.writer))

level_trans : {a b c : Entry} → Level a b → Level b c → Level a c
level_trans l k = record { count = omega (arith, l.count, k.count); writer = omega (arith, l.writer, k.writer) }

pub precedes_trans : {x y z : Key} → Precedes x y → Precedes y z → Precedes x z
precedes_trans (by_stamp h) (by_stamp k) = by_stamp (≺_trans h k)
precedes_trans (by_stamp h) (by_kind l k) = by_stamp (≺_level h l)
precedes_trans (by_stamp h) (by_read l e k) = by_stamp (≺_level h l)
precedes_trans (by_kind l h) (by_stamp k) = by_stamp (level_≺ l k)
precedes_trans (by_kind l h) (by_kind m k) = by_kind (level_trans l m) (omega arith)
precedes_trans (by_kind l h) (by_read m e k) = by_kind (level_trans l m) (omega arith)
precedes_trans (by_read l e h) (by_stamp k) = by_stamp (level_≺ l k)
precedes_trans (by_read l e h) (by_kind m k) = by_kind (level_trans l m) (omega arith)
precedes_trans (by_read l e h) (by_read m f k) = by_read (level_trans l m) (omega arith) (omega arith)

-- a number is below another, above it, or the same
pub data Tri (m n : ℕ) : Type 0 where
  less : m < n → Tri m n
  same : m ≡ n → Tri m n
  more : n < m → Tri m n

tri : (m n : ℕ) → Tri m n
unfolding dec_lt
tri m n = go (dec_lt m n) (dec_lt n m)
  where
    go : Dec (m < n) → Dec (n < m) → Tri m n
    go (yes h) d = less h
    go (no h) (yes k) = more k
    go (no h) (no k) = same (omega arith)

-- of two keys with different reads one precedes the other
unfoldable pub compared : (x y : Key) → Precedes x y ⊎ (x.read ≢ y.read → Precedes y x)
unfolding tri
compared x y = at (tri (count_of x.entry) (count_of y.entry)) (tri (writer_of x.entry) (writer_of y.entry)) (tri x.kind y.kind) (tri x.read y.read)
  where
    at : Tri (count_of x.entry) (count_of y.entry) → Tri (writer_of x.entry) (writer_of y.entry) → Tri x.kind y.kind → Tri x.read y.read
        → Precedes x y ⊎ (x.read ≢ y.read → Precedes y x)
    at (less c) w k r = inl (by_stamp (count c))
    at (more c) w k r = inr (λ _. by_stamp (count c))
    at (same c) (less w) k r = inl (by_stamp (writer c w))
    at (same c) (more w) k r = inr (λ _. by_stamp (writer (sym c) w))
    at (same c) (same w) (less k) r = inl (by_kind (record { count = c; writer = w }) k)
    at (same c) (same w) (more k) r = inr (λ _. by_kind (record { count = sym c; writer = sym w }) k)
    at (same c) (same w) (same k) (less r) = inl (by_read (record { count = c; writer = w }) k r)
    at (same c) (same w) (same k) (more r) = inr (λ _. by_read (record { count = sym c; writer = sym w }) (sym k) r)
    at (same c) (same w) (same k) (same r) = inr (λ n. absurd (n r))

pub precedes_≼ : {x y : Key} → Precedes x y → x.entry ≼ y.entry
precedes_≼ (by_stamp h) = ≺_≼ h
precedes_≼ (by_kind l h) = level_≼ l
precedes_≼ (by_read l e h) = level_≼ l

-- a later kind that follows has a larger stamp
pub precedes_≺ : {x y : Key} → Precedes x y → y.kind < x.kind → x.entry ≺ y.entry
precedes_≺ (by_stamp h) k = h
precedes_≺ (by_kind l h) k = absurd (omega arith)
precedes_≺ (by_read l e h) k = absurd (omega arith)

-- nothing precedes itself
pub precedes_self : {A : Type 0} {x : Key} → Precedes x x → A
precedes_self (by_stamp h) = ≺_not h (≼_refl _)
precedes_self (by_kind l h) = absurd (omega arith)
precedes_self (by_read l e h) = absurd (omega arith)
