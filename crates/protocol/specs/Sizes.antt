-- Sizes of views and quorums. Assumes nothing.
use Rattle.std.specs.Prelude.{ℕ, ◌+◌, ◌*◌, ◌/◌, ◌-◌, ◌^◌, Bool, ◌&&◌, ◌||◌, ltb, leb, eqb}
use Rattle.protocol.specs.Types.{View}
use Rattle.protocol.specs.Tools.{if, count_to, holds, Result, done, guard}

-- "Clients are 1 to 16, servers 1 to 32, views 1 to 32, messages 1 to 1,023."
abbrev pub clients : ℕ
clients = 16

abbrev pub servers : ℕ
servers = 32

abbrev pub views : ℕ
views = 32

abbrev pub messages : ℕ
messages = 1023

-- the largest count
abbrev pub last_count : ℕ
last_count = 4294967295

-- "0 means q for everything; otherwise r is at least 2f+1, twice r is at most n+f+1"
abbrev pub read_rule : ℕ → ℕ → ℕ → Bool
read_rule n f r = eqb r 0 || (leb (2 * f + 1) r && leb (2 * r) (n + f + 1))

-- "n at least 1 and at least 3f+1", and the bounds of r
abbrev pub size_rule : ℕ → ℕ → ℕ → Bool
size_rule n f r = leb 1 n && (leb (3 * f + 1) n && read_rule n f r)

-- "A quorum is q = (n+f+1)/2, rounded up."
unfoldable pub quorum : ℕ → ℕ → ℕ
quorum n f = (n + f + 2) / 2

-- "A view gains a read size r ...: 0 means q for everything; otherwise ... the write size is n+f+1-r."
abbrev pub read_of : ℕ → ℕ → ℕ → ℕ
read_of n f r = if (eqb r 0) (quorum n f) r

abbrev pub write_of : ℕ → ℕ → ℕ → ℕ
write_of n f r = if (eqb r 0) (quorum n f) (n + f + 1 - r)

-- both sizes
pub record Both : Type 0 where
  pub reads : ℕ
  pub writes : ℕ

-- "Quorum size takes r and returns both": "8 if n is 0 or over 32, or n < 3f+1", "8 also for an r outside these bounds"
unfoldable pub quorum_size : ℕ → ℕ → ℕ → Result Both
quorum_size n f r = guard (leb n servers && size_rule n f r) 8 (done (record { reads = read_of n f r; writes = write_of n f r }))

-- a view of member bits, a threshold and a read size
abbrev pub view_with : ℕ → ℕ → ℕ → View
view_with bits f r = record { members = record { 0 = bits }; f = f; r = r }

-- "a server set N(t) of n servers and a threshold f(t)"
unfoldable pub size : View → ℕ
size v = count_to (holds v.members.0) servers

-- the size rule of a view; its member bits name servers 1 to 32
unfoldable pub sized : View → Bool
sized v = ltb v.members.0 (2 ^ 32) && size_rule (size v) v.f v.r

-- "READ closes with r servers, WRITE and END with the write size."
unfoldable pub read_size : View → ℕ
read_size v = read_of (size v) v.f v.r

unfoldable pub write_size : View → ℕ
write_size v = write_of (size v) v.f v.r

-- "Where the read size is below the write size a read always writes back; otherwise it may still end in one exchange."
unfoldable pub one_exchange : View → Bool
one_exchange v = leb (write_size v) (read_size v)
