-- The bytes that count the faulty key holders of each view, beside the full count (`holders` of codec). `holders_none`: a view whose
-- key no faulty server holds; `holders_beyond`: so it is with every view beyond the newest; `holders_low`: the count fits a byte.
-- `holder_ok` is the test of one byte, `premise_bytes` the premise by these bytes. Used by Scan, Fresh and Premise, and by `world`.
use Rattle.std.specs.Prelude.{◌≡◌, refl, Bool, true, false, ◌&&◌, List, ℕ, ◌^◌, ◌≤◌, ◌<◌, ltb, leb, eqb}
use Rattle.std.proofs.Common.{sym, ap, arith, ltb-true}
use Rattle.std.proofs.Math.Bool.{and-false}
use Rattle.std.proofs.lemmas.Bool.{and_parts}
use Rattle.protocol.specs.declared.Administrator.{Administrator}
use Rattle.protocol.specs.Tools.{count_to}
use Rattle.protocol.specs.Sizes.{servers}
use Rattle.protocol.specs.Entries.{entry_fits}
use Rattle.protocol.specs.Worlds.{World, server, newest, bad}
use Rattle.protocol.specs.Readable.{key_rule, server_fits}
use Rattle.protocol.proofs.Laws.Counts.{count_le}
use Rattle.values.specs.Bits.{holds_beyond}
use Rattle.codec.specs.Places.{administrator_at, holder_at}
use Rattle.codec.specs.Images.{holders, decode}
use Rattle.codec.specs.Laws.{administrator_decode}
use Rattle.key_holders.specs.Counts.{count_none}

-- "an image whose byte differs from that is unreadable"
unfoldable pub holder_ok : List ℕ → ℕ → Bool
holder_ok i t = eqb (holder_at i t) (holders (decode i) t)

pub holders_count : (w : World) (t : ℕ) → holders w t ≡ count_to (bad w t) servers
unfolding holders
holders_count w t = refl

pub holders_low : (w : World) (t : ℕ) → holders w t ≤ servers
unfolding holders
holders_low w t = count_le (bad w t) servers

pub holders_none : (w : World) (t : ℕ) → ((s : ℕ) → 1 ≤ s → s ≤ servers → bad w t s ≡ false) → holders w t ≡ 0
unfolding holders
holders_none w t h = count_none (bad w t) servers (record { one = h })

-- a server's keys are of views up to the newest
not_held : (w : World) (t s : ℕ) → server_fits w s ≡ true → newest w < t → bad w t s ≡ false
unfolding server_fits bad
not_held w t s e h =
    let a = and_parts (leb (server w s).view.0 (newest w)) (ltb (server w s).keys.0 (2 ^ newest w) && (key_rule (server w s) && entry_fits (server w s).entry)) e in
    let b = and_parts (ltb (server w s).keys.0 (2 ^ newest w)) (key_rule (server w s) && entry_fits (server w s).entry) a.1 in
    rw (holds_beyond (newest w) (server w s).keys.0 t (ltb-true _ _ b.0) h) (and-false (server w s).faulty)

-- every server fits its world
pub record Served (w : World) : Type 0 where
  pub one : (s : ℕ) → 1 ≤ s → s ≤ servers → server_fits w s ≡ true

pub holders_beyond : {w : World} → Served w → (t : ℕ) → newest w < t → holders w t ≡ 0
holders_beyond {w} h t n = holders_none w t (λ s a b. not_held w t s (h.one s a b) n)

pub holders_over : (i : List ℕ) (t n : ℕ) → Served (decode i) → n ≡ (administrator_at i).newest.0 → n < t → 0 ≡ holders (decode i) t
holders_over i t n h e l =
    sym (holders_beyond h t (omega (arith, e, ap (λ (a : Administrator). a.newest.0) (administrator_decode i))))
