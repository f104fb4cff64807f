-- END's close where a view is left. Assumes nothing.
use Rattle.std.specs.Prelude.{◌<◌, ◌≡◌, ltb}
use Rattle.std.proofs.Common.{lt-ltb}
use Rattle.protocol.specs.declared.Administrator.{Administrator}
use Rattle.protocol.specs.Tools.{Result, done, guard}
use Rattle.protocol.specs.Sizes.{views}
use Rattle.protocol.specs.Clients.{advance}

-- the next view becomes the newest; 3 where there is none
unfoldable pub advance_in : Administrator → Result Administrator
advance_in a = guard (ltb a.newest.0 views) 3 (done (advance a))

pub advance_in_lem : (a : Administrator) → a.newest.0 < 32 → advance_in a ≡ done (advance a)
unfolding advance_in guard
advance_in_lem a h = simp (lt-ltb _ _ h)
