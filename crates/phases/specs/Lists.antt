-- The tally of a list of answers, `tally_in`. The list goes from the newest to the oldest, as `chain` has it. Used by Same.
use Rattle.std.specs.Prelude.{ℕ, Bool, ◌&&◌, List, [], ◌∷◌}
use Rattle.std.proofs.Math.Bool.{true}
use Rattle.values.specs.declared.tally.Tally.{Tally}
use Rattle.protocol.specs.Tools.{if, within}
use Rattle.protocol.specs.Sizes.{servers}
use Rattle.protocol.specs.Entries.{empty, entry_fits}
use Rattle.protocol.specs.Worlds.{World, message}
use Rattle.protocol.specs.Chains.{tagged}
use Rattle.phases.specs.Rules.{count_answer}

-- nobody was heard
abbrev pub no_tally : Tally
no_tally = record { seen = record { 0 = 0 }; best = empty; one = true }

-- the tally of those of the answers ks that have view t, the oldest counted first
unfoldable pub tally_in : World → ℕ → List ℕ → Tally
tally_in w t [] = no_tally
tally_in w t (k ∷ ks) = if (tagged w t k) (count_answer (tally_in w t ks) (message w k)) (tally_in w t ks)

-- what an answer of a world has: "sender u8 (... server for an answer)", and an entry in its range
abbrev pub valid_answer : World → ℕ → Bool
valid_answer w k = within 1 servers (message w k).sender && entry_fits (message w k).entry
