-- The chain of a request's taken answers, and what the answers with one view show. Assumes nothing.
use Rattle.std.specs.Prelude.{ℕ, zero, suc, Bool, ◌&&◌, List, [], ◌∷◌, leb, eqb}
use Rattle.protocol.specs.Types.{Entry}
use Rattle.protocol.specs.Tools.{if, count_to, any, all}
use Rattle.protocol.specs.Sizes.{servers, messages}
use Rattle.protocol.specs.Entries.{chosen, same}
use Rattle.protocol.specs.Worlds.{World, message}

-- "From a request the links are followed until zero": the numbers met from n on, with the links still allowed
unfoldable pub follow : World → ℕ → ℕ → List ℕ
follow w zero n = []
follow w (suc left) zero = []
follow w (suc left) (suc n) = suc n ∷ follow w left (message w (suc n)).next.0

-- "a request's next is its newest taken answer, zero ends the chain": from the newest to the oldest
unfoldable pub chain : World → ℕ → List ℕ
chain w r = follow w messages (message w r).next.0

-- "the answers taken with that answer's view t": of the answers ks, those with view t
abbrev pub tagged : World → ℕ → ℕ → Bool
tagged w t k = eqb (message w k).view.0 t

-- one of them comes from server s
unfoldable pub heard : World → ℕ → List ℕ → ℕ → Bool
heard w t ks s = any (λ k. tagged w t k && eqb (message w k).sender s) ks

-- "come from at least q(t) different servers"
unfoldable pub enough : World → ℕ → List ℕ → ℕ → Bool
enough w t ks size = leb size (count_to (heard w t ks) servers)

-- the entries that they show
unfoldable pub shown : World → ℕ → List ℕ → List Entry
shown w t [] = []
shown w t (k ∷ ks) = if (tagged w t k) ((message w k).entry ∷ shown w t ks) (shown w t ks)

-- "all its taken answers of the chosen view carry one entry"
unfoldable pub agreed : World → ℕ → List ℕ → Bool
agreed w t ks = all (same (chosen (shown w t ks))) (shown w t ks)
