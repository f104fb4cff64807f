-- What a walk along taken answers gathers, and that it is what the answers say. Assumes nothing.
use Rattle.std.specs.Prelude.{ℕ, ◌≤◌, ◌<◌, Bool, true, ◌||◌, ◌&&◌, ◌≡◌, refl, List, [], ◌∷◌, leb, eqb, Option, None, Some}
use Rattle.std.proofs.Common.{arith}
use Rattle.std.proofs.lemmas.Grind.{common_steps}
use Rattle.std.specs.Int.Bits.{bit_or}
use Rattle.values.specs.declared.tally.Tally.{Tally}
use Rattle.protocol.specs.declared.Entry.{Entry}
use Rattle.protocol.specs.declared.Choice.{Choice}
use Rattle.protocol.specs.declared.Message.{Message}
use Rattle.protocol.specs.declared.MessageNumber.{MessageNumber}
use Rattle.protocol.specs.Tools.{if, count_to, any, all, holds}
use Rattle.protocol.specs.Sizes.{servers}
use Rattle.protocol.specs.Entries.{below, larger, largest, chosen, same}
use Rattle.protocol.specs.Worlds.{World, message}
use Rattle.protocol.specs.Chains.{heard, enough, shown, agreed}
use Rattle.protocol.proofs.Laws.Bits.{holds_or}
use Rattle.protocol.proofs.Laws.Entries.{same_is, larger_same, all_one}
use Rattle.values.specs.Bits.{bit_in, bit_held, count_same}

-- the answer just taken
unfoldable pub first_answer : Message → Tally
first_answer m = record { seen = record { 0 = bit_in m.sender }; best = m.entry; one = true }

-- the answer that leads once n is met, which shows e; best led before, and showed had: "equal stamps: the one taken first", which is
-- the older
abbrev pub leading : MessageNumber → Entry → MessageNumber → Entry → MessageNumber
leading best had n e = if (below e had) best n

-- "all its taken answers of the chosen view carry one entry": they did, had being the largest, and one more shows the entry e
abbrev pub still_one : Bool → Entry → Entry → Bool
still_one one had e = one && same had e

abbrev pub with_answer : Tally → Message → Tally
with_answer a m =
    record { seen = record { 0 = bit_or a.seen.0 (bit_in m.sender) }; best = larger m.entry a.best; one = still_one a.one a.best m.entry }

-- one older answer more: "the answers taken with that answer's view t"; "equal stamps: the one taken first"
unfoldable pub add_answer : Tally → ℕ → Message → Tally
add_answer a t m = if (eqb m.view.0 t) (with_answer a m) a

-- what is chosen, where the answers come from enough different servers
unfoldable pub closes_at : Tally → ℕ → Option Choice
closes_at a size = if (leb size (count_to (holds a.seen.0) servers)) (Some (record { entry = a.best; one = a.one })) None

-- what the answers ks of view t show: the entry chosen of them, and whether all carry it
abbrev pub choice : World → ℕ → List ℕ → Choice
choice w t ks = record { entry = chosen (shown w t ks); one = agreed w t ks }

-- the tally of view t along the answers ks of a world, from the newest to the oldest, a being that of those before them
unfoldable pub tally_from : World → ℕ → Tally → List ℕ → Tally
tally_from w t a [] = a
tally_from w t a (k ∷ ks) = tally_from w t (add_answer a t (message w k)) ks

-- the tally of the answer k just taken and of the answers ks taken before it
unfoldable pub tally_of : World → ℕ → List ℕ → Tally
tally_of w k ks = tally_from w (message w k).view.0 (first_answer (message w k)) ks

-- the servers seen are those heard
pub seen_heard : (w : World) (t : ℕ) (a : Tally) (ks : List ℕ) (s : ℕ) → 0 < s → s ≤ 32
    → holds (tally_from w t a ks).seen.0 s ≡ holds a.seen.0 s || heard w t ks s
unfolding tally_from add_answer heard any
seen_heard w t a [] s h k = grind (arith, common_steps)
seen_heard w t a (x ∷ ks) s h k =
    grind (arith, common_steps, holds_or, bit_held, seen_heard w t (add_answer a t (message w x)) ks s h k)

-- the best is the largest of those shown
pub best_largest : (w : World) (t : ℕ) (a : Tally) (ks : List ℕ) → (tally_from w t a ks).best ≡ largest a.best (shown w t ks)
unfolding tally_from add_answer shown largest
best_largest w t a [] = refl
best_largest w t a (x ∷ ks) = grind (arith, common_steps, best_largest w t (add_answer a t (message w x)) ks)

-- whether all carry one entry is whether all carry the first
pub one_all : (w : World) (t : ℕ) (a : Tally) (ks : List ℕ) → (tally_from w t a ks).one ≡ (a.one && all (same a.best) (shown w t ks))
unfolding tally_from add_answer shown all
one_all w t a [] = grind (arith, common_steps)
one_all w t a (x ∷ ks) =
    grind (arith, common_steps, same_is, larger_same, one_all w t (add_answer a t (message w x)) ks)

pub first_seen : (w : World) (k s : ℕ) (ks : List ℕ) → 0 < s → s ≤ 32
    → holds (tally_of w k ks).seen.0 s ≡ heard w (message w k).view.0 (k ∷ ks) s
unfolding tally_of first_answer heard any
first_seen w k s ks h b = grind (arith, common_steps, bit_held, seen_heard)

-- as many servers are seen as are heard
pub seen_count : (w : World) (k : ℕ) (ks : List ℕ)
    → count_to (holds (tally_of w k ks).seen.0) servers ≡ count_to (heard w (message w k).view.0 (k ∷ ks)) servers
seen_count w k ks =
    count_same (holds (tally_of w k ks).seen.0) (heard w (message w k).view.0 (k ∷ ks)) servers (λ s h b. first_seen w k s ks h b)

pub best_chosen : (w : World) (k : ℕ) (ks : List ℕ) → (tally_of w k ks).best ≡ chosen (shown w (message w k).view.0 (k ∷ ks))
unfolding tally_of first_answer shown
best_chosen w k ks = grind (arith, common_steps, best_largest)

pub one_agreed : (w : World) (k : ℕ) (ks : List ℕ) → (tally_of w k ks).one ≡ agreed w (message w k).view.0 (k ∷ ks)
unfolding tally_of first_answer shown agreed
one_agreed w k ks = grind (arith, common_steps, one_all, all_one)

-- a tally closes where there are enough answers of its view, with what is chosen of them
pub tally_closes : (w : World) (k : ℕ) (ks : List ℕ) (size : ℕ)
    → closes_at (tally_of w k ks) size ≡ if (enough w (message w k).view.0 (k ∷ ks) size) (Some (choice w (message w k).view.0 (k ∷ ks))) None
unfolding closes_at enough
tally_closes w k ks size = grind (arith, common_steps, seen_count, best_chosen, one_agreed)
