-- What one answer does to the tally of its view, and whether it closes the phase. Used by Calls; `Same` shows that this is the step
-- take.
use Rattle.std.specs.Prelude.{ℕ, Bool, not, ◌&&◌, ◌||◌, eqb, Option, None, Some}
use Rattle.std.specs.Int.Bits.{bit_or}
use Rattle.values.specs.declared.tally.Tally.{Tally}
use Rattle.protocol.specs.declared.Choice.{Choice}
use Rattle.protocol.specs.declared.Message.{Message}
use Rattle.protocol.specs.declared.View.{View}
use Rattle.protocol.specs.Tools.{if}
use Rattle.protocol.specs.Sizes.{read_size, write_size, one_exchange}
use Rattle.protocol.specs.Entries.{larger}
use Rattle.protocol.specs.Servers.{READ, END}
use Rattle.values.specs.Bits.{bit_in}
use Rattle.values.specs.Tallies.{first_answer, still_one, closes_at}
use Rattle.phases.specs.declared.phase_record.Head.{Head}

-- one newer answer more: "the largest stamp among those of view t is chosen (equal stamps: the one taken first)", which is the one
-- there; "different servers": a server heard before is heard; "all its taken answers of the chosen view carry one entry"
abbrev pub newer : Tally → Message → Tally
newer a m =
    record { seen = record { 0 = bit_or a.seen.0 (bit_in m.sender) }; best = larger a.best m.entry; one = still_one a.one a.best m.entry }

-- the tally with the answer m, which is the first where nobody was heard
unfoldable pub count_answer : Tally → Message → Tally
count_answer a m = if (eqb a.seen.0 0) (first_answer m) (newer a m)

-- "READ closes with r servers, WRITE and END with the write size."
abbrev pub size_by : ℕ → View → ℕ
size_by kind v = if (eqb kind READ) (read_size v) (write_size v)

-- END: "When answers tagged t ... are taken"; "Answers to END with another view are taken and count for nothing."
abbrev pub counts : Head → ℕ → Bool
counts h t = not (eqb h.kind END) || eqb t h.view.0

-- "When a READ phase of a read closes and all its taken answers of the chosen view carry one entry, the read is complete", and "Where
-- the read size is below the write size a read always writes back; otherwise it may still end in one exchange."
abbrev pub may_end : ℕ → Bool → View → Bool
may_end kind one v = eqb kind READ && (one && one_exchange v)

-- what closes the phase, once it is known whether a read may end with it
abbrev pub closed_with : ℕ → View → Option Choice → Option Choice
closed_with kind v None = None
closed_with kind v (Some x) = Some (record { entry = x.entry; one = may_end kind x.one v })

-- "A phase closes when, by the answer just taken, the answers taken with that answer's view t come from at least q(t) different
-- servers.": a is the tally of view t with that answer, v is view t
unfoldable pub record_closes : Head → Tally → ℕ → View → Option Choice
record_closes h a t v = if (counts h t) (closed_with h.kind v (closes_at a (size_by h.kind v))) None
