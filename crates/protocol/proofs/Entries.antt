-- Computed choices of entries. Assumes nothing.
use Rattle.std.specs.Prelude.{◌≡◌, refl, [], ◌∷◌}
use Rattle.protocol.specs.Entries.{entry, below, larger, largest, chosen}

-- the larger stamp stays; of equal ones a server keeps its own, and of a list the answer taken first is chosen
larger_stamp : larger (entry 1 1 7) (entry 1 2 9) ≡ entry 1 2 9
unfolding larger below
larger_stamp = refl

larger_tie : larger (entry 1 1 7) (entry 1 1 9) ≡ entry 1 1 7
unfolding larger below
larger_tie = refl

chosen_tie : chosen (entry 1 1 9 ∷ entry 1 1 7 ∷ []) ≡ entry 1 1 7
unfolding largest larger below
chosen_tie = refl
