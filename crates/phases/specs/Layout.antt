-- Widths and places of the record of a phase, each named once: a place is the one before it and the width of what stands there.
-- Used by Records and Calls.
use Rattle.std.specs.Prelude.{ℕ, ◌+◌, ◌*◌, ◌-◌}
use Rattle.protocol.specs.Sizes.{views}
use Rattle.protocol.specs.Runs.{u8_width, u16_width, u32_width}
use Rattle.codec.specs.Layout.{entry_width, view_width, message_width}

-- the head: kind u8, view u8, request u16
abbrev pub head_kind_place : ℕ
head_kind_place = 0

abbrev pub head_view_place : ℕ
head_view_place = head_kind_place + u8_width

abbrev pub head_request_place : ℕ
head_request_place = head_view_place + u8_width

abbrev pub head_width : ℕ
head_width = head_request_place + u16_width

-- a tally: servers heard u32, entry, differ u8, 3 zero
abbrev pub heard_place : ℕ
heard_place = 0

abbrev pub best_place : ℕ
best_place = heard_place + u32_width

abbrev pub differ_place : ℕ
differ_place = best_place + entry_width

abbrev pub tally_spare_place : ℕ
tally_spare_place = differ_place + u8_width

abbrev pub tally_spare : ℕ
tally_spare = 3

abbrev pub tally_width : ℕ
tally_width = tally_spare_place + tally_spare

-- the head, then a tally for each of "views 1 to 32"
abbrev pub tally_place : ℕ → ℕ
tally_place t = head_width + tally_width * (t - 1)

abbrev pub tallies_width : ℕ
tallies_width = views * tally_width

abbrev pub phase_width : ℕ
phase_width = head_width + tallies_width

-- what is asked: an answer, then the view that it is tagged with
abbrev pub asked_width : ℕ
asked_width = message_width + view_width
