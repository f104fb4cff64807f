-- Logs whose answers are computed: what is judged yes, with its order, what is judged no, and each clause of 14.
use Rattle.std.specs.Prelude.{ℕ, ◌*◌, Bool, ◌≡◌, refl, List, [], ◌∷◌, ◌++◌, length, replicate}
use Rattle.protocol.specs.Tools.{Result, refused, done, guard, all_to, some_to}
use Rattle.protocol.specs.Entries.{entry, same, entry_fits}
use Rattle.codec.specs.Bytes.{le16, zeros}
use Rattle.codec.specs.Lists.{part, flat}
use Rattle.codec.specs.Records.{entry_of, entry_bytes, entry_plain}
use Rattle.judging.specs.Decision.{stamp_rank, rank, returns, returned, stands, insert, sorted_to, follows, last_write, on_time, last_begin, along, passes}
use Rattle.judging.specs.Logs.{line_width, logged_of, line_bytes, line_at, plain, in_values, ends_later, counted, numbers_apart, stamps_apart, line_fits, apart_before, lines_fit, well_logged}
use Rattle.judging.specs.Verdict.{decided, judged}

-- the bytes of a line, with what stands in the first of its spare bytes
line_with : ℕ → ℕ → ℕ → ℕ → ℕ → ℕ → ℕ → List ℕ
line_with spared begin end kind count writer value =
    le16 begin ++ (le16 end ++ ((kind ∷ spared ∷ 0 ∷ 0 ∷ []) ++ entry_bytes (entry count writer value)))

W : ℕ → ℕ → ℕ → ℕ → ℕ → List ℕ
W begin end count writer value = line_with 0 begin end 1 count writer value

R : ℕ → ℕ → ℕ → ℕ → ℕ → List ℕ
R begin end count writer value = line_with 0 begin end 2 count writer value

-- whether a log of these lines is well formed
formed : List (List ℕ) → Bool
unfolding line_with W R logged_of line_bytes line_at plain in_values ends_later counted numbers_apart stamps_apart line_fits apart_before lines_fit well_logged part flat entry_of entry_bytes entry_plain zeros all_to same entry_fits
formed ls = well_logged (flat (λ l. l) ls)

-- the judgement of it, with an order buffer as long as is right
answer : List (List ℕ) → Result (List ℕ)
unfolding formed judged decided guard stamp_rank rank returns some_to returned stands insert sorted_to follows last_write on_time last_begin along passes
answer ls = judged (flat (λ l. l) ls) (2 * length ls)

-- "An empty log has the empty order"
nothing : answer [] ≡ done []
unfolding answer
nothing = refl

-- a write, then a read of it; the same with the lines the other way round; and a read of the empty entry first
write_read : answer (W 1 2 1 7 50 ∷ R 3 4 1 7 50 ∷ []) ≡ done (1 ∷ 2 ∷ [])
unfolding answer
write_read = refl

read_write : answer (R 3 4 1 7 50 ∷ W 1 2 1 7 50 ∷ []) ≡ done (2 ∷ 1 ∷ [])
unfolding answer
read_write = refl

empty_first : answer (W 2 5 1 7 50 ∷ R 1 3 0 0 0 ∷ []) ≡ done (2 ∷ 1 ∷ [])
unfolding answer
empty_first = refl

-- a read that ended before its write began
too_early : answer (R 1 2 1 7 50 ∷ W 3 4 1 7 50 ∷ []) ≡ refused 13
unfolding answer
too_early = refl

-- two reads beside a write: the later one may not return less
in_turn : answer (W 1 2 1 7 50 ∷ W 3 8 2 7 60 ∷ R 4 5 1 7 50 ∷ R 6 7 2 7 60 ∷ []) ≡ done (1 ∷ 3 ∷ 2 ∷ 4 ∷ [])
unfolding answer
in_turn = refl

out_of_turn : answer (W 1 2 1 7 50 ∷ W 3 8 2 7 60 ∷ R 4 5 2 7 60 ∷ R 6 7 1 7 50 ∷ []) ≡ refused 13
unfolding answer
out_of_turn = refl

-- an unfinished write that a completed read returned stands in the order; one that none returned, and unfinished reads, do not
surfaced : answer (W 1 0 1 7 50 ∷ R 2 3 1 7 50 ∷ []) ≡ done (1 ∷ 2 ∷ [])
unfolding answer
surfaced = refl

unseen : answer (W 1 0 1 7 50 ∷ R 2 3 0 0 0 ∷ []) ≡ done (2 ∷ [])
unfolding answer
unseen = refl

seen_by_unfinished : answer (W 1 0 1 7 50 ∷ R 2 0 1 7 50 ∷ []) ≡ done []
unfolding answer
seen_by_unfinished = refl

-- a read of no write of the log; of a write's stamp with another value; of count 0 and not empty
unlogged : answer (W 1 2 1 7 50 ∷ R 3 4 2 7 50 ∷ []) ≡ refused 13
unfolding answer
unlogged = refl

other_value : answer (W 1 2 1 7 50 ∷ R 3 4 1 7 51 ∷ []) ≡ refused 13
unfolding answer
other_value = refl

count_zero : answer (R 1 2 0 0 5 ∷ []) ≡ refused 13
unfolding answer
count_zero = refl

-- a write that ended before another began has the smaller stamp
falling : answer (W 1 2 2 7 50 ∷ W 3 4 1 7 60 ∷ []) ≡ refused 13
unfolding answer
falling = refl

-- ---- 14: each clause, and 1 before it

no_begin : answer (W 0 2 1 7 50 ∷ []) ≡ refused 14
unfolding answer
no_begin = refl

other_kind : answer (line_with 0 1 2 3 1 7 50 ∷ []) ≡ refused 14
unfolding answer
other_kind = refl

other_writer : answer (W 1 2 1 17 50 ∷ []) ≡ refused 14
unfolding answer
other_writer = refl

spare_set : answer (line_with 1 1 2 1 1 7 50 ∷ []) ≡ refused 14
unfolding answer
spare_set = refl

end_at_begin : answer (W 2 2 1 7 50 ∷ []) ≡ refused 14
unfolding answer
end_at_begin = refl

write_of_zero : answer (W 1 2 0 7 50 ∷ []) ≡ refused 14
unfolding answer
write_of_zero = refl

-- begins and ends share their numbers, those of unfinished reads too; any number of lines may be unfinished
begin_twice : answer (W 1 2 1 7 50 ∷ R 1 0 0 0 0 ∷ []) ≡ refused 14
unfolding answer
begin_twice = refl

begin_and_end : answer (W 1 3 1 7 50 ∷ R 3 0 0 0 0 ∷ []) ≡ refused 14
unfolding answer
begin_and_end = refl

end_and_begin : answer (R 3 0 0 0 0 ∷ W 1 3 1 7 50 ∷ []) ≡ refused 14
unfolding answer
end_and_begin = refl

end_twice : answer (W 1 3 1 7 50 ∷ R 2 3 1 7 50 ∷ []) ≡ refused 14
unfolding answer
end_twice = refl

unfinished_twice : answer (W 1 0 1 7 50 ∷ W 2 0 2 7 50 ∷ []) ≡ done []
unfolding answer
unfinished_twice = refl

stamp_twice : answer (W 1 2 1 7 50 ∷ W 3 0 1 7 60 ∷ []) ≡ refused 14
unfolding answer
stamp_twice = refl

-- over 256 lines; a line cut short, and an order buffer of another length, before anything else
too_many : judged (replicate (line_width * 257) 0) (2 * 257) ≡ refused 14
unfolding judged decided guard well_logged
too_many = refl

cut_short : judged (W 0 0 0 0 0 ++ (1 ∷ [])) 2 ≡ refused 1
unfolding line_with W judged decided guard entry_bytes
cut_short = refl

other_buffer : judged (W 0 0 0 0 0) 3 ≡ refused 1
unfolding line_with W judged decided guard entry_bytes
other_buffer = refl
