-- Computed cases of both choices: what is promised and what is not, ties, the drop test, and each refusal by its clause.
use Rattle.std.specs.Prelude.{ℕ, zero, suc, ◌≡◌, refl, List, [], ◌∷◌, ◌++◌, replicate}
use Rattle.protocol.specs.declared.Entry.{Entry}
use Rattle.protocol.specs.Tools.{count_to, all_to, Result, refused, done, guard, some_to}
use Rattle.protocol.specs.Entries.{entry, below, same, entry_fits}
use Rattle.codec.specs.Layout.{entry_width}
use Rattle.codec.specs.Lists.{part}
use Rattle.codec.specs.Bytes.{zeros}
use Rattle.codec.specs.Records.{entry_of, entry_bytes, entry_plain}
use Rattle.vouch.specs.Answers.{answer_bytes, answerer, entry_shown, shows, showing}
use Rattle.vouch.specs.Choices.{outranks, best_to}
use Rattle.vouch.specs.Checks.{values_fit, not_before, answer_fits, list_fits, vouch_on, threshold_on}

record Answer : Type 0 where
  server : ℕ
  entry : Entry

infix 70 ◌says◌
abbrev ◌says◌ : ℕ → Entry → Answer
s says e = record { server = s; entry = e }

abbrev list : List Answer → List ℕ
list [] = []
list (a ∷ l) = answer_bytes a.server a.entry ++ list l

-- both choices with room for the entry
abbrev room : List ℕ
room = replicate entry_width 0

abbrev first : ℕ → ℕ → List Answer → Result Entry
first n b l = vouch_on (list l) n b room

abbrev second : ℕ → ℕ → ℕ → List Answer → Result Entry
second n b largest l = threshold_on (list l) n b largest room

-- a write, one before it, and an entry that nobody wrote
abbrev write : Entry
write = entry 3 1 700

abbrev older : Entry
older = entry 2 16 1

abbrev invented : Entry
invented = entry 9 2 66

-- of five servers with b = 1 four answer, as many as are needed

-- b servers show an invented entry: the write is chosen
abbrev by_one : List Answer
by_one = 1 says write ∷ 2 says write ∷ 3 says older ∷ 4 says invented ∷ []

-- b+1 servers do: no promise, and what they invented is chosen
abbrev by_two : List Answer
by_two = 1 says write ∷ 2 says write ∷ 3 says invented ∷ 4 says invented ∷ []

-- equal stamps: the smaller value, wherever it stands
abbrev tie : List Answer
tie = 1 says entry 3 1 700 ∷ 2 says entry 3 1 600 ∷ 3 says entry 3 1 700 ∷ 4 says entry 3 1 600 ∷ []

-- no entry has two servers
abbrev scattered : List Answer
scattered = 1 says entry 1 1 1 ∷ 2 says entry 2 1 1 ∷ 3 says entry 3 1 1 ∷ 4 says entry 3 1 2 ∷ []

-- the empty entry qualifies like any other
abbrev nothing : List Answer
nothing = 1 says entry 0 0 0 ∷ 2 says entry 0 0 0 ∷ 3 says older ∷ 4 says write ∷ []

first_choice_lem : (first 5 1 by_one ∷ first 5 1 by_two ∷ first 5 1 tie ∷ first 5 1 scattered ∷ first 5 1 nothing ∷ [])
    ≡ (done write ∷ done invented ∷ done (entry 3 1 600) ∷ refused 16 ∷ done (entry 0 0 0) ∷ [])
unfolding vouch_on list_fits answer_fits values_fit entry_plain zeros not_before guard all_to count_to answerer entry_shown
    some_to shows showing outranks best_to below same entry_fits part entry_of entry_bytes
first_choice_lem = refl

-- two servers show larger stamps than the only candidate, each another one: it is dropped by the second choice alone
abbrev outrun : List Answer
outrun = 1 says older ∷ 2 says older ∷ 3 says write ∷ 4 says invented ∷ []

-- equal stamps with other values are not larger: nothing is dropped
abbrev level : List Answer
level = 1 says write ∷ 2 says write ∷ 3 says entry 3 1 800 ∷ 4 says entry 3 1 900 ∷ []

second_choice_lem : (first 5 1 outrun ∷ second 5 1 1 outrun ∷ second 5 1 1 level ∷ second 5 1 1 by_one ∷ second 5 0 1 by_one ∷ [])
    ≡ (done older ∷ refused 16 ∷ done write ∷ done write ∷ done write ∷ [])
unfolding vouch_on threshold_on list_fits answer_fits values_fit entry_plain zeros not_before guard all_to count_to answerer entry_shown
    some_to shows showing outranks best_to below same entry_fits part entry_of entry_bytes
second_choice_lem = refl

-- n servers that all show the write
abbrev everyone : ℕ → List Answer
everyone zero = []
everyone (suc n) = suc n says write ∷ everyone n

-- 14, each by one clause: a writer over 16, a server twice, a server over n, server 0, n over 32, n of 4b, too few answers, the
-- largest b under b, over (n-1)/4
refusals : (first 5 1 (5 says entry 1 17 1 ∷ by_one)
    ∷ first 5 1 (1 says write ∷ by_one)
    ∷ first 5 1 (6 says write ∷ by_one)
    ∷ first 5 1 (0 says write ∷ by_one)
    ∷ first 33 0 (everyone 17)
    ∷ first 4 1 by_one
    ∷ first 5 1 (everyone 3)
    ∷ second 5 1 0 by_one
    ∷ second 5 1 2 by_one
    ∷ [])
    ≡ replicate 9 (refused 14)
unfolding vouch_on threshold_on list_fits answer_fits values_fit entry_plain zeros not_before guard all_to count_to answerer entry_shown
    some_to shows showing outranks best_to below same entry_fits part entry_of entry_bytes
refusals = refl

-- beside them: all that is asked is there
accepted : (first 5 1 (5 says entry 1 16 1 ∷ by_one) ∷ first 32 0 (everyone 17) ∷ first 5 1 (everyone 4) ∷ second 5 1 1 by_one ∷ []) ≡ replicate 4 (done write)
unfolding vouch_on threshold_on list_fits answer_fits values_fit entry_plain zeros not_before guard all_to count_to answerer entry_shown
    some_to shows showing outranks best_to below same entry_fits part entry_of entry_bytes
accepted = refl

-- 14: a spare byte that is not zero; 1: a byte too many, and no room for the entry
lengths : (vouch_on (list by_one ++ (5 ∷ 1 ∷ 0 ∷ 0 ∷ entry_bytes write)) 5 1 room
    ∷ vouch_on (0 ∷ list by_one) 5 1 room
    ∷ vouch_on (list by_one) 5 1 (0 ∷ room)
    ∷ [])
    ≡ (refused 14 ∷ refused 1 ∷ refused 1 ∷ [])
unfolding vouch_on list_fits answer_fits values_fit entry_plain zeros not_before guard all_to count_to answerer entry_shown
    some_to shows showing outranks best_to below same entry_fits part entry_of entry_bytes
lengths = refl
