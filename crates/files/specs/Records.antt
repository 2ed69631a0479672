-- How the records of a boat's and of the harbour's file begin.
-- Assumes nothing.
use Rattle.std.specs.Prelude.{ℕ, ◌+◌, cond, ◌||◌, List, length, Ok, Err, Some, None, Option, ◌==◌, nat_le, nat_lt, slice_index}
use Rattle.levels.specs.Rules.{reads}
use Rattle.files.specs.Fronts.{Front, wrong}

-- a record of n bytes, where they are all there
abbrev pub sized : ℕ → List ℕ → Option ℕ
sized n bs = cond (nat_le n (length bs)) (Some n) None

-- the length of form 3's name is byte 18; at most 40
abbrev pub named_front : List ℕ → Front
named_front bs =
    cond (nat_lt (length bs) 19) (Ok None) (cond (nat_lt 40 (slice_index bs 18)) (Err wrong) (Ok (sized (19 + slice_index bs 18) bs)))

-- the form is byte 7; one that program p does not read is wrong
abbrev pub word_front : ℕ → List ℕ → Front
word_front p bs =
    cond (nat_lt (length bs) 8) (Ok None)
    (cond (reads p (slice_index bs 7)) (cond (slice_index bs 7 == 1) (Ok (sized 16 bs)) (cond (slice_index bs 7 == 2) (Ok (sized 18 bs)) (named_front bs))) (Err wrong))

-- the kind is byte 0: 6 a floor, 7 a level, 10 the numbers used, each four bytes; 8 a word
abbrev pub boat_front : ℕ → List ℕ → Front
boat_front p bs =
    cond (length bs == 0) (Ok None)
    (cond (slice_index bs 0 == 6 || (slice_index bs 0 == 7 || slice_index bs 0 == 10)) (Ok (sized 5 bs)) (cond (slice_index bs 0 == 8) (word_front p bs) (Err wrong)))

-- 7 a level, four bytes; 9 a boat: its number, two, and its promise, four
abbrev pub harbour_front : List ℕ → Front
harbour_front bs =
    cond (length bs == 0) (Ok None) (cond (slice_index bs 0 == 7) (Ok (sized 5 bs)) (cond (slice_index bs 0 == 9) (Ok (sized 7 bs)) (Err wrong)))
