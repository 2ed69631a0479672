-- What each call makes of the harbour's ledger.
-- Assumes nothing.
use Rattle.std.specs.Prelude.{ℕ, max, Bool, cond, not, ◌&&◌, ◌||◌, List, [], map, length, is_some, Some, None, Ok, Err, Option, Result, ◌==◌, nat_le, nat_lt}
use Rattle.std.specs.BTreeMap.{BTreeMap}
use Rattle.levels.specs.declared.numbers.BoatId.{BoatId}
use Rattle.levels.specs.declared.numbers.Program.{Program}
use Rattle.ledger.specs.declared.book.Ledger.{Ledger}
use Rattle.ledger.specs.Entries.{Entry, entry_of, floor_of, entered, admitted, heard, lacking}
use Rattle.levels.specs.Verdicts.{Verdict, Number, Bad}

-- what a ledger holds
pub record Book : Type 0 where
  pub list : List Entry
  pub said : ℕ

-- a map's list: its pairs, by the keys' order
abbrev pub listed : BTreeMap BoatId Program → List Entry
listed m = map entry_of m.entries

abbrev pub entries : Ledger → List Entry
entries l = listed l.floors

abbrev pub book : Ledger → Book
book l = record { list = entries l; said = l.said.0 }

abbrev pub blank : Book
blank = record { list = []; said = 1 }

-- the numbers in an answer
abbrev pub floor_number : Program → ℕ
floor_number p = p.0

abbrev pub floor_in : Option Program → Option ℕ
floor_in None = None
floor_in (Some p) = Some p.0

abbrev pub boat_in : Option BoatId → Option ℕ
boat_in None = None
boat_in (Some b) = Some b.0

-- a boat more, unless it is there. Not once a level above 1 was said, 4, since that boat has not promised it; not above 4,096, 6
abbrev pub listing : Book → ℕ → Result Book Verdict
listing x b =
    cond (b == 0) (Err Bad) (cond (is_some (floor_of b x.list)) (Ok x) (cond (nat_lt 1 x.said) (Err (Number 4)) (cond (nat_le 4096 (length x.list)) (Err (Number 6)) (Ok (record { list = entered b x.list; said = x.said })))))

-- a promise that is heard: the highest is kept, and is the answer. Of a boat that is not on the list: 5
abbrev pub answering : Book → ℕ → ℕ → Option ℕ → Result (ℕ × Book) Verdict
answering x b f None = Err (Number 5)
answering x b f (Some g) = Ok (max g f, record { list = heard b f x.list; said = x.said })

abbrev pub hearing : Book → ℕ → ℕ → Result (ℕ × Book) Verdict
hearing x b f = answering x b f (floor_of b x.list)

-- not every boat of the list has promised k; and of an empty list nobody has promised more than 1
abbrev pub unpromised : ℕ → List Entry → Bool
unpromised k es = (nat_lt 1 k && length es == 0) || is_some (lacking k es)

-- the highest level counts
abbrev pub levelled : Book → ℕ → Book
levelled x k = record { list = x.list; said = max x.said k }

abbrev pub saying : Book → ℕ → Result Book Verdict
saying x k = cond (k == 0) (Err Bad) (cond (unpromised k x.list) (Err (Number 4)) (Ok (record { list = x.list; said = max x.said k })))

-- a boat comes back from a file, whatever level was said: it is on the list, and its promise counts. Not above 4,096 boats, 6
abbrev pub admitting : Book → ℕ → Result Book Verdict
admitting x b = cond (not (is_some (floor_of b x.list)) && nat_le 4096 (length x.list)) (Err (Number 6)) (Ok (record { list = admitted b x.list; said = x.said }))

abbrev pub promised : ℕ → ℕ → Result Book Verdict → Result Book Verdict
promised b f (Ok y) = Ok (record { list = heard b f y.list; said = y.said })
promised b f (Err e) = Err e

abbrev pub restoring : Book → ℕ → ℕ → Result Book Verdict
restoring x b f = cond (b == 0) (Err Bad) (promised b f (admitting x b))
