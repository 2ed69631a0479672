-- The harbour as a program that runs: it knows its ledger, and what it does with each input.
-- Assumes nothing.
use Rattle.std.specs.Prelude.{ℕ, cond, List, [], ◌∷◌, map, length, is_some, Ok, Err, Result, ◌==◌, nat_le, nat_lt}
use Rattle.std.specs.Option.{unwrap_or}
use Rattle.levels.specs.Verdicts.{Verdict, Number}
use Rattle.levels.specs.Rules.{accepts}
use Rattle.ledger.specs.Entries.{Entry, floor_of}
use Rattle.ledger.specs.Ledgers as ledger
use Rattle.ledger.specs.Ledgers.{Book}
use Rattle.messages.specs.Messages.{Telling, word, promise, heard, level, has_it, Letter, notice}
use Rattle.records.specs.Records.{Written, level_is, boat_is}
use Rattle.stations.specs.Journals as journal
use Rattle.stations.specs.Deeds.{Deed, deed, nothing}

-- what it finds in a journal
abbrev pub recalled : List Written → Book
recalled rs = record { list = journal.boats rs; said = journal.level rs }

-- a record that is none of the harbour's is 1; too many boats 6
abbrev pub opening : List Written → Result Book Verdict
opening rs =
    cond (journal.every journal.harbour_reads rs) (cond (nat_le (length (journal.boats rs)) 4096) (Ok (recalled rs)) (Err (Number 6))) (Err (Number 1))

-- a boat is put on the list
abbrev pub listed : Book → ℕ → Result Book Verdict → Result (Deed × Book) Verdict
listed x b (Ok y) = Ok (deed (cond (is_some (floor_of b x.list)) [] (boat_is b 1 ∷ [])) [], y)
listed x b (Err e) = Err e

abbrev pub listing : Book → ℕ → Result (Deed × Book) Verdict
listing x b = listed x b (ledger.listing x b)

-- a promise is heard: it is written down where it is higher, and answered with the highest
abbrev pub confirmed : Book → ℕ → ℕ → Result (ℕ × Book) Verdict → Result (Deed × Book) Verdict
confirmed x b f (Ok p) = Ok (deed (cond (nat_lt (unwrap_or (floor_of b x.list) 0) f) (boat_is b f ∷ []) []) (notice 0 b (heard p.0) ∷ []), p.1)
confirmed x b f (Err e) = Err e

-- that a level was taken changes nothing
abbrev pub acknowledged : Book → ℕ → Result (Deed × Book) Verdict
acknowledged x b = cond (is_some (floor_of b x.list)) (Ok (nothing, x)) (Err (Number 5))

-- promises and what was taken come from boats; anything else is 1
abbrev pub judging : Book → ℕ → Telling → Result (Deed × Book) Verdict
judging x from (word u) = Err (Number 1)
judging x from (promise f) = cond (from == 0) (Err (Number 1)) (confirmed x from f (ledger.hearing x from f))
judging x from (heard f) = Err (Number 1)
judging x from (level k) = Err (Number 1)
judging x from (has_it k) = cond (from == 0) (Err (Number 1)) (acknowledged x from)

abbrev pub hearing : Book → Letter → Result (Deed × Book) Verdict
hearing x l = cond (accepts 0 l.to) (judging x l.from l.body) (Err (Number 0))

-- a level is said to each boat of the list
abbrev pub allowing : ℕ → Entry → Letter
allowing k e = notice 0 e.boat.0 (level k)

abbrev pub announced : Book → ℕ → Result Book Verdict → Result (Deed × Book) Verdict
announced x k (Ok y) = Ok (deed (cond (nat_lt x.said k) (level_is k ∷ []) []) (map (allowing k) x.list), y)
announced x k (Err e) = Err e

abbrev pub announcing : Book → ℕ → Result (Deed × Book) Verdict
announcing x k = announced x k (ledger.saying x k)
