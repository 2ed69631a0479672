-- How the harbour's program finds what its journal has.
-- Assumes nothing.
use Rattle.std.specs.Prelude.{◌≡◌, true, List, length, Ok, Err, Result, nat_le}
use Rattle.ledger.specs.declared.book.Ledger.{Ledger}
use Rattle.ledger.specs.Ledgers as ledgers
use Rattle.ledger.specs.Ledgers.{Book}
use Rattle.levels.specs.declared.refusals.Refusal.{Refusal}
use Rattle.levels.specs.Verdicts.{Verdict, verdict}
use Rattle.records.specs.Records.{Written, floor_is, level_is, word_is, boat_is, used_to}
use Rattle.harbours.specs.declared.harbour.Harbour.{Harbour}
use Rattle.harbours.specs.Views.{book_of}
use Rattle.stations.specs.Harbours as harbours
use Rattle.stations.specs.Journals as journal
use Rattle.stations.specs.Openings.{Unfit, Barred}

-- the ledger takes one record more
abbrev pub enlisting : Book → Written → Result Book Verdict
enlisting x (floor_is f) = Ok x
enlisting x (level_is k) = Ok (ledgers.levelled x k)
enlisting x (word_is b n u) = Ok x
enlisting x (boat_is b f) = ledgers.restoring x b f
enlisting x (used_to n) = Ok x

abbrev pub Reenlisted : List Written → Result Ledger Refusal → Type 0
Reenlisted rs (Ok l) = (ledgers.book l ≡ harbours.recalled rs) × (nat_le (length (journal.boats rs)) 4096 ≡ true)
Reenlisted rs (Err e) = Unfit (nat_le (length (journal.boats rs)) 4096) (verdict e)

-- the harbour opens its journal
abbrev pub Begins : List Written → Result Harbour Refusal → Type 0
Begins rs (Ok h) = harbours.opening rs ≡ Ok (book_of h)
Begins rs (Err e) = Barred (harbours.opening rs) (verdict e)
