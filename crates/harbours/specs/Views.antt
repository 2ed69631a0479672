-- The harbour by what it knows.
-- Assumes nothing.
use Rattle.ledger.specs.Ledgers.{Book, book}
use Rattle.harbours.specs.declared.harbour.Harbour.{Harbour}

abbrev pub book_of : Harbour → Book
book_of h = book h.ledger
