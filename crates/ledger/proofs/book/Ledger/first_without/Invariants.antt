use Rattle.std.proofs.Common.{◌≡◌, map, None}
use Rattle.ledger.specs.Entries.{lacking, entry_of}
use Rattle.ledger.specs.Ledgers.{entries}
use Rattle.ledger.proofs.book.Ledger.first_without.Given as goal

abbrev pub invariant-boats : goal.invariant-boats
invariant-boats l = (l.found ≡ None) × (lacking l.level.0 (map entry_of l.boat-iterator) ≡ lacking l.level.0 (entries l.self))
