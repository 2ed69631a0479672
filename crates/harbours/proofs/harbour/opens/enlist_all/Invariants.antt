use Rattle.std.proofs.Common.{◌≡◌, take}
use Rattle.ledger.specs.Ledgers.{book}
use Rattle.stations.specs.Harbours.{recalled}
use Rattle.stations.specs.Steps.{filed}
use Rattle.harbours.proofs.harbour.opens.enlist_all.Given as goal

abbrev pub invariant-loop-record : goal.invariant-loop-record
invariant-loop-record l = book l.ledger ≡ recalled (filed (take l.record-index l.journal))
