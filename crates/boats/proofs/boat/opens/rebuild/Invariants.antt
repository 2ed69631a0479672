use Rattle.std.proofs.Common.{◌≡◌, take}
use Rattle.logbooks.specs.Logs as logs
use Rattle.stations.specs.Journals as journal
use Rattle.stations.specs.Steps.{filed}
use Rattle.boats.proofs.boat.opens.rebuild.Given as goal

abbrev pub invariant-loop-record : goal.invariant-loop-record
invariant-loop-record l = logs.log l.log ≡ journal.log (filed (take l.record-index l.journal))
