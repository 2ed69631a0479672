use Rattle.std.proofs.Common.{◌≡◌, take}
use Rattle.boats.specs.Openings.{found, surveyed}
use Rattle.stations.specs.Steps.{filed}
use Rattle.boats.proofs.survey.Survey.look_through.Given as goal

abbrev pub invariant-loop-record : goal.invariant-loop-record
invariant-loop-record l = found l.survey ≡ surveyed (filed (take l.record-index l.journal))
