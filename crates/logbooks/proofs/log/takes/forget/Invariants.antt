use Rattle.std.proofs.Common.{◌≡◌, true}
use Rattle.std.specs.Map.{values_of}
use Rattle.logbooks.specs.Ships.{covers, bare_all}
use Rattle.logbooks.proofs.Ships.{Numbered}
use Rattle.logbooks.proofs.log.takes.forget.Given as goal

abbrev pub invariant-loop-number : goal.invariant-loop-number
invariant-loop-number l = record {
  bared : bare_all l.ships.entries ≡ bare_all l.initial.ships.entries;
  noted : covers l.number-iterator (values_of l.ships.entries) ≡ true;
  keyed : Numbered l.ships.entries;
}
