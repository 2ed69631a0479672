use Rattle.ledger.specs.Entries.{entry_of}
use Rattle.std.proofs.Common.{◌≡◌, ◌+◌, ◌*◌, ◌≤◌, ◌++◌, map, length, vec_items}
use Rattle.fleet.specs.Fleets.{world}
use Rattle.world.specs.Rising.{vouching}
use Rattle.rehearsal.proofs.rehearsal.Rehearsal.vouch_each.Given as goal

abbrev pub invariant-loop-boat : goal.invariant-loop-boat
invariant-loop-boat l = record {
  vouched : vec_items l.events ++ vouching (world l.self.fleet) l.level.0 (map entry_of l.boat-iterator) l.next ≡ vec_items l.initial.events ++ vouching (world l.self.fleet) l.level.0 (map entry_of l.initial.boat-iterator) l.initial.next;
  many : l.next + 2 * length l.boat-iterator ≤ l.initial.next + 2 * length l.initial.boat-iterator;
}
