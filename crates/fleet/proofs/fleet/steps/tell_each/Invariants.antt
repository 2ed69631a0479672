use Rattle.std.proofs.Common.{◌≡◌, ◌+◌, ◌++◌, map, length, vec_items, vec_len, vec_capacity}
use Rattle.std.specs.BTreeMap.{keys, btree_map_len}
use Rattle.levels.specs.declared.numbers.BoatId.{BoatId}
use Rattle.world.specs.declared.messages.Notice.TheVariants.{Allowed}
use Rattle.fleet.proofs.fleet.steps.tell_each.Given as goal

abbrev pub invariant-loop-boat : goal.invariant-loop-boat
invariant-loop-boat l = record {
  told : vec_items l.notices ++ map (λ (b : BoatId). Allowed b l.level) l.boat-iterator ≡ vec_items l.initial.notices ++ map (λ (b : BoatId). Allowed b l.level) (keys l.boats);
  many : vec_len l.notices + length l.boat-iterator ≡ vec_len l.initial.notices + btree_map_len l.boats;
  room : vec_capacity l.notices ≡ vec_capacity l.initial.notices;
}
