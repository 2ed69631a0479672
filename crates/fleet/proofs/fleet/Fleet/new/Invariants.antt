use Rattle.std.proofs.Common.{◌≡◌, replicate, vec_items}
use Rattle.logbooks.specs.Logs.{empty}
use Rattle.world.specs.Worlds.{fresh}
use Rattle.fleet.specs.Fleets.{states, all_logs}
use Rattle.fleet.proofs.fleet.Fleet.new.Given as goal

abbrev pub invariant-loop : goal.invariant-loop
invariant-loop l = (states (vec_items l.berths) ≡ replicate l.counter fresh) × (all_logs (vec_items l.berths) ≡ replicate l.counter empty)
