use Rattle.fleet.specs.Fleets.{world}
use Rattle.world.proofs.Kept.{reached_start}
use Rattle.rehearsal.proofs.rehearsal.Rehearsal.new.Goals as goal

pub invariant_of-result : goal.invariant_of-result
invariant_of-result c = record { reached = reached_start c.args.boats (world c.in_ok-fleet.fleet) c.in_ok-fleet.ensures.1 }
