use Rattle.std.proofs.Common.{◌≡◌, true, take, drop}
use Rattle.fleet.specs.Fleets.{world}
use Rattle.world.specs.Promises.{plays}
use Rattle.world.specs.Rising.{taken}
use Rattle.rehearsal.proofs.rehearsal.Rehearsal.play_all.Given as goal

abbrev pub invariant-loop-event : goal.invariant-loop-event
invariant-loop-event l = (world l.self.fleet ≡ plays (world l.initial.self.fleet) (take l.event-index l.events)) × (taken (world l.self.fleet) (drop l.event-index l.events) ≡ true)
