use Rattle.fleet.specs.Fleets.{world}
use Rattle.world.proofs.Kept.{reached_play, promises_reached}
use Rattle.rehearsal.proofs.rehearsal.Rehearsal.play.Goals as goal

pub invariant_of-self : goal.invariant_of-self
invariant_of-self c = record { reached = reached_play (world c.args.self.now.fleet) (world c.play.new.self) c.args.event c.play.result c.play.ensures c.args.self.now.reached }

pub returns : goal.returns
returns c =
    let h = reached_play (world c.args.self.now.fleet) (world c.play.new.self) c.args.event c.play.result c.play.ensures c.args.self.now.reached in
    record { plays = c.play.ensures; promises = promises_reached (world c.play.new.self) h }
