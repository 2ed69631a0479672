use Rattle.std.proofs.Common.{◌+◌, vec_items}
use Rattle.world.specs.declared.events.Event.TheVariants.{BringNotice}
use Rattle.fleet.specs.Fleets.{world}
use Rattle.world.specs.Rising.{vouch}
use Rattle.rehearsal.proofs.Plans.{three}
use Rattle.rehearsal.proofs.rehearsal.Rehearsal.vouch_one.Goals as goal

pub returns : goal.returns
returns c =
    three (vec_items c.args.events.now) (vec_items c.push.new.self) (vec_items c.push-2.new.self) (vec_items c.push-3.new.self) c.vouch.result (vouch (world c.args.self.now.fleet) c.args.level.0 c.args.boat) (BringNotice c.args.next) (BringNotice (c.args.next + 1)) c.in_ok-push.ensures.items c.vouch.ensures c.in_ok-push-2.ensures.items c.in_ok-push-3.ensures.items
