use Rattle.std.proofs.Common.{vec_items, ap, ◌∙◌}
use Rattle.ledger.specs.Ledgers.{Book, listed}
use Rattle.fleet.specs.Fleets.{world}
use Rattle.rehearsal.proofs.Plans.{whole}
use Rattle.rehearsal.proofs.rehearsal.Rehearsal.plan.Goals as goal

pub returns : goal.returns
returns c =
    whole c.args.level.0 (world c.args.self.now.fleet) (listed c.boats-boats.result.now) c.notices.result.now c.behind.result (vec_items c.new-events.result) (vec_items c.vouch_each.new.events) (vec_items c.push.new.self) (vec_items c.bring_each.new.events) (c.boats-boats.ensures.list ∙ ap (λ (x : Book). x.list) c.harbour.ensures) c.notices.ensures c.behind.ensures.count c.new-events.ensures.items c.in_ok-vouch_each.ensures c.in_ok-push.ensures.items c.in_ok-bring_each.ensures
