use Rattle.std.proofs.Common.{vec_items, ap, ◌∙◌}
use Rattle.std.proofs.lemmas.Result.{err_from_is_err_and}
use Rattle.fleet.specs.Fleets.{world}
use Rattle.world.specs.Rising.{taken}
use Rattle.world.proofs.Kept.{promises_reached}
use Rattle.world.proofs.Rises.{reached_taken, reached_raised}
use Rattle.rehearsal.proofs.Plans.{halted_first, halted_later}
use Rattle.rehearsal.proofs.rehearsal.Rehearsal.raise.Goals as goal

pub returns-in_err-events : goal.returns-in_err-events
returns-in_err-events c =
    let p = err_from_is_err_and c.from_residual.result c.from_residual.ensures.1 in
    record {
      raised = rw (p.1, p.2) (halted_first c.args.level.0 (world c.args.self.now.fleet) _ c.in_err-events.ensures);
      promises = promises_reached (world c.args.self.now.fleet) c.args.self.now.reached;
    }

pub play_all-requires : goal.play_all-requires
play_all-requires c =
    ap (taken (world c.args.self.now.fleet)) c.as_slice.ensures.value ∙ reached_taken c.args.level.0 (world c.args.self.now.fleet) (vec_items c.in_ok-events.events) c.args.self.now.reached c.in_ok-events.ensures

pub returns-in_err-play_all : goal.returns-in_err-play_all
returns-in_err-play_all c =
    let p = err_from_is_err_and c.from_residual-in_err-play_all.result c.from_residual-in_err-play_all.ensures.1 in
    let t = c.in_err-play_all.ensures in
    record {
      raised = rw (p.1, p.2) (halted_later c.args.level.0 (world c.args.self.now.fleet) (world c.play_all.new.self.fleet) _ c.as_slice.result.now (vec_items c.in_ok-events.events) t.1.0 c.in_ok-events.ensures c.as_slice.ensures.value t.0 t.1.1);
      promises = promises_reached (world c.play_all.new.self.fleet) c.play_all.new.self.reached;
    }

pub returns : goal.returns
returns c =
    record {
      raised = reached_raised c.args.level.0 (world c.args.self.now.fleet) (vec_items c.in_ok-events.events) c.args.self.now.reached c.in_ok-events.ensures (world c.play_all.new.self.fleet) c.as_slice.result.now c.as_slice.ensures.value c.in_ok-play_all.ensures;
      promises = promises_reached (world c.play_all.new.self.fleet) c.play_all.new.self.reached;
    }
