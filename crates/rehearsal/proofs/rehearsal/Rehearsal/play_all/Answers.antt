use Rattle.std.proofs.Common.{sym, ap, ◌∙◌, subst}
use Rattle.std.proofs.lemmas.List.{take_all}
use Rattle.std.proofs.lemmas.Result.{err_from_is_err_and}
use Rattle.levels.specs.Verdicts.{verdict, Due}
use Rattle.world.specs.declared.events.Event.{Event}
use Rattle.world.specs.Worlds.{World, play}
use Rattle.fleet.specs.Fleets.{world}
use Rattle.world.specs.Promises.{plays}
use Rattle.rehearsal.proofs.Plans.{played_more, taken_next, taken_more, only_memory}
use Rattle.rehearsal.proofs.rehearsal.Rehearsal.play_all.Goals as goal

pub returns-in_err-play : goal.returns-in_err-play
returns-in_err-play c =
    let p = err_from_is_err_and c.from_residual.result c.from_residual.ensures.1 in
    let w : World = world c.loop-event.self.fleet in
    let t = c.in_err-play.ensures.plays in
    let d = subst (λ (e : Event). Due (play w e) (verdict c.in_err-play.field-0.0)) c.event-item.is t.0 in
    rw (p.1, p.2) (only_memory _ _ _ (taken_next w c.args.events.now c.loop-event.event-index c.event-item.result c.loop-event-test.true c.loop-event.invariant.1) d, (c.loop-event.event-index, t.1 ∙ c.loop-event.invariant.0))

pub loop-event-preserved : goal.loop-event-preserved
loop-event-preserved c =
    let w : World = world c.loop-event.self.fleet in
    let t = ap (play w) (sym c.event-item.is) ∙ c.in_ok-play.ensures.plays in
    (played_more (world c.args.self.now.fleet) w (world c.play.new.self.fleet) c.args.events.now c.loop-event.event-index c.event-item.result c.loop-event-test.true c.loop-event.invariant.0 t, taken_more w (world c.play.new.self.fleet) c.args.events.now c.loop-event.event-index c.event-item.result c.loop-event-test.true c.loop-event.invariant.1 t)

pub returns : goal.returns
returns c = c.loop-event.invariant.0 ∙ ap (plays (world c.args.self.now.fleet)) (take_all c.loop-event.event-index c.args.events.now c.loop-event-test.false)
