use Rattle.std.proofs.Common.{Ok, Result, refl, ap}
use Rattle.levels.specs.Rules.{Boat}
use Rattle.levels.specs.Verdicts.{Verdict}
use Rattle.world.specs.declared.messages.Notice.{Notice}
use Rattle.world.specs.declared.messages.Notice.TheVariants.{Taken}
use Rattle.world.specs.Worlds.{World, BoatState}
use Rattle.fleet.specs.Fleets.{state}
use Rattle.fleet.proofs.Boats.{there, state_is, told_is}
use Rattle.fleet.proofs.fleet.Fleet.learn.Goals as goal

pub returns : goal.returns
returns c =
    let f = c.args.self.now in
    let b = c.args.to.0 in
    let v = c.in_ok-berth.berth in
    let h = c.in_ok-berth.ensures.value in
    let F : World → Result World Verdict = λ x. Ok x in
    let S : Boat → BoatState = λ t. record (state v.now.vessel) { standing = t } in
    let N : Boat → Notice = λ t. Taken (record { 0 = b }) (record { 0 = t.level }) in
    rw (there f b v h, state_is f b v h) (ap F (told_is f b v h (record v.now { vessel = record v.now.vessel { standing = c.raised-standing.result } }) _ _ _ c.push.new.self (ap S c.raised-standing.ensures) refl c.in_ok-push.ensures.items (ap N c.raised-standing.ensures)))
