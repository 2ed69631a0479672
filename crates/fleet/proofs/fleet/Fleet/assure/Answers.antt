use Rattle.std.proofs.Common.{◌≡◌, Bool, ◌||◌, leb, Ok, Result, refl, ap, rules}
use Rattle.levels.specs.Verdicts.{Verdict}
use Rattle.world.specs.Worlds.{World, BoatState}
use Rattle.fleet.specs.Fleets.{state}
use Rattle.fleet.proofs.Boats.{there, state_is, moored_is}
use Rattle.fleet.proofs.fleet.Fleet.assure.Goals as goal

pub returns : goal.returns
returns c =
    let f = c.args.self.now in
    let b = c.args.to.0 in
    let v = c.in_ok-berth.berth in
    let h = c.in_ok-berth.ensures.value in
    let F : World → Result World Verdict = λ x. Ok x in
    let S : Bool → BoatState = λ t. record (state v.now.vessel) { answered = v.now.vessel.answered || t } in
    let e : c.le.result ≡ leb v.now.vessel.standing.floor.0 c.args.floor.0 = search rules in
    rw (there f b v h, state_is f b v h) (ap F (moored_is f b v h (record v.now { vessel = record v.now.vessel { answered = v.now.vessel.answered || c.le.result } }) _ (ap S e) refl))
