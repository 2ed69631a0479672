use Rattle.std.proofs.Common.{◌≡◌, Bool, ◌&&◌, leb, Ok, Result, refl, ap, ◌∙◌, rules}
use Rattle.levels.specs.Rules.{Boat}
use Rattle.levels.specs.Verdicts.{Verdict}
use Rattle.world.specs.Worlds.{World, BoatState}
use Rattle.fleet.proofs.Boats.{there, state_is, told_is}
use Rattle.fleet.proofs.fleet.Fleet.promise.Goals as goal

pub returns : goal.returns
returns c =
    let f = c.args.self.now in
    let b = c.args.boat.0 in
    let v = c.in_ok-berth.berth in
    let h = c.in_ok-berth.ensures.value in
    let F : World → Result World Verdict = λ x. Ok x in
    let S : Boat → Bool → BoatState = λ t a. record { standing = t; answered = v.now.vessel.answered && a; used = v.now.vessel.used } in
    let e : c.le.result ≡ leb v.now.vessel.standing.program.0 v.now.vessel.standing.floor.0 = search rules in
    let s = ap (λ t. S t c.le.result) c.promised-berth.ensures ∙ ap (S _) e in
    rw (there f b v h, state_is f b v h) (ap F (told_is f b v h (record v.now { vessel = record v.now.vessel { standing = c.promised-berth.result; answered = v.now.vessel.answered && c.le.result } }) _ _ _ c.push.new.self s refl c.in_ok-push.ensures.items refl))
