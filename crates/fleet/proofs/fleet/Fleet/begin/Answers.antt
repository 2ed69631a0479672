use Rattle.std.proofs.Common.{◌≡◌, false, Ok, Err, Result, sym, refl, ap}
use Rattle.std.proofs.lemmas.Result.{err_from_is_err_and}
use Rattle.levels.specs.Standings.{view}
use Rattle.levels.specs.Verdicts.{Verdict}
use Rattle.world.specs.Worlds.{World}
use Rattle.fleet.proofs.Boats.{there, state_is, same_is, begun_is, due_made}
use Rattle.fleet.proofs.fleet.Fleet.begin.Goals as goal

pub returns-in_err-standing : goal.returns-in_err-standing
returns-in_err-standing g c make made =
    let f = c.args.self.now in
    let b = c.args.boat.0 in
    let v = c.in_ok-berth.berth in
    let h = c.in_ok-berth.ensures.value in
    let p = err_from_is_err_and c.from_residual-in_err-standing.result c.from_residual-in_err-standing.ensures.1 in
    let e = made.0 v.now.vessel.standing (Err c.in_err-standing.field-0.0) c.in_err-standing.ensures in
    rw (p.1, p.2) (rw (there f b v h, state_is f b v h) (due_made _ _ _ _ _ _ (made.1 _) e), sym (same_is f b v h))

pub returns : goal.returns
returns g c make made =
    let f = c.args.self.now in
    let b = c.args.boat.0 in
    let v = c.in_ok-berth.berth in
    let h = c.in_ok-berth.ensures.value in
    let e : make (view v.now.vessel.standing) ≡ Ok (view c.in_ok-standing.standing) = sym (made.0 v.now.vessel.standing (Ok c.in_ok-standing.standing) c.in_ok-standing.ensures) in
    let F : World → Result World Verdict = λ x. Ok x in
    rw (there f b v h, state_is f b v h, e) (ap F (begun_is f b v h (record { vessel = record v.now.vessel { standing = c.in_ok-standing.standing; answered = false }; log = c.fall.new.self }) _ c.tell_floor.new.notices refl c.fall.ensures c.in_ok-tell_floor.ensures))
