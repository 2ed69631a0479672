use Rattle.std.proofs.Common.{◌≡◌, ◌<◌, length, Ok, Some, sym, subst, rules}
use Rattle.std.proofs.lemmas.List.{take_rest}
use Rattle.std.proofs.lemmas.Result.{err_from_is_err_and}
use Rattle.files.proofs.Scans.{Passed, passed_more, passed_short, passed_wrong, passed_all}
use Rattle.files.proofs.format.whole_part.Goals as goal
use Rattle.files.proofs.format.whole_part.Goals.{else-loop-rest-test, then-loop-rest-test+in_ok-size+in_default}

pub returns-in_err-size : goal.returns-in_err-size
returns-in_err-size g c =
    let f = c.args.format.now in
    let p = err_from_is_err_and c.from_residual.result c.from_residual.ensures.1 in
    let l : 0 < length c.loop-rest.rest.now = search rules in
    rw p.1 (p.2, passed_wrong (g.F.Format.begins f) (g.met.F.Format.within f) c.args.file.now c.loop-rest.rest.now c.in_err-size.field-0.0 l c.in_err-size.ensures c.loop-rest.invariant)

pub loop-rest-preserved : goal.loop-rest-preserved
loop-rest-preserved g c =
    let f = c.args.format.now in
    let e : Ok (Some c.in-Some.size) ≡ g.F.Format.begins f c.loop-rest.rest.now = rw c.in-Some.is at c.in_ok-size.ensures in
    subst (Passed (g.F.Format.begins f) (g.met.F.Format.within f) c.args.file.now) (sym (take_rest c.loop-rest.rest.now c.in-Some.size)) (passed_more (g.F.Format.begins f) (g.met.F.Format.within f) c.args.file.now c.loop-rest.rest.now c.in-Some.size e c.loop-rest.invariant)

pub returns : goal.returns
returns g c =
    let f = c.args.format.now in
    elim c.loop-rest-test.branch [
      | else-loop-rest-test w ↦ let z : length c.loop-rest.rest.now ≡ 0 = search rules in passed_all (g.F.Format.begins f) (g.met.F.Format.within f) c.args.file.now c.loop-rest.rest.now z c.loop-rest.invariant
      | then-loop-rest-test+in_ok-size+in_default w ↦ passed_short (g.F.Format.begins f) (g.met.F.Format.within f) c.args.file.now c.loop-rest.rest.now (rw w.in_default.is at w.in_ok-size.ensures) c.loop-rest.invariant
    ]
