use Rattle.std.proofs.Common.{◌≡◌, Ok, Err, refl, rules}
use Rattle.std.specs.Fn.{FnOnceReturnsAtMut}
use Rattle.std.proofs.lemmas.Result.{err_from_is_err_and}
use Rattle.runs.specs.Disks.{lives}
use Rattle.runs.specs.Worlds.{kept}
use Rattle.berths.proofs.Acts.{acts_ok, acts_err}
use Rattle.berths.proofs.berth.Berth.act.Goals as goal
use Rattle.berths.proofs.berth.Berth.act.Goals.{then-not-lives+in-Some-1, then-not-lives+in-None-1, else-not-lives}

pub returns-in_err-deed : goal.returns-in_err-deed
returns-in_err-deed g c =
    let p = err_from_is_err_and c.from_residual-in_err-deed.result c.from_residual-in_err-deed.ensures.1 in
    let t : FnOnceReturnsAtMut g.F.FnOnce c.args.step c.in-Some.station (Err c.in_err-deed.field-0.0) c.step.new.arg2 = record { shown = _; shows = refl; left = _; met = c.in_err-deed.ensures; leaves = refl } in
    rw (p.1, p.2) (acts_err (FnOnceReturnsAtMut g.F.FnOnce c.args.step) g.E.From.from_gives g.D.Doing.means g.D.Doing.letters c.args.fate c.args.self.now (record { journal = c.reserve.new.self; station = _ }) c.args.self.now.station c.in-Some.station c.step.new.arg2 c.in_err-deed.field-0.0 c.in-Some.is t (search rules) refl)

pub returns : goal.returns
returns g c =
    let t : FnOnceReturnsAtMut g.F.FnOnce c.args.step c.in-Some.station (Ok c.in_ok-deed.deed) c.step.new.arg2 = record { shown = _; shows = refl; left = _; met = c.in_ok-deed.ensures; leaves = refl } in
    let k : c.if-not-lives.self.station ≡ kept (lives c.args.fate) c.step.new.arg2 = elim c.if-not-lives.branch [ then-not-lives+in-Some-1 w ↦ search rules | then-not-lives+in-None-1 w ↦ search rules | else-not-lives w ↦ search rules ] in
    let j : c.if-not-lives.self.journal ≡ c.perform.new.self = elim c.if-not-lives.branch [ then-not-lives+in-Some-1 w ↦ search rules | then-not-lives+in-None-1 w ↦ search rules | else-not-lives w ↦ search rules ] in
    acts_ok (FnOnceReturnsAtMut g.F.FnOnce c.args.step) g.E.From.from_gives g.D.Doing.means g.D.Doing.letters c.args.fate c.args.self.now c.if-not-lives.self c.args.self.now.station c.in-Some.station c.step.new.arg2 c.in_ok-deed.deed c.record-written.result c.is_some.result c.said.result c.in-Some.is t c.record-written.ensures c.is_some.ensures c.said.ensures (search rules) k
