use Rattle.std.proofs.Common.{◌≡◌, sym, ◌<◌, length, get_or, true, false, vec_items, refl, ap, ◌∙◌, rules}
use Rattle.std.proofs.lemmas.Bool.{cond-true, cond-false}
use Rattle.fleet.proofs.Boats.{same_is}
use Rattle.levels.specs.Rules.{reads, keep_form}
use Rattle.levels.specs.Standings.{view}
use Rattle.forms.specs.Meaning.{form_of}
use Rattle.forms.specs.Said.{said}
use Rattle.fleet.specs.Fleets.{sent}
use Rattle.fleet.proofs.Words.{bring_at, hear_at, take_tries}
use Rattle.fleet.proofs.fleet.Fleet.bring_word.Goals as goal

pub returns-then-not-reads : goal.returns-then-not-reads
returns-then-not-reads c =
    let f = c.args.self.now in
    let x = c.in_ok-sent.sent in
    let b = x.to.0 in
    let v = c.in_ok-berth.berth in
    let h = c.in_ok-berth.ensures.value in
    let l : c.args.number < length (vec_items f.words) = search rules in
    let e : x ≡ get_or (vec_items f.words) c.args.number x = search rules in
    let r : reads v.now.vessel.standing.program.0 (form_of (said x.spoken)) ≡ false = search rules in
    (bring_at f c.args.number x l e ∙ hear_at f b v h (sent x) refl ∙ cond-false _ _ _ r, sym (same_is f b v h))

pub returns : goal.returns
returns c =
    let f = c.args.self.now in
    let x = c.in_ok-sent.sent in
    let b = x.to.0 in
    let v = c.in_ok-berth.berth in
    let h = c.in_ok-berth.ensures.value in
    let l : c.args.number < length (vec_items f.words) = search rules in
    let e : x ≡ get_or (vec_items f.words) c.args.number x = search rules in
    let r : reads v.now.vessel.standing.program.0 (form_of (said x.spoken)) ≡ true = search rules in
    let m : c.keep_form-most.result.0 ≡ keep_form (view v.now.vessel.standing) (form_of (said x.spoken)) = c.keep_form-most.ensures ∙ ap (keep_form (view v.now.vessel.standing)) c.form-form.ensures in
    rw (bring_at f c.args.number x l e ∙ hear_at f b v h (sent x) refl ∙ cond-true _ _ _ r) (take_tries f b v h (record v.now { log = c.take.new.self }) _ c.take.result refl (rw m at c.take.ensures))
