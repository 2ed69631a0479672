use Rattle.std.proofs.Common.{◌≡◌, ◌-◌, true, false, eqb, is_some, is_ok, sym, Ok, Result, refl, ap, ◌∙◌, rules}
use Rattle.levels.specs.Rules.{reads}
use Rattle.levels.specs.Verdicts.{Verdict}
use Rattle.forms.specs.Meaning.{Uttered, form_of}
use Rattle.forms.specs.Said.{said}
use Rattle.world.specs.Worlds.{World, BoatState, place_of, moored, counted, word_of, spoken}
use Rattle.fleet.specs.declared.fleet.Fleet.{Fleet}
use Rattle.fleet.specs.Fleets.{world, state, all_sent}
use Rattle.std.proofs.lemmas.Result.{err_from_is_err_and}
use Rattle.std.specs.Vec.{with_item}
use Rattle.fleet.proofs.Boats.{moored_is, same_is}
use Rattle.fleet.proofs.Words.{say_at, counts, word_is, spoken_is}
use Rattle.fleet.proofs.fleet.Fleet.say.Goals as goal

pub returns-in_err-push : goal.returns-in_err-push
returns-in_err-push c =
    let f : Fleet = c.args.self.now in
    let i = c.args.from.0 in
    let j = c.args.to.0 in
    let v = c.in_ok-berth.berth in
    let h = c.in_ok-berth.ensures.value in
    let u : Uttered = said c.args.word in
    let t : is_some (place_of (world f) j) ≡ true = search rules in
    let d : eqb j i ≡ false = search rules in
    let a : reads v.now.vessel.standing.program.0 (form_of u) ≡ true = search rules in
    let k = counts v.now.vessel.used c.in_ok-number.number c.in_ok-number.ensures in
    let p = err_from_is_err_and c.from_residual-in_err-push.result c.from_residual-in_err-push.ensures.1 in
    let g : Fleet = record f { boats = with_item f.boats (i - 1) v.now } in
    rw (p.1, p.2) (ap is_ok (say_at f i v h j u t d a k.1), ap (λ l. record (world g) { words = l }) (ap all_sent c.in_err-push.ensures.items) ∙ sym (same_is f i v h))

pub returns : goal.returns
returns c =
    let f : Fleet = c.args.self.now in
    let i = c.args.from.0 in
    let j = c.args.to.0 in
    let v = c.in_ok-berth.berth in
    let h = c.in_ok-berth.ensures.value in
    let u : Uttered = said c.args.word in
    let t : is_some (place_of (world f) j) ≡ true = search rules in
    let d : eqb j i ≡ false = search rules in
    let a : reads v.now.vessel.standing.program.0 (form_of u) ≡ true = search rules in
    let k = counts v.now.vessel.used c.in_ok-number.number c.in_ok-number.ensures in
    let s : BoatState = state v.now.vessel in
    let g : Fleet = record f { words = c.push.new.self } in
    let e = word_is i j _ _ s u _ _ k.0 c.read-given.ensures c.say_form.ensures c.put-spoken.ensures in
    let words : spoken (world f) (word_of i j s u) ≡ world g = spoken_is f _ _ c.push.new.self e c.in_ok-push.ensures.items in
    let F : World → Result World Verdict = λ y. Ok y in
    say_at f i v h j u t d a k.1 ∙ ap F (ap (λ (y : World). moored y (i - 1) (counted s)) words ∙ moored_is g i v h (record v.now { vessel = record v.now.vessel { used = c.in_ok-number.number } }) (counted s) (ap (λ n. record s { used = n }) k.0) refl)
