use Rattle.std.proofs.Common.{◌++◌, ◌∷◌, [], List, Option, MutBor, map, vec_items, refl, sym, ap, ◌∙◌, rules}
use Rattle.std.specs.Fn.{Once, FnOnceReturnsAtMut}
use Rattle.std.proofs.lemmas.Result.{err_from_is_err_and}
use Rattle.std.proofs.lemmas.List.{map-append, append-nil}
use Rattle.messages.specs.declared.Message.{Message}
use Rattle.messages.specs.Messages.{letter}
use Rattle.stations.specs.Deeds.{option}
use Rattle.waters.proofs.Boats.{still_numbered, performed, declined}
use Rattle.waters.proofs.waters.Waters.at_boat.Goals as goal

-- what a call gives and leaves
left : {F T R : Type 0} (g : Once F (MutBor T × Unit {0}) (R × (MutBor T × Unit {0}))) (f : F) (p q : MutBor T) (r : R) → g.post f (p, tt) (r, (q, tt)) → FnOnceReturnsAtMut g f p.now r q.now
left g f p q r m = record { shown = p; shows = refl; left = q; met = m; leaves = refl }

pub invariant_of-self-in-Break-branch-2 : goal.invariant_of-self-in-Break-branch-2
invariant_of-self-in-Break-branch-2 g c = record { numbers = still_numbered c.args.self.now c.in-Some.place c.in-Some-get_mut.vessel.now (search rules) (search rules) c.act.new.arg2 (c.requires.same _ _ _ (left g.F.FnOnce c.args.act c.in-Some-get_mut.vessel _ _ c.act.ensures)) }

pub invariant_of-self-in-Some-2 : goal.invariant_of-self-in-Some-2
invariant_of-self-in-Some-2 g c = record { numbers = still_numbered c.args.self.now c.in-Some.place c.in-Some-get_mut.vessel.now (search rules) (search rules) c.act.new.arg2 (c.requires.same _ _ _ (left g.F.FnOnce c.args.act c.in-Some-get_mut.vessel _ _ c.act.ensures)) }

pub invariant_of-self-in_default-2 : goal.invariant_of-self-in_default-2
invariant_of-self-in_default-2 g c = record { numbers = still_numbered c.args.self.now c.in-Some.place c.in-Some-get_mut.vessel.now (search rules) (search rules) c.act.new.arg2 (c.requires.same _ _ _ (left g.F.FnOnce c.args.act c.in-Some-get_mut.vessel _ _ c.act.ensures)) }

pub returns-in_err-message : goal.returns-in_err-message
returns-in_err-message g c =
    let p = err_from_is_err_and c.from_residual-in_err-message.result c.from_residual-in_err-message.ensures.1 in
    rw (p.1, p.2) (declined c.args.self.now c.in-Some.place c.in-Some-get_mut.vessel.now (search rules) (search rules) (FnOnceReturnsAtMut g.F.FnOnce c.args.act) c.args.boat.0 c.act.new.arg2 (vec_items c.reserve.new.self) (search rules) c.in_err-message.field-0.0 (left g.F.FnOnce c.args.act c.in-Some-get_mut.vessel _ _ c.in_err-message.ensures) c.reserve.ensures.items)

pub returns-in-Some-2 : goal.returns-in-Some-2
returns-in-Some-2 g c = performed c.args.self.now c.in-Some.place c.in-Some-get_mut.vessel.now (search rules) (search rules) (FnOnceReturnsAtMut g.F.FnOnce c.args.act) c.args.boat.0 c.act.new.arg2 (vec_items c.push_reserved.new.self) (search rules) c.in_ok-message.field-0 (left g.F.FnOnce c.args.act c.in-Some-get_mut.vessel _ _ c.in_ok-message.ensures)
    (ap (map letter) (c.push_reserved.ensures.items ∙ ap (λ (ms : List Message). ms ++ c.in-Some-2.message ∷ []) c.reserve.ensures.items) ∙ map-append letter (vec_items c.args.self.now.notices) (c.in-Some-2.message ∷ []) ∙ ap (λ (o : Option Message). map letter (vec_items c.args.self.now.notices) ++ option letter o) (sym c.in-Some-2.is))

pub returns-in_default-2 : goal.returns-in_default-2
returns-in_default-2 g c = performed c.args.self.now c.in-Some.place c.in-Some-get_mut.vessel.now (search rules) (search rules) (FnOnceReturnsAtMut g.F.FnOnce c.args.act) c.args.boat.0 c.act.new.arg2 (vec_items c.reserve.new.self) (search rules) c.in_ok-message.field-0 (left g.F.FnOnce c.args.act c.in-Some-get_mut.vessel _ _ c.in_ok-message.ensures)
    (ap (map letter) c.reserve.ensures.items ∙ sym (append-nil (map letter (vec_items c.args.self.now.notices))) ∙ ap (λ (o : Option Message). map letter (vec_items c.args.self.now.notices) ++ option letter o) (sym c.in_default-2.is))
