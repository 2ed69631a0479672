use Rattle.std.proofs.Common.{◌≡◌, ℕ, true, List, [], ◌∷◌, Some, None, sym, ap, ◌∙◌}
use Rattle.std.specs.BTreeMap.{get, is_at}
use Rattle.std.specs.Box.{with_value}
use Rattle.std.specs.Global.{Box}
use Rattle.std.specs.Map.{values_of, set_value}
use Rattle.std.specs.Ordering.{nat_cmp}
use Rattle.logbooks.specs.declared.log.Ship.{Ship}
use Rattle.logbooks.specs.Ships.{covers, bare_all}
use Rattle.logbooks.proofs.Covers.{covers_left, covers_past, bare_set, bare_is, numbered_set}
use Rattle.logbooks.proofs.log.takes.forget.Goals as goal

pub loop-number-preserved-in-Some-get_mut : goal.loop-number-preserved-in-Some-get_mut
loop-number-preserved-in-Some-get_mut c =
    let k = c.in-Some.number.now in
    let m = c.loop-number.ships in
    let v : Box Ship = c.in-Some-get_mut.ship.now in
    let B : Ship → Box Ship = λ s. with_value v (record s { slot = record { ship = s.slot.ship; from = s.slot.from; number = s.slot.number; word = s.slot.word; newer = None } }) in
    let there : get nat_cmp m k ≡ Some v = sym c.in-Some-get_mut.ensures.value in
    let e = (c.get_mut.follows.holds (B c.deref_mut.result.now)).0 ∙ ap (λ s. set_value (is_at (nat_cmp k)) m.entries (B s)) c.deref_mut.ensures.value in
    let n : covers (k ∷ c.next.new.self) (values_of m.entries) ≡ true = ap (λ (ns : List ℕ). covers ns (values_of m.entries)) (sym c.in-Some.ensures.steps) ∙ c.loop-number.invariant.noted in
    record {
      bared = ap bare_all e ∙ bare_set (is_at (nat_cmp k)) m.entries v there ∙ c.loop-number.invariant.bared;
      noted = ap (λ es. covers c.next.new.self (values_of es)) e ∙ covers_left k c.next.new.self v m.entries c.loop-number.invariant.keyed c.get_mut.ensures.ordered there n;
      keyed = rw e (numbered_set (is_at (nat_cmp k)) m.entries v there c.loop-number.invariant.keyed);
    }

pub loop-number-preserved : goal.loop-number-preserved
loop-number-preserved c =
    let k = c.in-Some.number.now in
    let m = c.loop-number.ships in
    let same = c.get_mut.follows.holds-at-none in
    let n : covers (k ∷ c.next.new.self) (values_of m.entries) ≡ true = ap (λ (ns : List ℕ). covers ns (values_of m.entries)) (sym c.in-Some.ensures.steps) ∙ c.loop-number.invariant.noted in
    rw same (record {
      bared = c.loop-number.invariant.bared;
      noted = covers_past k c.next.new.self m.entries c.loop-number.invariant.keyed (sym c.in_default.ensures.value) n;
      keyed = c.loop-number.invariant.keyed;
    })

pub returns : goal.returns
returns c =
    let n : covers [] (values_of c.loop-number.ships.entries) ≡ true = ap (λ (ns : List ℕ). covers ns (values_of c.loop-number.ships.entries)) (sym c.in-None.ensures.steps.0) ∙ c.loop-number.invariant.noted in
    sym (bare_is c.loop-number.ships.entries n) ∙ c.loop-number.invariant.bared
