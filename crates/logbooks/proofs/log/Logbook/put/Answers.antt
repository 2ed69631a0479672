use Rattle.std.proofs.Common.{◌≡◌, ℕ, false, not, ◌&&◌, leb, is_some, true, refl, sym, ap, ◌∙◌, subst, arith}
use Rattle.std.specs.BTreeMap.{get, values, btree_map_len, is_at}
use Rattle.std.specs.Ordering.{nat_cmp}
use Rattle.std.proofs.lemmas.Bool.{and_left, and_right, lt-leb}
use Rattle.std.proofs.lemmas.Result.{err_from_is_err_and}
use Rattle.logbooks.specs.Logs.{Log, log, crowded, putting}
use Rattle.levels.specs.Verdicts.{Tries}
use Rattle.std.specs.BTreeSet.{BTreeSet}
use Rattle.logbooks.specs.Slots.{kept}
use Rattle.logbooks.proofs.Puts.{crowded_is, full_is, memory_due}
use Rattle.logbooks.proofs.Covers.{covers_more}
use Rattle.logbooks.proofs.Noted.{grown, absent, taken_back, noted_back, same_alike, err_of, ok_of, of_false}
use Rattle.logbooks.specs.Ships.{Alike}
use Rattle.logbooks.specs.declared.log.Logbook.{Logbook}
use Rattle.std.specs.List.{list_any}
use Rattle.logbooks.proofs.log.Logbook.put.Goals as goal
use Rattle.logbooks.proofs.log.Logbook.put.Goals.{else-added-via-then-added+else-is_err, else-added-via-else-added, else-len-ge-MOST-via-then-len-ge-MOST+else-not-contains_key, else-len-ge-MOST-via-else-len-ge-MOST, then-is_some+in_ok-added, else-is_some}

pub returns-then-not-contains_key : goal.returns-then-not-contains_key
returns-then-not-contains_key c = record {
  done = (full_is c.args.self.now.ships (kept c.args.slot) c.args.last c.args.self.now.keyed (sym c.contains_key.ensures ∙ c.if-not-contains_key.true) (omega arith), refl);
  newer = λ q. refl;
}

pub invariant_of-self : goal.invariant_of-self
invariant_of-self c = record {
  keyed = c.args.self.now.keyed;
  sorted = c.args.self.now.sorted;
  noted = covers_more c.args.self.now.newer.keys c.insert.new.self.keys (grown c.args.self.now.newer c.insert.new.self c.args.slot.ship c.insert.result c.insert.ensures.updates c.insert.ensures.err) (values c.args.self.now.ships) c.args.self.now.noted;
  counted = c.args.self.now.counted;
  few = c.args.self.now.few;
}

pub returns-in_err-added : goal.returns-in_err-added
returns-in_err-added c =
    let m = c.args.self.now.ships in
    let s = c.args.slot.ship in
    let room : not (is_some (get nat_cmp m s)) && leb 4096 (btree_map_len m) ≡ false = elim c.else-len-ge-MOST.branch [
      | else-len-ge-MOST-via-then-len-ge-MOST+else-not-contains_key w ↦ and_left (not (is_some (get nat_cmp m s))) _ (ap not (sym w.contains_key.ensures ∙ w.if-not-contains_key.false))
      | else-len-ge-MOST-via-else-len-ge-MOST w ↦ and_right (not (is_some (get nat_cmp m s))) _ (lt-leb 4096 (btree_map_len m) (omega arith))
    ] in
    let p = err_from_is_err_and c.from_residual.result c.from_residual.ensures.1 in
    record {
      done = rw (p.1, p.2) (memory_due m (kept c.args.slot) c.args.last c.args.self.now.keyed room, refl);
      newer = err_of c.from_residual.result (same_alike c.args.self.now.newer c.insert.new.self (rw c.in_err-added.was at c.insert.ensures.err));
    }

pub enter-entered-requires-clause-room : goal.enter-entered-requires-clause-room
enter-entered-requires-clause-room c =
    let m = c.args.self.now.ships in
    let s = c.args.slot.ship in
    let room : not (is_some (get nat_cmp m s)) && leb 4096 (btree_map_len m) ≡ false = elim c.else-len-ge-MOST.branch [
      | else-len-ge-MOST-via-then-len-ge-MOST+else-not-contains_key w ↦ and_left (not (is_some (get nat_cmp m s))) _ (ap not (sym w.contains_key.ensures ∙ w.if-not-contains_key.false))
      | else-len-ge-MOST-via-else-len-ge-MOST w ↦ and_right (not (is_some (get nat_cmp m s))) _ (lt-leb 4096 (btree_map_len m) (omega arith))
    ] in
    let same : log c.if-is_some.self ≡ log c.args.self.now = elim c.if-is_some.branch [
      | then-is_some+in_ok-added w ↦ ap log w.self-is
      | else-is_some w ↦ ap log w.self-is
    ] in
    ap (λ x. crowded x s) same ∙ crowded_is m s c.args.self.now.keyed ∙ room

pub invariant_of-self-then-is_err : goal.invariant_of-self-then-is_err
invariant_of-self-then-is_err c =
    let x = c.enter-entered.new.self in
    let same : log c.if-is_some.self ≡ log c.args.self.now = elim c.if-is_some.branch [
      | then-is_some+in_ok-added w ↦ ap log w.self-is
      | else-is_some w ↦ ap log w.self-is
    ] in
    let alike : Alike c.args.self.now.newer.keys c.remove.new.self.keys = elim c.if-is_some.branch [
      | then-is_some+in_ok-added w ↦ taken_back c.args.self.now.newer w.insert.new.self x.newer c.remove.new.self c.args.slot.ship (c.enter-entered.ensures.newer ∙ ap (λ (l : Logbook). l.newer) w.self-is) (absent c.args.self.now.newer c.args.slot.ship (sym w.in_ok-added.ensures.added ∙ sym w.added-is ∙ c.if-added.true)) w.in_ok-added.ensures.updates c.remove.ensures.updates
      | else-is_some w ↦ (let n : false ≡ true = sym w.if-is_some.false ∙ sym w.added-is ∙ c.if-added.true in cc)
    ] in
    record {
      keyed = x.keyed;
      sorted = x.sorted;
      noted = noted_back (putting (log c.args.self.now) (kept c.args.slot) c.args.last) c.args.self.now.ships x.ships c.args.self.now.newer.keys c.remove.new.self.keys c.enter-entered.result (subst (λ (l : Log). Tries (putting l (kept c.args.slot) c.args.last) c.enter-entered.result l (log x)) same c.enter-entered.ensures.done) (sym c.is_err.ensures.value ∙ c.if-is_err.true) alike c.args.self.now.noted;
      counted = x.counted;
      few = x.few;
    }

pub returns-then-is_err : goal.returns-then-is_err
returns-then-is_err c =
    let x = c.enter-entered.new.self in
    let same : log c.if-is_some.self ≡ log c.args.self.now = elim c.if-is_some.branch [
      | then-is_some+in_ok-added w ↦ ap log w.self-is
      | else-is_some w ↦ ap log w.self-is
    ] in
    let alike : Alike c.args.self.now.newer.keys c.remove.new.self.keys = elim c.if-is_some.branch [
      | then-is_some+in_ok-added w ↦ taken_back c.args.self.now.newer w.insert.new.self x.newer c.remove.new.self c.args.slot.ship (c.enter-entered.ensures.newer ∙ ap (λ (l : Logbook). l.newer) w.self-is) (absent c.args.self.now.newer c.args.slot.ship (sym w.in_ok-added.ensures.added ∙ sym w.added-is ∙ c.if-added.true)) w.in_ok-added.ensures.updates c.remove.ensures.updates
      | else-is_some w ↦ (let n : false ≡ true = sym w.if-is_some.false ∙ sym w.added-is ∙ c.if-added.true in cc)
    ] in
    record {
      done = subst (λ (l : Log). Tries (putting l (kept c.args.slot) c.args.last) c.enter-entered.result l (log x)) same c.enter-entered.ensures.done;
      newer = err_of c.enter-entered.result alike;
    }

pub returns-else-added : goal.returns-else-added
returns-else-added c =
    let x = c.enter-entered.new.self in
    let same : log c.if-is_some.self ≡ log c.args.self.now = elim c.if-is_some.branch [
      | then-is_some+in_ok-added w ↦ ap log w.self-is
      | else-is_some w ↦ ap log w.self-is
    ] in
    record {
      done = subst (λ (l : Log). Tries (putting l (kept c.args.slot) c.args.last) c.enter-entered.result l (log x)) same c.enter-entered.ensures.done;
      newer = elim c.else-added.branch [
        | else-added-via-then-added+else-is_err w ↦ ok_of _ c.enter-entered.result (sym w.is_err.ensures.value ∙ w.if-is_err.false)
        | else-added-via-else-added w ↦
            (let alike : Alike c.args.self.now.newer.keys c.if-is_some.self.newer.keys = elim c.if-is_some.branch [
              | then-is_some+in_ok-added u ↦ same_alike c.args.self.now.newer c.if-is_some.self.newer (ap (λ (l : Logbook). l.newer.keys) u.self-is ∙ of_false _ (sym u.added-is ∙ w.if-added.false) u.in_ok-added.ensures.unchanged)
              | else-is_some u ↦ same_alike c.args.self.now.newer c.if-is_some.self.newer (ap (λ (l : Logbook). l.newer.keys) u.self-is)
            ] in
            err_of c.enter-entered.result (λ q. ap (λ (z : BTreeSet ℕ). list_any (is_at (nat_cmp q)) z.keys) c.enter-entered.ensures.newer ∙ alike q))
      ];
    }
