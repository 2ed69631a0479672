use Rattle.std.proofs.Common.{◌≤◌, ◌-◌, ℕ, Option, slice_index_or, slice_set, refl, sym, ap, ◌∙◌, arith}
use Rattle.std.specs.BTreeMap.{BTreeMap, is_at, insert_entry}
use Rattle.std.specs.Global.{Box}
use Rattle.std.proofs.lemmas.Result.{err_from_is_err_and}
use Rattle.std.specs.Ordering.{nat_cmp}
use Rattle.forms.specs.Said.{said}
use Rattle.forms.specs.Meaning.{form_of}
use Rattle.logbooks.specs.declared.log.Ship.{Ship}
use Rattle.std.specs.Box.{with_value}
use Rattle.std.proofs.lemmas.Grind.{common_steps}
use Rattle.logbooks.specs.Slots.{Kept, kept}
use Rattle.logbooks.specs.Ships.{seen}
use Rattle.logbooks.proofs.Ships.{rises, slots_in, slots_same}
use Rattle.logbooks.proofs.Known.{stays_known, kept_then}
use Rattle.logbooks.proofs.Noted.{noted_new}
use Rattle.logbooks.proofs.Puts.{put_known, roomy_new, numbered_new, put_new}
use Rattle.logbooks.proofs.Counts.{counted_same, counted_known, counted_new, not_none, not_most, not_most_new}
use Rattle.logbooks.proofs.log.Logbook.enter.Goals as goal

pub invariant_of-self : goal.invariant_of-self
invariant_of-self c =
    let m = c.args.self.now.ships in
    let w = with_value c.in-Some.ship.now c.note.new.self in
    let n = c.get_mut.follows.lender w in
    let t = rw c.deref_mut.ensures.value at c.note.ensures in
    let s = stays_known c.args.self.now.newer.keys m n c.args.slot c.args.last c.in-Some.ship.now w (c.args.self.now.keyed, c.args.self.now.sorted, c.args.self.now.noted, c.args.self.now.few) c.requires.noted c.in-Some.ensures.value c.get_mut.ensures.ordered (c.get_mut.follows.holds w) c.note.result t in
    record {
      keyed = s.0;
      sorted = s.1;
      noted = s.2;
      counted = counted_same m n c.args.self.now.in_form c.args.self.now.counted (ap slots_in (c.get_mut.follows.holds w).0 ∙ slots_same (is_at (nat_cmp c.args.slot.ship)) m.entries c.in-Some.ship.now w (sym c.in-Some.ensures.value) (ap (λ (z : Kept × (ℕ → Option ℕ)). z.0) (c.in_err-note-in-Some.ensures.1 ∙ ap seen c.deref_mut.ensures.value)));
      few = s.3;
    }

pub overflow_sub-self : goal.overflow_sub-self
overflow_sub-self c =
    not_none c.args.self.now.ships c.args.slot.ship c.in-Some.ship.now (sym c.in-Some.ensures.value) c.args.self.now.in_form c.from-before.result c.args.self.now.counted (c.from-before.ensures ∙ c.form-in-Some.ensures ∙ ap (λ (s : Ship). form_of (said s.slot.word)) c.deref.ensures)

pub overflow_add-self : goal.overflow_add-self
overflow_add-self c =
    let w = with_value c.in-Some.ship.now c.note.new.self in
    let l : slice_index_or (slice_set c.args.self.now.in_form c.from-before.result (slice_index_or c.args.self.now.in_form c.from-before.result 0 - 1)) c.from-form.result 0 ≤ 4096 = not_most c.args.self.now.ships c.args.slot.ship c.in-Some.ship.now (sym c.in-Some.ensures.value) c.args.self.now.in_form c.from-before.result c.args.self.now.counted (c.from-before.ensures ∙ c.form-in-Some.ensures ∙ ap (λ (s : Ship). form_of (said s.slot.word)) c.deref.ensures) (c.get_mut.follows.lender w) w c.get_mut.ensures.ordered (c.get_mut.follows.holds w) c.args.slot (kept_then _ _ c.in_ok-note-in-Some.ensures) c.from-form.result (c.from-form.ensures ∙ c.form.ensures) c.args.self.now.few in
    omega arith

pub invariant_of-self-in-Some : goal.invariant_of-self-in-Some
invariant_of-self-in-Some c =
    let m = c.args.self.now.ships in
    let w = with_value c.in-Some.ship.now c.note.new.self in
    let n = c.get_mut.follows.lender w in
    let t = rw c.deref_mut.ensures.value at c.note.ensures in
    let s = stays_known c.args.self.now.newer.keys m n c.args.slot c.args.last c.in-Some.ship.now w (c.args.self.now.keyed, c.args.self.now.sorted, c.args.self.now.noted, c.args.self.now.few) c.requires.noted c.in-Some.ensures.value c.get_mut.ensures.ordered (c.get_mut.follows.holds w) c.note.result t in
    record {
      keyed = s.0;
      sorted = s.1;
      noted = s.2;
      counted = counted_known m c.args.slot.ship c.in-Some.ship.now (sym c.in-Some.ensures.value) c.args.self.now.in_form c.from-before.result c.args.self.now.counted (c.from-before.ensures ∙ c.form-in-Some.ensures ∙ ap (λ (s : Ship). form_of (said s.slot.word)) c.deref.ensures) n w c.get_mut.ensures.ordered (c.get_mut.follows.holds w) c.args.slot (kept_then _ _ c.in_ok-note-in-Some.ensures) c.from-form.result (c.from-form.ensures ∙ c.form.ensures);
      few = s.3;
    }

pub overflow_add-self-in-None : goal.overflow_add-self-in-None
overflow_add-self-in-None c =
    let l : slice_index_or c.args.self.now.in_form c.from-form.result 0 ≤ 4096 = not_most_new c.args.self.now.ships c.insert.new.self c.args.slot.ship (sym c.in-None.ensures.value) c.args.self.now.in_form c.args.self.now.counted c.in_ok-ship-in-None.ship c.get_mut.ensures.ordered (c.in_ok-insert-in-None.ensures.entries ∙ ap (λ (z : BTreeMap ℕ (Box Ship)). insert_entry nat_cmp z.entries c.args.slot.ship c.in_ok-ship-in-None.ship) c.get_mut.follows.holds-at-none) c.args.slot (ap (λ (z : Kept × (ℕ → Option ℕ)). z.0) (ap seen c.in_ok-ship-in-None.ensures.ok ∙ c.new.ensures)) c.from-form.result (c.from-form.ensures ∙ c.form.ensures) c.args.self.now.few in
    omega arith

pub invariant_of-self-in-None-clause-counted : goal.invariant_of-self-in-None-clause-counted
invariant_of-self-in-None-clause-counted c =
    counted_new c.args.self.now.ships c.insert.new.self c.args.slot.ship (sym c.in-None.ensures.value) c.args.self.now.in_form c.args.self.now.counted c.in_ok-ship-in-None.ship c.get_mut.ensures.ordered (c.in_ok-insert-in-None.ensures.entries ∙ ap (λ (z : BTreeMap ℕ (Box Ship)). insert_entry nat_cmp z.entries c.args.slot.ship c.in_ok-ship-in-None.ship) c.get_mut.follows.holds-at-none) c.args.slot (ap (λ (z : Kept × (ℕ → Option ℕ)). z.0) (ap seen c.in_ok-ship-in-None.ensures.ok ∙ c.new.ensures)) c.from-form.result (c.from-form.ensures ∙ c.form.ensures)

pub returns-in_err-note-in-Some : goal.returns-in_err-note-in-Some
returns-in_err-note-in-Some c =
    let w = with_value c.in-Some.ship.now c.note.new.self in
    let n = c.get_mut.follows.lender w in
    let t = put_known c.args.self.now.ships n c.in-Some.ship.now w (kept c.args.slot) c.args.last c.args.self.now.keyed (sym c.in-Some.ensures.value) c.get_mut.ensures.ordered (c.get_mut.follows.holds w) c.note.result (rw c.deref_mut.ensures.value at c.note.ensures) in
    let p = err_from_is_err_and c.from_residual.result c.from_residual.ensures.1 in
    record { done = rw (p.1, p.2) (rw c.in_err-note-in-Some.was at t); newer = refl }

pub returns-in_ok-note-in-Some : goal.returns-in_ok-note-in-Some
returns-in_ok-note-in-Some c =
    let w = with_value c.in-Some.ship.now c.note.new.self in
    let n = c.get_mut.follows.lender w in
    let t = put_known c.args.self.now.ships n c.in-Some.ship.now w (kept c.args.slot) c.args.last c.args.self.now.keyed (sym c.in-Some.ensures.value) c.get_mut.ensures.ordered (c.get_mut.follows.holds w) c.note.result (rw c.deref_mut.ensures.value at c.note.ensures) in
    record { done = rw c.in_ok-note-in-Some.was at t; newer = refl }

pub invariant_of-self-in-None-clause-keyed : goal.invariant_of-self-in-None-clause-keyed
invariant_of-self-in-None-clause-keyed c =
    numbered_new c.args.self.now.ships c.get_mut.follows.lender-at-none (kept c.args.slot) c.args.last c.get_mut.follows.holds-at-none c.args.self.now.keyed (sym c.in-None.ensures.value) c.insert.new.self c.in_ok-ship-in-None.ship (ap seen c.in_ok-ship-in-None.ensures.ok ∙ c.new.ensures) c.insert.result c.insert.ensures.entries c.insert.ensures.err

pub invariant_of-self-in-None-clause-sorted : goal.invariant_of-self-in-None-clause-sorted
invariant_of-self-in-None-clause-sorted c =
    rises c.insert.new.self.entries (numbered_new c.args.self.now.ships c.get_mut.follows.lender-at-none (kept c.args.slot) c.args.last c.get_mut.follows.holds-at-none c.args.self.now.keyed (sym c.in-None.ensures.value) c.insert.new.self c.in_ok-ship-in-None.ship (ap seen c.in_ok-ship-in-None.ensures.ok ∙ c.new.ensures) c.insert.result c.insert.ensures.entries c.insert.ensures.err) c.insert.ensures.ordered

pub invariant_of-self-in-None-clause-noted : goal.invariant_of-self-in-None-clause-noted
invariant_of-self-in-None-clause-noted c =
    noted_new c.args.self.now.newer.keys c.args.self.now.ships c.get_mut.follows.lender-at-none c.insert.new.self c.args.slot c.in_ok-ship-in-None.ship c.get_mut.follows.holds-at-none c.args.self.now.noted c.requires.noted (ap (λ (z : Kept × (ℕ → Option ℕ)). z.0) (ap seen c.in_ok-ship-in-None.ensures.ok ∙ c.new.ensures)) c.insert.result c.insert.ensures.entries c.insert.ensures.err

pub returns-in_ok-insert-in-None : goal.returns-in_ok-insert-in-None
returns-in_ok-insert-in-None c =
    let l = roomy_new c.args.self.now.ships c.get_mut.follows.lender-at-none (kept c.args.slot) c.args.last c.get_mut.follows.holds-at-none c.args.self.now.keyed (sym c.in-None.ensures.value) c.requires.room in
    record {
      done = put_new c.args.self.now.ships c.get_mut.follows.lender-at-none (kept c.args.slot) c.args.last c.get_mut.follows.holds-at-none c.args.self.now.keyed (sym c.in-None.ensures.value) c.insert.new.self c.in_ok-ship-in-None.ship (ap seen c.in_ok-ship-in-None.ensures.ok ∙ c.new.ensures) l c.in_ok-insert-in-None.ensures.entries c.in_ok-insert-in-None.ensures.updates;
      newer = refl;
    }

pub invariant_of-self-in-None-clause-few : goal.invariant_of-self-in-None-clause-few
invariant_of-self-in-None-clause-few c =
    let l = roomy_new c.args.self.now.ships c.get_mut.follows.lender-at-none (kept c.args.slot) c.args.last c.get_mut.follows.holds-at-none c.args.self.now.keyed (sym c.in-None.ensures.value) c.requires.room in
    grind (arith, common_steps)
