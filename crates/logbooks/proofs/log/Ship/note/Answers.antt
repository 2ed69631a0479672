use Rattle.std.proofs.Common.{◌≡◌, ℕ, eqb, false, cond, Some, Ok, Option, Result, ap, ◌∙◌, sym, arith}
use Rattle.std.specs.BTreeMap.{BTreeMap, get}
use Rattle.std.specs.Ordering.{nat_cmp}
use Rattle.std.proofs.lemmas.Bool.{cond-false}
use Rattle.std.proofs.lemmas.Bool.Decides.{nat_tests}
use Rattle.levels.specs.Verdicts.{Verdict}
use Rattle.levels.specs.declared.numbers.BoatId.{BoatId}
use Rattle.logbooks.specs.declared.log.Ship.{Ship}
use Rattle.logbooks.specs.Slots.{Kept, kept}
use Rattle.logbooks.proofs.Puts.{noted_is, renoted_is}
use Rattle.logbooks.proofs.log.Ship.note.Goals as goal
use Rattle.logbooks.proofs.log.Ship.note.Goals.{then-ne+in_ok-insert, else-ne}

abbrev among : BTreeMap BoatId ℕ → ℕ → Option ℕ
among m b = get (λ (x y : BoatId). nat_cmp x.0 y.0) m (record { 0 = b })

pub returns : goal.returns
returns c =
    let s : Ship = c.args.self.now in
    let d = s.slot.from.0 in
    let b = c.args.slot.from.0 in
    let f : ℕ → Option ℕ = among s.others in
    let g : ℕ → Option ℕ = among c.if-ne.self.others in
    let h : (k : ℕ) → eqb k b ≡ false → cond (eqb k d) (Some s.last) (f k) ≡ g k = λ k n. elim c.if-ne.branch [
      | then-ne+in_ok-insert w ↦ ap (λ (u : ℕ → Option ℕ). u k) (noted_is f (among w.insert.new.self) d s.last (λ j. w.in_ok-insert.ensures.updates.0 (record { 0 = j }))) ∙ sym (ap (λ (x : Ship). among x.others k) w.self-is)
      | else-ne w ↦
          (let o : eqb k d ≡ false = grind (arith, nat_tests) in
          cond-false _ _ _ o ∙ sym (ap (λ (x : Ship). among x.others k) w.self-is))
    ] in
    let F : Kept → (ℕ → Option ℕ) → Result (Kept × (ℕ → Option ℕ)) Verdict = λ k u. Ok (k, u) in
    let G : Kept → Result (Kept × (ℕ → Option ℕ)) Verdict = λ k. Ok (k, λ j. cond (eqb j k.from) (Some c.args.last) (g j)) in
    ap (F (kept c.args.slot)) (renoted_is d s.last b c.args.last f g h) ∙ ap G (sym c.write.ensures)
