use Rattle.std.proofs.Common.{◌≡◌, ℕ, eqb, ltb, true, false, ◌⊎◌, is_some, Result, sym, refl, ◌∙◌, subst, inl, inr, rules}
use Rattle.std.proofs.lemmas.Bool.{ne_eqb, lt-ltb, le-ltb, cases_Bool}
use Rattle.levels.specs.Verdicts.{Verdict, Tries}
use Rattle.ledger.specs.Entries.{floor_of}
use Rattle.ledger.specs.Ledgers.{Book, book, listing, admitting}
use Rattle.ledger.proofs.Maps.{there, not_there}
use Rattle.ledger.proofs.book.Ledger.list.Goals as goal
use Rattle.ledger.proofs.book.Ledger.list.Goals.{else-self-gt1-via-then-self-gt1+else-not-contains_key, else-self-gt1-via-else-self-gt1}

pub returns-then-not-contains_key : goal.returns-then-not-contains_key
returns-then-not-contains_key c =
    let z : eqb c.args.boat.0 0 ≡ false = ne_eqb _ _ (search rules) in
    let n = not_there c.args.boat c.args.self.now.floors.entries (sym c.contains_key.ensures ∙ c.if-not-contains_key.true) in
    let s : ltb 1 c.args.self.now.said.0 ≡ true = lt-ltb _ _ c.if-self-gt1.true in
    (simp (z, n, s), refl)

-- a boat that is on the list, or one that comes before a level above 1 was said
admits : (x : Book) (b : ℕ) → eqb b 0 ≡ false → (is_some (floor_of b x.list) ≡ true) ⊎ (ltb 1 x.said ≡ false) → listing x b ≡ admitting x b
admits x b z (inl t) = simp (z, t)
admits x b z (inr s) = elim (cases_Bool (is_some (floor_of b x.list))) [ inl t ↦ simp (z, t) | inr t ↦ simp (z, t, s) ]

pub returns : goal.returns
returns c =
    let x : Book = book c.args.self.now in
    let z : eqb c.args.boat.0 0 ≡ false = ne_eqb _ _ (search rules) in
    let may : (is_some (floor_of c.args.boat.0 x.list) ≡ true) ⊎ (ltb 1 x.said ≡ false) = elim c.else-self-gt1.branch [
      | else-self-gt1-via-then-self-gt1+else-not-contains_key w ↦ inl (there c.args.boat c.args.self.now.floors.entries ∙ sym w.contains_key.ensures ∙ w.if-not-contains_key.false)
      | else-self-gt1-via-else-self-gt1 w ↦ inr (le-ltb _ _ w.if-self-gt1.false)
    ] in
    subst (λ (want : Result Book Verdict). Tries want c.admit.result x (book c.admit.new.self)) (sym (admits x c.args.boat.0 z may)) c.admit.ensures
