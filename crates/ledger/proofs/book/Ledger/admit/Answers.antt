use Rattle.std.proofs.Common.{◌≡◌, leb, true, false, List, map, length, is_some, Ok, Result, sym, refl, ap, ◌∙◌, arith}
use Rattle.std.proofs.lemmas.Bool.{le-leb, lt-leb}
use Rattle.std.proofs.lemmas.List.{length-map}
use Rattle.levels.specs.Verdicts.{Verdict}
use Rattle.ledger.specs.Entries.{Entry, floor_of, entry_of}
use Rattle.ledger.specs.Ledgers.{Book, entries}
use Rattle.ledger.proofs.Maps.{there, not_there, entered_in, ordered_ascends}
use Rattle.ledger.proofs.book.Ledger.admit.Goals as goal

pub returns-then-contains_key : goal.returns-then-contains_key
returns-then-contains_key c =
    let t : is_some (floor_of c.args.boat.0 (entries c.args.self.now)) ≡ true = there c.args.boat c.args.self.now.floors.entries ∙ sym c.contains_key.ensures ∙ c.if-contains_key.true in
    simp t

pub returns-then-len-ge-MOST : goal.returns-then-len-ge-MOST
returns-then-len-ge-MOST c =
    let n = not_there c.args.boat c.args.self.now.floors.entries (sym c.contains_key.ensures ∙ c.if-contains_key.false) in
    let l = length-map c.args.self.now.floors.entries entry_of in
    let m : leb 4096 (length (entries c.args.self.now)) ≡ true = le-leb _ _ (omega (arith, l)) in
    (simp (n, m), refl)

pub returns : goal.returns
returns c =
    let n = not_there c.args.boat c.args.self.now.floors.entries (sym c.contains_key.ensures ∙ c.if-contains_key.false) in
    let l = length-map c.args.self.now.floors.entries entry_of in
    let m : leb 4096 (length (entries c.args.self.now)) ≡ false = lt-leb _ _ (omega (arith, l)) in
    let F : List Entry → Result Book Verdict = λ es. Ok (record { list = es; said = c.args.self.now.said.0 }) in
    simp (n, m) (ap F (sym (ap (map entry_of) c.in_ok-insert.ensures.entries ∙ entered_in c.args.boat c.args.self.now.floors.entries n)))

pub invariant_of-self-clause-sorted : goal.invariant_of-self-clause-sorted
invariant_of-self-clause-sorted c =
    ordered_ascends c.insert.new.self c.insert.ensures.ordered
