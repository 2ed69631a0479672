use Rattle.std.proofs.Common.{◌≡◌, ℕ, max, List, map, None, Some, Ok, Result, sym, ap, ◌∙◌, arith}
use Rattle.std.specs.BTreeMap.{BTreeMap, get}
use Rattle.std.specs.Ordering.{nat_cmp, ord_max}
use Rattle.std.proofs.lemmas.Bool.Decides.{nat_tests}
use Rattle.levels.specs.declared.numbers.BoatId.{BoatId}
use Rattle.levels.specs.declared.numbers.Program.{Program}
use Rattle.levels.specs.Verdicts.{Verdict}
use Rattle.ledger.specs.Entries.{Entry, heard, entry_of, ascending}
use Rattle.ledger.specs.Ledgers.{Book, book, entries, floor_in, answering, listed}
use Rattle.ledger.proofs.Books.{ascending_heard}
use Rattle.ledger.proofs.Maps.{by_number, floor_found, heard_in}
use Rattle.ledger.proofs.book.Ledger.hear.Goals as goal

pub returns-in_default : goal.returns-in_default
returns-in_default c =
    let v : None ≡ get by_number c.args.self.now.floors c.args.boat = c.in_default.ensures.value in
    let F : BTreeMap BoatId Program → Book = λ m. record { list = listed m; said = c.args.self.now.said.0 } in
    (ap (answering (book c.args.self.now) c.args.boat.0 c.args.floor.0) (floor_found c.args.boat c.args.self.now.floors.entries ∙ sym (ap floor_in v)), ap F c.get_mut.follows.holds-at-none)

-- the list that is left, by its number
highest : (a b : Program) → (ord_max (λ (x y : Program). nat_cmp x.0 y.0) a b).0 ≡ max b.0 a.0
highest a b = grind (arith, nat_tests)

pub invariant_of-self-2-clause-sorted : goal.invariant_of-self-2-clause-sorted
invariant_of-self-2-clause-sorted c =
    let v : Some c.in-Some.known.now ≡ get by_number c.args.self.now.floors c.args.boat = c.in-Some.ensures.value in
    let w = c.get_mut.follows.holds c.max-highest.result in
    let top : c.max-highest.result.0 ≡ max c.in-Some.known.now.0 c.args.floor.0 = ap (λ (p : Program). p.0) c.max-highest.ensures ∙ highest c.args.floor c.in-Some.known.now in
    ap ascending (ap (map entry_of) w.0 ∙ heard_in c.args.boat c.args.floor.0 c.in-Some.known.now c.max-highest.result c.args.self.now.floors.entries (sym v) top) ∙ ascending_heard c.args.boat.0 c.args.floor.0 (entries c.args.self.now) ∙ c.args.self.now.sorted

pub returns : goal.returns
returns c =
    let v : Some c.in-Some.known.now ≡ get by_number c.args.self.now.floors c.args.boat = c.in-Some.ensures.value in
    let w = c.get_mut.follows.holds c.max-highest.result in
    let top : c.max-highest.result.0 ≡ max c.in-Some.known.now.0 c.args.floor.0 = ap (λ (p : Program). p.0) c.max-highest.ensures ∙ highest c.args.floor c.in-Some.known.now in
    let F : ℕ → List Entry → Result (ℕ × Book) Verdict = λ n es. Ok (n, record { list = es; said = c.args.self.now.said.0 }) in
    ap (answering (book c.args.self.now) c.args.boat.0 c.args.floor.0) (floor_found c.args.boat c.args.self.now.floors.entries ∙ sym (ap floor_in v)) ∙ ap (λ n. F n (heard c.args.boat.0 c.args.floor.0 (entries c.args.self.now))) (sym top) ∙ ap (F c.max-highest.result.0) (sym (ap (map entry_of) w.0 ∙ heard_in c.args.boat c.args.floor.0 c.in-Some.known.now c.max-highest.result c.args.self.now.floors.entries (sym v) top))
