-- What the list of the book is, by the map that holds it.
-- Assumes nothing.
use Rattle.std.proofs.Common.{◌≡◌, ℕ, max, Bool, true, false, cond, eqb, ltb, List, [], ◌∷◌, map, is_some, Some, None, Option, Ordering, Less, Greater, sym, refl, ap, ◌∙◌, inl, inr, arith}
use Rattle.std.specs.BTreeMap.{BTreeMap, IsOrdered, insert_entry, is_at}
use Rattle.std.specs.List.{AllByRecursion}
use Rattle.std.specs.List.Sorted.{IsStrictlySortedBy}
use Rattle.std.specs.Map.{keys_of, lookup, set_value}
use Rattle.std.specs.Ordering.{nat_cmp}
use Rattle.std.proofs.lemmas.Bool.{cond-true, cond-false, and_from, cases_Bool}
use Rattle.std.proofs.lemmas.Bool.Decides.{nat_tests}
use Rattle.std.proofs.lemmas.Map.Keys.{sorted_head, sorted_tail}
use Rattle.levels.specs.declared.numbers.BoatId.{BoatId}
use Rattle.levels.specs.declared.numbers.Program.{Program}
use Rattle.ledger.specs.Entries.{entry, above, ascending, floor_of, entered, heard, entry_of}
use Rattle.ledger.specs.Ledgers.{listed, floor_in}
use Rattle.ledger.proofs.Books.{none_is}

-- the order of the keys
abbrev pub by_number : BoatId → BoatId → Ordering
by_number x y = nat_cmp x.0 y.0

at_number : (b k : BoatId) → is_at (by_number b) k ≡ eqb k.0 b.0
at_number b k = grind (arith, nat_tests)

-- what a search in the map finds is the floor of the list
pub floor_found : (b : BoatId) (ps : List (BoatId × Program)) → floor_of b.0 (map entry_of ps) ≡ floor_in (lookup (is_at (by_number b)) ps)
floor_found b [] = refl
floor_found b (p ∷ ps) = ap (λ t. cond t (Some p.1.0) (floor_of b.0 (map entry_of ps))) (sym (at_number b p.0)) ∙ go (is_at (by_number b) p.0) (floor_found b ps)
  where
    go : (t : Bool) → floor_of b.0 (map entry_of ps) ≡ floor_in (lookup (is_at (by_number b)) ps) → cond t (Some p.1.0) (floor_of b.0 (map entry_of ps)) ≡ floor_in (cond t (Some p.1) (lookup (is_at (by_number b)) ps))
    go true h = refl
    go false h = h

pub there : (b : BoatId) (ps : List (BoatId × Program)) → is_some (floor_of b.0 (map entry_of ps)) ≡ is_some (lookup (is_at (by_number b)) ps)
there b ps = ap is_some (floor_found b ps) ∙ go (lookup (is_at (by_number b)) ps)
  where
    go : (o : Option Program) → is_some (floor_in o) ≡ is_some o
    go None = refl
    go (Some f) = refl

pub not_there : (b : BoatId) (ps : List (BoatId × Program)) → is_some (lookup (is_at (by_number b)) ps) ≡ false → floor_of b.0 (map entry_of ps) ≡ None
not_there b ps e = none_is (floor_of b.0 (map entry_of ps)) (there b ps ∙ e)

-- a new key is a boat more
pub entered_in : (b : BoatId) (ps : List (BoatId × Program)) → floor_of b.0 (map entry_of ps) ≡ None → map entry_of (insert_entry by_number ps b (record { 0 = 1 })) ≡ entered b.0 (map entry_of ps)
entered_in b [] n = refl
entered_in b (p ∷ ps) n =
    elim (cases_Bool (eqb p.0.0 b.0)) [
      | inl t ↦ (let z : ◌≡◌ {A = Option ℕ} (Some p.1.0) None = sym (cond-true _ _ _ t) ∙ n in cc)
      | inr t ↦ (let ih = entered_in b ps (sym (cond-false _ _ _ t) ∙ n) in
          elim (cases_Bool (ltb p.0.0 b.0)) [
            | inl u ↦ (let m : nat_cmp b.0 p.0.0 ≡ Greater = grind (arith, nat_tests) in simp (u, m) (ap (λ es. entry_of p ∷ es) ih))
            | inr u ↦ (let m : nat_cmp b.0 p.0.0 ≡ Less = grind (arith, nat_tests) in simp (u, m))
          ])
    ]

-- a value that is written over is a promise heard
pub heard_in : (b : BoatId) (f : ℕ) (g w : Program) (ps : List (BoatId × Program)) → lookup (is_at (by_number b)) ps ≡ Some g → w.0 ≡ max g.0 f → map entry_of (set_value (is_at (by_number b)) ps w) ≡ heard b.0 f (map entry_of ps)
heard_in b f g w [] l m = refl
heard_in b f g w (p ∷ ps) l m =
    let s : is_at (by_number b) p.0 ≡ eqb p.0.0 b.0 = at_number b p.0 in
    elim (cases_Bool (eqb p.0.0 b.0)) [
      | inl t ↦ (let e : Some p.1 ≡ Some g = sym (cond-true _ _ _ (s ∙ t)) ∙ l in let q : p.1 ≡ g = cc in
          let v : w.0 ≡ max p.1.0 f = m ∙ ap (λ (x : Program). max x.0 f) (sym q) in
          simp (s, t) (ap (λ n. entry p.0.0 n ∷ map entry_of ps) v))
      | inr t ↦ (let ih = heard_in b f g w ps (sym (cond-false _ _ _ (s ∙ t)) ∙ l) m in simp (s, t) (ap (λ es. entry_of p ∷ es) ih))
    ]

-- the keys' order is that of the list
ascending_in : (ps : List (BoatId × Program)) → IsStrictlySortedBy by_number (keys_of ps) → ascending (map entry_of ps) ≡ true
ascending_in [] o = refl
ascending_in (p ∷ ps) o = and_from _ _ (first p ps (sorted_head by_number p.0 (keys_of ps) o)) (ascending_in ps (sorted_tail by_number p.0 (keys_of ps) o))
  where
    first : (p : BoatId × Program) (ps : List (BoatId × Program)) → AllByRecursion (λ y. by_number p.0 y ≡ Less) (keys_of ps) → above p.0.0 (map entry_of ps) ≡ true
    first p [] h = refl
    first p (q ∷ ps) h = let l : nat_cmp p.0.0 q.0.0 ≡ Less = h.0 in grind (arith, nat_tests)

pub ordered_ascends : (m : BTreeMap BoatId Program) → IsOrdered by_number m → ascending (listed m) ≡ true
ordered_ascends m o = ascending_in m.entries o
