-- The ships as a list.
-- Assumes nothing.
use Rattle.std.proofs.Common.{◌≡◌, ℕ, ◌<◌, Bool, true, false, cond, eqb, ltb, List, [], ◌∷◌, is_some, Some, None, Ordering, Less, Equal, Greater, refl, sym, ap, ◌∙◌, arith}
use Rattle.std.specs.BTreeMap.{insert_entry, is_at}
use Rattle.std.specs.Global.{Box}
use Rattle.std.specs.Ordering.{is_eq, match_ordering, nat_cmp}
use Rattle.std.specs.Cmp.{unsigned_tied}
use Rattle.std.specs.Map.{keys_of, values_of, lookup, set_value}
use Rattle.std.specs.List.Sorted.{IsStrictlySortedBy}
use Rattle.std.specs.List.{AllByRecursion}
use Rattle.std.proofs.lemmas.Bool.{and_from, cond_both, cond-true, cond-false, eqb-true}
use Rattle.std.proofs.lemmas.Bool.Decides.{nat_tests}
use Rattle.std.proofs.lemmas.Cmp.{nat_cmp_total}
use Rattle.std.proofs.lemmas.Map.{lookup-none}
use Rattle.std.proofs.lemmas.Map.Entries.{none_below_head}
use Rattle.std.proofs.lemmas.Map.Keys.{sorted_head, sorted_tail}
use Rattle.logbooks.specs.declared.log.Ship.{Ship}
use Rattle.logbooks.specs.Slots.{Kept, kept}
use Rattle.logbooks.specs.Ships.{slots_of, numbers_of, ship_above, rising}
use Rattle.logbooks.specs.Logs.{kept_all, slot_of, placed}

abbrev pub Numbered : List (ℕ × Box Ship) → Type 0
Numbered es = numbers_of (values_of es) ≡ keys_of es

abbrev pub slots_in : List (ℕ × Box Ship) → List Kept
slots_in es = kept_all (slots_of (values_of es))

pub first : (e : ℕ × Box Ship) (es : List (ℕ × Box Ship)) → Numbered (e ∷ es) → e.1.value.slot.ship ≡ e.0
first e es h = cc

pub rest : (e : ℕ × Box Ship) (es : List (ℕ × Box Ship)) → Numbered (e ∷ es) → Numbered es
rest e es h = cc

-- the slots are in the order of the keys
pub rises : (es : List (ℕ × Box Ship)) → Numbered es → IsStrictlySortedBy nat_cmp (keys_of es) → rising (slots_of (values_of es)) ≡ true
rises [] h o = refl
rises (e ∷ es) h o = and_from _ _ (above es h (sorted_head nat_cmp e.0 (keys_of es) o)) (rises es (rest e es h) (sorted_tail nat_cmp e.0 (keys_of es) o))
  where
    above : (es : List (ℕ × Box Ship)) → Numbered (e ∷ es) → AllByRecursion (λ y. nat_cmp e.0 y ≡ Less) (keys_of es) → ship_above e.1.value.slot.ship (slots_of (values_of es)) ≡ true
    above [] h a = refl
    above (x ∷ es) h a =
        let l : nat_cmp e.0 x.0 ≡ Less = a.0 in
        let p : e.1.value.slot.ship ≡ e.0 = first e (x ∷ es) h in
        let q : x.1.value.slot.ship ≡ x.0 = first x es (rest e (x ∷ es) h) in
        grind (arith, nat_tests)

-- by the order of two numbers
pub by_order : {A : Type 0} (n m : ℕ) (x y z : A) (P : A → Type 0) → (n < m → P x) → (n ≡ m → P y) → (m < n → P z) → P (match_ordering (nat_cmp n m) x y z)
by_order n m x y z P f g h =
    cond_both (ltb n m) Less (cond (eqb n m) Equal Greater) (λ r. P (match_ordering r x y z)) (λ t. f (grind (arith, nat_tests)))
    (λ t. cond_both (eqb n m) Equal Greater (λ r. P (match_ordering r x y z)) (λ e. g (grind (arith, nat_tests))) (λ e. h (grind (arith, nat_tests))))

-- a slot goes where its ship's number stands
pub placed_in : (n : ℕ) (v : Box Ship) → v.value.slot.ship ≡ n → (es : List (ℕ × Box Ship)) → Numbered es → placed (kept v.value.slot) (slots_in es) ≡ slots_in (insert_entry nat_cmp es n v)
placed_in n v i [] h = refl
placed_in n v i (e ∷ es) h =
    let f : e.1.value.slot.ship ≡ e.0 = first e es h in
    by_order n e.0 ((n, v) ∷ e ∷ es) ((e.0, v) ∷ es) (e ∷ insert_entry nat_cmp es n v) (λ l. placed (kept v.value.slot) (slots_in (e ∷ es)) ≡ slots_in l)
    (λ l.
    let a : ltb e.1.value.slot.ship v.value.slot.ship ≡ false = grind (arith, nat_tests) in
    let b : eqb e.1.value.slot.ship v.value.slot.ship ≡ false = grind (arith, nat_tests) in
    cond-false _ _ _ a ∙ cond-false _ _ _ b)
    (λ l.
    let a : ltb e.1.value.slot.ship v.value.slot.ship ≡ false = grind (arith, nat_tests) in
    let b : eqb e.1.value.slot.ship v.value.slot.ship ≡ true = grind (arith, nat_tests) in
    cond-false _ _ _ a ∙ cond-true _ _ _ b)
    (λ l.
    let a : ltb e.1.value.slot.ship v.value.slot.ship ≡ true = grind (arith, nat_tests) in
    cond-true _ _ _ a ∙ ap (λ l. kept e.1.value.slot ∷ l) (placed_in n v i es (rest e es h)))

pub numbered_in : (n : ℕ) (v : Box Ship) → v.value.slot.ship ≡ n → (es : List (ℕ × Box Ship)) → Numbered es → Numbered (insert_entry nat_cmp es n v)
numbered_in n v i [] h = ap (λ m. m ∷ []) i
numbered_in n v i (e ∷ es) h =
    let f : e.1.value.slot.ship ≡ e.0 = first e es h in
    let r : Numbered es = rest e es h in
    let w : Numbered (insert_entry nat_cmp es n v) = numbered_in n v i es r in
    by_order n e.0 ((n, v) ∷ e ∷ es) ((e.0, v) ∷ es) (e ∷ insert_entry nat_cmp es n v) Numbered (λ l. cc) (λ l. cc) (λ l. cc)

-- a ship has a slot if the map has the ship
pub slot_there : (n : ℕ) (es : List (ℕ × Box Ship)) → Numbered es → is_some (slot_of n (slots_in es)) ≡ is_some (lookup (is_at (nat_cmp n)) es)
slot_there n [] h = refl
slot_there n (e ∷ es) h =
    let f : e.1.value.slot.ship ≡ e.0 = first e es h in
    let t : is_eq (nat_cmp n e.0) ≡ eqb n e.0 = unsigned_tied n e.0 in
    let b : eqb e.1.value.slot.ship n ≡ is_eq (nat_cmp n e.0) = grind (arith, nat_tests) in
    cond_both (is_eq (nat_cmp n e.0)) (Some e.1) (lookup (is_at (nat_cmp n)) es) (λ o. is_some (slot_of n (slots_in (e ∷ es))) ≡ is_some o)
    (λ y. ap is_some (cond-true _ _ _ (b ∙ y)))
    (λ y. ap is_some (cond-false _ _ _ (b ∙ y)) ∙ slot_there n es (rest e es h))

pub number_there : (n : ℕ) (v : Box Ship) (es : List (ℕ × Box Ship)) → Numbered es → lookup (is_at (nat_cmp n)) es ≡ Some v → v.value.slot.ship ≡ n
number_there n v [] h g = cc
number_there n v (e ∷ es) h g =
    let f : e.1.value.slot.ship ≡ e.0 = first e es h in
    cond_both (is_eq (nat_cmp n e.0)) (Some e.1) (lookup (is_at (nat_cmp n)) es) (λ o. o ≡ Some v → v.value.slot.ship ≡ n)
    (λ y k.
    let q : n ≡ e.0 = eqb-true n e.0 (sym (unsigned_tied n e.0) ∙ y) in
    let s : e.1 ≡ v = cc in
    cc)
    (λ y k. number_there n v es (rest e es h) k) g

-- where there is the key, to write its value is to insert it
pub set_is : (n : ℕ) (v : Box Ship) (es : List (ℕ × Box Ship)) → IsStrictlySortedBy nat_cmp (keys_of es) → is_some (lookup (is_at (nat_cmp n)) es) ≡ true → set_value (is_at (nat_cmp n)) es v ≡ insert_entry nat_cmp es n v
set_is n v [] o f = cc
set_is n v (e ∷ es) o f = go (nat_cmp n e.0) refl (set_is n v es (sorted_tail nat_cmp e.0 (keys_of es) o)) f
  where
    go : (r : Ordering) → nat_cmp n e.0 ≡ r → (is_some (lookup (is_at (nat_cmp n)) es) ≡ true → set_value (is_at (nat_cmp n)) es v ≡ insert_entry nat_cmp es n v) → is_some (cond (is_eq r) (Some e.1) (lookup (is_at (nat_cmp n)) es)) ≡ true → cond (is_eq r) ((e.0, v) ∷ es) (e ∷ set_value (is_at (nat_cmp n)) es v) ≡ match_ordering r ((n, v) ∷ e ∷ es) ((e.0, v) ∷ es) (e ∷ insert_entry nat_cmp es n v)
    go Less q m f =
        let x : lookup (is_at (nat_cmp n)) es ≡ None = lookup-none (is_at (nat_cmp n)) es (none_below_head nat_cmp_total n e es o q).1 in
        let y : false ≡ true = sym (ap is_some x) ∙ f in
        cc
    go Equal q m f = refl
    go Greater q m f = ap (λ l. e ∷ l) (m f)

-- a slot that is as it was
pub slots_same : (test : ℕ → Bool) (es : List (ℕ × Box Ship)) (v w : Box Ship) → lookup test es ≡ Some v → kept w.value.slot ≡ kept v.value.slot → slots_in (set_value test es w) ≡ slots_in es
slots_same test [] v w f k = refl
slots_same test (e ∷ es) v w f k = go (test e.0) (λ g. slots_same test es v w g k) f
  where
    go : (t : Bool) → (lookup test es ≡ Some v → slots_in (set_value test es w) ≡ slots_in es) → cond t (Some e.1) (lookup test es) ≡ Some v → slots_in (cond t ((e.0, w) ∷ es) (e ∷ set_value test es w)) ≡ slots_in (e ∷ es)
    go true m f =
        let s : v ≡ e.1 = cc in
        ap (λ x. x ∷ slots_in es) (k ∙ ap (λ (x : Box Ship). kept x.value.slot) s)
    go false m f = ap (λ l. kept e.1.value.slot ∷ l) (m f)
