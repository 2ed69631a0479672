-- How many ships a journal has words of.
-- Assumes nothing.
use Rattle.std.proofs.Common.{◌≡◌, ℕ, suc, ◌<◌, ◌≤◌, Bool, true, false, cond, not, ◌&&◌, eqb, ltb, leb, List, [], ◌∷◌, map, length, is_some, Some, None, sym, refl, ap, ◌∙◌, subst, arith}
use Rattle.std.proofs.lemmas.Bool.{cond_both, cond-false, ltb-true, leb-false, and_parts, and_from, true≢false}
use Rattle.std.proofs.lemmas.Bool.Decides.{nat_tests}
use Rattle.logbooks.specs.Slots.{Kept, forgotten}
use Rattle.logbooks.specs.Logs.{placed, slot_of, slot}
use Rattle.records.specs.Records.{Written, floor_is, level_is, word_is, boat_is, used_to}
use Rattle.stations.specs.Journals.{slots}

-- the ships' numbers rise
abbrev past : ℕ → List Kept → Bool
past n [] = true
past n (k ∷ ks) = ltb n k.ship

abbrev pub rising : List Kept → Bool
rising [] = true
rising (k ∷ ks) = past k.ship ks && rising ks

past_placed : (n : ℕ) (x : Kept) (ks : List Kept) → ltb n x.ship ≡ true → past n ks ≡ true → past n (placed x ks) ≡ true
past_placed n x [] h p = h
past_placed n x (k ∷ ks) h p =
    cond_both (ltb k.ship x.ship) (k ∷ placed x ks) (cond (eqb k.ship x.ship) (x ∷ ks) (x ∷ k ∷ ks)) (λ ys. past n ys ≡ true)
    (λ t. p) (λ t. cond_both (eqb k.ship x.ship) (x ∷ ks) (x ∷ k ∷ ks) (λ ys. past n ys ≡ true) (λ u. h) (λ u. h))

past_lower : (n m : ℕ) (ks : List Kept) → n ≤ m → past m ks ≡ true → past n ks ≡ true
past_lower n m [] l p = refl
past_lower n m (k ∷ ks) l p = grind (arith, nat_tests)

past_same : (n m : ℕ) (ks : List Kept) → n ≡ m → past m ks ≡ true → past n ks ≡ true
past_same n m ks e p = subst (λ (x : ℕ). past x ks ≡ true) (sym e) p

rising_placed : (x : Kept) (ks : List Kept) → rising ks ≡ true → rising (placed x ks) ≡ true
rising_placed x [] r = refl
rising_placed x (k ∷ ks) r =
    let p : (past k.ship ks ≡ true) × (rising ks ≡ true) = and_parts (past k.ship ks) (rising ks) r in
    let ih : rising (placed x ks) ≡ true = rising_placed x ks p.1 in
    cond_both (ltb k.ship x.ship) (k ∷ placed x ks) (cond (eqb k.ship x.ship) (x ∷ ks) (x ∷ k ∷ ks)) (λ ys. rising ys ≡ true)
    (λ t. and_from (past k.ship (placed x ks)) (rising (placed x ks)) (past_placed k.ship x ks t p.0) ih)
    (λ t. cond_both (eqb k.ship x.ship) (x ∷ ks) (x ∷ k ∷ ks) (λ ys. rising ys ≡ true)
    (λ u. let e : x.ship ≡ k.ship = grind (arith, nat_tests) in and_from (past x.ship ks) (rising ks) (past_same x.ship k.ship ks e p.0) p.1)
    (λ u. let l : ltb x.ship k.ship ≡ true = grind (arith, nat_tests) in and_from (past x.ship (k ∷ ks)) (rising (k ∷ ks)) l r))

pub rising_slots : (rs : List Written) → rising (slots rs) ≡ true
rising_slots [] = refl
rising_slots (floor_is f ∷ rs) = rising_slots rs
rising_slots (level_is k ∷ rs) = rising_slots rs
rising_slots (word_is b n u ∷ rs) = rising_placed (slot b n u) (slots rs) (rising_slots rs)
rising_slots (boat_is b f ∷ rs) = rising_slots rs
rising_slots (used_to n ∷ rs) = rising_slots rs

-- what is past all is not there
no_slot : (n m : ℕ) (ks : List Kept) → n ≤ m → past m ks ≡ true → rising ks ≡ true → slot_of n ks ≡ None
no_slot n m [] l p r = refl
no_slot n m (k ∷ ks) l p r =
    let q : (past k.ship ks ≡ true) × (rising ks ≡ true) = and_parts (past k.ship ks) (rising ks) r in
    let g : m < k.ship = ltb-true m k.ship p in
    let e : eqb k.ship n ≡ false = grind (arith, nat_tests) in
    cond-false (eqb k.ship n) (Some k) (slot_of n ks) e ∙ no_slot n k.ship ks (omega (arith, l, g)) q.0 q.1

-- a ship that has a slot takes no other; any takes one at most
pub size_known : (x : Kept) (ks : List Kept) → rising ks ≡ true → is_some (slot_of x.ship ks) ≡ true → length (placed x ks) ≡ length ks
size_known x [] r h = let z : ◌≡◌ {A = ℕ} 0 1 = cc in absurd (omega arith)
size_known x (k ∷ ks) r h =
    let p : (past k.ship ks ≡ true) × (rising ks ≡ true) = and_parts (past k.ship ks) (rising ks) r in
    cond_both (ltb k.ship x.ship) (k ∷ placed x ks) (cond (eqb k.ship x.ship) (x ∷ ks) (x ∷ k ∷ ks)) (λ ys. length ys ≡ length (k ∷ ks))
    (λ t. let e : eqb k.ship x.ship ≡ false = grind (arith, nat_tests) in
    let s : is_some (slot_of x.ship ks) ≡ true = sym (ap is_some (cond-false (eqb k.ship x.ship) (Some k) (slot_of x.ship ks) e)) ∙ h in
    omega (arith, size_known x ks p.1 s))
    (λ t. cond_both (eqb k.ship x.ship) (x ∷ ks) (x ∷ k ∷ ks) (λ ys. length ys ≡ length (k ∷ ks))
    (λ u. refl)
    (λ u. let l : x.ship ≤ k.ship = grind (arith, nat_tests) in
    let none : slot_of x.ship (k ∷ ks) ≡ None = cond-false (eqb k.ship x.ship) (Some k) (slot_of x.ship ks) u ∙ no_slot x.ship k.ship ks l p.0 p.1 in
    absurd (true≢false (sym h ∙ ap is_some none))))

pub size_new : (x : Kept) (ks : List Kept) → length (placed x ks) ≤ suc (length ks)
size_new x [] = omega arith
size_new x (k ∷ ks) =
    cond_both (ltb k.ship x.ship) (k ∷ placed x ks) (cond (eqb k.ship x.ship) (x ∷ ks) (x ∷ k ∷ ks)) (λ ys. length ys ≤ suc (length (k ∷ ks)))
    (λ t. omega (arith, size_new x ks)) (λ t. cond_both (eqb k.ship x.ship) (x ∷ ks) (x ∷ k ∷ ks) (λ ys. length ys ≤ suc (length (k ∷ ks))) (λ u. omega arith) (λ u. omega arith))

-- what is forgotten takes no place
pub slot_forgotten : (n : ℕ) (ks : List Kept) → is_some (slot_of n (map forgotten ks)) ≡ is_some (slot_of n ks)
slot_forgotten n [] = refl
slot_forgotten n (k ∷ ks) = go (eqb k.ship n) (slot_forgotten n ks)
  where
    go : (t : Bool) → is_some (slot_of n (map forgotten ks)) ≡ is_some (slot_of n ks) → is_some (cond t (Some (forgotten k)) (slot_of n (map forgotten ks))) ≡ is_some (cond t (Some k) (slot_of n ks))
    go true r = refl
    go false r = r

-- where there is a slot or room, all is within bounds
pub size_within : (x : Kept) (ks : List Kept) → rising ks ≡ true → length ks ≤ 4096 → not (is_some (slot_of x.ship ks)) && leb 4096 (length ks) ≡ false → length (placed x ks) ≤ 4096
size_within x ks r l h = go (is_some (slot_of x.ship ks)) refl h
  where
    go : (t : Bool) → is_some (slot_of x.ship ks) ≡ t → not t && leb 4096 (length ks) ≡ false → length (placed x ks) ≤ 4096
    go true e h = omega (arith, size_known x ks r e)
    go false e h = omega (arith, size_new x ks, leb-false 4096 (length ks) h)
