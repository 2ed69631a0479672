-- What a boat's program knows after a step is what its file then says.
-- Assumes nothing.
use Rattle.std.proofs.Common.{◌≡◌, ℕ, ◌+◌, ◌<◌, ◌≤◌, min, max, Bool, true, false, cond, not, ◌&&◌, eqb, ltb, leb, ◌⊎◌, List, [], ◌∷◌, ◌++◌, map, length, is_some, Some, None, Ok, Err, Option, sym, refl, ap, ◌∙◌, subst, inl, inr, arith}
use mathlib.Core.Path.{fun_ext}
use Rattle.std.proofs.lemmas.Bool.{cond_both, cond-true, cond-false, eqb-true, ltb-true, ltb-false, leb-false, and_parts, cases_Bool}
use Rattle.std.proofs.lemmas.Bool.Decides.{nat_tests}
use Rattle.levels.specs.Verdicts.{Number}
use Rattle.levels.specs.Rules.{Boat, keep_form}
use Rattle.levels.specs.Standings.{promised, raised}
use Rattle.forms.specs.Meaning.{Uttered, first, second, third, form_of, ship_of, put, get}
use Rattle.logbooks.specs.Slots.{Kept, keeping, forgotten}
use Rattle.logbooks.specs.Logs.{Log, placed, slot_of, slot, higher, older, noted, entered, taking, fallen}
use Rattle.records.specs.Records.{Written, floor_is, level_is, word_is, used_to}
use Rattle.stations.specs.Journals as journal
use Rattle.stations.specs.Journals.{floor, level, used, last, slots, number_in}
use Rattle.stations.specs.Boats as boats
use Rattle.stations.specs.Boats.{Memory, settled, recalled, vowed, counted, lifted, kept_as}

-- program p knows what the records say
abbrev pub Same : Memory → ℕ → List Written → Type 0
Same m p rs = settled m ≡ settled (recalled p rs)

pub same_standing : (m : Memory) (p : ℕ) (rs : List Written) → Same m p rs → m.standing ≡ record { program = p; floor = floor rs; level = level rs }
same_standing m p rs e = ap (λ (x : Memory). x.standing) e

pub same_used : (m : Memory) (p : ℕ) (rs : List Written) → Same m p rs → m.used ≡ used rs
same_used m p rs e = ap (λ (x : Memory). x.used) e

same_log : (m : Memory) (p : ℕ) (rs : List Written) → Same m p rs → fallen m.log ≡ fallen (journal.log rs)
same_log m p rs e = ap (λ (x : Memory). x.log) e

-- a memory that is settled, by its parts
abbrev still : Boat → ℕ → Log → Memory
still s n l = record { standing = s; answered = false; used = n; log = l }

pub same_vowed : (m : Memory) (p : ℕ) (rs : List Written) → Same m p rs → floor rs ≤ p → Same (vowed m) p (cond (ltb m.standing.floor m.standing.program) (floor_is m.standing.program ∷ []) [] ++ rs)
same_vowed m p rs e low =
    let s : m.standing ≡ record { program = p; floor = floor rs; level = level rs } = same_standing m p rs e in
    cond_both (ltb m.standing.floor m.standing.program) (floor_is m.standing.program ∷ []) [] (λ xs. Same (vowed m) p (xs ++ rs))
    (λ t. let l : m.standing.floor < m.standing.program = ltb-true _ _ t in
    let q : m.standing.program ≡ p = ap (λ (b : Boat). b.program) s in
    let up : floor (floor_is m.standing.program ∷ rs) ≡ p = omega (arith, q, low) in
    let lv : level (floor_is m.standing.program ∷ rs) ≡ level rs = omega arith in
    let us : used (floor_is m.standing.program ∷ rs) ≡ used rs = omega arith in
    let F : ℕ → ℕ → Boat = λ f k. record { program = p; floor = f; level = k } in
    let st : promised m.standing ≡ F p (level rs) = ap promised s in
    ap (λ (b : Boat). still b m.used (fallen m.log)) (st ∙ ap (λ f. F f (level rs)) (sym up) ∙ ap (F (floor (floor_is m.standing.program ∷ rs))) (sym lv)) ∙ ap (λ n. still (F (floor (floor_is m.standing.program ∷ rs)) (level (floor_is m.standing.program ∷ rs))) n (fallen m.log)) (same_used m p rs e ∙ sym us) ∙ ap (still _ _) (same_log m p rs e))
    (λ t. let l : m.standing.program ≤ m.standing.floor = ltb-false _ _ t in
    let q : m.standing.program ≡ p = ap (λ (b : Boat). b.program) s in
    let g : m.standing.floor ≡ floor rs = ap (λ (b : Boat). b.floor) s in
    let up : p ≡ floor rs = omega (arith, q, g, low, l) in
    let F : ℕ → Boat = λ f. record { program = p; floor = f; level = level rs } in
    ap (λ (b : Boat). still b m.used (fallen m.log)) (ap promised s ∙ ap F up) ∙ ap (λ n. still (F (floor rs)) n (fallen m.log)) (same_used m p rs e) ∙ ap (still (F (floor rs)) (used rs)) (same_log m p rs e))

pub same_counted : (m : Memory) (p : ℕ) (rs : List Written) → Same m p rs → Same (counted m) p (used_to (m.used + 1) ∷ rs)
same_counted m p rs e =
    let n : m.used ≡ used rs = same_used m p rs e in
    let F : ℕ → ℕ → Boat = λ f k. record { program = p; floor = f; level = k } in
    let fl : floor rs ≡ floor (used_to (m.used + 1) ∷ rs) = omega arith in
    let lv : level rs ≡ level (used_to (m.used + 1) ∷ rs) = omega arith in
    let us : m.used + 1 ≡ used (used_to (m.used + 1) ∷ rs) = omega (arith, n) in
    ap (λ (b : Boat). still b (m.used + 1) (fallen m.log)) (same_standing m p rs e ∙ ap (λ f. F f (level rs)) fl ∙ ap (F (floor (used_to (m.used + 1) ∷ rs))) lv) ∙ ap (λ k. still (F (floor (used_to (m.used + 1) ∷ rs)) (level (used_to (m.used + 1) ∷ rs))) k (fallen m.log)) us ∙ ap (still _ _) (same_log m p rs e)

pub same_lifted : (m : Memory) (p k : ℕ) (rs : List Written) → Same m p rs → Same (lifted m k) p (cond (ltb m.standing.level k) (level_is k ∷ []) [] ++ rs)
same_lifted m p k rs e =
    let s : m.standing ≡ record { program = p; floor = floor rs; level = level rs } = same_standing m p rs e in
    let g : m.standing.level ≡ level rs = ap (λ (b : Boat). b.level) s in
    let F : ℕ → ℕ → Boat = λ f j. record { program = p; floor = f; level = j } in
    cond_both (ltb m.standing.level k) (level_is k ∷ []) [] (λ xs. Same (lifted m k) p (xs ++ rs))
    (λ t. let fl : floor rs ≡ floor (level_is k ∷ rs) = omega arith in
    let lv : max (level rs) k ≡ level (level_is k ∷ rs) = omega arith in
    let us : used rs ≡ used (level_is k ∷ rs) = omega arith in
    ap (λ (b : Boat). still b m.used (fallen m.log)) (ap (λ (b : Boat). raised b k) s ∙ ap (λ f. F f (max (level rs) k)) fl ∙ ap (F (floor (level_is k ∷ rs))) lv) ∙ ap (λ n. still (F (floor (level_is k ∷ rs)) (level (level_is k ∷ rs))) n (fallen m.log)) (same_used m p rs e ∙ us) ∙ ap (still _ _) (same_log m p rs e))
    (λ t. let l : k ≤ m.standing.level = ltb-false _ _ t in
    let lv : max (level rs) k ≡ level rs = omega (arith, g, l) in
    ap (λ (b : Boat). still b m.used (fallen m.log)) (ap (λ (b : Boat). raised b k) s ∙ ap (F (floor rs)) lv) ∙ ap (λ n. still (F (floor rs) (level rs)) n (fallen m.log)) (same_used m p rs e) ∙ ap (still _ _) (same_log m p rs e))

-- a word that is put into another form is about the same ship
pub ship_put : (f : ℕ) (u : Uttered) → ship_of (put f (get u)) ≡ ship_of u
ship_put f u = cond_both (leb f 1) _ _ (λ x. ship_of x ≡ ship_of u) (λ t. ships u) (λ t. cond_both (leb f 2) _ _ (λ x. ship_of x ≡ ship_of u) (λ t. ships u) (λ t. ships u))
  where
    ships : (u : Uttered) → (get u).ship ≡ ship_of u
    ships (first s l b) = refl
    ships (second s l b h) = refl
    ships (third s l b h n) = refl

forget_placed : (x : Kept) (ks : List Kept) → map forgotten (placed x ks) ≡ placed (forgotten x) (map forgotten ks)
forget_placed x [] = refl
forget_placed x (k ∷ ks) = go (ltb k.ship x.ship) (eqb k.ship x.ship) (forget_placed x ks)
  where
    go : (s t : Bool) → map forgotten (placed x ks) ≡ placed (forgotten x) (map forgotten ks) → map forgotten (cond s (k ∷ placed x ks) (cond t (x ∷ ks) (x ∷ k ∷ ks))) ≡ cond s (forgotten k ∷ placed (forgotten x) (map forgotten ks)) (cond t (forgotten x ∷ map forgotten ks) (forgotten x ∷ forgotten k ∷ map forgotten ks))
    go true t r = ap (λ xs. forgotten k ∷ xs) r
    go false true r = refl
    go false false r = refl

-- a number that is above the last one is the highest
above_last : (o : Option ℕ) (n : ℕ) → older o n ≡ false → higher (Some n) o ≡ Some n
above_last None n t = refl
above_last (Some m) n t = let l : m < n = leb-false n m t in ap Some (omega arith)

noted_last : (b n : ℕ) (w u : Uttered) (rs : List Written) → ship_of w ≡ ship_of u → older (last rs b (ship_of u)) n ≡ false → noted (last rs) b (ship_of u) n ≡ last (word_is b n w ∷ rs)
noted_last b n w u rs s t = fun_ext (λ c. fun_ext (λ d. go c d))
  where
    at : (c d : ℕ) → (eqb c b && eqb d (ship_of u) ≡ true) ⊎ (eqb c b && eqb d (ship_of u) ≡ false)
    at c d = cases_Bool (eqb c b && eqb d (ship_of u))

    flip : (c d : ℕ) → eqb b c && eqb (ship_of w) d ≡ eqb c b && eqb d (ship_of u)
    flip c d =
        let e : eqb b c ≡ eqb c b = grind (arith, nat_tests) in
        let g : eqb (ship_of w) d ≡ eqb d (ship_of u) = grind (arith, nat_tests, s) in
        ap (λ x. x && eqb (ship_of w) d) e ∙ ap (λ x. eqb c b && x) g

    go : (c d : ℕ) → noted (last rs) b (ship_of u) n c d ≡ last (word_is b n w ∷ rs) c d
    go c d = elim (at c d) [
      | inl y ↦ (let p : (eqb c b ≡ true) × (eqb d (ship_of u) ≡ true) = and_parts (eqb c b) (eqb d (ship_of u)) y in
          let ec : c ≡ b = eqb-true c b p.0 in
          let ed : d ≡ ship_of u = eqb-true d (ship_of u) p.1 in
          let old : older (last rs c d) n ≡ false = subst (λ (x : ℕ). older (last rs x d) n ≡ false) (sym ec) (subst (λ (x : ℕ). older (last rs b x) n ≡ false) (sym ed) t) in
          cond-true (eqb c b && eqb d (ship_of u)) (Some n) (last rs c d) y ∙ sym (above_last (last rs c d) n old) ∙ ap (λ o. higher o (last rs c d)) (sym (cond-true (eqb b c && eqb (ship_of w) d) (Some n) None (flip c d ∙ y))))
      | inr y ↦ cond-false (eqb c b && eqb d (ship_of u)) (Some n) (last rs c d) y ∙ ap (λ o. higher o (last rs c d)) (sym (cond-false (eqb b c && eqb (ship_of w) d) (Some n) None (flip c d ∙ y)))
    ]

-- what taking gives, where it gives something
pub taken_is : (x : Log) (b n : ℕ) (u : Uttered) (k : ℕ) (l : Log) → taking x b n u k ≡ Ok l → (older (x.lasts b (ship_of u)) n ≡ false) × (not (is_some (slot_of (ship_of u) x.slots)) && leb 4096 (length x.slots) ≡ false) × (l ≡ entered x (keeping b n u k))
taken_is x b n u k l = go (older (x.lasts b (ship_of u)) n) (not (is_some (slot_of (ship_of u) x.slots)) && leb 4096 (length x.slots)) (entered x (keeping b n u k))
  where
    go : (s t : Bool) (y : Log) → cond s (Err (Number 2)) (cond t (Err (Number 6)) (Ok y)) ≡ Ok l → (s ≡ false) × (t ≡ false) × (l ≡ y)
    go true t y e = let z : ◌≡◌ {A = ℕ} 0 1 = cc in absurd (omega arith)
    go false true y e = let z : ◌≡◌ {A = ℕ} 0 1 = cc in absurd (omega arith)
    go false false y e = (refl, refl, cc)

pub same_noted : (m : Memory) (p b n : ℕ) (u : Uttered) (rs : List Written) (l : Log) → Same m p rs → taking m.log b n u (keep_form m.standing (form_of u)) ≡ Ok l → Same (boats.noted m l) p (word_is b n (kept_as m u) ∷ rs)
same_noted m p b n u rs l e q =
    let k : ℕ = keep_form m.standing (form_of u) in
    let t : (older (m.log.lasts b (ship_of u)) n ≡ false) × (not (is_some (slot_of (ship_of u) m.log.slots)) && leb 4096 (length m.log.slots) ≡ false) × (l ≡ entered m.log (keeping b n u k)) = taken_is m.log b n u k l q in
    let g : fallen m.log ≡ fallen (journal.log rs) = same_log m p rs e in
    let ls : m.log.lasts ≡ last rs = ap (λ (x : Log). x.lasts) g in
    let ss : map forgotten m.log.slots ≡ map forgotten (slots rs) = ap (λ (x : Log). x.slots) g in
    let w : Uttered = kept_as m u in
    let ship : ship_of w ≡ ship_of u = ship_put (min (form_of u) k) u in
    let S : ℕ → Kept = λ s. record { ship = s; from = b; number = n; word = w; newer = None } in
    let G : List Kept → (ℕ → ℕ → Option ℕ) → Log = λ a c. record { slots = a; lasts = c } in
    let new : map forgotten (placed (keeping b n u k) m.log.slots) ≡ map forgotten (slots (word_is b n w ∷ rs)) = forget_placed (keeping b n u k) m.log.slots ∙ ap (placed (S (ship_of u))) ss ∙ ap (λ s. placed (S s) (map forgotten (slots rs))) (sym ship) ∙ sym (forget_placed (slot b n w) (slots rs)) in
    let old : older (last rs b (ship_of u)) n ≡ false = subst (λ (f : ℕ → ℕ → Option ℕ). older (f b (ship_of u)) n ≡ false) ls t.0 in
    let num : noted m.log.lasts b (ship_of u) n ≡ last (word_is b n w ∷ rs) = ap (λ (f : ℕ → ℕ → Option ℕ). noted f b (ship_of u) n) ls ∙ noted_last b n w u rs ship old in
    let lg : fallen l ≡ fallen (journal.log (word_is b n w ∷ rs)) = ap fallen t.2 ∙ ap (λ a. G a (noted m.log.lasts b (ship_of u) n)) new ∙ ap (G (map forgotten (slots (word_is b n w ∷ rs)))) num in
    let F : ℕ → ℕ → Boat = λ f j. record { program = p; floor = f; level = j } in
    let fl : floor rs ≡ floor (word_is b n w ∷ rs) = omega arith in
    let lv : level rs ≡ level (word_is b n w ∷ rs) = omega arith in
    let us : used rs ≡ used (word_is b n w ∷ rs) = omega arith in
    ap (λ (x : Boat). still x m.used (fallen l)) (same_standing m p rs e ∙ ap (λ f. F f (level rs)) fl ∙ ap (F (floor (word_is b n w ∷ rs))) lv) ∙ ap (λ j. still (F (floor (word_is b n w ∷ rs)) (level (word_is b n w ∷ rs))) j (fallen l)) (same_used m p rs e ∙ us) ∙ ap (still _ _) lg
