-- What the harbour's journal has of each boat.
-- Assumes nothing.
use Rattle.std.proofs.Common.{◌≡◌, ℕ, ◌≤◌, max, Bool, true, false, cond, eqb, List, [], ◌∷◌, is_some, Some, None, Option, unwrap_or, sym, refl, ap, ◌∙◌, subst, inl, inr, arith}
use Rattle.std.proofs.lemmas.Bool.{cond-true, cond-false, eq-eqb, eqb-true, cases_Bool}
use Rattle.std.proofs.lemmas.Bool.Decides.{nat_tests}
use Rattle.ledger.specs.Entries.{Entry, floor_of, entered, admitted}
use Rattle.ledger.proofs.Books.{raised_by, floor_heard, floor_entered}
use Rattle.records.specs.Records.{Written, floor_is, level_is, word_is, boat_is, used_to}
use Rattle.stations.specs.Journals.{boats}
use Rattle.runs.specs.Promises.{Listed, heard_of}
use Rattle.runs.proofs.Parts.{Part, same, more}

floor_admitted : (j b : ℕ) (es : List Entry) → floor_of j (admitted b es) ≡ cond (is_some (floor_of b es)) (floor_of j es) (cond (eqb b j) (Some 1) (floor_of j es))
floor_admitted j b es = go (is_some (floor_of b es))
  where
    go : (t : Bool) → floor_of j (cond t es (entered b es)) ≡ cond t (floor_of j es) (cond (eqb b j) (Some 1) (floor_of j es))
    go true = refl
    go false = floor_entered j b es

-- o: what the older records have of boat b
abbrev known : ℕ → Option ℕ → Option ℕ
known f None = Some (max 1 f)
known f (Some n) = Some (max n f)

-- one record more: its boat is known with it, and of another nothing changes
pub boat_here : (b f : ℕ) (rs : List Written) → floor_of b (boats (boat_is b f ∷ rs)) ≡ known f (floor_of b (boats rs))
boat_here b f rs =
    floor_heard b b f (admitted b (boats rs)) ∙ cond-true (eqb b b) _ _ (eq-eqb b b refl) ∙ ap (raised_by f) (floor_admitted b b (boats rs) ∙ ap (λ t. cond (is_some (floor_of b (boats rs))) (floor_of b (boats rs)) (cond t (Some 1) (floor_of b (boats rs)))) (eq-eqb b b refl)) ∙ go (floor_of b (boats rs))
  where
    go : (o : Option ℕ) → raised_by f (cond (is_some o) o (Some 1)) ≡ known f o
    go None = refl
    go (Some n) = refl

pub boat_apart : (j b f : ℕ) (rs : List Written) → eqb b j ≡ false → eqb j b ≡ false → floor_of j (boats (boat_is b f ∷ rs)) ≡ floor_of j (boats rs)
boat_apart j b f rs t u =
    floor_heard j b f (admitted b (boats rs)) ∙ cond-false (eqb j b) _ _ u ∙ floor_admitted j b (boats rs) ∙ ap (λ t. cond (is_some (floor_of b (boats rs))) (floor_of j (boats rs)) (cond t (Some 1) (floor_of j (boats rs)))) t ∙ go (is_some (floor_of b (boats rs)))
  where
    go : (t : Bool) → cond t (floor_of j (boats rs)) (floor_of j (boats rs)) ≡ floor_of j (boats rs)
    go true = refl
    go false = refl

-- the highest promise of its boat
pub heard_here : (b f : ℕ) (rs : List Written) → heard_of (boat_is b f ∷ rs) b ≡ max f (heard_of rs b)
heard_here b f rs = ap (λ o. unwrap_or o 1) (boat_here b f rs) ∙ go (floor_of b (boats rs))
  where
    go : (o : Option ℕ) → unwrap_or (known f o) 1 ≡ max f (unwrap_or o 1)
    go None = omega arith
    go (Some n) = omega arith

pub heard_apart : (j b f : ℕ) (rs : List Written) → eqb b j ≡ false → heard_of (boat_is b f ∷ rs) j ≡ heard_of rs j
heard_apart j b f rs t = let u : eqb j b ≡ false = grind (arith, nat_tests) in ap (λ o. unwrap_or o 1) (boat_apart j b f rs t u)

-- by cases: its boat or another
pub heard_both : (P : ℕ → Type 0) (j b f : ℕ) (rs : List Written) → (b ≡ j → P (max f (heard_of rs j))) → (eqb b j ≡ false → P (heard_of rs j)) → P (heard_of (boat_is b f ∷ rs) j)
heard_both P j b f rs here apart =
    elim (cases_Bool (eqb b j)) [
      | inl t ↦ (let e : b ≡ j = eqb-true b j t in subst (λ (c : ℕ). P (heard_of (boat_is c f ∷ rs) j)) (sym e) (subst P (sym (heard_here j f rs)) (here e)))
      | inr t ↦ subst P (sym (heard_apart j b f rs t)) (apart t)
    ]

pub heard_more : (j : ℕ) (r : Written) (rs : List Written) → heard_of rs j ≤ heard_of (r ∷ rs) j
heard_more j (floor_is f) rs = omega arith
heard_more j (level_is k) rs = omega arith
heard_more j (word_is b n u) rs = omega arith
heard_more j (boat_is b f) rs = heard_both (λ n. heard_of rs j ≤ n) j b f rs (λ e. omega arith) (λ t. omega arith)
heard_more j (used_to n) rs = omega arith

-- STABLE: an older part has heard no more
pub heard_up : (j : ℕ) (xs : List Written) {ys : List Written} → Part xs ys → heard_of xs j ≤ heard_of ys j
heard_up j xs same = omega arith
heard_up j xs (more y {ys} p) = omega (arith, heard_up j xs p, heard_more j y ys)

pub heard_least : (j : ℕ) (rs : List Written) → 1 ≤ heard_of rs j
heard_least j [] = omega arith
heard_least j (r ∷ rs) = omega (arith, heard_least j rs, heard_more j r rs)

-- who is on the list
pub listed_apart : (j b f : ℕ) (rs : List Written) → eqb b j ≡ false → Listed (boat_is b f ∷ rs) j → Listed rs j
listed_apart j b f rs t l = let u : eqb j b ≡ false = grind (arith, nat_tests) in sym (ap is_some (boat_apart j b f rs t u)) ∙ l

pub listed_some : (j : ℕ) (rs : List Written) → Listed rs j → floor_of j (boats rs) ≡ Some (heard_of rs j)
listed_some j rs = go (floor_of j (boats rs))
  where
    go : (o : Option ℕ) → is_some o ≡ true → o ≡ Some (unwrap_or o 1)
    go None h = let z : ◌≡◌ {A = ℕ} 0 1 = cc in absurd (omega arith)
    go (Some n) h = refl

pub listed_more : (j : ℕ) (r : Written) (rs : List Written) → Listed rs j → Listed (r ∷ rs) j
listed_more j (floor_is f) rs l = l
listed_more j (level_is k) rs l = l
listed_more j (word_is b n u) rs l = l
listed_more j (boat_is b f) rs l =
    elim (cases_Bool (eqb b j)) [
      | inl t ↦ (let e : b ≡ j = eqb-true b j t in subst (λ (c : ℕ). Listed (boat_is c f ∷ rs) j) (sym e) (ap is_some (boat_here j f rs) ∙ go (floor_of j (boats rs))))
      | inr t ↦ (let u : eqb j b ≡ false = grind (arith, nat_tests) in ap is_some (boat_apart j b f rs t u) ∙ l)
    ]
  where
    go : (o : Option ℕ) → is_some (known f o) ≡ true
    go None = refl
    go (Some n) = refl
listed_more j (used_to n) rs l = l

-- STABLE: who is on the list stays on it
pub listed_up : (j : ℕ) (xs : List Written) {ys : List Written} → Part xs ys → Listed xs j → Listed ys j
listed_up j xs same l = l
listed_up j xs (more y {ys} p) l = listed_more j y ys (listed_up j xs p l)
