-- Older parts of a journal, and what they have; a property of each element of a list.
-- Assumes nothing.
use Rattle.std.proofs.Common.{◌≡◌, ℕ, zero, suc, ◌≤◌, eqb, ◌⊎◌, List, [], ◌∷◌, ◌++◌, take, drop, sym, refl, subst, inl, inr, arith}
use mathlib.Core.List.Memᴰ
use mathlib.Core.List.{Memᴰ}
use Rattle.std.proofs.lemmas.Bool.{cond_both, cond-true, eq-eqb, eqb-true}
use Rattle.records.specs.Records.{Written}
use Rattle.stations.specs.Journals.{top}
use Rattle.runs.specs.Worlds.{put_at}

pub put_each : {A : Type 0} (P : ℕ → A → Type 0) (i : ℕ) (x : A) (f : ℕ → A) → P i x → ((j : ℕ) → P j (f j)) → (j : ℕ) → P j (put_at i x f j)
put_each P i x f here there j = cond_both (eqb j i) x (f j) (P j) (λ e. subst (λ (k : ℕ). P k x) (sym (eqb-true j i e)) here) (λ e. there j)

pub put_here : {A : Type 0} (i : ℕ) (x : A) (f : ℕ → A) → put_at i x f i ≡ x
put_here i x f = cond-true (eqb i i) x (f i) (eq-eqb i i refl)

-- xs is the older part of ys
pub data Part (xs : List Written) : List Written → Type 0 where
  same : Part xs xs
  more : (y : Written) {ys : List Written} → Part xs ys → Part xs (y ∷ ys)

pub part_then : (xs ys : List Written) {zs : List Written} → Part xs ys → Part ys zs → Part xs zs
part_then xs ys p same = p
part_then xs ys p (more y q) = more y (part_then xs ys p q)

pub part_behind : (zs xs : List Written) → Part xs (zs ++ xs)
part_behind [] xs = same
part_behind (z ∷ zs) xs = more z (part_behind zs xs)

pub part_append : (rs ps xs : List Written) → Part (ps ++ xs) ((rs ++ ps) ++ xs)
part_append [] ps xs = same
part_append (r ∷ rs) ps xs = more r (part_append rs ps xs)

pub part_drop : (n : ℕ) (ps xs : List Written) → Part (drop n ps ++ xs) (ps ++ xs)
part_drop zero [] xs = same
part_drop (suc n) [] xs = same
part_drop zero (p ∷ ps) xs = same
part_drop (suc n) (p ∷ ps) xs = more p (part_drop n ps xs)

-- a part is what is left without some of the newest
pub part_lost : (xs : List Written) {ys : List Written} → Part xs ys → (n : ℕ) × (xs ≡ drop n ys)
part_lost xs same = (zero, drop_none xs)
  where
    drop_none : (zs : List Written) → zs ≡ drop zero zs
    drop_none [] = refl
    drop_none (z ∷ zs) = refl
part_lost xs (more y p) = (suc (part_lost xs p).0, (part_lost xs p).1)

-- a part has no more of anything
pub part_top : (d : ℕ) (v : Written → ℕ) (xs : List Written) {ys : List Written} → Part xs ys → top d v xs ≤ top d v ys
part_top d v xs same = omega arith
part_top d v xs (more y {ys} p) = omega (arith, part_top d v xs p)

-- each record is lawful over the older ones
abbrev pub Lawful : (Written → List Written → Type 0) → List Written → Type 0
Lawful P [] = Unit {0}
Lawful P (r ∷ rs) = P r rs × Lawful P rs

pub part_lawful : (P : Written → List Written → Type 0) (xs : List Written) {ys : List Written} → Part xs ys → Lawful P ys → Lawful P xs
part_lawful P xs same h = h
part_lawful P xs (more y p) h = part_lawful P xs p h.1

-- of each element
abbrev pub Each : {A : Type 0} → (A → Type 0) → List A → Type 0
Each P [] = Unit {0}
Each P (x ∷ xs) = P x × Each P xs

pub each_map : {A : Type 0} (P Q : A → Type 0) (xs : List A) → ((x : A) → P x → Q x) → Each P xs → Each Q xs
each_map P Q [] f h = tt
each_map P Q (x ∷ xs) f h = (f x h.0, each_map P Q xs f h.1)

pub each_both : {A : Type 0} (P : A → Type 0) (xs ys : List A) → Each P xs → Each P ys → Each P (xs ++ ys)
each_both P [] ys g h = h
each_both P (x ∷ xs) ys g h = (g.0, each_both P xs ys g.1 h)

pub each_take : {A : Type 0} (P : A → Type 0) (n : ℕ) (xs : List A) → Each P xs → Each P (take n xs)
each_take P zero [] h = tt
each_take P (suc n) [] h = tt
each_take P zero (x ∷ xs) h = tt
each_take P (suc n) (x ∷ xs) h = (h.0, each_take P n xs h.1)

pub each_of : {A : Type 0} (P : A → Type 0) (xs : List A) → Each P xs → (x : A) → Memᴰ x xs → P x
each_of P [] h x at = absurd (Memᴰ.not-nil at)
each_of P (y ∷ ys) h x at = go (Memᴰ.cases_cons at) (each_of P ys h.1 x)
  where
    go : (x ≡ y) ⊎ Memᴰ x ys → (Memᴰ x ys → P x) → P x
    go (inl e) f = subst P (sym e) h.0
    go (inr r) f = f r
