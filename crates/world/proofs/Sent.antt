-- What was ever sent.
-- Assumes nothing.
use Rattle.std.proofs.Common.{◌≡◌, ℕ, zero, suc, ◌<◌, ◌⊎◌, List, [], ◌∷◌, ◌++◌, length, get_or, refl, ap, inl, inr, le_of_suc-le-suc, not-suc-le-zero}
use mathlib.Core.List.Memᴰ
use mathlib.Core.List.{Memᴰ}
use Rattle.world.specs.Abstract.{back}

mem_acc : {A B : Type 0} (f : A → B) (y : B) (xs : List A) (acc : List B) → Memᴰ y acc → Memᴰ y (back f xs acc)
mem_acc f y [] acc h = h
mem_acc f y (x ∷ xs) acc h = mem_acc f y xs (f x ∷ acc) (Memᴰ.tail h)

-- what stands at a place was sent
pub mem_at : {A : Type 0} (xs : List A) (i : ℕ) (d : A) → i < length xs → Memᴰ (get_or xs i d) xs
mem_at [] i d l = absurd (not-suc-le-zero l)
mem_at (x ∷ xs) zero d l = Memᴰ.head refl
mem_at (x ∷ xs) (suc i) d l = Memᴰ.tail (mem_at xs i d (le_of_suc-le-suc l))

pub mem_back : {A B : Type 0} (f : A → B) (x : A) (xs : List A) (acc : List B) → Memᴰ x xs → Memᴰ (f x) (back f xs acc)
mem_back f x [] acc at = absurd (Memᴰ.not-nil at)
mem_back f x (y ∷ ys) acc at = go (Memᴰ.cases_cons at) (λ h. mem_back f x ys (f y ∷ acc) h)
  where
    go : (x ≡ y) ⊎ Memᴰ x ys → (Memᴰ x ys → Memᴰ (f x) (back f ys (f y ∷ acc))) → Memᴰ (f x) (back f ys (f y ∷ acc))
    go (inl e) r = mem_acc f (f x) ys (f y ∷ acc) (Memᴰ.head (ap f e))
    go (inr h) r = r h

-- one more at the end
pub mem_push : {A : Type 0} (x y : A) (xs : List A) → Memᴰ y (xs ++ x ∷ []) → Memᴰ y xs ⊎ (y ≡ x)
mem_push x y [] at = go (Memᴰ.cases_cons at)
  where
    go : (y ≡ x) ⊎ Memᴰ y [] → Memᴰ y [] ⊎ (y ≡ x)
    go (inl e) = inr e
    go (inr h) = inl h
mem_push x y (z ∷ zs) at = go (Memᴰ.cases_cons at) (λ h. mem_push x y zs h)
  where
    go : (y ≡ z) ⊎ Memᴰ y (zs ++ x ∷ []) → (Memᴰ y (zs ++ x ∷ []) → Memᴰ y zs ⊎ (y ≡ x)) → Memᴰ y (z ∷ zs) ⊎ (y ≡ x)
    go (inl e) r = inl (Memᴰ.head e)
    go (inr h) r = elim (r h) [ inl m ↦ inl (Memᴰ.tail m) | inr e ↦ inr e ]
