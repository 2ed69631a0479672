-- One effect more at the end of a row of them; two rows, one after the other.
-- Assumes nothing.
use Rattle.std.proofs.Common.{◌≡◌, ℕ, ◌+◌, ◌<◌, Bool, true, false, List, [], ◌∷◌, ◌++◌, length, get_or, take, drop, vec_items, Vec, sym, refl, ap, ◌∙◌, subst, inl, inr}
use Rattle.std.proofs.lemmas.List.{take_more, drop_more, take-append-drop, map-append}
use Rattle.files.specs.Effects.{Effect, Send}
use Rattle.files.specs.Plans.{Done, Stopped, sends}

module _ {S : Type 0} (did : S → Effect → Bool → S → Type 0) where
  pub done_append : (es fs : List Effect) (s t u : S) → Done did es s t → Done did fs t u → Done did (es ++ fs) s u
  done_append [] fs s t u d e = let P : S → Type 0 = λ x. Done did fs x u in subst P (sym d) e
  done_append (x ∷ es) fs s t u d e = (d.0, d.1, done_append es fs d.0 t u d.2 e)

  pub stopped_append : (es fs : List Effect) (s t u : S) → Done did es s t → Stopped did fs t u → Stopped did (es ++ fs) s u
  stopped_append [] fs s t u d e = let P : S → Type 0 = λ x. Stopped did fs x u in subst P (sym d) e
  stopped_append (x ∷ es) fs s t u d e = inr (d.0, d.1, stopped_append es fs d.0 t u d.2 e)

  -- a stop within the first effects is one of the whole
  pub stopped_early : (es fs : List Effect) (s u : S) → Stopped did es s u → Stopped did (es ++ fs) s u
  stopped_early [] fs s u c = absurd c
  stopped_early (x ∷ es) fs s u c = elim c [ inl e ↦ inl e | inr d ↦ inr (d.0, d.1, stopped_early es fs d.0 u d.2) ]

  module _ {Z : Type 0} where
    -- the message at i was sent too
    pub sends_more : (ms : List (Vec ℕ Z)) (i : ℕ) (m : Vec ℕ Z) (bs : List ℕ) (s t u : S) → i < length ms → m ≡ get_or ms i m → bs ≡ vec_items m → Done did (sends (take i ms)) s t → did t (Send bs) true u → Done did (sends (take (i + 1) ms)) s u
    sends_more ms i m bs s t u l e b d x =
        let P : Effect → Type 0 = λ v. did t v true u in
        let h : did t (Send (vec_items (get_or ms i m))) true u = subst P (ap Send b ∙ ap (λ (v : Vec ℕ Z). Send (vec_items v)) e) x in
        let r = done_append (sends (take i ms)) (Send (vec_items (get_or ms i m)) ∷ []) s t u d (u, h, refl) in
        let Q : List Effect → Type 0 = λ es. Done did es s u in
        subst Q (sym (ap sends (take_more ms i m l) ∙ map-append (λ (v : Vec ℕ Z). Send (vec_items v)) (take i ms) (get_or ms i m ∷ []))) r

    -- the message at i was not, and no later one
    pub sends_stopped : (ms : List (Vec ℕ Z)) (i : ℕ) (m : Vec ℕ Z) (bs : List ℕ) (s t u : S) → i < length ms → m ≡ get_or ms i m → bs ≡ vec_items m → Done did (sends (take i ms)) s t → did t (Send bs) false u → Stopped did (sends ms) s u
    sends_stopped ms i m bs s t u l e b d x =
        let P : Effect → Type 0 = λ v. did t v false u in
        let h : did t (Send (vec_items (get_or ms i m))) false u = subst P (ap Send b ∙ ap (λ (v : Vec ℕ Z). Send (vec_items v)) e) x in
        let rest : List Effect = sends (drop (i + 1) ms) in
        let k : ms ≡ take i ms ++ get_or ms i m ∷ drop (i + 1) ms = sym (take-append-drop i ms) ∙ ap (λ (v : List (Vec ℕ Z)). take i ms ++ v) (drop_more ms i m l) in
        let r = stopped_append (sends (take i ms)) (Send (vec_items (get_or ms i m)) ∷ rest) s t u d (inl h) in
        let Q : List Effect → Type 0 = λ es. Stopped did es s u in
        subst Q (sym (ap sends k ∙ map-append (λ (v : Vec ℕ Z). Send (vec_items v)) (take i ms) (get_or ms i m ∷ drop (i + 1) ms))) r
