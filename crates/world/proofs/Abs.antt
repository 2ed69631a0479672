-- What the outcomes are in the abstract fleet.
-- Assumes nothing.
use Rattle.std.proofs.Common.{◌≡◌, ℕ, ◌-◌, ◌<◌, ◌≤◌, max, Bool, true, false, cond, ◌&&◌, eqb, ltb, leb, List, [], ◌∷◌, ◌++◌, length, Some, None, Option, sym, refl, ap, ◌∙◌, inl, inr, arith, length-set, get_or-set_other, get_or-set_same}
use mathlib.Core.Path.{fun_ext}
use Rattle.std.proofs.lemmas.Bool.{eq-eqb, ne_eqb, leb-true, ltb-true, ltb-false, and_parts, cond-true, cond-false, cond_both, cases_eq}
use Rattle.protocol.specs.Order.{higher}
use Rattle.protocol.specs.Fleet.{Machine, put}
use Rattle.protocol.specs.Fleet as fleet
use Rattle.world.specs.declared.messages.Notice.{Notice}
use Rattle.world.specs.Worlds.{World, Said, BoatState, fresh, place_of, moored, noticed, spoken}
use Rattle.world.specs.Abstract.{seen, boat_of, machine_of, word_of, notice_of, back, abs}

pub higher_max : (a b : ℕ) → max a b ≡ higher a b
higher_max a b = cond_both (ltb a b) b a (λ x. max a b ≡ x) (λ e. omega (arith, ltb-true a b e)) (λ e. omega (arith, ltb-false a b e))

-- what a place says of the boat's number
pub place_of_lem : (w : World) (b i : ℕ) → place_of w b ≡ Some i → (1 ≤ b) × (b ≤ length w.boats) × (i ≡ b - 1)
place_of_lem w b i e = go (leb 1 b && leb b (length w.boats)) refl e
  where
    go : (t : Bool) → (leb 1 b && leb b (length w.boats)) ≡ t → cond t (Some (b - 1)) None ≡ Some i → (1 ≤ b) × (b ≤ length w.boats) × (i ≡ b - 1)
    go true q m =
        let p : (leb 1 b ≡ true) × (leb b (length w.boats) ≡ true) = and_parts (leb 1 b) (leb b (length w.boats)) q in
        let d : i ≡ b - 1 = cc in
        (leb-true 1 b p.0, leb-true b (length w.boats) p.1, d)
    go false q m = let z : ◌≡◌ {A = ℕ} 0 1 = cc in absurd (omega arith)

pub place_moored : (w : World) (i : ℕ) (s : BoatState) (j : ℕ) → place_of (moored w i s) j ≡ place_of w j
place_moored w i s j =
    let F : ℕ → Option ℕ = λ n. cond (leb 1 j && leb j n) (Some (j - 1)) None in
    ap F (length-set w.boats i s)

-- the boat with a number is another, and no other is
pub boat_moored : (w : World) (b i : ℕ) (s : BoatState) → place_of w b ≡ Some i → (j : ℕ) → boat_of (moored w i s) j ≡ put b s (boat_of w) j
boat_moored w b i s e j =
    let p : (1 ≤ b) × (b ≤ length w.boats) × (i ≡ b - 1) = place_of_lem w b i e in
    ap (seen (moored w i s)) (place_moored w i s j) ∙ elim (cases_eq j b) [ inl q ↦ here p q | inr d ↦ there (place_of w j) refl p d ]
  where
    here : (1 ≤ b) × (b ≤ length w.boats) × (i ≡ b - 1) → j ≡ b → seen (moored w i s) (place_of w j) ≡ put b s (boat_of w) j
    here p q =
        let l : i < length w.boats = omega arith in
        ap (λ n. seen (moored w i s) (place_of w n)) q ∙ ap (seen (moored w i s)) e ∙ get_or-set_same w.boats i s fresh l ∙ sym (cond-true (eqb j b) s (boat_of w j) (eq-eqb j b q))

    there : (o : Option ℕ) → place_of w j ≡ o → (1 ≤ b) × (b ≤ length w.boats) × (i ≡ b - 1) → (j ≡ b → ⊥) → seen (moored w i s) (place_of w j) ≡ put b s (boat_of w) j
    there None q p d = ap (seen (moored w i s)) q ∙ ap (seen w) (sym q) ∙ sym (cond-false (eqb j b) s (boat_of w j) (ne_eqb j b d))
    there (Some k) q p d =
        let r : (1 ≤ j) × (j ≤ length w.boats) × (k ≡ j - 1) = place_of_lem w j k q in
        let n : k ≡ i → ⊥ = λ h. d (omega arith) in
        ap (seen (moored w i s)) q ∙ get_or-set_other w.boats i k s fresh n ∙ ap (seen w) (sym q) ∙ sym (cond-false (eqb j b) s (boat_of w j) (ne_eqb j b d))

put_through : {A B : Type 0} (f : A → B) (b : ℕ) (x : A) (g : ℕ → A) (j : ℕ) → f (put b x g j) ≡ put b (f x) (λ k. f (g k)) j
put_through f b x g j = go (eqb j b)
  where
    go : (t : Bool) → f (cond t x (g j)) ≡ cond t (f x) (f (g j))
    go true = refl
    go false = refl

pub abs_moored : (crew : List ℕ) (w : World) (b i : ℕ) (s : BoatState) → place_of w b ≡ Some i → abs crew (moored w i s) ≡ fleet.machined (abs crew w) b (machine_of s.standing)
abs_moored crew w b i s e =
    let F : (ℕ → Machine ℕ) → fleet.World ℕ = λ m. record { machine = m; listed = crew; heard = (abs crew w).heard; said = w.harbour.said; words = (abs crew w).words; notices = (abs crew w).notices } in
    let M : BoatState → Machine ℕ = λ x. machine_of x.standing in
    ap F (fun_ext (λ j. ap M (boat_moored w b i s e j) ∙ put_through M b s (boat_of w) j))

-- what was sent last comes first
pub back_push : {A B : Type 0} (f : A → B) (xs : List A) (x : A) (acc : List B) → back f (xs ++ x ∷ []) acc ≡ f x ∷ back f xs acc
back_push f [] x acc = refl
back_push f (y ∷ ys) x acc = back_push f ys x (f y ∷ acc)

pub abs_noticed : (crew : List ℕ) (w : World) (n : Notice) → abs crew (noticed w n) ≡ fleet.noticed (abs crew w) (notice_of n)
abs_noticed crew w n =
    let F : List (fleet.Notice ℕ) → fleet.World ℕ = λ ns. record { machine = (abs crew w).machine; listed = crew; heard = (abs crew w).heard; said = w.harbour.said; words = (abs crew w).words; notices = ns } in
    ap F (back_push notice_of w.notices n [])

pub abs_spoken : (crew : List ℕ) (w : World) (x : Said) → abs crew (spoken w x) ≡ fleet.talked (abs crew w) (word_of x)
abs_spoken crew w x =
    let F : List (fleet.Word ℕ) → fleet.World ℕ = λ ws. record { machine = (abs crew w).machine; listed = crew; heard = (abs crew w).heard; said = w.harbour.said; words = ws; notices = (abs crew w).notices } in
    ap F (back_push word_of w.words x [])
