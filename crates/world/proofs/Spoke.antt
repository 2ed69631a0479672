-- What holds of the words that were sent, and of those that the boats keep.
-- Assumes nothing.
use Rattle.std.proofs.Common.{◌≡◌, ℕ, ◌≤◌, Bool, true, false, cond, eqb, ltb, ◌⊎◌, List, [], ◌∷◌, ◌++◌, map, length, get_or, set, Some, None, Option, sym, refl, ap, ◌∙◌, subst, inl, inr, arith, get_or-set_other, get_or-set_same}
use mathlib.Core.List.Memᴰ
use mathlib.Core.List.{Memᴰ}
use Rattle.std.proofs.lemmas.List.{set_past}
use Rattle.std.proofs.lemmas.Bool.{cases_eq, cases_lt}
use Rattle.std.proofs.lemmas.Bool.Decides.{nat_tests}
use Rattle.forms.specs.Meaning.{Meaning, Uttered, first, second, third, form_of, put, get, without}
use Rattle.forms.proofs.Laws.{laws}
use Rattle.logbooks.specs.Slots.{Kept, forgotten}
use Rattle.logbooks.specs.Logs.{Log, empty, placed}
use Rattle.protocol.proofs.Puts.{put_each}
use Rattle.world.specs.Worlds.{World, BoatState, Said, place_of, log_at, moored, logged}
use Rattle.world.specs.Abstract.{boat_of, log_in, log_of}
use Rattle.world.specs.Promises.{Above, Once, more}
use Rattle.world.proofs.Abs.{place_of_lem, place_moored, boat_moored}
use Rattle.world.proofs.Sent.{mem_push}

-- no word that is kept is above the level k
abbrev pub Below : ℕ → List Kept → Type 0
Below k ss = (s : Kept) → Memᴰ s ss → form_of s.word ≤ k

-- of the boats, of what they keep, and of the words that were sent
pub record Spoke (boats : ℕ → BoatState) (logs : ℕ → Log) (words : List Said) : Type 0 where
  pub meant : (x : Said) → Memᴰ x words → get x.spoken ≡ without (form_of x.spoken) x.given
  pub numbered : (x : Said) → Memᴰ x words → (1 ≤ x.number) × (x.number ≤ (boats x.from).used)
  pub once : Once words
  pub kept : (b : ℕ) → Below (boats b).standing.level (logs b).slots

-- every form that there is
pub form_bounds : (u : Uttered) → (1 ≤ form_of u) × (form_of u ≤ 3)
form_bounds (first s l b) = (omega arith, omega arith)
form_bounds (second s l b h) = (omega arith, omega arith)
form_bounds (third s l b h n) = (omega arith, omega arith)

pub put_below : (f k : ℕ) (m : Meaning) → f ≤ k → 1 ≤ k → form_of (put f m) ≤ k
put_below f k m h l = grind (arith, nat_tests)

-- a boat is another: its level and its numbers do not fall
log_moored : (w : World) (i : ℕ) (s : BoatState) (j : ℕ) → log_of (moored w i s) j ≡ log_of w j
log_moored w i s j = ap (log_in w) (place_moored w i s j)

pub spoke_moored : (w : World) (b i : ℕ) (s : BoatState) → place_of w b ≡ Some i → (boat_of w b).standing.level ≤ s.standing.level → (boat_of w b).used ≤ s.used → Spoke (boat_of w) (log_of w) w.words → Spoke (boat_of (moored w i s)) (log_of (moored w i s)) w.words
spoke_moored w b i s e lv us k =
    let U : ℕ → BoatState → Type 0 = λ j x. ((boat_of w j).standing.level ≤ x.standing.level) × ((boat_of w j).used ≤ x.used) in
    let up : (j : ℕ) → U j (boat_of (moored w i s) j) = λ j. subst (U j) (sym (boat_moored w b i s e j)) (put_each U b s (boat_of w) (lv, us) (λ j. (omega arith, omega arith)) j) in
    record {
      meant = k.meant;
      numbered = λ x at. ((k.numbered x at).0, omega (arith, k.numbered x at, up x.from));
      once = k.once;
      kept = λ j t at. omega (arith, k.kept j t (subst (λ (l : Log). Memᴰ t l.slots) (log_moored w i s j) at), up j);
    }

-- what a boat keeps is another
pub spoke_logged : (w : World) (b i : ℕ) (l : Log) → place_of w b ≡ Some i → Below (boat_of w b).standing.level l.slots → Spoke (boat_of w) (log_of w) w.words → Spoke (boat_of w) (log_of (logged w i l)) w.words
spoke_logged w b i l e h k = record { meant = k.meant; numbered = k.numbered; once = k.once; kept = λ j. go j (place_of w j) refl (k.kept j) }
  where
    at_other : (j p : ℕ) → place_of w j ≡ Some p → (p ≡ i → ⊥) → Below (boat_of w j).standing.level (log_at w p).slots → Below (boat_of w j).standing.level (get_or (set w.logs i l) p empty).slots
    at_other j p q d h = subst (λ (x : Log). Below (boat_of w j).standing.level x.slots) (sym (get_or-set_other w.logs i p l empty d)) h

    at_same : (j p : ℕ) → place_of w j ≡ Some p → p ≡ i → Below (boat_of w j).standing.level (log_at w p).slots → Below (boat_of w j).standing.level (get_or (set w.logs i l) p empty).slots
    at_same j p q s old =
        let a = place_of_lem w b i e in
        let c = place_of_lem w j p q in
        let same : b ≡ j = omega arith in
        let new : Below (boat_of w j).standing.level l.slots = subst (λ (n : ℕ). Below (boat_of w n).standing.level l.slots) same h in
        subst (λ (n : ℕ). Below (boat_of w j).standing.level (get_or (set w.logs i l) n empty).slots) (sym s) (elim (cases_lt i (length w.logs)) [
          | inl m ↦ subst (λ (x : Log). Below (boat_of w j).standing.level x.slots) (sym (get_or-set_same w.logs i l empty m)) new
          | inr m ↦ subst (λ (ls : List Log). Below (boat_of w j).standing.level (get_or ls i empty).slots) (sym (set_past w.logs i l m)) (subst (λ (n : ℕ). Below (boat_of w j).standing.level (log_at w n).slots) s old)
        ])

    go : (j : ℕ) (o : Option ℕ) → place_of w j ≡ o → Below (boat_of w j).standing.level (log_of w j).slots → Below (boat_of w j).standing.level (log_of (logged w i l) j).slots
    go j None q old = subst (λ (o : Option ℕ). Below (boat_of w j).standing.level (log_in (logged w i l) o).slots) (sym q) (λ s at. absurd (Memᴰ.not-nil at))
    go j (Some p) q old =
        let was : Below (boat_of w j).standing.level (log_at w p).slots = subst (λ (o : Option ℕ). Below (boat_of w j).standing.level (log_in w o).slots) q old in
        subst (λ (o : Option ℕ). Below (boat_of w j).standing.level (log_in (logged w i l) o).slots) (sym q) (elim (cases_eq p i) [ inl s ↦ at_same j p q s was | inr d ↦ at_other j p q d was ])

-- what a fall leaves, and what a word that is taken adds
pub below_fallen : (k : ℕ) (ss : List Kept) → Below k ss → Below k (map forgotten ss)
below_fallen k [] h s at = absurd (Memᴰ.not-nil at)
below_fallen k (t ∷ ts) h s at = go (Memᴰ.cases_cons at) (below_fallen k ts (λ x m. h x (Memᴰ.tail m)))
  where
    go : (s ≡ forgotten t) ⊎ Memᴰ s (map forgotten ts) → Below k (map forgotten ts) → form_of s.word ≤ k
    go (inl e) r = subst (λ (x : Kept). form_of x.word ≤ k) (sym e) (h t (Memᴰ.head refl))
    go (inr m) r = r s m

pub below_placed : (k : ℕ) (x : Kept) (ss : List Kept) → form_of x.word ≤ k → Below k ss → Below k (placed x ss)
below_placed k x [] f h s at = only (Memᴰ.cases_cons at)
  where
    only : (s ≡ x) ⊎ Memᴰ s [] → form_of s.word ≤ k
    only (inl e) = subst (λ (y : Kept). form_of y.word ≤ k) (sym e) f
    only (inr m) = absurd (Memᴰ.not-nil m)
below_placed k x (t ∷ ts) f h u on = go (ltb t.ship x.ship) (eqb t.ship x.ship) (below_placed k x ts f (λ y m. h y (Memᴰ.tail m))) u on
  where
    cons : (y : Kept) (ys : List Kept) → form_of y.word ≤ k → Below k ys → Below k (y ∷ ys)
    cons y ys a b s at = elim (Memᴰ.cases_cons at) [ inl e ↦ subst (λ (z : Kept). form_of z.word ≤ k) (sym e) a | inr m ↦ b s m ]

    go : (p q : Bool) → Below k (placed x ts) → Below k (cond p (t ∷ placed x ts) (cond q (x ∷ ts) (x ∷ t ∷ ts)))
    go true q r = cons t (placed x ts) (h t (Memᴰ.head refl)) r
    go false true r = cons x ts f (λ y m. h y (Memᴰ.tail m))
    go false false r = cons x (t ∷ ts) f h

-- a word more was sent
pub spoke_spoken : (boats : ℕ → BoatState) (logs : ℕ → Log) (words : List Said) (x : Said) → Spoke boats logs words → get x.spoken ≡ without (form_of x.spoken) x.given → (1 ≤ x.number) × (x.number ≤ (boats x.from).used) → Above words x → Spoke boats logs (words ++ x ∷ [])
spoke_spoken boats logs words x k m n a =
    record {
      meant = λ y at. elim (mem_push x y words at) [ inl h ↦ k.meant y h | inr e ↦ subst (λ (z : Said). get z.spoken ≡ without (form_of z.spoken) z.given) (sym e) m ];
      numbered = λ y at. elim (mem_push x y words at) [ inl h ↦ k.numbered y h | inr e ↦ subst (λ (z : Said). (1 ≤ z.number) × (z.number ≤ (boats z.from).used)) (sym e) n ];
      once = more x k.once a;
      kept = k.kept;
    }

-- a word put into a form that there is means itself, less what that form leaves out
pub put_meant : (f : ℕ) (m : Meaning) → 1 ≤ f → f ≤ 3 → get (put f m) ≡ without (form_of (put f m)) m
put_meant f m l h = laws.set_so f m ∙ ap (λ g. without g m) (sym (laws.kept f m l h))
