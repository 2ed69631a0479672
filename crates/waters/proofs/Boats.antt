-- One boat of the list is written anew.
-- Assumes nothing.
use Rattle.std.proofs.Common.{◌≡◌, ℕ, zero, suc, ◌+◌, ◌-◌, ◌<◌, true, false, ◌&&◌, ◌++◌, eqb, leb, List, [], ◌∷◌, map, length, get_or, set, vec_items, Ok, Err, Option, Result, sym, refl, ap, subst, ◌∙◌, arith, le_of_suc-le-suc, get_or-set_same, get_or-set_other}
use mathlib.Core.Path.{fun_ext}
use Rattle.std.proofs.lemmas.Bool.{eqb-true, eqb-false, ne_eqb, le-leb, and_from, and_parts, cond-true, cond-false, cond_both}
use Rattle.std.proofs.lemmas.List.{map-set, length-map, length-set, get_or-map}
use Rattle.messages.specs.declared.Message.{Message}
use Rattle.messages.specs.Messages.{Letter, letter}
use Rattle.stations.specs.Deeds.{option}
use Rattle.stations.specs.declared.unheard.Unheard.{Unheard}
use Rattle.stations.specs.Unheards.{turned}
use Rattle.runs.specs.Worlds as worlds
use Rattle.runs.specs.Worlds.{World, fresh, put_at, there}
use Rattle.levels.specs.Verdicts.{Verdict, Number, Bad, Memory}
use Rattle.berths.specs.declared.vessel.Vessel.{Vessel}
use Rattle.berths.specs.Vessels.{vessel_of, call_sign}
use Rattle.waters.specs.Numbers.{numbered}
use Rattle.berths.specs.Calls.{Refuses}
use Rattle.berths.specs.Ports.{port_of}
use Rattle.waters.specs.declared.waters.Waters.{Waters}
use Rattle.waters.specs.Waters.{vessel_at, sent, world, asking, sailed, Obeys}

-- its number is kept
pub numbered_set : (n i : ℕ) (vs : List Vessel) (v u : Vessel) → i < length vs → v ≡ get_or vs i v → call_sign u ≡ call_sign v → numbered n vs ≡ true → numbered n (set vs i u) ≡ true
numbered_set n i [] v u l e s h = absurd (omega arith)
numbered_set n zero (x ∷ xs) v u l e s h =
    ap (λ (c : ℕ). eqb c n && numbered (suc n) xs) (s ∙ ap call_sign e) ∙ h
numbered_set n (suc i) (x ∷ xs) v u l e s h =
    let p : (eqb (call_sign x) n ≡ true) × (numbered (suc n) xs ≡ true) = and_parts (eqb (call_sign x) n) (numbered (suc n) xs) h in
    and_from (eqb (call_sign x) n) (numbered (suc n) (set xs i u)) p.0 (numbered_set (suc n) i xs v u (le_of_suc-le-suc l) e s p.1)

pub sign_at : (n i : ℕ) (vs : List Vessel) (v : Vessel) → i < length vs → v ≡ get_or vs i v → numbered n vs ≡ true → call_sign v ≡ n + i
sign_at n i [] v l e h = absurd (omega arith)
sign_at n zero (x ∷ xs) v l e h =
    let p : (eqb (call_sign x) n ≡ true) × (numbered (suc n) xs ≡ true) = and_parts (eqb (call_sign x) n) (numbered (suc n) xs) h in
    ap call_sign e ∙ eqb-true (call_sign x) n p.0 ∙ omega arith
sign_at n (suc i) (x ∷ xs) v l e h =
    let p : (eqb (call_sign x) n ≡ true) × (numbered (suc n) xs ≡ true) = and_parts (eqb (call_sign x) n) (numbered (suc n) xs) h in
    sign_at (suc n) i xs v (le_of_suc-le-suc l) e p.1 ∙ omega arith

-- boat k + 1 stands at place k
at_place : (vs : List Vessel) (k : ℕ) → vessel_at vs (suc k) ≡ get_or (map vessel_of vs) k fresh
at_place vs k =
    let p : leb 1 (suc k) ≡ true = le-leb 1 (suc k) (omega arith) in
    let m : suc k - 1 ≡ k = omega arith in
    cond-true (leb 1 (suc k)) (get_or (map vessel_of vs) (suc k - 1) fresh) fresh p ∙ ap (λ (j : ℕ). get_or (map vessel_of vs) j fresh) m

written_here : (vs : List Vessel) (i : ℕ) (u : Vessel) → i < length vs → get_or (map vessel_of (set vs i u)) i fresh ≡ vessel_of u
written_here vs i u l =
    let n : i < length (map vessel_of vs) = simp length-map l in
    ap (λ ys. get_or ys i fresh) (map-set vessel_of vs i u) ∙ get_or-set_same (map vessel_of vs) i (vessel_of u) fresh n

written_apart : (vs : List Vessel) (i k : ℕ) (u : Vessel) → (k ≡ i → ⊥) → get_or (map vessel_of (set vs i u)) k fresh ≡ get_or (map vessel_of vs) k fresh
written_apart vs i k u h = ap (λ ys. get_or ys k fresh) (map-set vessel_of vs i u) ∙ get_or-set_other (map vessel_of vs) i k (vessel_of u) fresh h

-- the boats by their numbers, with one of them written anew
pub boats_put : (vs : List Vessel) (i : ℕ) (u : Vessel) → i < length vs → vessel_at (set vs i u) ≡ put_at (suc i) (vessel_of u) (vessel_at vs)
boats_put vs i u l = fun_ext go
  where
    go : (b : ℕ) → vessel_at (set vs i u) b ≡ put_at (suc i) (vessel_of u) (vessel_at vs) b
    go zero =
        let n : 0 ≡ suc i → ⊥ = λ e. omega arith in
        sym (cond-false (eqb 0 (suc i)) (vessel_of u) (vessel_at vs 0) (ne_eqb 0 (suc i) n))
    go (suc k) = at_place (set vs i u) k ∙ cond_both (eqb (suc k) (suc i)) (vessel_of u) (vessel_at vs (suc k)) (λ x. get_or (map vessel_of (set vs i u)) k fresh ≡ x) same apart
      where
        same : eqb (suc k) (suc i) ≡ true → get_or (map vessel_of (set vs i u)) k fresh ≡ vessel_of u
        same e =
            let s : suc k ≡ suc i = eqb-true (suc k) (suc i) e in
            let m : k ≡ i = omega arith in
            ap (λ (j : ℕ). get_or (map vessel_of (set vs i u)) j fresh) m ∙ written_here vs i u l

        apart : eqb (suc k) (suc i) ≡ false → get_or (map vessel_of (set vs i u)) k fresh ≡ vessel_at vs (suc k)
        apart e = written_apart vs i k u (λ m. eqb-false (suc k) (suc i) e (ap suc m)) ∙ sym (at_place vs k)

pub boat_at : (vs : List Vessel) (i : ℕ) (v : Vessel) → i < length vs → v ≡ get_or vs i v → vessel_at vs (suc i) ≡ vessel_of v
boat_at vs i v l e = at_place vs i ∙ get_or-map vessel_of vs i v fresh l ∙ ap vessel_of (sym e)

-- a boat that means the same as before
pub boats_same : (vs : List Vessel) (i : ℕ) (v u : Vessel) → i < length vs → v ≡ get_or vs i v → vessel_of u ≡ vessel_of v → vessel_at (set vs i u) ≡ vessel_at vs
boats_same vs i v u l e s = boats_put vs i u l ∙ fun_ext (λ b. cond_both (eqb b (suc i)) (vessel_of u) (vessel_at vs b) (λ x. x ≡ vessel_at vs b) (λ h. s ∙ sym (boat_at vs i v l e) ∙ ap (vessel_at vs) (sym (eqb-true b (suc i) h))) (λ h. refl))

module _ (w : Waters) (i : ℕ) (v : Vessel) (l : i < length (vec_items w.vessels)) (e : v ≡ get_or (vec_items w.vessels) i v) where
  -- the boats are numbered as before
  pub still_numbered : (u : Vessel) → call_sign u ≡ call_sign v → numbered 1 (set (vec_items w.vessels) i u) ≡ true
  still_numbered u s = numbered_set 1 i (vec_items w.vessels) v u l e s w.numbers

  -- what a boat that is asked for something does, in the world
  pub asked_is : (want : ℕ → worlds.Vessel → Result (List Letter × worlds.Vessel) Verdict) → asking (world w) (suc i) want ≡ sailed (world w) (suc i) (want (call_sign v) (vessel_of v))
  asked_is want =
      let vs : List Vessel = vec_items w.vessels in
      let n : call_sign v ≡ suc i = sign_at 1 i vs v l e w.numbers ∙ omega arith in
      let t : there (world w) (suc i) ≡ true = and_from (leb 1 (suc i)) (leb (suc i) (length vs)) (le-leb 1 (suc i) (omega arith)) (le-leb (suc i) (length vs) (omega arith)) in
      cond-true (there (world w) (suc i)) (sailed (world w) (suc i) (want (suc i) (vessel_at vs (suc i)))) (Err Bad) t
      ∙ ap (λ (y : worlds.Vessel). sailed (world w) (suc i) (want (suc i) y)) (boat_at vs i v l e)
      ∙ ap (λ (c : ℕ). sailed (world w) (suc i) (want c (vessel_of v))) (sym n)

  -- the world with another boat there, and these notices
  abbrev pub with_boat : Vessel → List Message → World
  with_boat u ms = record { count = length (set (vec_items w.vessels) i u); boat = vessel_at (set (vec_items w.vessels) i u); harbour = port_of w.port; words = map sent (vec_items w.words); notices = map letter ms }

  -- the world after that, where it is done
  pub sailed_is : (want : ℕ → worlds.Vessel → Result (List Letter × worlds.Vessel) Verdict) (u : Vessel) (ls : List Letter) (ms : List Message) → map letter ms ≡ map letter (vec_items w.notices) ++ ls → want (call_sign v) (vessel_of v) ≡ Ok (ls, vessel_of u) → asking (world w) (suc i) want ≡ Ok (with_boat u ms)
  sailed_is want u ls ms s d =
      let vs : List Vessel = vec_items w.vessels in
      let F : (n : ℕ) → (ℕ → worlds.Vessel) → List Letter → Result World Verdict = λ n g ns. Ok (record { count = n; boat = g; harbour = port_of w.port; words = map sent (vec_items w.words); notices = ns }) in
      asked_is want
      ∙ ap (sailed (world w) (suc i)) d
      ∙ ap (λ (n : ℕ). F n (put_at (suc i) (vessel_of u) (vessel_at vs)) (map letter (vec_items w.notices) ++ ls)) (sym (length-set vs i u))
      ∙ ap (λ g. F (length (set vs i u)) g (map letter (vec_items w.notices) ++ ls)) (sym (boats_put vs i u l))
      ∙ ap (F (length (set vs i u)) (vessel_at (set vs i u))) (sym s)

  -- where it is not done, all is as it was
  pub turned_is : (want : ℕ → worlds.Vessel → Result (List Letter × worlds.Vessel) Verdict) (d : Verdict) → Refuses (want (call_sign v) (vessel_of v)) d → Refuses (asking (world w) (suc i) want) d
  turned_is want (Number n) d = asked_is want ∙ ap (sailed (world w) (suc i)) d
  turned_is want Bad d = asked_is want ∙ ap (sailed (world w) (suc i)) d
  turned_is want Memory d = tt

  pub kept_is : (u : Vessel) (ms : List Message) → vessel_of u ≡ vessel_of v → ms ≡ vec_items w.notices → with_boat u ms ≡ world w
  kept_is u ms s m =
      let vs : List Vessel = vec_items w.vessels in
      let F : ℕ → (ℕ → worlds.Vessel) → List Letter → World = λ n g ns. record { count = n; boat = g; harbour = port_of w.port; words = map sent (vec_items w.words); notices = ns } in
      ap (λ (n : ℕ). F n (vessel_at (set vs i u)) (map letter ms)) (length-set vs i u)
      ∙ ap (λ g. F (length vs) g (map letter ms)) (boats_same vs i v u l e s)
      ∙ ap (λ ns. F (length vs) (vessel_at vs) ns) (ap (map letter) m)

  module _ (act : Vessel → Result (Option Message) Unheard → Vessel → Type 0) (b : ℕ) (u : Vessel) (ms : List Message) (p : suc i ≡ b) where
    -- it is done
    pub performed : (a : Option Message) → act v (Ok a) u → map letter ms ≡ map letter (vec_items w.notices) ++ option letter a → Obeys act b (Ok tt) (world w) (with_boat u ms)
    performed a t s = subst (λ (c : ℕ). Obeys act c (Ok tt) (world w) (with_boat u ms)) p go
      where
        go : Obeys act (suc i) (Ok tt) (world w) (with_boat u ms)
        go want h = sailed_is want u (option letter a) ms s (h v (Ok a) u t)

    -- it is refused
    pub declined : (d : Unheard) → act v (Err d) u → ms ≡ vec_items w.notices → Obeys act b (Err d) (world w) (with_boat u ms)
    declined d t m = subst (λ (c : ℕ). Obeys act c (Err d) (world w) (with_boat u ms)) p go
      where
        go : Obeys act (suc i) (Err d) (world w) (with_boat u ms)
        go want h =
            let k : Refuses (want (call_sign v) (vessel_of v)) (turned d) × (vessel_of u ≡ vessel_of v) = h v (Err d) u t in
            (turned_is want (turned d) k.0, kept_is u ms k.1 m)
