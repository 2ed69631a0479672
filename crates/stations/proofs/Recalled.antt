-- A boat is a function of its journal.
-- Assumes nothing.
use Rattle.std.proofs.Common.{◌≡◌, ℕ, ◌+◌, ◌<◌, ◌≤◌, min, max, Bool, true, false, cond, ◌&&◌, ◌||◌, eqb, ltb, leb, List, [], ◌∷◌, ◌++◌, map, length, Some, None, Ok, Err, Option, Result, sym, refl, ap, ◌∙◌, subst, inl, inr, arith}
use mathlib.Core.Path.{fun_ext}
use Rattle.std.proofs.lemmas.Bool.{ltb-true, ltb-false, leb-true, leb-false, cond_both, cases_Bool}
use Rattle.levels.specs.Rules.{reads, accepts, keep_form}
use Rattle.levels.specs.Verdicts.{Verdict, Number, Bad}
use Rattle.forms.specs.Meaning.{Meaning, Uttered, first, second, third, form_of, ship_of, put, get}
use Rattle.logbooks.specs.Slots.{Kept, keeping, forgotten}
use Rattle.logbooks.specs.Logs.{Log, placed, older, noted, entered, crowded, taking, fallen, slot, higher, restored}
use Rattle.logbooks.proofs.Taking.{noted_higher}
use Rattle.messages.specs.Messages.{Telling, word, promise, heard, level, has_it, Letter}
use Rattle.records.specs.Records.{Written, floor_is, level_is, word_is, used_to}
use Rattle.stations.specs.Boats as boats
use Rattle.stations.specs.Boats.{Memory, settled, recalled, vow, saying, counted, kept_as, kept, hearing_word, assuring, learning, judging, hearing, opening, promising, talking}
use Rattle.stations.specs.Deeds.{Deed, deed}
use Rattle.stations.specs.Journals as journal
use Rattle.stations.specs.Laws.{Recalls, Goes, GoesOn, BoatRecalls}

-- what a boat knows, part by part
record Parts (v : ℕ) (rs : List Written) (m : Memory) : Type 0 where
  program : m.standing.program ≡ v
  floor : m.standing.floor ≡ journal.floor rs
  level : m.standing.level ≡ journal.level rs
  used : m.used ≡ journal.used rs
  log : fallen m.log ≡ fallen (journal.log rs)

parts : (v : ℕ) (rs : List Written) (m : Memory) → settled m ≡ settled (recalled v rs) → Parts v rs m
parts v rs m e =
    record { program = ap (λ (x : Memory). x.standing.program) e; floor = ap (λ (x : Memory). x.standing.floor) e; level = ap (λ (x : Memory). x.standing.level) e; used = ap (λ (x : Memory). x.used) e; log = ap (λ (x : Memory). x.log) e }

whole : (v : ℕ) (rs : List Written) (m : Memory) → Parts v rs m → settled m ≡ settled (recalled v rs)
whole v rs m p =
    let F : ℕ → ℕ → ℕ → ℕ → Log → Memory = λ a b c d l. record { standing = record { program = a; floor = b; level = c }; answered = false; used = d; log = l } in
    ap (λ a. F a m.standing.floor m.standing.level m.used (fallen m.log)) p.program ∙ ap (λ b. F v b m.standing.level m.used (fallen m.log)) p.floor ∙ ap (λ c. F v (journal.floor rs) c m.used (fallen m.log)) p.level ∙ ap (λ d. F v (journal.floor rs) (journal.level rs) d (fallen m.log)) p.used ∙ ap (F v (journal.floor rs) (journal.level rs) (journal.used rs)) p.log

-- a word that is put into another form is about the same ship
put_ship : (f : ℕ) (w : Meaning) → ship_of (put f w) ≡ w.ship
put_ship f w = go (leb f 1) (leb f 2)
  where
    go : (p q : Bool) → ship_of (cond p (first w.ship w.lock w.before) (cond q (second w.ship w.lock w.before w.behind) (third w.ship w.lock w.before w.behind w.name))) ≡ w.ship
    go true q = refl
    go false true = refl
    go false false = refl

get_ship : (u : Uttered) → (get u).ship ≡ ship_of u
get_ship (first s l b) = refl
get_ship (second s l b h) = refl
get_ship (third s l b h n) = refl

-- what the power takes doesn't move a slot
forgotten_placed : (k : Kept) (ks : List Kept) → map forgotten (placed k ks) ≡ placed (forgotten k) (map forgotten ks)
forgotten_placed k [] = refl
forgotten_placed k (s ∷ ss) = go (ltb s.ship k.ship) (eqb s.ship k.ship) (forgotten_placed k ss)
  where
    go : (p q : Bool) → map forgotten (placed k ss) ≡ placed (forgotten k) (map forgotten ss) → map forgotten (cond p (s ∷ placed k ss) (cond q (k ∷ ss) (k ∷ s ∷ ss))) ≡ cond p (forgotten s ∷ placed (forgotten k) (map forgotten ss)) (cond q (forgotten k ∷ map forgotten ss) (forgotten k ∷ forgotten s ∷ map forgotten ss))
    go true q h = ap (λ l. forgotten s ∷ l) h
    go false true h = refl
    go false false h = refl

-- a number that is taken is above the last one
above_last : (o : Option ℕ) (n : ℕ) → older o n ≡ false → Some n ≡ higher (Some n) o
above_last None n h = refl
above_last (Some m) n h = let l : m < n = leb-false n m h in let q : n ≡ max n m = omega arith in ap (λ k. Some k) q

-- a word that is taken is in the log what its record is in the journal
taken_log : (x y : Log) (b n k : ℕ) (u : Uttered) → fallen x ≡ fallen y → older (x.lasts b (ship_of u)) n ≡ false → fallen (entered x (keeping b n u k)) ≡ fallen (restored y b n (put (min (form_of u) k) (get u)))
taken_log x y b n k u e h =
    let w : Uttered = put (min (form_of u) k) (get u) in
    let s : ship_of w ≡ ship_of u = put_ship (min (form_of u) k) (get u) ∙ get_ship u in
    let F : List Kept → (ℕ → ℕ → Option ℕ) → Log = λ l f. record { slots = l; lasts = f } in
    let K : ℕ → Kept = λ t. record { ship = t; from = b; number = n; word = w; newer = None } in
    let slots : map forgotten (placed (keeping b n u k) x.slots) ≡ map forgotten (placed (slot b n w) y.slots) = forgotten_placed (keeping b n u k) x.slots ∙ ap (λ (z : Log). placed (K (ship_of u)) z.slots) e ∙ ap (λ t. placed (K t) (map forgotten y.slots)) (sym s) ∙ sym (forgotten_placed (slot b n w) y.slots) in
    let N : ℕ → (ℕ → ℕ → Option ℕ) → ℕ → ℕ → Option ℕ = λ t f c d. higher (cond (eqb b c && eqb t d) (Some n) None) (f c d) in
    let lasts : noted x.lasts b (ship_of u) n ≡ (restored y b n w).lasts = fun_ext (λ c. fun_ext (λ d. noted_higher x b n n u (above_last (x.lasts b (ship_of u)) n h) c d)) ∙ ap (λ (z : Log). N (ship_of u) z.lasts) e ∙ ap (λ t. N t y.lasts) (sym s) in
    ap (λ l. F l (noted x.lasts b (ship_of u) n)) slots ∙ ap (F (map forgotten (placed (slot b n w) y.slots))) lasts

-- the floor of a longer journal
module _ (v : ℕ) (rs : List Written) (m : Memory) (r : Recalls v rs m) where
  p : Parts v rs m
  p = parts v rs m r.same

  promises : (me : ℕ) → Goes v rs (promising me m)
  promises me = elim (cases_Bool (ltb m.standing.floor m.standing.program)) [
    | inl t ↦ subst G (sym t) (up (ltb-true _ _ t))
    | inr t ↦ subst G (sym t) (stay (ltb-false _ _ t))
  ]
    where
      G : Bool → Type 0
      G t = Recalls v (cond t (floor_is m.standing.program ∷ []) [] ++ rs) (boats.vowed m)

      up : m.standing.floor < m.standing.program → G true
      up l =
          let a = p.program in
          let f = p.floor in
          record { same = whole v (floor_is m.standing.program ∷ rs) (boats.vowed m) (record { program = p.program; floor = omega arith; level = p.level ∙ omega arith; used = p.used ∙ omega arith; log = p.log }); floored = omega arith }

      stay : m.standing.program ≤ m.standing.floor → G false
      stay l =
          let a = p.program in
          let f = p.floor in
          let g = r.floored in
          record { same = whole v rs (boats.vowed m) (record { program = p.program; floor = omega arith; level = p.level; used = p.used; log = p.log }); floored = r.floored }

  says : (me to : ℕ) (u : Uttered) → GoesOn v rs (talking me to m u)
  says me to u =
      cond_both (eqb to 0 || eqb to me) (Err Bad) (cond (reads m.standing.program (form_of u)) (cond (leb 4294967296 (m.used + 1)) (Err (Number 6)) (Ok (deed (used_to (m.used + 1) ∷ []) (saying me to m u ∷ []), counted m))) (Err (Number 1))) (GoesOn v rs) (λ e. tt) (λ e.
      cond_both (reads m.standing.program (form_of u)) (cond (leb 4294967296 (m.used + 1)) (Err (Number 6)) (Ok (deed (used_to (m.used + 1) ∷ []) (saying me to m u ∷ []), counted m))) (Err (Number 1)) (GoesOn v rs) (λ e.
      cond_both (leb 4294967296 (m.used + 1)) (Err (Number 6)) (Ok (deed (used_to (m.used + 1) ∷ []) (saying me to m u ∷ []), counted m)) (GoesOn v rs) (λ e. tt) (λ e. done)) (λ e. tt))
    where
      done : Recalls v (used_to (m.used + 1) ∷ rs) (counted m)
      done =
          let g = r.floored in
          let n = p.used in
          record { same = whole v (used_to (m.used + 1) ∷ rs) (counted m) (record { program = p.program; floor = p.floor ∙ omega arith; level = p.level ∙ omega arith; used = omega arith; log = p.log }); floored = omega arith }

  keeps : (b n : ℕ) (u : Uttered) → GoesOn v rs (hearing_word m b n u)
  keeps b n u =
      cond_both (reads m.standing.program (form_of u)) (kept m b n u (taking m.log b n u k)) (Err (Number 1)) (GoesOn v rs) (λ e.
      cond_both (older (m.log.lasts b (ship_of u)) n) (Err (Number 2)) (cond (crowded m.log (ship_of u)) (Err (Number 6)) (Ok (entered m.log (keeping b n u k)))) P (λ e. tt) (λ h.
      cond_both (crowded m.log (ship_of u)) (Err (Number 6)) (Ok (entered m.log (keeping b n u k))) P (λ e. tt) (λ e. done h))) (λ e. tt)
    where
      k : ℕ
      k = keep_form m.standing (form_of u)

      P : Result Log Verdict → Type 0
      P l = GoesOn v rs (kept m b n u l)

      done : older (m.log.lasts b (ship_of u)) n ≡ false → Recalls v (word_is b n (kept_as m u) ∷ rs) (boats.noted m (entered m.log (keeping b n u k)))
      done h =
          let g = r.floored in
          record { same = whole v (word_is b n (kept_as m u) ∷ rs) (boats.noted m (entered m.log (keeping b n u k))) (record { program = p.program; floor = p.floor ∙ omega arith; level = p.level ∙ omega arith; used = p.used ∙ omega arith; log = taken_log m.log (journal.log rs) b n k u p.log h }); floored = omega arith }

  learns : (me k : ℕ) → Goes v rs (learning me m k)
  learns me k = elim (cases_Bool (ltb m.standing.level k)) [
    | inl t ↦ subst G (sym t) (up (ltb-true _ _ t))
    | inr t ↦ subst G (sym t) (stay (ltb-false _ _ t))
  ]
    where
      G : Bool → Type 0
      G t = Recalls v (cond t (level_is k ∷ []) [] ++ rs) (boats.lifted m k)

      up : m.standing.level < k → G true
      up l =
          let g = r.floored in
          let a = p.level in
          record { same = whole v (level_is k ∷ rs) (boats.lifted m k) (record { program = p.program; floor = p.floor ∙ omega arith; level = omega arith; used = p.used ∙ omega arith; log = p.log }); floored = omega arith }

      stay : k ≤ m.standing.level → G false
      stay l =
          let a = p.level in
          record { same = whole v rs (boats.lifted m k) (record { program = p.program; floor = p.floor; level = omega arith; used = p.used; log = p.log }); floored = r.floored }

  judges : (me from n : ℕ) (t : Telling) → GoesOn v rs (judging me m from n t)
  judges me from n (word u) = cond_both (eqb from 0) (Err (Number 1)) (hearing_word m from n u) (GoesOn v rs) (λ e. tt) (λ e. keeps from n u)
  judges me from n (promise f) = tt
  judges me from n (heard f) = cond_both (eqb from 0) (Ok (assuring m f)) (Err (Number 1)) (GoesOn v rs) (λ e. record { same = r.same; floored = r.floored }) (λ e. tt)
  judges me from n (level k) = cond_both (eqb from 0) (Ok (learning me m k)) (Err (Number 1)) (GoesOn v rs) (λ e. learns me k) (λ e. tt)
  judges me from n (has_it k) = tt

  hears : (me : ℕ) (l : Letter) → GoesOn v rs (hearing me m l)
  hears me l = cond_both (accepts me l.to) (judging me m l.from l.number l.body) (Err (Number 0)) (GoesOn v rs) (λ e. judges me l.from l.number l.body) (λ e. tt)

opens : (me v : ℕ) (rs : List Written) → GoesOn v rs (opening me v rs)
opens me v rs =
    cond_both (journal.every (journal.boat_reads v) rs) (cond (leb (journal.floor rs) v) (cond (leb (length (journal.slots rs)) 4096) told (Err (Number 6))) (Err (Number 3))) (Err (Number 1)) (GoesOn v rs) (λ e.
    cond_both (leb (journal.floor rs) v) (cond (leb (length (journal.slots rs)) 4096) told (Err (Number 6))) (Err (Number 3)) (GoesOn v rs) (λ f.
    cond_both (leb (length (journal.slots rs)) 4096) told (Err (Number 6)) (GoesOn v rs) (λ e. record { same = refl; floored = leb-true _ _ f }) (λ e. tt)) (λ e. tt)) (λ e. tt)
  where
    told : Result (Deed × Memory) Verdict
    told = Ok (deed [] (cond (ltb 1 (journal.floor rs)) (vow me (journal.floor rs) ∷ []) []), recalled v rs)

pub boat_recalls : BoatRecalls
boat_recalls =
    record { opens = opens; promises = λ me v rs m r. promises v rs m r me; says = λ me to v rs m u r. says v rs m r me to u; hears = λ me v rs m l r. hears v rs m r me l }
