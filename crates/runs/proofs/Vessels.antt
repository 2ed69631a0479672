-- Whatever a boat does keeps the invariant.
-- Assumes nothing.
use Rattle.std.proofs.Common.{◌≡◌, ℕ, ◌+◌, ◌<◌, ◌≤◌, min, max, Bool, true, false, cond, not, ◌&&◌, ◌||◌, eqb, ltb, leb, List, [], ◌∷◌, ◌++◌, map, length, is_some, Some, Ok, Err, Result, sym, refl, ap, ◌∙◌, subst, arith}
use Rattle.std.proofs.lemmas.Bool.{cond_both, ltb-true, ltb-false, leb-true, leb-false, and_parts, false≢true}
use Rattle.std.proofs.lemmas.List.{length-map}
use Rattle.levels.specs.Verdicts.{Verdict, Number, Bad}
use Rattle.levels.specs.Rules.{Boat, reads, say_form, keep_form}
use Rattle.forms.specs.Meaning.{Meaning, Uttered, first, second, third, form_of, ship_of, put, get, without}
use Rattle.logbooks.specs.Slots.{forgotten}
use Rattle.logbooks.specs.Logs.{Log, slot_of, slot, taking, fallen}
use Rattle.messages.specs.Messages.{Telling, word, promise, heard, level, has_it, Letter, notice}
use Rattle.records.specs.Records.{Written, floor_is, level_is, word_is, used_to}
use Rattle.stations.specs.Journals as journal
use Rattle.stations.specs.Journals.{top, floor_in, level_in, used_in, form_in, slots}
use Rattle.stations.specs.Deeds.{deed, nothing}
use Rattle.stations.specs.Boats as boats
use Rattle.stations.specs.Boats.{Memory, settled, recalled, vow, vowed, counted, lifted, assured, noted, kept_as}
use Rattle.runs.specs.declared.events.Fate.{Fate}
use Rattle.runs.specs.Worlds.{World, writes, boat_does, what_boat, under, opened, there, word_of, talked}
use Rattle.runs.specs.Promises.{safe, safe_port, whole, heard_of}
use Rattle.runs.proofs.Parts.{Lawful, Each, part_top, part_behind}
use Rattle.runs.proofs.Fates.{syncs, quiet}
use Rattle.runs.proofs.Holds.{BoatLaw, Aboard, Told, Numbered, Sound, Step, Moves, boat_moves, word_moves, Made}
use Rattle.runs.proofs.Recalls.{Same, same_standing, same_used, same_vowed, same_counted, same_lifted, same_noted, taken_is, ship_put}
use Rattle.runs.proofs.Sizes.{rising_slots, size_within, slot_forgotten}

pub top_least : (d : ℕ) (v : Written → ℕ) (rs : List Written) → d ≤ top d v rs
top_least d v [] = omega arith
top_least d v (r ∷ rs) = omega (arith, top_least d v rs)

-- forms
pub form_put : (f : ℕ) (w : Meaning) → form_of (put f w) ≤ max f 1
form_put f w =
    cond_both (leb f 1) _ _ (λ x. form_of x ≤ max f 1) (λ t. omega arith)
    (λ t. cond_both (leb f 2) _ _ (λ x. form_of x ≤ max f 1) (λ u. omega (arith, leb-false f 1 t)) (λ u. omega (arith, leb-false f 2 u)))

pub put_meant : (f : ℕ) (w : Meaning) → get (put f w) ≡ without (form_of (put f w)) w
put_meant f w =
    cond_both (leb f 1) _ _ (λ x. get x ≡ without (form_of x) w) (λ t. refl) (λ t. cond_both (leb f 2) _ _ (λ x. get x ≡ without (form_of x) w) (λ u. refl) (λ u. refl))

pub form_known : (u : Uttered) → reads 3 (form_of u) ≡ true
form_known (first s l b) = refl
form_known (second s l b h) = refl
form_known (third s l b h n) = refl

pub lawful_ships : (rs : List Written) → Lawful BoatLaw rs → length (slots rs) ≤ 4096
lawful_ships [] h = omega arith
lawful_ships (r ∷ rs) h = h.0.2

-- program p of boat i knows m
module _ (w : World) (sd : Sound w) (i : ℕ) (m : Memory) (up : (w.boat i).running ≡ Some m) where
  p : ℕ
  p = (w.boat i).program

  here : Aboard i (safe_port w) (w.boat i) (Some m)
  here = subst (Aboard i (safe_port w) (w.boat i)) up (sd.boats i).runs

  st : m.standing ≡ record { program = (w.boat i).program; floor = journal.floor (whole w i); level = journal.level (whole w i) }
  st = same_standing m (w.boat i).program (whole w i) here.0

  program_is : m.standing.program ≡ (w.boat i).program
  program_is = ap (λ (b : Boat). b.program) st

  floor_is_lem : m.standing.floor ≡ journal.floor (whole w i)
  floor_is_lem = ap (λ (b : Boat). b.floor) st

  level_is_lem : m.standing.level ≡ journal.level (whole w i)
  level_is_lem = ap (λ (b : Boat). b.level) st

  -- nothing is written
  quiet_step : (x : Memory) (ls : List Letter) → Same x (w.boat i).program (whole w i) → (x.answered ≡ true → journal.floor (whole w i) ≤ heard_of (safe_port w) i) → ((b : ℕ → List Written) → b i ≡ whole w i → Each (Told b (safe_port w)) ls) → Step w i (w.boat i) false (deed [] ls, x)
  quiet_step x ls e a t =
      record {
        disk = refl;
        kind = quiet here.1;
        sails = record { law = (sd.boats i).law; under = (sd.boats i).under; kept = (sd.boats i).kept; recalls = e; answered = a };
        told = t;
      }

  -- one record is written
  one_step : (r : Written) (x : Memory) (ls : List Letter) → BoatLaw r (whole w i) → level_in r ≤ journal.level (safe_port w) → floor_in r ≤ (w.boat i).program → Same x (w.boat i).program (r ∷ whole w i) → (x.answered ≡ true → journal.floor (r ∷ whole w i) ≤ heard_of (safe_port w) i) → ((b : ℕ → List Written) → b i ≡ r ∷ whole w i → Each (Told b (safe_port w)) ls) → Step w i (w.boat i) true (deed (r ∷ []) ls, x)
  one_step r x ls l v f e a t =
      record {
        disk = refl;
        kind = syncs (r ∷ []);
        sails = record { law = (l, (sd.boats i).law); under = omega (arith, v, (sd.boats i).under); kept = omega (arith, f, (sd.boats i).kept); recalls = e; answered = a };
        told = t;
      }

  pub rest_step : Step w i (w.boat i) false (nothing, m)
  rest_step = quiet_step m [] here.0 here.2 (λ b e. tt)

  -- a promise
  pub promise_made : (f : Fate) → Made w (what_boat w i f (Ok (boats.promising i m)))
  promise_made f =
      let ls : List Letter = vow i m.standing.program ∷ [] in
      let P : Bool → List Written = λ c. cond c (floor_is m.standing.program ∷ []) [] in
      let all : Same (vowed m) (w.boat i).program (P (ltb m.standing.floor m.standing.program) ++ whole w i) = same_vowed m (w.boat i).program (whole w i) here.0 (sd.boats i).kept in
      cond_both (ltb m.standing.floor m.standing.program) (floor_is m.standing.program ∷ []) [] (λ rs. Moves w (boat_does w i (w.boat i) (writes rs) (deed rs ls, vowed m) f))
      (λ t. boat_moves i (w.boat i) true (deed (floor_is m.standing.program ∷ []) ls, vowed m) f
      (one_step (floor_is m.standing.program) (vowed m) ls (refl, omega arith, lawful_ships (whole w i) (sd.boats i).law) (omega arith) (omega (arith, program_is))
      (subst (λ (c : Bool). Same (vowed m) (w.boat i).program (P c ++ whole w i)) t all)
      (λ a. absurd (never t (and_parts m.answered (leb m.standing.program m.standing.floor) a).1))
      (λ b e. (subst (λ (xs : List Written). m.standing.program ≤ journal.floor xs) (sym e) (omega arith), tt))))
      (λ t. let l : m.standing.program ≤ m.standing.floor = ltb-false m.standing.floor m.standing.program t in
      boat_moves i (w.boat i) false (deed [] ls, vowed m) f
      (quiet_step (vowed m) ls (subst (λ (c : Bool). Same (vowed m) (w.boat i).program (P c ++ whole w i)) t all) (λ a. here.2 (and_parts m.answered (leb m.standing.program m.standing.floor) a).0)
      (λ b e. (subst (λ (xs : List Written). m.standing.program ≤ journal.floor xs) (sym e) (omega (arith, l, floor_is_lem)), tt))))
    where
      never : ltb m.standing.floor m.standing.program ≡ true → leb m.standing.program m.standing.floor ≡ true → ⊥
      never t u = omega (arith, ltb-true m.standing.floor m.standing.program t, leb-true m.standing.program m.standing.floor u)

  pub tick_made : (f : Fate) → Made w (what_boat w i f (Ok (boats.ticking i m, m)))
  tick_made f =
      cond_both (boats.tells m) (vow i m.standing.floor ∷ []) [] (λ ls. Moves w (boat_does w i (w.boat i) false (deed [] ls, m) f))
      (λ t. boat_moves i (w.boat i) false (deed [] (vow i m.standing.floor ∷ []), m) f
      (quiet_step m (vow i m.standing.floor ∷ []) here.0 here.2 (λ b e. (subst (λ (xs : List Written). m.standing.floor ≤ journal.floor xs) (sym e) (omega (arith, floor_is_lem)), tt))))
      (λ t. boat_moves i (w.boat i) false (nothing, m) f rest_step)

  -- a word is said
  pub say_made : (j : ℕ) (u : Uttered) (f : Fate) → there w i ≡ true → there w j ≡ true → Made w (talked w i j m u f (boats.talking i j m u))
  say_made j u f ti tj =
      cond_both (eqb j 0 || eqb j i) (Err Bad) _ (λ r. Made w (talked w i j m u f r)) (λ t. tt)
      (λ t. cond_both (reads m.standing.program (form_of u)) _ (Err (Number 1)) (λ r. Made w (talked w i j m u f r))
      (λ r. cond_both (leb 4294967296 (m.used + 1)) (Err (Number 6)) _ (λ r. Made w (talked w i j m u f r)) (λ n. tt)
      (λ n. word_moves (w.boat i) true (used_to (m.used + 1) ∷ []) (counted m) (word_of i j m u) f step own new)) (λ r. tt))
    where
      used_is : m.used ≡ journal.used (whole w i)
      used_is = same_used m (w.boat i).program (whole w i) here.0

      step : Step w i (w.boat i) true (deed (used_to (m.used + 1) ∷ []) [], counted m)
      step = one_step (used_to (m.used + 1)) (counted m) [] (refl, omega arith, lawful_ships (whole w i) (sd.boats i).law) (omega arith) (omega arith) (same_counted m (w.boat i).program (whole w i) here.0) (λ a. omega (arith, here.2 a)) (λ b e. tt)

      form_low : form_of (put (say_form m.standing j) (get u)) ≤ journal.level (whole w i)
      form_low = omega (arith, form_put (say_form m.standing j) (get u), level_is_lem, top_least 1 level_in (whole w i))

      own : (b : ℕ → List Written) → b i ≡ used_to (m.used + 1) ∷ whole w i → Numbered w.count b (word_of i j m u)
      own b e =
          record {
            number = (omega arith, subst (λ (xs : List Written). m.used + 1 ≤ journal.used xs) (sym e) (omega arith));
            form = subst (λ (xs : List Written). form_of (put (say_form m.standing j) (get u)) ≤ journal.level xs) (sym e) (omega (arith, form_low));
            meant = put_meant (say_form m.standing j) (get u);
            from = leb-true 1 i (and_parts (leb 1 i) (leb i w.count) ti).0;
            to = tj;
          }

      new : journal.used (safe w i) < m.used + 1
      new = omega (arith, used_is, part_top 0 used_in (safe w i) (part_behind (w.boat i).disk.pending (safe w i)))

  -- a word is heard
  word_law : (b n : ℕ) (u : Uttered) (l : Log) → taking m.log b n u (keep_form m.standing (form_of u)) ≡ Ok l → BoatLaw (word_is b n (kept_as m u)) (whole w i)
  word_law b n u l q =
      let k : ℕ = keep_form m.standing (form_of u) in
      let s : ℕ = ship_of u in
      let g : fallen m.log ≡ fallen (journal.log (whole w i)) = ap (λ (x : Memory). x.log) here.0 in
      let ss : map forgotten m.log.slots ≡ map forgotten (slots (whole w i)) = ap (λ (x : Log). x.slots) g in
      let some : is_some (slot_of s m.log.slots) ≡ is_some (slot_of s (slots (whole w i))) = sym (slot_forgotten s m.log.slots) ∙ ap (λ ks. is_some (slot_of s ks)) ss ∙ slot_forgotten s (slots (whole w i)) in
      let many : length m.log.slots ≡ length (slots (whole w i)) = sym (length-map m.log.slots forgotten) ∙ ap length ss ∙ length-map (slots (whole w i)) forgotten in
      let room : not (is_some (slot_of s (slots (whole w i)))) && leb 4096 (length (slots (whole w i))) ≡ false = ap (λ t. not t && leb 4096 (length (slots (whole w i)))) (sym some) ∙ ap (λ x. not (is_some (slot_of s m.log.slots)) && leb 4096 x) (sym many) ∙ (taken_is m.log b n u k l q).1 in
      let ship : ship_of (kept_as m u) ≡ s = ship_put (min (form_of u) k) u in
      let room2 : not (is_some (slot_of (ship_of (kept_as m u)) (slots (whole w i)))) && leb 4096 (length (slots (whole w i))) ≡ false = subst (λ (x : ℕ). not (is_some (slot_of x (slots (whole w i)))) && leb 4096 (length (slots (whole w i))) ≡ false) (sym ship) room in
      (form_known (kept_as m u), omega (arith, form_put (min (form_of u) k) (get u), level_is_lem, top_least 1 level_in (whole w i)), size_within (slot b n (kept_as m u)) (slots (whole w i)) (rising_slots (whole w i)) (lawful_ships (whole w i) (sd.boats i).law) room2)

  word_made : (b n : ℕ) (u : Uttered) (f : Fate) → Made w (what_boat w i f (boats.hearing_word m b n u))
  word_made b n u f =
      cond_both (reads m.standing.program (form_of u)) _ (Err (Number 1)) (λ r. Made w (what_boat w i f r)) (λ t. go (taking m.log b n u (keep_form m.standing (form_of u))) refl) (λ t. tt)
    where
      go : (r : Result Log Verdict) → taking m.log b n u (keep_form m.standing (form_of u)) ≡ r → Made w (what_boat w i f (boats.kept m b n u r))
      go (Err e) q = tt
      go (Ok l) q =
          boat_moves i (w.boat i) true (deed (word_is b n (kept_as m u) ∷ []) [], noted m l) f
          (one_step (word_is b n (kept_as m u)) (noted m l) [] (word_law b n u l q) (omega arith) (omega arith) (same_noted m (w.boat i).program b n u (whole w i) l here.0 q) (λ a. omega (arith, here.2 a)) (λ c e. tt))

  -- an answer, which is true
  assure_made : (v : ℕ) (f : Fate) → v ≤ heard_of (safe_port w) i → Made w (what_boat w i f (Ok (nothing, assured m v)))
  assure_made v f low = boat_moves i (w.boat i) false (nothing, assured m v) f (quiet_step (assured m v) [] here.0 (λ a. go m.answered refl a) (λ b e. tt))
    where
      go : (t : Bool) → m.answered ≡ t → t || leb m.standing.floor v ≡ true → journal.floor (whole w i) ≤ heard_of (safe_port w) i
      go true e a = here.2 e
      go false e a = omega (arith, leb-true m.standing.floor v a, low, floor_is_lem)

  -- a level, which was said
  learn_made : (k : ℕ) (f : Fate) → k ≤ journal.level (safe_port w) → Made w (what_boat w i f (Ok (boats.learning i m k)))
  learn_made k f low =
      let ls : List Letter = notice i 0 (has_it (max m.standing.level k)) ∷ [] in
      let P : Bool → List Written = λ c. cond c (level_is k ∷ []) [] in
      let all : Same (lifted m k) (w.boat i).program (P (ltb m.standing.level k) ++ whole w i) = same_lifted m (w.boat i).program k (whole w i) here.0 in
      cond_both (ltb m.standing.level k) (level_is k ∷ []) [] (λ rs. Moves w (boat_does w i (w.boat i) (writes rs) (deed rs ls, lifted m k) f))
      (λ t. boat_moves i (w.boat i) true (deed (level_is k ∷ []) ls, lifted m k) f
      (one_step (level_is k) (lifted m k) ls (refl, omega arith, lawful_ships (whole w i) (sd.boats i).law) low (omega arith)
      (subst (λ (c : Bool). Same (lifted m k) (w.boat i).program (P c ++ whole w i)) t all) (λ a. omega (arith, here.2 a))
      (λ b e. (subst (λ (xs : List Written). max m.standing.level k ≤ journal.level xs) (sym e) (omega (arith, level_is_lem)), tt))))
      (λ t. let l : k ≤ m.standing.level = ltb-false m.standing.level k t in
      boat_moves i (w.boat i) false (deed [] ls, lifted m k) f
      (quiet_step (lifted m k) ls (subst (λ (c : Bool). Same (lifted m k) (w.boat i).program (P c ++ whole w i)) t all) here.2
      (λ b e. (subst (λ (xs : List Written). max m.standing.level k ≤ journal.level xs) (sym e) (omega (arith, l, level_is_lem)), tt))))

  -- a word, or a notice that is true
  abbrev pub Fair : Letter → Telling → Type 0
  Fair l (word u) = Unit {0}
  Fair l (promise f) = Unit {0}
  Fair l (heard f) = f ≤ heard_of (safe_port w) l.to
  Fair l (level k) = k ≤ journal.level (safe_port w)
  Fair l (has_it k) = Unit {0}

  pub comes_made : (l : Letter) (f : Fate) → l.to ≡ i → Fair l l.body → Made w (what_boat w i f (boats.hearing i m l))
  comes_made l f to t =
      cond_both (eqb l.to i) _ _ (λ r. Made w (what_boat w i f r)) (λ e. go l.body t) (λ e. tt)
    where
      go : (b : Telling) → Fair l b → Made w (what_boat w i f (boats.judging i m l.from l.number b))
      go (word u) t = cond_both (eqb l.from 0) _ _ (λ r. Made w (what_boat w i f r)) (λ z. tt) (λ z. word_made l.from l.number u f)
      go (promise v) t = tt
      go (heard v) t = cond_both (eqb l.from 0) _ _ (λ r. Made w (what_boat w i f r)) (λ z. assure_made v f (subst (λ (j : ℕ). v ≤ heard_of (safe_port w) j) to t)) (λ z. tt)
      go (level k) t = cond_both (eqb l.from 0) _ _ (λ r. Made w (what_boat w i f r)) (λ z. learn_made k f t) (λ z. tt)
      go (has_it k) t = tt

-- a program v begins
pub open_made : (w : World) (i v : ℕ) (f : Fate) → Sound w → Made w (opened w i v f (boats.opening i v (whole w i)))
open_made w i v f sd =
    cond_both (journal.every (journal.boat_reads v) (whole w i)) _ (Err (Number 1)) (λ r. Made w (opened w i v f r))
    (λ a. cond_both (leb (journal.floor (whole w i)) v) _ (Err (Number 3)) (λ r. Made w (opened w i v f r))
    (λ b. cond_both (leb (length (slots (whole w i))) 4096) _ (Err (Number 6)) (λ r. Made w (opened w i v f r))
    (λ c. boat_moves i (under v (w.boat i)) true (deed [] ls, recalled v (whole w i)) f
    (record {
      disk = refl;
      kind = syncs [];
      sails = record { law = (sd.boats i).law; under = (sd.boats i).under; kept = leb-true (journal.floor (whole w i)) v b; recalls = refl; answered = λ e. absurd (false≢true e) };
      told = told_floor;
    })) (λ c. tt)) (λ b. tt)) (λ a. tt)
  where
    ls : List Letter
    ls = cond (ltb 1 (journal.floor (whole w i))) (vow i (journal.floor (whole w i)) ∷ []) []

    told_floor : (b : ℕ → List Written) → b i ≡ whole w i → Each (Told b (safe_port w)) (cond (ltb 1 (journal.floor (whole w i))) (vow i (journal.floor (whole w i)) ∷ []) [])
    told_floor b e =
        cond_both (ltb 1 (journal.floor (whole w i))) (vow i (journal.floor (whole w i)) ∷ []) [] (Each (Told b (safe_port w)))
        (λ t. (subst (λ (xs : List Written). journal.floor (whole w i) ≤ journal.floor xs) (sym e) (omega arith), tt)) (λ t. tt)
