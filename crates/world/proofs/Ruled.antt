-- Every world that events make is one of the abstract fleet; and what that fleet knows nothing of.
-- Assumes nothing.
use Rattle.std.proofs.Common.{◌≡◌, ℕ, ◌+◌, ◌≤◌, min, Bool, true, false, cond, not, ◌&&◌, eqb, ltb, leb, List, [], map, length, is_some, Some, None, Ok, Err, Option, Result, sym, refl, ap, ◌∙◌, subst, arith, length-set}
use mathlib.Core.List.{Memᴰ}
use Rattle.std.proofs.lemmas.Bool.{leb-true, and_parts, cond_both}
use Rattle.levels.specs.Verdicts.{Verdict, Number, Bad}
use Rattle.levels.specs.Rules.{Boat, reads, say_form, keep_form}
use Rattle.forms.specs.Meaning.{Uttered, form_of, ship_of, put as utter, get, without}
use Rattle.logbooks.specs.Slots.{keeping, forgotten}
use Rattle.logbooks.specs.Logs.{Log, slot_of, older, entered, taking, fallen}
use Rattle.levels.specs.Standings.{first, running, renewed, gone_back, raised}
use Rattle.levels.specs.Standings as boat
use Rattle.ledger.specs.Entries.{floor_of, ascending}
use Rattle.protocol.specs.Order.{numbers}
use Rattle.protocol.specs.Fleet.{Machine, put, Step, Later, now, next, renews, goes_back, promises, tells, learns, answers, talks}
use Rattle.protocol.specs.Fleet as fleet
use Rattle.protocol.specs.Promise as promise
use Rattle.protocol.proofs.Puts.{put_each, put_here}
use Rattle.protocol.proofs.Sound.{reach_later}
use Rattle.protocol.specs.Laws.{numbers_lawful}
use Rattle.protocol.proofs.All.{always}
use Rattle.protocol.proofs.Parts.{higher_top, after_start}
use Rattle.world.specs.declared.messages.Notice.{Notice}
use Rattle.world.specs.Worlds.{World, BoatState, Said, begun, place_of, state_at, log_at, at, moored, logged, reopened, noticed, spoken, telling, opening, opened, vowed, assured}
use Rattle.world.specs.Worlds as spec
use Rattle.world.specs.Promises.{Above}
use Rattle.world.specs.Abstract.{seen, boat_of, log_in, log_of, heard_of, machine_of, notice_of, abs}
use Rattle.world.specs.Abstract as abstract
use Rattle.world.proofs.Spoke.{Spoke, Below, put_below, put_meant, spoke_moored, spoke_logged, spoke_spoken, below_fallen, below_placed}
use Rattle.world.proofs.Abs.{place_moored, boat_moored, abs_moored, abs_noticed, abs_spoken}

-- crew: who is on the list, in the order of coming onto it. A floor that was answered is in the ledger, words are as they should be,
-- and there is every boat that is on the list, which stands there once; and every boat has its log
pub record Ruled (w : World) : Type 0 where
  pub crew : List ℕ
  pub on : (j : ℕ) → Memᴰ j crew → is_some (floor_of j w.harbour.list) ≡ true
  pub all : (j : ℕ) → is_some (floor_of j w.harbour.list) ≡ true → Memᴰ j crew
  pub reach : fleet.Reach numbers (abs crew w)
  pub answered : (j : ℕ) → (boat_of w j).answered ≡ true → (boat_of w j).standing.floor ≤ heard_of w j
  pub spoke : Spoke (boat_of w) (log_of w) w.words
  pub there : (j : ℕ) → is_some (floor_of j w.harbour.list) ≡ true → is_some (place_of w j) ≡ true
  pub sorted : ascending w.harbour.list ≡ true
  pub paired : length w.logs ≡ length w.boats

pub promises_of_numbers : promise.Promises numbers
promises_of_numbers = always numbers numbers_lawful

-- what holds of a world that an event makes, if it makes one
abbrev pub Made : (World → Type 0) → Result World Verdict → Type 0
Made P (Ok v) = P v
Made P (Err e) = Unit {0}

pub made_at : (P : World → Type 0) (o : Option ℕ) (f : ℕ → Result World Verdict) → ((i : ℕ) → o ≡ Some i → Made P (f i)) → Made P (at o f)
made_at P None f h = tt
made_at P (Some i) f h = h i refl

pub made_if : (P : World → Type 0) (t : Bool) (v : World) (e : Verdict) → (t ≡ true → P v) → Made P (cond t (Ok v) (Err e))
made_if P true v e h = h refl
made_if P false v e h = tt

-- the boat at a place is the one with the number
pub boat_is_lem : (w : World) (b i : ℕ) → place_of w b ≡ Some i → boat_of w b ≡ state_at w i
boat_is_lem w b i e = ap (seen w) e

-- a boat is another
pub ruled_moored : (w : World) (b i : ℕ) (s : BoatState) (r : Ruled w) → place_of w b ≡ Some i → Later numbers (abs r.crew w) (fleet.machined (abs r.crew w) b (machine_of s.standing)) → (s.answered ≡ true → s.standing.floor ≤ heard_of w b) → (boat_of w b).standing.level ≤ s.standing.level → (boat_of w b).used ≤ s.used → Ruled (moored w i s)
ruled_moored w b i s r e l a lv us =
    record {
      crew = r.crew;
      on = r.on;
      all = r.all;
      reach = subst (fleet.Reach numbers) (sym (abs_moored r.crew w b i s e)) (reach_later numbers numbers_lawful r.reach l);
      answered = λ j. subst (λ (x : BoatState). x.answered ≡ true → x.standing.floor ≤ heard_of w j) (sym (boat_moored w b i s e j)) (put_each (λ k (x : BoatState). x.answered ≡ true → x.standing.floor ≤ heard_of w k) b s (boat_of w) a r.answered j);
      spoke = spoke_moored w b i s e lv us r.spoke;
      there = λ j on. ap is_some (place_moored w i s j) ∙ r.there j on;
      sorted = r.sorted;
      paired = r.paired ∙ sym (length-set w.boats i s);
    }

-- a notice was sent
pub ruled_noticed : (w : World) (n : Notice) (r : Ruled w) → Step numbers (abs r.crew w) (fleet.noticed (abs r.crew w) (notice_of n)) → Ruled (noticed w n)
ruled_noticed w n r s =
    record { crew = r.crew; on = r.on; all = r.all; reach = subst (fleet.Reach numbers) (sym (abs_noticed r.crew w n)) (fleet.then r.reach s); answered = r.answered; spoke = r.spoke; there = r.there; sorted = r.sorted; paired = r.paired }

-- what a boat keeps is another
pub ruled_logged : (w : World) (b i : ℕ) (l : Log) (r : Ruled w) → place_of w b ≡ Some i → Below (boat_of w b).standing.level l.slots → Ruled (logged w i l)
ruled_logged w b i l r e h = record { crew = r.crew; on = r.on; all = r.all; reach = r.reach; answered = r.answered; spoke = spoke_logged w b i l e h r.spoke; there = r.there; sorted = r.sorted; paired = length-set w.logs i l ∙ r.paired }

-- a program begins
pub ruled_opening : (w : World) (b i : ℕ) (s : BoatState) (r : Ruled w) → place_of w b ≡ Some i → Later numbers (abs r.crew w) (fleet.machined (abs r.crew w) b (machine_of s.standing)) → s.answered ≡ false → (boat_of w b).standing.level ≤ s.standing.level → (boat_of w b).used ≤ s.used → Ruled (opening w i b s)
ruled_opening w b i s r e l a lv us =
    let h : boat_of (moored w i s) b ≡ s = boat_moored w b i s e b ∙ put_here b s (boat_of w) in
    let m : Ruled (moored w i s) = ruled_moored w b i s r e l (λ f. no (sym a ∙ f)) lv us in
    let here : place_of (moored w i s) b ≡ Some i = place_moored w i s b ∙ e in
    let old : Below (boat_of w b).standing.level (log_at w i).slots = subst (λ (x : Log). Below (boat_of w b).standing.level x.slots) (ap (log_in w) e) (r.spoke.kept b) in
    let new : Below (boat_of (moored w i s) b).standing.level (map forgotten (log_at w i).slots) = below_fallen (boat_of (moored w i s) b).standing.level (log_at w i).slots (λ t at. omega (arith, old t at, lv, ap (λ (x : BoatState). x.standing.level) h)) in
    let o : Ruled (reopened w i s) = ruled_logged (moored w i s) b i (fallen (log_at w i)) m here new in
    cond_both (ltb 1 s.standing.floor) (noticed (reopened w i s) (telling b s.standing.floor)) (reopened w i s) Ruled
    (λ _. ruled_noticed (reopened w i s) (telling b s.standing.floor) o (tells (abs o.crew (reopened w i s)) b s.standing.floor (omega (arith, ap (λ (x : BoatState). x.standing.floor) h))))
    (λ _. o)
  where
    no : false ≡ true → s.standing.floor ≤ heard_of w b
    no f = let z : ◌≡◌ {A = ℕ} 0 1 = cc in absurd (omega arith)

-- the floor of a boat is at most its program
pub floor_program : (w : World) (r : Ruled w) (b : ℕ) → (boat_of w b).standing.floor ≤ (boat_of w b).standing.program
floor_program w r b = (promises_of_numbers.steady (abs r.crew w) r.reach b).1

pub made_renewing : (w : World) (b to : ℕ) → Ruled w → Made Ruled (spec.renewing w b to)
made_renewing w b to r = made_at Ruled (place_of w b) (λ i. opened w i b (state_at w i).used (renewed (state_at w i).standing to)) (λ i e. go i e)
  where
    go : (i : ℕ) → place_of w b ≡ Some i → Made Ruled (opened w i b (state_at w i).used (renewed (state_at w i).standing to))
    go i e =
        cond_both (leb (state_at w i).standing.program to) (Ok (running (state_at w i).standing to)) (Err Bad) (λ (x : Result Boat Verdict). Made Ruled (opened w i b (state_at w i).used x))
        (λ t. ruled_opening w b i (begun (running (state_at w i).standing to) (state_at w i).used) r e (subst (λ (s : BoatState). s.standing.program ≤ to → Later numbers (abs r.crew w) (fleet.machined (abs r.crew w) b (machine_of (running s.standing to)))) (boat_is_lem w b i e) (λ h. next now (renews (abs r.crew w) b to h)) (leb-true (state_at w i).standing.program to t)) refl (omega (arith, ap (λ (x : BoatState). x.standing.level) (boat_is_lem w b i e))) (omega (arith, ap (λ (x : BoatState). x.used) (boat_is_lem w b i e))))
        (λ t. tt)

pub made_going_back : (w : World) (b to : ℕ) → Ruled w → Made Ruled (spec.going_back w b to)
made_going_back w b to r = made_at Ruled (place_of w b) (λ i. opened w i b (state_at w i).used (gone_back (state_at w i).standing to)) (λ i e. go i e)
  where
    go : (i : ℕ) → place_of w b ≡ Some i → Made Ruled (opened w i b (state_at w i).used (gone_back (state_at w i).standing to))
    go i e =
        let P : Result Boat Verdict → Type 0 = λ x. Made Ruled (opened w i b (state_at w i).used x) in
        cond_both (ltb to (state_at w i).standing.program) (cond (leb (state_at w i).standing.floor to) (Ok (running (state_at w i).standing to)) (Err (Number 3))) (Err Bad) P
        (λ _. cond_both (leb (state_at w i).standing.floor to) (Ok (running (state_at w i).standing to)) (Err (Number 3)) P
        (λ t. ruled_opening w b i (begun (running (state_at w i).standing to) (state_at w i).used) r e (subst (λ (s : BoatState). s.standing.floor ≤ to → Later numbers (abs r.crew w) (fleet.machined (abs r.crew w) b (machine_of (running s.standing to)))) (boat_is_lem w b i e) (λ h. next now (goes_back (abs r.crew w) b to h)) (leb-true (state_at w i).standing.floor to t)) refl (omega (arith, ap (λ (x : BoatState). x.standing.level) (boat_is_lem w b i e))) (omega (arith, ap (λ (x : BoatState). x.used) (boat_is_lem w b i e))))
        (λ _. tt))
        (λ _. tt)

-- a boat as it was: the same program is one at least as new
pub same_machine : (w : World) (r : Ruled w) (b : ℕ) (s : BoatState) → boat_of w b ≡ s → Later numbers (abs r.crew w) (fleet.machined (abs r.crew w) b (machine_of s.standing))
same_machine w r b s e = subst (λ (x : BoatState). Later numbers (abs r.crew w) (fleet.machined (abs r.crew w) b (machine_of x.standing))) e (next now (renews (abs r.crew w) b (boat_of w b).standing.program (omega arith)))

pub made_restarting : (w : World) (b : ℕ) → Ruled w → Made Ruled (spec.restarting w b)
made_restarting w b r = made_at Ruled (place_of w b) (λ i. Ok (opening w i b (begun (state_at w i).standing (state_at w i).used))) (λ i e. ruled_opening w b i (begun (state_at w i).standing (state_at w i).used) r e (same_machine w r b (state_at w i) (boat_is_lem w b i e)) refl (omega (arith, ap (λ (x : BoatState). x.standing.level) (boat_is_lem w b i e))) (omega (arith, ap (λ (x : BoatState). x.used) (boat_is_lem w b i e))))

-- a boat promises what it runs
vow_machine : (w : World) (r : Ruled w) (b : ℕ) (s : BoatState) → boat_of w b ≡ s → Later numbers (abs r.crew w) (fleet.machined (abs r.crew w) b (machine_of (boat.promised s.standing)))
vow_machine w r b s e =
    let x : Boat = (boat_of w b).standing in
    let F : ℕ → fleet.World ℕ = λ f. fleet.machined (abs r.crew w) b (record { program = x.program; floor = f; level = x.level; file = [] }) in
    subst (λ (y : BoatState). Later numbers (abs r.crew w) (fleet.machined (abs r.crew w) b (machine_of (boat.promised y.standing)))) e
    (subst (λ (f : ℕ). Later numbers (abs r.crew w) (F f)) (higher_top x.floor x.program (floor_program w r b)) (next now (promises (abs r.crew w) b x.program (omega arith))))

ruled_vowed : (w : World) (b i : ℕ) (s : BoatState) (r : Ruled w) → place_of w b ≡ Some i → boat_of w b ≡ s → Ruled (noticed (moored w i (vowed s)) (telling b s.standing.program))
ruled_vowed w b i s r e q =
    let old : s.answered ≡ true → s.standing.floor ≤ heard_of w b = subst (λ (x : BoatState). x.answered ≡ true → x.standing.floor ≤ heard_of w b) q (r.answered b) in
    let m : Ruled (moored w i (vowed s)) = ruled_moored w b i (vowed s) r e (vow_machine w r b s q) (λ t. kept old (and_parts s.answered (leb s.standing.program s.standing.floor) t)) (omega (arith, ap (λ (x : BoatState). x.standing.level) q)) (omega (arith, ap (λ (x : BoatState). x.used) q)) in
    let h : boat_of (moored w i (vowed s)) b ≡ vowed s = boat_moored w b i (vowed s) e b ∙ put_here b (vowed s) (boat_of w) in
    ruled_noticed (moored w i (vowed s)) (telling b s.standing.program) m (tells (abs m.crew (moored w i (vowed s))) b s.standing.program (omega (arith, ap (λ (x : BoatState). x.standing.floor) h)))
  where
    kept : (s.answered ≡ true → s.standing.floor ≤ heard_of w b) → (s.answered ≡ true) × (leb s.standing.program s.standing.floor ≡ true) → s.standing.program ≤ heard_of w b
    kept old p = omega (arith, old p.0, leb-true s.standing.program s.standing.floor p.1)

pub made_promising : (w : World) (b : ℕ) → Ruled w → Made Ruled (spec.promising w b)
made_promising w b r =
    made_at Ruled (place_of w b) (λ i. Ok (noticed (moored w i (vowed (state_at w i))) (telling b (state_at w i).standing.program))) (λ i e. ruled_vowed w b i (state_at w i) r e (boat_is_lem w b i e))

pub made_ticking : (w : World) (b : ℕ) → Ruled w → Made Ruled (spec.ticking w b)
made_ticking w b r =
    made_at Ruled (place_of w b) (λ i. Ok (cond (spec.tells (state_at w i)) (noticed w (telling b (state_at w i).standing.floor)) w)) (λ i e. go i e)
  where
    go : (i : ℕ) → place_of w b ≡ Some i → Ruled (cond (spec.tells (state_at w i)) (noticed w (telling b (state_at w i).standing.floor)) w)
    go i e =
        cond_both (spec.tells (state_at w i)) (noticed w (telling b (state_at w i).standing.floor)) w Ruled
        (λ _. ruled_noticed w (telling b (state_at w i).standing.floor) r (tells (abs r.crew w) b (state_at w i).standing.floor (omega (arith, ap (λ (x : BoatState). x.standing.floor) (boat_is_lem w b i e)))))
        (λ _. r)

-- everybody's program and level are at least 1
pub at_least_1 : (w : World) (r : Ruled w) (b : ℕ) → (1 ≤ (boat_of w b).standing.program) × (1 ≤ (boat_of w b).standing.level)
at_least_1 w r b =
    let p = after_start r.reach in
    let up = promises_of_numbers.grows (fleet.start numbers p.0) (abs r.crew w) p.1 in
    (omega (arith, up.floor b, floor_program w r b), up.level b)

ruled_spoken : (w : World) (x : Said) (r : Ruled w) → form_of x.spoken ≤ (boat_of w x.from).standing.level → get x.spoken ≡ without (form_of x.spoken) x.given → (1 ≤ x.number) × (x.number ≤ (boat_of w x.from).used) → Above w.words x → Ruled (spoken w x)
ruled_spoken w x r f m n a =
    record {
      crew = r.crew;
      on = r.on;
      all = r.all;
      reach = subst (fleet.Reach numbers) (sym (abs_spoken r.crew w x)) (fleet.then r.reach (talks (abs r.crew w) (abstract.word_of x) f));
      answered = r.answered;
      spoke = spoke_spoken (boat_of w) (log_of w) w.words x r.spoke m n a;
      there = r.there;
      sorted = r.sorted;
      paired = r.paired;
    }

ruled_talked : (w : World) (p i j : ℕ) (u : Uttered) (r : Ruled w) → place_of w i ≡ Some p → Ruled (spec.talked w p i j (state_at w p) u)
ruled_talked w p i j u r e =
    let q : boat_of w i ≡ state_at w p = boat_is_lem w i p e in
    let s : BoatState = state_at w p in
    let c : BoatState = spec.counted s in
    let pr : (boat_of w i).standing.program ≡ s.standing.program = ap (λ (x : BoatState). x.standing.program) q in
    let lv : (boat_of w i).standing.level ≡ s.standing.level = ap (λ (x : BoatState). x.standing.level) q in
    let us : (boat_of w i).used ≡ s.used = ap (λ (x : BoatState). x.used) q in
    let o : (1 ≤ (boat_of w i).standing.program) × (1 ≤ (boat_of w i).standing.level) = at_least_1 w r i in
    let m : Ruled (moored w p c) = ruled_moored w i p c r e (same_machine w r i s q) (subst (λ (x : BoatState). x.answered ≡ true → x.standing.floor ≤ heard_of w i) q (r.answered i)) (omega arith) (omega arith) in
    let h : boat_of (moored w p c) i ≡ c = boat_moored w i p c e i ∙ put_here i c (boat_of w) in
    let f : ℕ = say_form s.standing j in
    let low : 1 ≤ f = omega arith in
    let top : f ≤ 3 = omega arith in
    let at : f ≤ s.standing.level = omega arith in
    ruled_spoken (moored w p c) (spec.word_of i j s u) m
    (subst (λ (x : BoatState). form_of (utter f (get u)) ≤ x.standing.level) (sym h) (put_below f s.standing.level (get u) at (omega arith)))
    (put_meant f (get u) low top)
    (omega arith, omega (arith, ap (λ (x : BoatState). x.used) h))
    (λ x on same. (let n = r.spoke.numbered x on in let g : (boat_of w x.from).used ≡ (boat_of w i).used = ap (λ k. (boat_of w k).used) same in omega arith))

pub made_talking : (w : World) (a j : ℕ) (u : Uttered) → Ruled w → Made Ruled (spec.talking w a j u)
made_talking w a j u r =
    made_at Ruled (place_of w a) (λ p. cond (is_some (place_of w j) && not (eqb j a)) (cond (reads (state_at w p).standing.program (form_of u)) (cond (leb 4294967296 ((state_at w p).used + 1)) (Err (Number 6)) (Ok (spec.talked w p a j (state_at w p) u))) (Err (Number 1))) (Err Bad)) (λ p e. go p e)
  where
    go : (p : ℕ) → place_of w a ≡ Some p → Made Ruled (cond (is_some (place_of w j) && not (eqb j a)) (cond (reads (state_at w p).standing.program (form_of u)) (cond (leb 4294967296 ((state_at w p).used + 1)) (Err (Number 6)) (Ok (spec.talked w p a j (state_at w p) u))) (Err (Number 1))) (Err Bad))
    go p e =
        let out : Result World Verdict = cond (leb 4294967296 ((state_at w p).used + 1)) (Err (Number 6)) (Ok (spec.talked w p a j (state_at w p) u)) in
        cond_both (is_some (place_of w j) && not (eqb j a)) (cond (reads (state_at w p).standing.program (form_of u)) out (Err (Number 1))) (Err Bad) (Made Ruled)
        (λ _. cond_both (reads (state_at w p).standing.program (form_of u)) out (Err (Number 1)) (Made Ruled)
        (λ _. cond_both (leb 4294967296 ((state_at w p).used + 1)) (Err (Number 6)) (Ok (spec.talked w p a j (state_at w p) u)) (Made Ruled) (λ _. tt) (λ _. ruled_talked w p a j u r e))
        (λ _. tt))
        (λ _. tt)

-- a boat takes a word: it keeps it in a form of at most its level
ruled_taken : (w : World) (b i n : ℕ) (u : Uttered) (k : ℕ) (r : Ruled w) → place_of w b ≡ Some i → (m : ℕ) → k ≤ (boat_of w b).standing.level → Ruled (logged w i (entered (log_at w i) (keeping m n u k)))
ruled_taken w b i n u k r e m h =
    let old : Below (boat_of w b).standing.level (log_at w i).slots = subst (λ (x : Log). Below (boat_of w b).standing.level x.slots) (ap (log_in w) e) (r.spoke.kept b) in
    let o : (1 ≤ (boat_of w b).standing.program) × (1 ≤ (boat_of w b).standing.level) = at_least_1 w r b in
    ruled_logged w b i (entered (log_at w i) (keeping m n u k)) r e (below_placed (boat_of w b).standing.level (keeping m n u k) (log_at w i).slots (put_below (min (form_of u) k) (boat_of w b).standing.level (get u) (omega arith) o.1) old)

pub made_hearing_word : (w : World) (x : Said) → Ruled w → Made Ruled (spec.hearing_word w x)
made_hearing_word w x r =
    made_at Ruled (place_of w x.to) (λ i. cond (reads (state_at w i).standing.program (form_of x.spoken)) (spec.kept_by w i (spec.taken w i (state_at w i).standing x)) (Err (Number 1))) (λ i e. cond_both (reads (state_at w i).standing.program (form_of x.spoken)) (spec.kept_by w i (spec.taken w i (state_at w i).standing x)) (Err (Number 1)) (Made Ruled) (λ _. go i e) (λ _. tt))
  where
    go : (i : ℕ) → place_of w x.to ≡ Some i → Made Ruled (spec.kept_by w i (spec.taken w i (state_at w i).standing x))
    go i e =
        let P : Result Log Verdict → Type 0 = λ l. Made Ruled (spec.kept_by w i l) in
        let k : ℕ = keep_form (state_at w i).standing (form_of x.spoken) in
        let lv : (boat_of w x.to).standing.level ≡ (state_at w i).standing.level = ap (λ (y : BoatState). y.standing.level) (boat_is_lem w x.to i e) in
        let done : Result Log Verdict = Ok (entered (log_at w i) (keeping x.from x.number x.spoken k)) in
        let full : Result Log Verdict = cond (not (is_some (slot_of (ship_of x.spoken) (log_at w i).slots)) && leb 4096 (length (log_at w i).slots)) (Err (Number 6)) done in
        cond_both (ltb i (length w.logs)) (taking (log_at w i) x.from x.number x.spoken k) (Err Bad) P
        (λ _. cond_both (older ((log_at w i).lasts x.from (ship_of x.spoken)) x.number) (Err (Number 2)) full P (λ _. tt)
        (λ _. cond_both (not (is_some (slot_of (ship_of x.spoken) (log_at w i).slots)) && leb 4096 (length (log_at w i).slots)) (Err (Number 6)) done P (λ _. tt)
        (λ _. ruled_taken w x.to i x.number x.spoken k r e x.from (omega arith))))
        (λ _. tt)
