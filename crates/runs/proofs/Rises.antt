-- The level can rise.
-- Assumes nothing.
use Rattle.std.proofs.Common.{◌≡◌, ℕ, ◌<◌, ◌≤◌, max, Bool, true, false, cond, not, ◌&&◌, ◌||◌, eqb, ltb, leb, ◌⊎◌, List, [], ◌∷◌, ◌++◌, map, length, get_or, is_some, is_ok, Some, None, Ok, Err, Option, Result, unwrap_or, sym, refl, ap, ◌∙◌, subst, inl, inr, append_assoc, append-nil, arith, length-append}
use mathlib.Core.List.{Memᴰ}
use Rattle.std.proofs.lemmas.Bool.{cond_both, cond-true, cond-false, eq-eqb, ne_eqb, eqb-true, ltb-true, ltb-false, lt-ltb, leb-true, and_parts, and_from, false≢true, cases_Bool}
use Rattle.std.proofs.lemmas.Bool.Decides.{nat_tests}
use Rattle.levels.specs.Verdicts.{Verdict, Number, Bad}
use Rattle.ledger.specs.Entries.{Entry, ascending, floor_of, entered, heard, admitted, lacking, numbers_of}
use Rattle.ledger.specs.Ledgers as ledger
use Rattle.ledger.specs.Ledgers.{Book, answering, unpromised}
use Rattle.ledger.proofs.Books.{numbers_heard, listed_same, ascending_heard, lacks_none, known_all, ascending_entered}
use Rattle.messages.specs.Messages.{heard as heard_is, has_it, Letter, notice}
use Rattle.records.specs.Records.{Written, floor_is, level_is, word_is, boat_is, used_to}
use Rattle.stations.specs.Journals as journal
use Rattle.stations.specs.Journals.{level_in, floor_in}
use Rattle.stations.specs.Deeds.{Deed, deed, nothing}
use Rattle.stations.specs.Boats as boats
use Rattle.stations.specs.Boats.{Memory, vow}
use Rattle.stations.specs.Harbours as harbours
use Rattle.stations.specs.Harbours.{confirmed, announced, allowing}
use Rattle.runs.specs.declared.events.Event.{Event}
use Rattle.runs.specs.declared.events.Event.TheVariants.{Start, Promise, Tick, Announce, BringNotice}
use Rattle.runs.specs.declared.events.Fate.TheVariants.{Whole}
use Rattle.runs.specs.Disks.{Disk, file, appended, after}
use Rattle.runs.specs.Worlds.{World, Vessel, writes, there, at, aboard, vessel_after, boat_does, harbour_does, what_boat, what_harbour, under, opened, opening, reopened, arriving, no_notice, play, outcome, plays, run}
use Rattle.runs.specs.Promises.{safe, whole, safe_port, whole_port, Listed, heard_of}
use Rattle.runs.specs.Rising.{wholly, taken, Risen, RunRises}
use Rattle.runs.proofs.Parts.{put_each, put_here, part_behind}
use Rattle.runs.proofs.Lists.{heard_more, heard_up, heard_here, heard_least, listed_some}
use Rattle.runs.proofs.Holds.{Aboard, Ashore, Sound}
use Rattle.runs.proofs.Plays.{play_sound, run_sound}
use Rattle.runs.proofs.Keeps.{promises, opening_is}

-- events that were all done
pub data Goes (w : World) : List Event → World → Type 0 where
  stays : Goes w [] w
  goes : {u v : World} (es : List Event) (e : Event) → Goes w es u → play u e Whole ≡ Ok v → Goes w (es ++ e ∷ []) v

plays_push : (w : World) (es : List Event) (e : Event) → plays w (wholly (es ++ e ∷ [])) ≡ outcome (plays w (wholly es)) (play (plays w (wholly es)) e Whole)
plays_push w [] e = refl
plays_push w (x ∷ es) e = plays_push (outcome w (play w x Whole)) es e

pub goes_plays : (w : World) (es : List Event) {v : World} → Goes w es v → plays w (wholly es) ≡ v
goes_plays w es stays = refl
goes_plays w es (goes {u} {v} fs e p q) = plays_push w fs e ∙ ap (λ (x : World). outcome x (play x e Whole)) (goes_plays w fs p) ∙ ap (outcome u) q

taken_push : (w : World) (es : List Event) (e : Event) → taken w es ≡ true → is_ok (play (plays w (wholly es)) e Whole) ≡ true → taken w (es ++ e ∷ []) ≡ true
taken_push w [] e t o = and_from (is_ok (play w e Whole)) true o refl
taken_push w (x ∷ es) e t o =
    let p : (is_ok (play w x Whole) ≡ true) × (taken (outcome w (play w x Whole)) es ≡ true) = and_parts (is_ok (play w x Whole)) (taken (outcome w (play w x Whole)) es) t in
    and_from (is_ok (play w x Whole)) (taken (outcome w (play w x Whole)) (es ++ e ∷ [])) p.0 (taken_push (outcome w (play w x Whole)) es e p.1 o)

pub goes_taken : (w : World) (es : List Event) {v : World} → Goes w es v → taken w es ≡ true
goes_taken w es stays = refl
goes_taken w es (goes {u} {v} fs e p q) = taken_push w fs e (goes_taken w fs p) (ap (λ (x : World). is_ok (play x e Whole)) (goes_plays w fs p) ∙ ap is_ok q)

-- what stays as it is on the way to level k, and what only rises
pub record Keeps (k : ℕ) (w v : World) : Type 0 where
  pub count : v.count ≡ w.count
  pub programs : (j : ℕ) → (v.boat j).program ≡ (w.boat j).program
  pub listed : numbers_of (journal.boats (whole_port v)) ≡ numbers_of (journal.boats (whole_port w))
  pub floors : (j : ℕ) → k ≤ journal.floor (whole w j) → journal.floor (whole v j) ≡ journal.floor (whole w j)
  pub ups : (j : ℕ) → is_some (w.boat j).running ≡ true → is_some (v.boat j).running ≡ true
  pub port : is_some w.harbour.running ≡ true → is_some v.harbour.running ≡ true
  pub heard : (j : ℕ) → heard_of (whole_port w) j ≤ heard_of (whole_port v) j
  pub levels : (j : ℕ) → journal.level (whole w j) ≤ journal.level (whole v j)

keeps_none : (k : ℕ) (w : World) → Keeps k w w
keeps_none k w = record { count = refl; programs = λ j. refl; listed = refl; floors = λ j l. refl; ups = λ j t. t; port = λ t. t; heard = λ j. omega arith; levels = λ j. omega arith }

keeps_then : (k : ℕ) (u v w : World) → Keeps k u v → Keeps k v w → Keeps k u w
keeps_then k u v w p q =
    record {
      count = q.count ∙ p.count;
      programs = λ j. q.programs j ∙ p.programs j;
      listed = q.listed ∙ p.listed;
      floors = λ j l. q.floors j (subst (λ (x : ℕ). k ≤ x) (sym (p.floors j l)) l) ∙ p.floors j l;
      ups = λ j t. q.ups j (p.ups j t);
      port = λ t. q.port (p.port t);
      heard = λ j. omega (arith, p.heard j, q.heard j);
      levels = λ j. omega (arith, p.levels j, q.levels j);
    }

-- a boat's step
keeps_boat : (k : ℕ) (w : World) (i : ℕ) (x : Vessel) (s : Bool) (d : Deed × Memory) → x.program ≡ (w.boat i).program → (k ≤ journal.floor (whole w i) → journal.floor (file (after Whole s d.0.records x.disk)) ≡ journal.floor (whole w i)) → journal.level (whole w i) ≤ journal.level (file (after Whole s d.0.records x.disk)) → Keeps k w (boat_does w i x s d Whole)
keeps_boat k w i x s d p f l =
    let y : Vessel = vessel_after Whole s d.0.records d.1 x in
    record {
      count = refl;
      programs = put_each (λ j v. v.program ≡ (w.boat j).program) i y w.boat p (λ j. refl);
      listed = refl;
      floors = put_each (λ j v. k ≤ journal.floor (whole w j) → journal.floor (file v.disk) ≡ journal.floor (whole w j)) i y w.boat f (λ j l. refl);
      ups = put_each (λ j v. is_some (w.boat j).running ≡ true → is_some v.running ≡ true) i y w.boat (λ t. refl) (λ j t. t);
      port = λ t. t;
      heard = λ j. omega arith;
      levels = put_each (λ j v. journal.level (whole w j) ≤ journal.level (file v.disk)) i y w.boat l (λ j. omega arith);
    }

-- the harbour's
keeps_port : (k : ℕ) (w : World) (s : Bool) (d : Deed × Book) → numbers_of (journal.boats (file (after Whole s d.0.records w.harbour.disk))) ≡ numbers_of (journal.boats (whole_port w)) → ((j : ℕ) → heard_of (whole_port w) j ≤ heard_of (file (after Whole s d.0.records w.harbour.disk)) j) → Keeps k w (harbour_does w s d Whole)
keeps_port k w s d n h = record { count = refl; programs = λ j. refl; listed = n; floors = λ j l. refl; ups = λ j t. t; port = λ t. refl; heard = h; levels = λ j. omega arith }

-- a world that events have made of w, with what is known of it
pub record Reached (k : ℕ) (w : World) (P : World → Type 0) : Type 0 where
  pub events : List Event
  pub world : World
  pub way : Goes w events world
  pub keeps : Keeps k w world
  pub sound : Sound world
  pub so : P world

some_of : {A : Type 0} (o : Option A) → is_some o ≡ true → (x : A) × (o ≡ Some x)
some_of None t = absurd (false≢true t)
some_of (Some x) t = (x, refl)

sound_next : (w v : World) (e : Event) → Sound w → play w e Whole ≡ Ok v → Sound v
sound_next w v e sd p = subst Sound (ap (outcome w) p) (play_sound w (e, Whole) sd)

-- one event more
next : (k : ℕ) (w : World) (P Q : World → Type 0) (r : Reached k w P) (e : Event) (v : World) → play r.world e Whole ≡ Ok v → Keeps k r.world v → Q v → Reached k w Q
next k w P Q r e v p q so =
    record { events = r.events ++ e ∷ []; world = v; way = goes r.events e r.way p; keeps = keeps_then k w r.world v r.keeps q; sound = sound_next r.world v e r.sound p; so = so }

-- who is on the list, and that there is such a boat
listed_there : (w : World) (b : ℕ) → Sound w → Listed (whole_port w) b → there w b ≡ true
listed_there w b sd l = sd.ledger.there b l

no_zero : (w : World) (b : ℕ) → there w b ≡ true → eqb b 0 ≡ false
no_zero w b t = let o : 1 ≤ b = leb-true 1 b (and_parts (leb 1 b) (leb b w.count) t).0 in grind (arith, nat_tests, o)

-- the harbour is started
port_up : (k : ℕ) (w : World) → Sound w → Reached k w (λ v. is_some v.harbour.running ≡ true)
port_up k w sd =
    elim (cases_Bool (is_some w.harbour.running)) [
      | inl t ↦ record { events = []; world = w; way = stays; keeps = keeps_none k w; sound = sd; so = t }
      | inr t ↦ (let o : (x : Book) × (harbours.opening (whole_port w) ≡ Ok x) = ok_of (harbours.opening (whole_port w)) (promises w sd).reopens in
          let r : Reached k w (λ v. v ≡ w) = record { events = []; world = w; way = stays; keeps = keeps_none k w; sound = sd; so = refl } in
          next k w (λ v. v ≡ w) (λ v. is_some v.harbour.running ≡ true) r (Start (record { 0 = 0 })) (harbour_does w true (nothing, o.0) Whole) (ap (reopened w Whole) o.1) (keeps_port k w true (nothing, o.0) refl (λ j. omega arith)) refl)
    ]
  where
    ok_of : (r : Result Book Verdict) → is_ok r ≡ true → (x : Book) × (r ≡ Ok x)
    ok_of (Ok x) t = (x, refl)
    ok_of (Err e) t = absurd (false≢true t)

-- both run
abbrev Up : ℕ → World → Type 0
Up b v = (is_some v.harbour.running ≡ true) × (is_some (v.boat b).running ≡ true)

-- boat b of the list is started
boat_up : (k b : ℕ) (w : World) (r : Reached k w (λ v. is_some v.harbour.running ≡ true)) → Listed (whole_port r.world) b → Reached k w (Up b)
boat_up k b w r l =
    let v : World = r.world in
    let p : ℕ = (v.boat b).program in
    let t : there v b ≡ true = listed_there v b r.sound l in
    elim (cases_Bool (is_some (v.boat b).running)) [
      | inl u ↦ record { events = r.events; world = v; way = r.way; keeps = r.keeps; sound = r.sound; so = (r.so, u) }
      | inr u ↦ (let o : (ls : List Letter) × (boats.opening b p (whole v b) ≡ Ok (deed [] ls, boats.recalled p (whole v b))) = opening_is b p (whole v b) ((promises v r.sound).opens b p l (r.sound.boats b).kept) in
          let d : Deed × Memory = (deed [] o.0, boats.recalled p (whole v b)) in
          let e : play v (Start (record { 0 = b })) Whole ≡ Ok (boat_does v b (under p (v.boat b)) true d Whole) = cond-false (eqb b 0) _ (cond (there v b) (opening v b p Whole) (Err Bad)) (no_zero v b t) ∙ cond-true (there v b) (opening v b p Whole) (Err Bad) t ∙ ap (opened v b p Whole) o.1 in
          let x : Vessel = vessel_after Whole true [] (boats.recalled p (whole v b)) (under p (v.boat b)) in
          next k w (λ v. is_some v.harbour.running ≡ true) (Up b) r (Start (record { 0 = b })) (boat_does v b (under p (v.boat b)) true d Whole) e (keeps_boat k v b (under p (v.boat b)) true d refl (λ l. refl) (omega arith)) (r.so, ap (λ (y : Vessel). is_some y.running) (put_here b x v.boat)))
    ]

-- what runs on boat b
standing_of : (v : World) (b : ℕ) (m : Memory) → Sound v → (v.boat b).running ≡ Some m → Aboard b (safe_port v) (v.boat b) (Some m)
standing_of v b m sd e = subst (Aboard b (safe_port v) (v.boat b)) e (sd.boats b).runs

at_is : (v : World) (b : ℕ) (m : Memory) (f : Memory → Result World Verdict) → there v b ≡ true → (v.boat b).running ≡ Some m → at v b f ≡ f m
at_is v b m f t e = cond-true (there v b) (aboard (v.boat b).running f) (Err Bad) t ∙ ap (λ o. aboard o f) e

-- the last notice is the one with this number
last_at : {A : Type 0} (xs : List A) (x d : A) (ys : List A) → get_or (xs ++ x ∷ ys) (length xs) d ≡ x
last_at [] x d ys = refl
last_at (y ∷ xs) x d ys = last_at xs x d ys

last_in : {A : Type 0} (xs : List A) (x : A) (ys : List A) → length xs < length (xs ++ x ∷ ys)
last_in xs x ys = omega (arith, length-append xs (x ∷ ys))

bring_is : (v : World) (ls : List Letter) (l : Letter) (rest : List Letter) → v.notices ≡ ls ++ l ∷ rest → play v (BringNotice (length ls)) Whole ≡ arriving v l Whole
bring_is v ls l rest e =
    cond-true (ltb (length ls) (length v.notices)) (arriving v (get_or v.notices (length ls) no_notice) Whole) (Err Bad) (lt-ltb (length ls) (length v.notices) (subst (λ (xs : List Letter). length ls < length xs) (sym e) (last_in ls l rest))) ∙ ap (λ (x : Letter). arriving v x Whole) (ap (λ (xs : List Letter). get_or xs (length ls) no_notice) e ∙ last_at ls l no_notice rest)

-- boat b has told a floor of at least k, and it is the last notice
pub record Tells (k b : ℕ) (v : World) : Type 0 where
  pub up : Up b v
  pub before : List Letter
  pub floor : ℕ
  pub last : v.notices ≡ before ++ vow b floor ∷ []
  pub enough : k ≤ floor

-- a whole step of boat b that runs m
step_up : (v : World) (b : ℕ) (s : Bool) (d : Deed × Memory) → Up b v → Up b (boat_does v b (v.boat b) s d Whole)
step_up v b s d u = (u.0, ap (λ (y : Vessel). is_some y.running) (put_here b (vessel_after Whole s d.0.records d.1 (v.boat b)) v.boat))

file_of : (s : Bool) (rs : List Written) (d : Disk) → writes rs ≡ s → file (after Whole s rs d) ≡ file (appended rs d)
file_of s [] d e = subst (λ (t : Bool). file (after Whole t [] d) ≡ file (appended [] d)) e refl
file_of s (r ∷ rs) d e = subst (λ (t : Bool). file (after Whole t (r ∷ rs) d) ≡ file (appended (r ∷ rs) d)) e refl

vouches : (k b : ℕ) (w : World) (r : Reached k w (Up b)) → Listed (whole_port r.world) b → k ≤ (r.world.boat b).program → heard_of (whole_port r.world) b < k → Reached k w (Tells k b)
vouches k b w r l new low =
    let v : World = r.world in
    let t : there v b ≡ true = listed_there v b r.sound l in
    let o : (m : Memory) × ((v.boat b).running ≡ Some m) = some_of (v.boat b).running r.so.1 in
    let m : Memory = o.0 in
    let here : Aboard b (safe_port v) (v.boat b) (Some m) = standing_of v b m r.sound o.1 in
    let fl : m.standing.floor ≡ journal.floor (whole v b) = ap (λ (y : Memory). y.standing.floor) here.0 in
    let pr : m.standing.program ≡ (v.boat b).program = ap (λ (y : Memory). y.standing.program) here.0 in
    elim (cases_Bool (ltb (journal.floor (whole v b)) k)) [
      | inl c ↦ (let lt : journal.floor (whole v b) < k = ltb-true (journal.floor (whole v b)) k c in
          let d : Deed × Memory = boats.promising b m in
          let rs : List Written = d.0.records in
          next k w (Up b) (Tells k b) r (Promise (record { 0 = b })) (boat_does v b (v.boat b) (writes rs) d Whole) (at_is v b m (λ x. what_boat v b Whole (Ok (boats.promising b x))) t o.1)
          (keeps_boat k v b (v.boat b) (writes rs) d refl (λ g. absurd (omega (arith, g, lt)))
          (subst (λ (xs : List Written). journal.level (whole v b) ≤ journal.level xs) (sym (file_of (writes rs) rs (v.boat b).disk refl))
          (cond_both (ltb m.standing.floor m.standing.program) (floor_is m.standing.program ∷ []) [] (λ xs. journal.level (whole v b) ≤ journal.level (file (appended xs (v.boat b).disk))) (λ q. omega arith) (λ q. omega arith))))
          (record { up = step_up v b (writes rs) d r.so; before = v.notices; floor = m.standing.program; last = refl; enough = omega (arith, new, pr) }))
      | inr c ↦ (let ge : k ≤ journal.floor (whole v b) = ltb-false (journal.floor (whole v b)) k c in
          let d : Deed × Memory = (boats.ticking b m, m) in
          let silent : m.answered ≡ true → ⊥ = λ a. never (here.2 a) ge in
          let asks : boats.tells m ≡ true = and_from (ltb 1 m.standing.floor) (not m.answered) (lt-ltb 1 m.standing.floor (omega (arith, fl, ge, low, heard_least b (whole_port v)))) (unanswered m.answered silent) in
          let ls : List Letter = vow b m.standing.floor ∷ [] in
          let one : cond (boats.tells m) ls [] ≡ ls = cond-true (boats.tells m) ls [] asks in
          next k w (Up b) (Tells k b) r (Tick (record { 0 = b })) (boat_does v b (v.boat b) false d Whole) (at_is v b m (λ x. what_boat v b Whole (Ok (boats.ticking b x, x))) t o.1)
          (keeps_boat k v b (v.boat b) false d refl (λ g. refl) (omega arith))
          (record { up = step_up v b false d r.so; before = v.notices; floor = m.standing.floor; last = ap (λ (xs : List Letter). v.notices ++ xs) one; enough = omega (arith, ge, fl) }))
    ]
  where
    never : journal.floor (whole r.world b) ≤ heard_of (safe_port r.world) b → k ≤ journal.floor (whole r.world b) → ⊥
    never a g = omega (arith, a, g, low, heard_up b (safe_port r.world) (part_behind r.world.harbour.disk.pending (safe_port r.world)))

    unanswered : (a : Bool) → (a ≡ true → ⊥) → not a ≡ true
    unanswered true n = absurd (n refl)
    unanswered false n = refl

-- the harbour has heard of boat b at least k
abbrev HeardOf : ℕ → ℕ → World → Type 0
HeardOf k b v = Up b v × (k ≤ heard_of (whole_port v) b)

hears : (k b : ℕ) (w : World) (r : Reached k w (Tells k b)) → Listed (whole_port r.world) b → Reached k w (HeardOf k b)
hears k b w r l =
    let v : World = r.world in
    let so : Tells k b v = r.so in
    let t : there v b ≡ true = listed_there v b r.sound l in
    let o : (x : Book) × (v.harbour.running ≡ Some x) = some_of v.harbour.running so.up.0 in
    let x : Book = o.0 in
    let here : Ashore v.harbour (Some x) = subst (Ashore v.harbour) o.1 r.sound.ledger.runs in
    let list : x.list ≡ journal.boats (whole_port v) = ap (λ (y : Book). y.list) here.0 in
    let f : ℕ = so.floor in
    let g : ℕ = heard_of (whole_port v) b in
    let known : floor_of b x.list ≡ Some g = ap (floor_of b) list ∙ listed_some b (whole_port v) l in
    let y : Book = record { list = heard b f x.list; said = x.said } in
    let ls : List Letter = notice 0 b (heard_is (max g f)) ∷ [] in
    let rs : ℕ → List Written = λ n. cond (ltb n f) (boat_is b f ∷ []) [] in
    let d : ℕ → Deed × Book = λ n. (deed (rs n) ls, y) in
    let F : ℕ → Result World Verdict = λ n. Ok (harbour_does v (writes (rs n)) (d n) Whole) in
    let p : play v (BringNotice (length so.before)) Whole ≡ F g = bring_is v so.before (vow b f) [] so.last ∙ ap (λ o. aboard o (λ x. what_harbour v Whole (harbours.hearing x (vow b f)))) o.1 ∙ ap (what_harbour v Whole) (cond-false (eqb b 0) (Err (Number 1)) (confirmed x b f (ledger.hearing x b f)) (no_zero v b t)) ∙ ap (λ o. what_harbour v Whole (confirmed x b f (answering x b f o))) known ∙ ap F (ap (λ o. unwrap_or o 0) known) in
    let both_so : Keeps k v (harbour_does v (writes (rs g)) (d g) Whole) × HeardOf k b (harbour_does v (writes (rs g)) (d g) Whole) = cond_both (ltb g f) (boat_is b f ∷ []) [] (λ xs. Keeps k v (harbour_does v (writes xs) (deed xs ls, y) Whole) × HeardOf k b (harbour_does v (writes xs) (deed xs ls, y) Whole))
    (λ c. (keeps_port k v true (deed (boat_is b f ∷ []) ls, y) (numbers_heard b f (admitted b (journal.boats (whole_port v))) ∙ ap numbers_of (cond-true (is_some (floor_of b (journal.boats (whole_port v)))) (journal.boats (whole_port v)) _ l)) (λ j. heard_more j (boat_is b f) (whole_port v)), ((refl, so.up.1), omega (arith, so.enough, heard_here b f (whole_port v)))))
    (λ c. (keeps_port k v false (deed [] ls, y) refl (λ j. omega arith), ((refl, so.up.1), omega (arith, so.enough, ltb-false g f c)))) in
    next k w (Tells k b) (HeardOf k b) r (BringNotice (length so.before)) (harbour_does v (writes (rs g)) (d g) Whole) p both_so.0 both_so.1

-- boat b is heard of, if it was not
boat_heard : (k b : ℕ) (w : World) (r : Reached k w (λ v. is_some v.harbour.running ≡ true)) → Listed (whole_port r.world) b → k ≤ (r.world.boat b).program → Reached k w (HeardOf k b)
boat_heard k b w r l new =
    let s : Reached k w (Up b) = boat_up k b w r l in
    let on : Listed (whole_port s.world) b = listed_on k w b r.world s.world r.keeps s.keeps l in
    let run : k ≤ (s.world.boat b).program = omega (arith, new, r.keeps.programs b, s.keeps.programs b) in
    elim (cases_Bool (ltb (heard_of (whole_port s.world) b) k)) [
      | inl c ↦ (let low : heard_of (whole_port s.world) b < k = ltb-true (heard_of (whole_port s.world) b) k c in
          let t : Reached k w (Tells k b) = vouches k b w s on run low in
          hears k b w t (listed_on k w b s.world t.world s.keeps t.keeps on))
      | inr c ↦ record { events = s.events; world = s.world; way = s.way; keeps = s.keeps; sound = s.sound; so = (s.so, ltb-false (heard_of (whole_port s.world) b) k c) }
    ]
  where
    listed_on : (k : ℕ) (w : World) (b : ℕ) (u v : World) → Keeps k w u → Keeps k w v → Listed (whole_port u) b → Listed (whole_port v) b
    listed_on k w b u v p q l = listed_same b (journal.boats (whole_port v)) (journal.boats (whole_port u)) (q.listed ∙ sym p.listed) ∙ l

-- one way after another
goes_then : (w : World) (es : List Event) {u : World} → Goes w es u → (fs : List Event) {v : World} → Goes u fs v → Goes w (es ++ fs) v
goes_then w es {u} p fs stays = subst (λ (xs : List Event). Goes w xs u) (sym (append-nil es)) p
goes_then w es p fs (goes {u = x} {v = v} gs e q s) = subst (λ (xs : List Event). Goes w xs v) (append_assoc es gs (e ∷ [])) (goes (es ++ gs) e (goes_then w es p gs q) s)

abbrev here_now : (k : ℕ) (w : World) (P : World → Type 0) → Sound w → P w → Reached k w P
here_now k w P sd so = record { events = []; world = w; way = stays; keeps = keeps_none k w; sound = sd; so = so }

abbrev then_reached : (k : ℕ) (w : World) (P Q : World → Type 0) (r : Reached k w P) (s : Reached k r.world Q) → Reached k w Q
then_reached k w P Q r s = record { events = r.events ++ s.events; world = s.world; way = goes_then w r.events r.way s.events s.way; keeps = keeps_then k w r.world s.world r.keeps s.keeps; sound = s.sound; so = s.so }

-- who is on a list, by their numbers
pub mem_listed : (j : ℕ) (es : List Entry) → Memᴰ j (numbers_of es) → is_some (floor_of j es) ≡ true
mem_listed j [] at = absurd (mathlib.Core.List.Memᴰ.not-nil at)
mem_listed j (e ∷ es) at = go (mathlib.Core.List.Memᴰ.cases_cons at) (mem_listed j es)
  where
    go : (j ≡ e.boat.0) ⊎ Memᴰ j (numbers_of es) → (Memᴰ j (numbers_of es) → is_some (floor_of j es) ≡ true) → is_some (floor_of j (e ∷ es)) ≡ true
    go (inl q) f = ap is_some (cond-true (eqb e.boat.0 j) (Some e.floor.0) (floor_of j es) (eq-eqb e.boat.0 j (sym q)))
    go (inr m) f = cond_both (eqb e.boat.0 j) (Some e.floor.0) (floor_of j es) (λ o. is_some o ≡ true) (λ c. refl) (λ c. f m)

pub listed_mem : (j : ℕ) (es : List Entry) → is_some (floor_of j es) ≡ true → Memᴰ j (numbers_of es)
listed_mem j [] t = absurd (false≢true t)
listed_mem j (e ∷ es) t =
    elim (cases_Bool (eqb e.boat.0 j)) [
      | inl c ↦ mathlib.Core.List.Memᴰ.head (sym (eqb-true e.boat.0 j c))
      | inr c ↦ mathlib.Core.List.Memᴰ.tail (listed_mem j es (sym (ap is_some (cond-false (eqb e.boat.0 j) (Some e.floor.0) (floor_of j es) c)) ∙ t))
    ]

listed_keeps : (k : ℕ) (w v : World) (b : ℕ) → Keeps k w v → Listed (whole_port w) b → Listed (whole_port v) b
listed_keeps k w v b q l = listed_same b (journal.boats (whole_port v)) (journal.boats (whole_port w)) q.listed ∙ l

-- all of a list are heard of
abbrev AllHeard : ℕ → List ℕ → World → Type 0
AllHeard k bs v = (is_some v.harbour.running ≡ true) × ((j : ℕ) → Memᴰ j bs → (is_some (v.boat j).running ≡ true) × (k ≤ heard_of (whole_port v) j))

all_heard : (k : ℕ) (bs : List ℕ) (w : World) → Sound w → is_some w.harbour.running ≡ true → ((j : ℕ) → Memᴰ j bs → Listed (whole_port w) j × (k ≤ (w.boat j).program)) → Reached k w (AllHeard k bs)
all_heard k [] w sd up ok = here_now k w (AllHeard k []) sd (up, λ j at. absurd (mathlib.Core.List.Memᴰ.not-nil at))
all_heard k (b ∷ bs) w sd up ok =
    let r : Reached k w (HeardOf k b) = boat_heard k b w (here_now k w (λ v. is_some v.harbour.running ≡ true) sd up) (ok b (mathlib.Core.List.Memᴰ.head refl)).0 (ok b (mathlib.Core.List.Memᴰ.head refl)).1 in
    let s : Reached k r.world (AllHeard k bs) = all_heard k bs r.world r.sound r.so.0.0 (λ j at. (listed_keeps k w r.world j r.keeps (ok j (mathlib.Core.List.Memᴰ.tail at)).0, omega (arith, (ok j (mathlib.Core.List.Memᴰ.tail at)).1, r.keeps.programs j))) in
    let t : Reached k r.world (AllHeard k (b ∷ bs)) = record { events = s.events; world = s.world; way = s.way; keeps = s.keeps; sound = s.sound; so = (s.so.0, λ j at. more s.world j (mathlib.Core.List.Memᴰ.cases_cons at) (s.so.1 j) (s.keeps.ups b r.so.0.1) (omega (arith, r.so.1, s.keeps.heard b))) } in
    then_reached k w (HeardOf k b) (AllHeard k (b ∷ bs)) r t
  where
    more : (v : World) (j : ℕ) → (j ≡ b) ⊎ Memᴰ j bs → (Memᴰ j bs → (is_some (v.boat j).running ≡ true) × (k ≤ heard_of (whole_port v) j)) → is_some (v.boat b).running ≡ true → k ≤ heard_of (whole_port v) b → (is_some (v.boat j).running ≡ true) × (k ≤ heard_of (whole_port v) j)
    more v j (inl e) f a c = subst (λ (i : ℕ). (is_some (v.boat i).running ≡ true) × (k ≤ heard_of (whole_port v) i)) (sym e) (a, c)
    more v j (inr m) f a c = f m

-- the list rises
ascending_boats : (rs : List Written) → ascending (journal.boats rs) ≡ true
ascending_boats [] = refl
ascending_boats (floor_is f ∷ rs) = ascending_boats rs
ascending_boats (level_is k ∷ rs) = ascending_boats rs
ascending_boats (word_is b n u ∷ rs) = ascending_boats rs
ascending_boats (used_to n ∷ rs) = ascending_boats rs
ascending_boats (boat_is b f ∷ rs) = ascending_heard b f (admitted b (journal.boats rs)) ∙ go (floor_of b (journal.boats rs)) refl (ascending_boats rs)
  where
    go : (o : Option ℕ) → floor_of b (journal.boats rs) ≡ o → ascending (journal.boats rs) ≡ true → ascending (admitted b (journal.boats rs)) ≡ true
    go None e a = ap ascending (cond-false (is_some (floor_of b (journal.boats rs))) (journal.boats rs) (entered b (journal.boats rs)) (ap is_some e)) ∙ ascending_entered b (journal.boats rs) e a
    go (Some n) e a = ap ascending (cond-true (is_some (floor_of b (journal.boats rs))) (journal.boats rs) (entered b (journal.boats rs)) (ap is_some e)) ∙ a

-- the level is said: the notices wait
abbrev Waits : ℕ → List Entry → World → Type 0
Waits k es v = (ls : List Letter) × (rest : List Letter) × (v.notices ≡ ls ++ (map (allowing k) es ++ rest)) × ((j : ℕ) → Memᴰ j (numbers_of es) → (is_some (v.boat j).running ≡ true) × (there v j ≡ true))

announces : (k b : ℕ) (w : World) (sd : Sound w) → 1 ≤ k → Listed (whole_port w) b → AllHeard k (numbers_of (journal.boats (whole_port w))) w → Reached k w (Waits k (journal.boats (whole_port w)))
announces k b w sd one l all =
    let o : (x : Book) × (w.harbour.running ≡ Some x) = some_of w.harbour.running all.0 in
    let x : Book = o.0 in
    let es : List Entry = journal.boats (whole_port w) in
    let here : Ashore w.harbour (Some x) = subst (Ashore w.harbour) o.1 sd.ledger.runs in
    let list : x.list ≡ es = ap (λ (y : Book). y.list) here.0 in
    let none : lacking k es ≡ None = lacks_none k es es (known_all es (ascending_boats (whole_port w))) (λ j f e. subst (λ (n : ℕ). k ≤ n) (some_same (sym (listed_some j (whole_port w) (ap is_some e)) ∙ e)) (all.1 j (listed_mem j es (ap is_some e))).1) in
    let full : eqb (length es) 0 ≡ false = filled es (listed_mem b es l) in
    let may : unpromised k x.list ≡ false = ap (unpromised k) list ∙ ap (λ t. (ltb 1 k && t) || is_some (lacking k es)) full ∙ ap (λ t. (ltb 1 k && false) || is_some t) none ∙ ends (ltb 1 k) in
    let y : Book = record { list = x.list; said = max x.said k } in
    let rs : List Written = cond (ltb x.said k) (level_is k ∷ []) [] in
    let d : Deed × Book = (deed rs (map (allowing k) x.list), y) in
    let v : World = harbour_does w (writes rs) d Whole in
    let nz : eqb k 0 ≡ false = grind (arith, nat_tests, one) in
    let p : play w (Announce (record { 0 = k })) Whole ≡ Ok v = ap (λ o. aboard o (λ x. what_harbour w Whole (harbours.announcing x k))) o.1 ∙ ap (λ r. what_harbour w Whole (announced x k r)) (cond-false (eqb k 0) (Err Bad) _ nz ∙ cond-false (unpromised k x.list) (Err (Number 4)) (Ok y) may) in
    let q : Keeps k w v = cond_both (ltb x.said k) (level_is k ∷ []) [] (λ xs. Keeps k w (harbour_does w (writes xs) (deed xs (map (allowing k) x.list), y) Whole)) (λ c. keeps_port k w true (deed (level_is k ∷ []) (map (allowing k) x.list), y) refl (λ j. omega arith)) (λ c. keeps_port k w false (deed [] (map (allowing k) x.list), y) refl (λ j. omega arith)) in
    next k w (λ u. u ≡ w) (Waits k es) (here_now k w (λ u. u ≡ w) sd refl) (Announce (record { 0 = k })) v p q
    (w.notices, [], ap (λ (zs : List Entry). w.notices ++ map (allowing k) zs) list ∙ ap (λ (zs : List Letter). w.notices ++ zs) (sym (append-nil (map (allowing k) es))), λ j at. ((all.1 j at).0, sd.ledger.there j (mem_listed j es at)))
  where
    some_same : {a c : ℕ} → Some a ≡ Some c → a ≡ c
    some_same {a} {c} e = cc

    filled : (es : List Entry) → Memᴰ b (numbers_of es) → eqb (length es) 0 ≡ false
    filled [] at = absurd (mathlib.Core.List.Memᴰ.not-nil at)
    filled (e ∷ es) at = ne_eqb (length (e ∷ es)) 0 (λ q. omega (arith, q))

    ends : (t : Bool) → (t && false) || false ≡ false
    ends true = refl
    ends false = refl

-- one boat hears the level
learn_one : (k : ℕ) (e : Entry) (es : List Entry) (w : World) → Sound w → Waits k (e ∷ es) w → Reached k w (λ v. (k ≤ journal.level (whole v e.boat.0)) × Waits k es v)
learn_one k e es w sd q =
    let j : ℕ = e.boat.0 in
    let ls : List Letter = q.0 in
    let rest : List Letter = q.1 in
    let up : (is_some (w.boat j).running ≡ true) × (there w j ≡ true) = q.3 j (mathlib.Core.List.Memᴰ.head refl) in
    let o : (m : Memory) × ((w.boat j).running ≡ Some m) = some_of (w.boat j).running up.0 in
    let m : Memory = o.0 in
    let here : Aboard j (safe_port w) (w.boat j) (Some m) = standing_of w j m sd o.1 in
    let lv : m.standing.level ≡ journal.level (whole w j) = ap (λ (y : Memory). y.standing.level) here.0 in
    let d : Deed × Memory = boats.learning j m k in
    let rs : List Written = d.0.records in
    let v : World = boat_does w j (w.boat j) (writes rs) d Whole in
    let l : Letter = allowing k e in
    let p : play w (BringNotice (length ls)) Whole ≡ Ok v = bring_is w ls l (map (allowing k) es ++ rest) q.2 ∙ cond-false (eqb j 0) _ (at w j (λ x. what_boat w j Whole (boats.hearing j x l))) (no_zero w j up.1) ∙ at_is w j m (λ x. what_boat w j Whole (boats.hearing j x l)) up.1 o.1 ∙ ap (what_boat w j Whole) (cond-true (eqb j j) (Ok d) (Err (Number 0)) (eq-eqb j j refl)) in
    let has : Letter = notice j 0 (has_it (max m.standing.level k)) in
    let x : Vessel = vessel_after Whole (writes rs) rs d.1 (w.boat j) in
    let got : (journal.level (whole w j) ≤ journal.level (file x.disk)) × (k ≤ journal.level (file x.disk)) × (journal.floor (file x.disk) ≡ journal.floor (whole w j)) = subst (λ (xs : List Written). (journal.level (whole w j) ≤ journal.level xs) × (k ≤ journal.level xs) × (journal.floor xs ≡ journal.floor (whole w j))) (sym (file_of (writes rs) rs (w.boat j).disk refl))
    (cond_both (ltb m.standing.level k) (level_is k ∷ []) [] (λ xs. (journal.level (whole w j) ≤ journal.level (file (appended xs (w.boat j).disk))) × (k ≤ journal.level (file (appended xs (w.boat j).disk))) × (journal.floor (file (appended xs (w.boat j).disk)) ≡ journal.floor (whole w j))) (λ c. (omega arith, omega arith, omega arith)) (λ c. (omega arith, omega (arith, lv, ltb-false m.standing.level k c), refl))) in
    let keep : Keeps k w v = keeps_boat k w j (w.boat j) (writes rs) d refl (λ g. got.2) got.0 in
    next k w (λ u. u ≡ w) (λ u. (k ≤ journal.level (whole u j)) × Waits k es u) (here_now k w (λ u. u ≡ w) sd refl) (BringNotice (length ls)) v p keep (
      subst (λ (y : Vessel). k ≤ journal.level (file y.disk)) (sym (put_here j x w.boat)) got.1,
      (ls ++ l ∷ [], rest ++ has ∷ [], ap (λ (zs : List Letter). zs ++ has ∷ []) q.2 ∙ regroup ls l (map (allowing k) es) rest (has ∷ []), λ i at. (keep.ups i (q.3 i (mathlib.Core.List.Memᴰ.tail at)).0, (q.3 i (mathlib.Core.List.Memᴰ.tail at)).1)),
    )
  where
    regroup : (as1 : List Letter) (x : Letter) (bs cs ds : List Letter) → (as1 ++ (x ∷ (bs ++ cs))) ++ ds ≡ (as1 ++ x ∷ []) ++ (bs ++ (cs ++ ds))
    regroup as1 x bs cs ds = append_assoc as1 (x ∷ (bs ++ cs)) ds ∙ ap (λ (zs : List Letter). as1 ++ x ∷ zs) (append_assoc bs cs ds) ∙ sym (append_assoc as1 (x ∷ []) (bs ++ (cs ++ ds)))

abbrev Has : ℕ → List Entry → World → Type 0
Has k es v = (j : ℕ) → Memᴰ j (numbers_of es) → k ≤ journal.level (whole v j)

learn_all : (k : ℕ) (es : List Entry) (w : World) → Sound w → Waits k es w → Reached k w (Has k es)
learn_all k [] w sd q = here_now k w (Has k []) sd (λ j at. absurd (mathlib.Core.List.Memᴰ.not-nil at))
learn_all k (e ∷ es) w sd q =
    let r : Reached k w (λ v. (k ≤ journal.level (whole v e.boat.0)) × Waits k es v) = learn_one k e es w sd q in
    let s : Reached k r.world (Has k es) = learn_all k es r.world r.sound r.so.1 in
    let t : Reached k r.world (Has k (e ∷ es)) = record { events = s.events; world = s.world; way = s.way; keeps = s.keeps; sound = s.sound; so = λ j at. more s.world j (mathlib.Core.List.Memᴰ.cases_cons at) (s.so j) (omega (arith, r.so.0, s.keeps.levels e.boat.0)) } in
    then_reached k w (λ v. (k ≤ journal.level (whole v e.boat.0)) × Waits k es v) (Has k (e ∷ es)) r t
  where
    more : (v : World) (j : ℕ) → (j ≡ e.boat.0) ⊎ Memᴰ j (numbers_of es) → (Memᴰ j (numbers_of es) → k ≤ journal.level (whole v j)) → k ≤ journal.level (whole v e.boat.0) → k ≤ journal.level (whole v j)
    more v j (inl q) f c = subst (λ (i : ℕ). k ≤ journal.level (whole v i)) (sym q) c
    more v j (inr m) f c = f m

-- a boat that runs has nothing that waits for a sync
safe_whole : (v : World) (b : ℕ) → Sound v → is_some (v.boat b).running ≡ true → whole v b ≡ safe v b
safe_whole v b sd t =
    let o : (m : Memory) × ((v.boat b).running ≡ Some m) = some_of (v.boat b).running t in
    ap (λ (ps : List Written). ps ++ safe v b) (standing_of v b o.0 sd o.1).1

pub rises : (k b : ℕ) (w : World) → Sound w → 1 ≤ k → Listed (whole_port w) b → ((j : ℕ) → Listed (whole_port w) j → k ≤ (w.boat j).program) → (fs : List Event) × (taken w fs ≡ true) × Risen k w (plays w (wholly fs))
rises k b w sd one l new =
    let a : Reached k w (λ v. is_some v.harbour.running ≡ true) = port_up k w sd in
    let bs : List ℕ = numbers_of (journal.boats (whole_port a.world)) in
    let on : (j : ℕ) → Memᴰ j bs → Listed (whole_port a.world) j × (k ≤ (a.world.boat j).program) = λ j at.
    let la : Listed (whole_port a.world) j = mem_listed j (journal.boats (whole_port a.world)) at in
    let lw : Listed (whole_port w) j = sym (listed_same j (journal.boats (whole_port a.world)) (journal.boats (whole_port w)) a.keeps.listed) ∙ la in
    (la, omega (arith, new j lw, a.keeps.programs j)) in
    let c : Reached k a.world (AllHeard k bs) = all_heard k bs a.world a.sound a.so on in
    let lc : Listed (whole_port c.world) b = listed_keeps k a.world c.world b c.keeps (listed_keeps k w a.world b a.keeps l) in
    let es : List Entry = journal.boats (whole_port c.world) in
    let all : AllHeard k (numbers_of es) c.world = subst (λ (xs : List ℕ). AllHeard k xs c.world) (sym c.keeps.listed) c.so in
    let d : Reached k c.world (Waits k es) = announces k b c.world c.sound one lc all in
    let e : Reached k d.world (Has k es) = learn_all k es d.world d.sound d.so in
    let v : World = e.world in
    let r1 : Reached k w (AllHeard k bs) = then_reached k w (λ v. is_some v.harbour.running ≡ true) (AllHeard k bs) a c in
    let r2 : Reached k w (Waits k es) = then_reached k w (AllHeard k bs) (Waits k es) r1 d in
    let r : Reached k w (Has k es) = then_reached k w (Waits k es) (Has k es) r2 e in
    let q : Keeps k w v = r.keeps in
    let level : (j : ℕ) → Listed (whole_port w) j → k ≤ journal.level (safe v j) = λ j lj.
    let lj2 : Listed (whole_port c.world) j = listed_keeps k a.world c.world j c.keeps (listed_keeps k w a.world j a.keeps lj) in
    let at : Memᴰ j (numbers_of es) = listed_mem j es lj2 in
    let upv : is_some (v.boat j).running ≡ true = e.keeps.ups j (d.keeps.ups j (all.1 j at).0) in
    subst (λ (xs : List Written). k ≤ journal.level xs) (safe_whole v j e.sound upv) (e.so j at) in
    let risen : Risen k w v = record { levels = level; programs = q.programs; listed = q.listed; floors = q.floors } in
    (r.events, goes_taken w r.events r.way, subst (Risen k w) (sym (goes_plays w r.events r.way)) risen)

pub run_rises_lem : RunRises
run_rises_lem n k b es one l new = rises k b (run n es) (run_sound n es) one l new
