-- What is promised follows from the invariant.
-- Assumes nothing.
use Rattle.std.proofs.Common.{◌≡◌, ℕ, ◌<◌, ◌≤◌, Bool, true, false, cond, not, ◌&&◌, eqb, ltb, leb, ◌⊎◌, List, [], ◌∷◌, length, get_or, drop, is_some, is_ok, Some, None, Ok, Err, Option, Result, sym, refl, ap, ◌∙◌, subst, inl, inr, append_assoc, arith}
use mathlib.Core.List.Memᴰ
use mathlib.Core.List.{Memᴰ}
use Rattle.std.proofs.lemmas.Bool.{cond_both, cond-true, cond-false, eq-eqb, ltb-false, lt-ltb, le-leb, leb-true, and_parts, and_from, true≢false, false≢true, cases_Bool}
use Rattle.std.proofs.lemmas.Bool.Decides.{nat_tests}
use Rattle.levels.specs.Verdicts.{Verdict, Number, Bad}
use Rattle.levels.specs.Rules.{reads, keep_form}
use Rattle.ledger.specs.Ledgers.{Book}
use Rattle.forms.specs.Meaning.{Uttered, form_of, ship_of}
use Rattle.logbooks.specs.Logs.{Log, slot_of, older, taking}
use Rattle.messages.specs.Messages.{Letter}
use Rattle.records.specs.Records.{Written, floor_is, level_is, word_is, boat_is, used_to}
use Rattle.stations.specs.Journals as journal
use Rattle.stations.specs.Journals.{floor_in, level_in, used_in, form_in, slots, every, boat_reads, harbour_reads}
use Rattle.stations.specs.Deeds.{Deed, deed}
use Rattle.stations.specs.Boats as boats
use Rattle.stations.specs.Boats.{Memory}
use Rattle.runs.specs.declared.events.Event.TheVariants.{GoBack}
use Rattle.runs.specs.declared.events.Fate.{Fate}
use Rattle.runs.specs.declared.events.Fate.TheVariants.{Whole}
use Rattle.runs.specs.Disks.{file, appended, after}
use Rattle.runs.specs.Worlds.{World, Said, no_word, there, at, aboard, arriving, letter_of, what_boat, under, opened, opening, vessel_after, boat_does, play, plays, start, run}
use Rattle.runs.specs.Promises.{safe, whole, safe_port, whole_port, Listed, heard_of, Heeded, Recalls, RecallsPort, Silent, Promises, RunPromises, Lasting, RunLasts, FallLeaves, RunRecovers}
use Rattle.runs.proofs.Parts.{put_here, Lawful, each_of, part_top, part_behind, part_lost}
use Rattle.runs.proofs.Fates.{After, after_step, syncs}
use Rattle.runs.proofs.Lists.{heard_more, heard_least, heard_up, listed_apart}
use Rattle.runs.proofs.Holds.{BoatLaw, ListLaw, PortLaw, Aboard, Ashore, Told, Numbered, Sound, Up}
use Rattle.runs.proofs.Ports.{lawful_size}
use Rattle.runs.proofs.Vessels.{form_known, lawful_ships}
use Rattle.runs.proofs.Plays.{each_at, plays_up, plays_then, run_sound}

-- the level said is promised by all of the list
said_on : (r : Written) (rs : List Written) (j : ℕ) → level_in r ≤ heard_of rs j → journal.level rs ≤ heard_of rs j → journal.level (r ∷ rs) ≤ heard_of (r ∷ rs) j
said_on r rs j m n = omega (arith, m, n, heard_more j r rs)

pub lawful_said : (rs : List Written) → Lawful PortLaw rs → (j : ℕ) → Listed rs j → journal.level rs ≤ heard_of rs j
lawful_said [] h j l = omega arith
lawful_said (floor_is f ∷ rs) h j l = said_on (floor_is f) rs j (h.0.2 j l) (lawful_said rs h.1 j l)
lawful_said (level_is k ∷ rs) h j l = said_on (level_is k) rs j (h.0.2 j l) (lawful_said rs h.1 j l)
lawful_said (word_is b n u ∷ rs) h j l = said_on (word_is b n u) rs j (h.0.2 j l) (lawful_said rs h.1 j l)
lawful_said (used_to n ∷ rs) h j l = said_on (used_to n) rs j (h.0.2 j l) (lawful_said rs h.1 j l)
lawful_said (boat_is b f ∷ rs) h j l =
    elim (cases_Bool (eqb b j)) [
      | inl t ↦ fresh t h.0.3 (lawful_said rs h.1 j)
      | inr t ↦ said_on (boat_is b f) rs j (omega arith) (lawful_said rs h.1 j (listed_apart j b f rs t l))
    ]
  where
    here : eqb b j ≡ true → b ≡ j
    here t = grind (arith, nat_tests, t)

    fresh : eqb b j ≡ true → ListLaw (boat_is b f) rs → (Listed rs j → journal.level rs ≤ heard_of rs j) → journal.level (boat_is b f ∷ rs) ≤ heard_of (boat_is b f ∷ rs) j
    fresh t (inr low) ih = omega (arith, low, heard_least j (boat_is b f ∷ rs))
    fresh t (inl on) ih = said_on (boat_is b f) rs j (omega arith) (ih (subst (Listed rs) (here t) on))

-- what stands in a boat's file is in forms of at most its level
pub form_of_lem : (rs : List Written) → Lawful BoatLaw rs → (r : Written) → Memᴰ r rs → form_in r ≤ journal.level rs
form_of_lem [] h r at = absurd (Memᴰ.not-nil at)
form_of_lem (q ∷ rs) h r at = go (Memᴰ.cases_cons at) (form_of_lem rs h.1 r)
  where
    go : (r ≡ q) ⊎ Memᴰ r rs → (Memᴰ r rs → form_in r ≤ journal.level rs) → form_in r ≤ journal.level (q ∷ rs)
    go (inl e) f = subst (λ (x : Written). form_in x ≤ journal.level (q ∷ rs)) (sym e) (omega (arith, h.0.1))
    go (inr t) f = omega (arith, f t)

reads_low : (v f : ℕ) → reads 3 f ≡ true → f ≤ v → reads v f ≡ true
reads_low v f t l = grind (arith, nat_tests, t, l)

record_reads : (v : ℕ) (r : Written) → boat_reads 3 r ≡ true → form_in r ≤ v → boat_reads v r ≡ true
record_reads v (floor_is f) t l = refl
record_reads v (level_is k) t l = refl
record_reads v (word_is b n u) t l = reads_low v (form_of u) t l
record_reads v (boat_is b f) t l = absurd (false≢true t)
record_reads v (used_to n) t l = refl

all_reads : (v : ℕ) (rs : List Written) → Lawful BoatLaw rs → journal.level rs ≤ v → every (boat_reads v) rs ≡ true
all_reads v [] h l = refl
all_reads v (r ∷ rs) h l = and_from (boat_reads v r) (every (boat_reads v) rs) (record_reads v r h.0.0 (omega (arith, h.0.1, l))) (all_reads v rs h.1 (omega (arith, l)))

all_port : (rs : List Written) → Lawful PortLaw rs → every harbour_reads rs ≡ true
all_port [] h = refl
all_port (r ∷ rs) h = and_from (harbour_reads r) (every harbour_reads rs) h.0.0 (all_port rs h.1)

-- taking a word gives it a place, or 2, or 6
abbrev Placed : Result Log Verdict → Type 0
Placed (Ok l) = Unit {0}
Placed (Err e) = (e ≡ Number 2) ⊎ (e ≡ Number 6)

taking_placed : (x : Log) (b n : ℕ) (u : Uttered) (k : ℕ) → Placed (taking x b n u k)
taking_placed x b n u k =
    cond_both (older (x.lasts b (ship_of u)) n) _ _ Placed (λ t. inl refl)
    (λ t. cond_both (not (is_some (slot_of (ship_of u) x.slots)) && leb 4096 (length x.slots)) _ _ Placed (λ s. inr refl) (λ s. tt))

module _ (w : World) (sd : Sound w) where
  safe_level : (b : ℕ) → journal.level (safe w b) ≤ journal.level (whole w b)
  safe_level b = part_top 1 level_in (safe w b) (part_behind (w.boat b).disk.pending (safe w b))

  safe_floor : (b : ℕ) → journal.floor (safe w b) ≤ journal.floor (whole w b)
  safe_floor b = part_top 1 floor_in (safe w b) (part_behind (w.boat b).disk.pending (safe w b))

  safe_said : journal.level (safe_port w) ≤ journal.level (whole_port w)
  safe_said = part_top 1 level_in (safe_port w) (part_behind w.harbour.disk.pending (safe_port w))

  floors_up : (b : ℕ) → Listed (whole_port w) b → journal.level (whole_port w) ≤ journal.floor (safe w b)
  floors_up b l = omega (arith, lawful_said (whole_port w) sd.ledger.law b l, sd.ledger.heard b)

  -- nobody on the list runs a program below the level said
  said_below : (b : ℕ) → Listed (whole_port w) b → journal.level (safe_port w) ≤ (w.boat b).program
  said_below b l = omega (arith, safe_said, floors_up b l, safe_floor b, (sd.boats b).kept)

  numbered_of : (x : Said) → Memᴰ x w.words → Numbered w.count (safe w) x
  numbered_of = each_of (Numbered w.count (safe w)) w.words sd.words

  form_said : (x : Said) → Numbered w.count (safe w) x → form_of x.spoken ≤ journal.level (safe_port w)
  form_said x n = omega (arith, n.form, safe_level x.from, (sd.boats x.from).under)

  reads_it : (x : Said) → Numbered w.count (safe w) x → Listed (whole_port w) x.to → reads (w.boat x.to).program (form_of x.spoken) ≡ true
  reads_it x n l = reads_low (w.boat x.to).program (form_of x.spoken) (form_known x.spoken) (omega (arith, form_said x n, said_below x.to l))

  opens_it : (b v : ℕ) → Listed (whole_port w) b → journal.floor (whole w b) ≤ v → is_ok (boats.opening b v (whole w b)) ≡ true
  opens_it b v l low =
      let law : Lawful BoatLaw (whole w b) = (sd.boats b).law in
      let top : journal.level (whole w b) ≤ v = omega (arith, (sd.boats b).under, safe_said, floors_up b l, safe_floor b, low) in
      ap is_ok
      (cond-true (every (boat_reads v) (whole w b)) _ (Err (Number 1)) (all_reads v (whole w b) law top) ∙ cond-true (leb (journal.floor (whole w b)) v) _ (Err (Number 3)) (le-leb (journal.floor (whole w b)) v low) ∙ cond-true (leb (length (slots (whole w b))) 4096) _ (Err (Number 6)) (le-leb (length (slots (whole w b))) 4096 (lawful_ships (whole w b) law)))

  -- a word comes to a boat of the list that runs
  heeds : (x : Said) (f : Fate) → Numbered w.count (safe w) x → Listed (whole_port w) x.to → is_some (w.boat x.to).running ≡ true → Heeded (arriving w (letter_of x) f)
  heeds x f n l = go (w.boat x.to).running refl
    where
      to_one : 1 ≤ x.to
      to_one = leb-true 1 x.to (and_parts (leb 1 x.to) (leb x.to w.count) n.to).0

      no_harbour : eqb x.to 0 ≡ false
      no_harbour = grind (arith, nat_tests, to_one)

      from_boat : eqb x.from 0 ≡ false
      from_boat = let o : 1 ≤ x.from = n.from in grind (arith, nat_tests, o)

      kept_heeds : (m : Memory) (r : Result Log Verdict) → Placed r → Heeded (what_boat w x.to f (boats.kept m x.from x.number x.spoken r))
      kept_heeds m (Ok y) p = tt
      kept_heeds m (Err e) (inl q) = subst (λ (v : Verdict). Heeded (Err v)) (sym q) (inl refl)
      kept_heeds m (Err e) (inr q) = subst (λ (v : Verdict). Heeded (Err v)) (sym q) (inr refl)

      word_heeds : (m : Memory) → (w.boat x.to).running ≡ Some m → Heeded (what_boat w x.to f (boats.hearing x.to m (letter_of x)))
      word_heeds m e =
          let here : Aboard x.to (safe_port w) (w.boat x.to) (Some m) = subst (Aboard x.to (safe_port w) (w.boat x.to)) e (sd.boats x.to).runs in
          let p : m.standing.program ≡ (w.boat x.to).program = ap (λ (y : Memory). y.standing.program) here.0 in
          let r : reads m.standing.program (form_of x.spoken) ≡ true = ap (λ v. reads v (form_of x.spoken)) p ∙ reads_it x n l in
          let F : Result (Deed × Memory) Verdict → Type 0 = λ y. Heeded (what_boat w x.to f y) in
          subst F (sym (cond-true (eqb x.to x.to) _ (Err (Number 0)) (eq-eqb x.to x.to refl) ∙ cond-false (eqb x.from 0) (Err (Number 1)) _ from_boat ∙ cond-true (reads m.standing.program (form_of x.spoken)) _ (Err (Number 1)) r))
          (kept_heeds m (taking m.log x.from x.number x.spoken (keep_form m.standing (form_of x.spoken))) (taking_placed m.log x.from x.number x.spoken (keep_form m.standing (form_of x.spoken))))

      go : (o : Option Memory) → (w.boat x.to).running ≡ o → is_some o ≡ true → Heeded (arriving w (letter_of x) f)
      go None e t = absurd (false≢true t)
      go (Some m) e t =
          let K : Memory → Result World Verdict = λ m. what_boat w x.to f (boats.hearing x.to m (letter_of x)) in
          subst Heeded (sym (cond-false (eqb x.to 0) _ (at w x.to K) no_harbour ∙ cond-true (there w x.to) (aboard (w.boat x.to).running K) (Err Bad) n.to ∙ ap (λ o. aboard o K) e)) (word_heeds m e)

  recalls_it : (b : ℕ) → Recalls (w.boat b) (w.boat b).running
  recalls_it b = go (w.boat b).running (sd.boats b).runs
    where
      go : (o : Option Memory) → Aboard b (safe_port w) (w.boat b) o → Recalls (w.boat b) o
      go None t = tt
      go (Some m) t = (t.0, t.1)

  recalls_port_lem : RecallsPort w.harbour w.harbour.running
  recalls_port_lem = go w.harbour.running sd.ledger.runs
    where
      go : (o : Option Book) → Ashore w.harbour o → RecallsPort w.harbour o
      go None t = tt
      go (Some x) t = t

  silent_it : (b : ℕ) → Silent (safe_port w) b (w.boat b).running
  silent_it b = go (w.boat b).running (sd.boats b).runs
    where
      answer : (m : Memory) → Aboard b (safe_port w) (w.boat b) (Some m) → (a : Bool) → m.answered ≡ a → ltb 1 m.standing.floor && not a ≡ false → m.standing.floor ≤ heard_of (safe_port w) b
      answer m t true e s = omega (arith, t.2 e, ap (λ (y : Memory). y.standing.floor) t.0)
      answer m t false e s =
          cond_both (ltb 1 m.standing.floor) true false (λ c. c && true ≡ false → m.standing.floor ≤ heard_of (safe_port w) b)
          (λ q r. absurd (true≢false r)) (λ q r. omega (arith, ltb-false 1 m.standing.floor q, heard_least b (safe_port w))) (small (ltb 1 m.standing.floor) s)
        where
          small : (c : Bool) → c && true ≡ false → cond c true false && true ≡ false
          small true r = r
          small false r = refl

      go : (o : Option Memory) → Aboard b (safe_port w) (w.boat b) o → Silent (safe_port w) b o
      go None t = tt
      go (Some m) t = answer m t m.answered refl

  opened_ok : (b v : ℕ) (f : Fate) (r : Result (Deed × Memory) Verdict) → is_ok r ≡ true → is_ok (opened w b v f r) ≡ true
  opened_ok b v f (Ok d) t = refl
  opened_ok b v f (Err e) t = absurd (false≢true t)

  back_it : (b to : ℕ) (f : Fate) → Listed (whole_port w) b → there w b ≡ true → journal.floor (whole w b) ≤ to → to < (w.boat b).program → is_ok (play w (GoBack (record { 0 = b }) (record { 0 = to })) f) ≡ true
  back_it b to f l t low below =
      ap is_ok (cond-true (there w b && ltb to (w.boat b).program) _ (Err Bad) (and_from (there w b) (ltb to (w.boat b).program) t (lt-ltb to (w.boat b).program below)) ∙ cond-true (leb (journal.floor (whole w b)) to) (opening w b to f) (Err (Number 3)) (le-leb (journal.floor (whole w b)) to low)) ∙ opened_ok b to f (boats.opening b to (whole w b)) (opens_it b to l low)

  pub promises : Promises w
  promises =
      record {
        readable = λ x at l. reads_it x (numbered_of x at) l;
        taken = λ n f l on up. subst Heeded (sym (cond-true (ltb n (length w.words)) (arriving w (letter_of (get_or w.words n no_word)) f) (Err Bad) (lt-ltb n (length w.words) l)))
            (heeds (get_or w.words n no_word) f (each_at (Numbered w.count (safe w)) n w.words no_word sd.words l) on up);
        meant = λ x at. (numbered_of x at).meant;
        opens = opens_it;
        reopens = ap is_ok (cond-true (every harbour_reads (whole_port w)) _ (Err (Number 1)) (all_port (whole_port w) sd.ledger.law) ∙ cond-true (leb (length (journal.boats (whole_port w))) 4096) _ (Err (Number 6)) (le-leb (length (journal.boats (whole_port w))) 4096 (lawful_size (whole_port w) sd.ledger.law)));
        written = λ b r at. form_of_lem (whole w b) (sd.boats b).law r at;
        levels = λ b. (sd.boats b).under;
        floors = floors_up;
        programs = λ b. (sd.boats b).kept;
        backed = each_of (Told (safe w) (safe_port w)) w.notices sd.notices;
        numbered = λ x at. (numbered_of x at).number;
        spoken = λ x at. ((numbered_of x at).form, form_said x (numbered_of x at));
        once = sd.once;
        recalls = recalls_it;
        recalls_port = recalls_port_lem;
        silent = silent_it;
        back = back_it;
      }

pub run_promises : RunPromises
run_promises n es = promises (run n es) (run_sound n es)

-- what lasts
pub up_lasts : (w v : World) → Up w v → Lasting w v
up_lasts w v u =
    record {
      floors = λ b. part_top 1 floor_in (safe w b) (u.boats b);
      levels = λ b. part_top 1 level_in (safe w b) (u.boats b);
      numbers = λ b. part_top 0 used_in (safe w b) (u.boats b);
      promises = λ b. heard_up b (safe_port w) u.port;
      said = part_top 1 level_in (safe_port w) u.port;
      words = u.words;
      notices = u.notices;
    }

pub run_lasts : RunLasts
run_lasts n es fs = subst (Lasting (run n es)) (sym (plays_then (start n) es fs)) (up_lasts (run n es) (plays (run n es) fs) (plays_up (run n es) fs (run_sound n es)))

pub fall_leaves : FallLeaves
fall_leaves f rs d =
    let a : After rs d (after f true rs d) = after_step f true rs d (syncs rs) in
    let p : (n : ℕ) × (file (after f true rs d) ≡ drop n (file (appended rs d))) = part_lost (file (after f true rs d)) a.left in
    (part_lost d.synced a.kept, (p.0, p.1 ∙ ap (drop p.0) (append_assoc rs d.pending d.synced)))

-- opening gives what the file says
pub opening_is : (b v : ℕ) (rs : List Written) → is_ok (boats.opening b v rs) ≡ true → (ls : List Letter) × (boats.opening b v rs ≡ Ok (deed [] ls, boats.recalled v rs))
opening_is b v rs = go (cond (ltb 1 (journal.floor rs)) (boats.vow b (journal.floor rs) ∷ []) []) (every (boat_reads v) rs) (leb (journal.floor rs) v) (leb (length (slots rs)) 4096)
  where
    go : (ls : List Letter) (x y z : Bool) → let d : Deed × Memory = (deed [] ls, boats.recalled v rs) in
        let r : Result (Deed × Memory) Verdict = cond x (cond y (cond z (Ok d) (Err (Number 6))) (Err (Number 3))) (Err (Number 1)) in
        is_ok r ≡ true → (ks : List Letter) × (r ≡ Ok (deed [] ks, boats.recalled v rs))
    go ls true true true t = (ls, refl)
    go ls true true false t = absurd (false≢true t)
    go ls true false z t = absurd (false≢true t)
    go ls false y z t = absurd (false≢true t)

pub run_recovers : RunRecovers
run_recovers n b es l t =
    let w : World = run n es in
    let sd : Sound w = run_sound n es in
    let p : ℕ = (w.boat b).program in
    let one : 1 ≤ b = leb-true 1 b (and_parts (leb 1 b) (leb b w.count) t).0 in
    let no : eqb b 0 ≡ false = grind (arith, nat_tests, one) in
    let o : (ls : List Letter) × (boats.opening b p (whole w b) ≡ Ok (deed [] ls, boats.recalled p (whole w b))) = opening_is b p (whole w b) ((promises w sd).opens b p l (sd.boats b).kept) in
    let d : Deed × Memory = (deed [] o.0, boats.recalled p (whole w b)) in (
      boat_does w b (under p (w.boat b)) true d Whole,
      cond-false (eqb b 0) _ (cond (there w b) (opening w b p Whole) (Err Bad)) no ∙ cond-true (there w b) (opening w b p Whole) (Err Bad) t ∙ ap (opened w b p Whole) o.1,
      put_here b (vessel_after Whole true [] (boats.recalled p (whole w b)) (under p (w.boat b))) w.boat,
    )
