-- The invariant of the fleet of records, and that a step keeps it, whatever its fate.
-- Assumes nothing.
use Rattle.std.proofs.Common.{◌≡◌, ℕ, ◌<◌, ◌≤◌, Bool, true, ◌&&◌, leb, ◌⊎◌, List, [], ◌∷◌, ◌++◌, length, Some, None, Ok, Err, Option, Result, sym, refl, ap, ◌∙◌, subst, append_assoc, append-nil, arith}
use Rattle.std.proofs.lemmas.Bool.{false≢true}
use Rattle.levels.specs.Verdicts.{Verdict}
use Rattle.ledger.specs.Ledgers.{Book}
use Rattle.forms.specs.Meaning.{form_of, get, without}
use Rattle.messages.specs.Messages.{Telling, word, promise, heard, level, has_it, Letter}
use Rattle.records.specs.Records.{Written, floor_is, level_is, word_is, boat_is, used_to}
use Rattle.stations.specs.Journals as journal
use Rattle.stations.specs.Journals.{floor_in, level_in, used_in, form_in}
use Rattle.stations.specs.Deeds.{Deed}
use Rattle.stations.specs.Boats as boats
use Rattle.stations.specs.Boats.{Memory}
use Rattle.stations.specs.Harbours as harbours
use Rattle.runs.specs.declared.events.Fate.{Fate}
use Rattle.runs.specs.declared.events.Fate.TheVariants.{Whole, Killed, Cut}
use Rattle.runs.specs.Disks.{Disk, file, appended, after, told}
use Rattle.runs.specs.Worlds.{World, Vessel, Port, Said, start, put_at, vessel_after, port_after, boat_does, harbour_does, speaks}
use Rattle.runs.specs.Promises.{safe, safe_port, Listed, heard_of, Backed, Once, none, more}
use Rattle.runs.proofs.Parts.{put_each, put_here, Part, same, part_then, part_top, Lawful, part_lawful, Each, each_map, each_both, each_of}
use Rattle.runs.proofs.Fates.{Kind, syncs, quiet, After, after_step, told_each_lem, told_one}
use Rattle.runs.proofs.Lists.{heard_up, listed_up}

-- a boat writes records that the newest program reads, in forms of at most its level, about at most 4,096 ships
abbrev pub BoatLaw : Written → List Written → Type 0
BoatLaw r rs = (journal.boat_reads 3 r ≡ true) × (form_in r ≤ journal.level rs) × (length (journal.slots (r ∷ rs)) ≤ 4096)

-- a boat comes on the list only while no level above 1 was said
abbrev pub ListLaw : Written → List Written → Type 0
ListLaw (floor_is f) rs = Unit {0}
ListLaw (level_is k) rs = Unit {0}
ListLaw (word_is b n u) rs = Unit {0}
ListLaw (boat_is b f) rs = Listed rs b ⊎ (journal.level rs ≤ 1)
ListLaw (used_to n) rs = Unit {0}

-- the harbour says what all of the list have promised; it lists at most 4,096 boats
abbrev pub PortLaw : Written → List Written → Type 0
PortLaw r rs = (journal.harbour_reads r ≡ true) × (length (journal.boats (r ∷ rs)) ≤ 4096) × ((j : ℕ) → Listed rs j → level_in r ≤ heard_of rs j) × ListLaw r rs

-- of a program that runs on boat j, when h is what the harbour has synced
abbrev pub Aboard : ℕ → List Written → Vessel → Option Memory → Type 0
Aboard j h v None = Unit {0}
Aboard j h v (Some m) = (boats.settled m ≡ boats.settled (boats.recalled v.program (file v.disk))) × (v.disk.pending ≡ []) × (m.answered ≡ true → journal.floor (file v.disk) ≤ heard_of h j)

pub record Fit (j : ℕ) (h : List Written) (v : Vessel) : Type 0 where
  pub law : Lawful BoatLaw (file v.disk)
  pub under : journal.level (file v.disk) ≤ journal.level h
  pub kept : journal.floor (file v.disk) ≤ v.program
  pub runs : Aboard j h v v.running

abbrev pub Ashore : Port → Option Book → Type 0
Ashore p None = Unit {0}
Ashore p (Some x) = (x ≡ harbours.recalled (file p.disk)) × (p.disk.pending ≡ [])

-- of the harbour, when b is what the boats have synced, of which there are n
pub record Ledger (n : ℕ) (b : ℕ → List Written) (p : Port) : Type 0 where
  pub law : Lawful PortLaw (file p.disk)
  pub there : (j : ℕ) → Listed (file p.disk) j → leb 1 j && leb j n ≡ true
  pub heard : (j : ℕ) → heard_of (file p.disk) j ≤ journal.floor (b j)
  pub runs : Ashore p p.running

abbrev pub Told : (ℕ → List Written) → List Written → Letter → Type 0
Told b h l = Backed b h l.from l.to l.body

-- of a word; n: how many boats there are
pub record Numbered (n : ℕ) (b : ℕ → List Written) (x : Said) : Type 0 where
  pub number : (1 ≤ x.number) × (x.number ≤ journal.used (b x.from))
  pub form : form_of x.spoken ≤ journal.level (b x.from)
  pub meant : get x.spoken ≡ without (form_of x.spoken) x.given
  pub from : 1 ≤ x.from
  pub to : leb 1 x.to && leb x.to n ≡ true

pub record Sound (w : World) : Type 0 where
  pub boats : (j : ℕ) → Fit j (safe_port w) (w.boat j)
  pub ledger : Ledger w.count (safe w) w.harbour
  pub notices : Each (Told (safe w) (safe_port w)) w.notices
  pub words : Each (Numbered w.count (safe w)) w.words
  pub once : Once w.words

pub sound_start : (n : ℕ) → Sound (start n)
sound_start n =
    record {
      boats = λ j. record { law = tt; under = omega arith; kept = omega arith; runs = (refl, refl, λ e. absurd (false≢true e)) };
      ledger = record { law = tt; there = λ j l. absurd (false≢true l); heard = λ j. omega arith; runs = (refl, refl) };
      notices = tt;
      words = tt;
      once = none;
    }

-- STABLE: synced files grow, so what was true of them stays true
told_up : (b c : ℕ → List Written) (h g : List Written) → ((j : ℕ) → Part (b j) (c j)) → Part h g → (i j : ℕ) (t : Telling) → Backed b h i j t → Backed c g i j t
told_up b c h g p q i j (word u) t = t
told_up b c h g p q i j (promise f) t = omega (arith, t, part_top 1 floor_in (b i) (p i))
told_up b c h g p q i j (heard f) t = omega (arith, t, heard_up j h q)
told_up b c h g p q i j (level k) t = omega (arith, t, part_top 1 level_in h q)
told_up b c h g p q i j (has_it k) t = omega (arith, t, part_top 1 level_in (b i) (p i))

numbered_up : (n : ℕ) (b c : ℕ → List Written) → ((j : ℕ) → Part (b j) (c j)) → (x : Said) → Numbered n b x → Numbered n c x
numbered_up n b c p x t =
    record { number = (t.number.0, omega (arith, t.number.1, part_top 0 used_in (b x.from) (p x.from))); form = omega (arith, t.form, part_top 1 level_in (b x.from) (p x.from)); meant = t.meant; from = t.from; to = t.to }

aboard_up : (j : ℕ) (h g : List Written) (v : Vessel) → Part h g → (o : Option Memory) → Aboard j h v o → Aboard j g v o
aboard_up j h g v p None t = tt
aboard_up j h g v p (Some m) t = (t.0, t.1, λ e. omega (arith, t.2 e, heard_up j h p))

fit_up : (j : ℕ) (h g : List Written) (v : Vessel) → Part h g → Fit j h v → Fit j g v
fit_up j h g v p t = record { law = t.law; under = omega (arith, t.under, part_top 1 level_in h p); kept = t.kept; runs = aboard_up j h g v p v.running t.runs }

-- what is so after the whole step is so after any fate
pub record Sails (j : ℕ) (h : List Written) (rs : List Written) (m : Memory) (v : Vessel) : Type 0 where
  pub law : Lawful BoatLaw (file (appended rs v.disk))
  pub under : journal.level (file (appended rs v.disk)) ≤ journal.level h
  pub kept : journal.floor (file (appended rs v.disk)) ≤ v.program
  pub recalls : boats.settled m ≡ boats.settled (boats.recalled v.program (file (appended rs v.disk)))
  pub answered : m.answered ≡ true → journal.floor (file (appended rs v.disk)) ≤ heard_of h j

-- the disk after a whole step
whole_file : (s : Bool) (rs : List Written) (d : Disk) → Kind d s rs → (file (after Whole s rs d) ≡ file (appended rs d)) × ((after Whole s rs d).pending ≡ [])
whole_file s rs d (syncs _) = (refl, refl)
whole_file s rs d (quiet q) = (refl, q)

runs_after : (f : Fate) (j : ℕ) (h : List Written) (s : Bool) (rs : List Written) (m : Memory) (v : Vessel) → Kind v.disk s rs → Sails j h rs m v → Aboard j h (vessel_after f s rs m v) (vessel_after f s rs m v).running
runs_after Whole j h s rs m v k t =
    let e : file (after Whole s rs v.disk) ≡ file (appended rs v.disk) = (whole_file s rs v.disk k).0 in
    (subst (λ (xs : List Written). boats.settled m ≡ boats.settled (boats.recalled v.program xs)) (sym e) t.recalls, (whole_file s rs v.disk k).1, λ a. subst (λ (xs : List Written). journal.floor xs ≤ heard_of h j) (sym e) (t.answered a))
runs_after (Killed e) j h s rs m v k t = tt
runs_after (Cut e n) j h s rs m v k t = tt

pub fit_after : (f : Fate) (j : ℕ) (h : List Written) (s : Bool) (rs : List Written) (m : Memory) (v : Vessel) → Kind v.disk s rs → Sails j h rs m v → Fit j h (vessel_after f s rs m v)
fit_after f j h s rs m v k t =
    let x : Disk = after f s rs v.disk in
    let q : After rs v.disk x = after_step f s rs v.disk k in
    record {
      law = part_lawful BoatLaw (file x) q.left t.law;
      under = omega (arith, t.under, part_top 1 level_in (file x) q.left);
      kept = omega (arith, t.kept, part_top 1 floor_in (file x) q.left);
      runs = runs_after f j h s rs m v k t;
    }

-- a boat's step
pub record Step (w : World) (i : ℕ) (v : Vessel) (s : Bool) (d : Deed × Memory) : Type 0 where
  pub disk : v.disk ≡ (w.boat i).disk
  pub kind : Kind v.disk s d.0.records
  pub sails : Sails i (safe_port w) d.0.records d.1 v
  pub told : (b : ℕ → List Written) → b i ≡ file (appended d.0.records v.disk) → Each (Told b (safe_port w)) d.0.letters

boat_up : (w : World) (i : ℕ) (v : Vessel) (s : Bool) (d : Deed × Memory) (f : Fate) → Step w i v s d → (j : ℕ) → Part (safe w j) (put_at i (vessel_after f s d.0.records d.1 v) w.boat j).disk.synced
boat_up w i v s d f t =
    put_each (λ j x. Part (safe w j) x.disk.synced) i (vessel_after f s d.0.records d.1 v) w.boat
    (subst (λ (x : Disk). Part x.synced (after f s d.0.records v.disk).synced) t.disk (after_step f s d.0.records v.disk t.kind).kept) (λ j. same)

pub boat_sound : (w : World) (i : ℕ) (v : Vessel) (s : Bool) (d : Deed × Memory) (f : Fate) → Sound w → Step w i v s d → Sound (boat_does w i v s d f)
boat_sound w i v s d f sd t =
    let h : List Written = safe_port w in
    let x : Vessel = vessel_after f s d.0.records d.1 v in
    let b : ℕ → List Written = λ j. (put_at i x w.boat j).disk.synced in
    let up : (j : ℕ) → Part (safe w j) (b j) = boat_up w i v s d f t in
    record {
      boats = put_each (λ j y. Fit j h y) i x w.boat (fit_after f i h s d.0.records d.1 v t.kind t.sails) sd.boats;
      ledger = record { law = sd.ledger.law; there = sd.ledger.there; heard = λ j. omega (arith, sd.ledger.heard j, part_top 1 floor_in (safe w j) (up j)); runs = sd.ledger.runs };
      notices = each_both (Told b h) w.notices (told f s d.0.letters)
          (each_map (Told (safe w) h) (Told b h) w.notices (λ l. told_up (safe w) b h h up same l.from l.to l.body) sd.notices)
          (told_each_lem (Told b h) f s d.0.records v.disk d.0.letters t.kind (λ e. t.told b (ap (λ (y : Vessel). y.disk.synced) (put_here i x w.boat) ∙ e)));
      words = each_map (Numbered w.count (safe w)) (Numbered w.count b) w.words (numbered_up w.count (safe w) b up) sd.words;
      once = sd.once;
    }

-- the harbour's step
pub record Calls (w : World) (s : Bool) (d : Deed × Book) : Type 0 where
  pub kind : Kind w.harbour.disk s d.0.records
  pub law : Lawful PortLaw (file (appended d.0.records w.harbour.disk))
  pub there : (j : ℕ) → Listed (file (appended d.0.records w.harbour.disk)) j → leb 1 j && leb j w.count ≡ true
  pub heard : (j : ℕ) → heard_of (file (appended d.0.records w.harbour.disk)) j ≤ journal.floor (safe w j)
  pub recalls : d.1 ≡ harbours.recalled (file (appended d.0.records w.harbour.disk))
  pub told : (h : List Written) → h ≡ file (appended d.0.records w.harbour.disk) → Each (Told (safe w) h) d.0.letters

ashore_after : (f : Fate) (w : World) (s : Bool) (d : Deed × Book) → Calls w s d → Ashore (port_after f s d.0.records d.1 w.harbour) (port_after f s d.0.records d.1 w.harbour).running
ashore_after Whole w s d t =
    let p : Disk = w.harbour.disk in
    let e : (file (after Whole s d.0.records p) ≡ file (appended d.0.records p)) × ((after Whole s d.0.records p).pending ≡ []) = whole_file s d.0.records p t.kind in
    (t.recalls ∙ ap harbours.recalled (sym e.0), e.1)
ashore_after (Killed e) w s d t = tt
ashore_after (Cut e n) w s d t = tt

pub harbour_sound : (w : World) (s : Bool) (d : Deed × Book) (f : Fate) → Sound w → Calls w s d → Sound (harbour_does w s d f)
harbour_sound w s d f sd t =
    let p : Disk = w.harbour.disk in
    let x : Disk = after f s d.0.records p in
    let q : After d.0.records p x = after_step f s d.0.records p t.kind in
    record {
      boats = λ j. fit_up j p.synced x.synced (w.boat j) q.kept (sd.boats j);
      ledger = record { law = part_lawful PortLaw (file x) q.left t.law; there = λ j l. t.there j (listed_up j (file x) q.left l); heard = λ j. omega (arith, t.heard j, heard_up j (file x) q.left); runs = ashore_after f w s d t };
      notices = each_both (Told (safe w) x.synced) w.notices (told f s d.0.letters)
          (each_map (Told (safe w) p.synced) (Told (safe w) x.synced) w.notices (λ l. told_up (safe w) (safe w) p.synced x.synced (λ j. same) q.kept l.from l.to l.body) sd.notices)
          (told_each_lem (Told (safe w) x.synced) f s d.0.records p d.0.letters t.kind (λ e. t.told x.synced e));
      words = sd.words;
      once = sd.once;
    }

-- a boat's step that says a word, in a form of at most its level and with a number that is new
pub word_sound : (w : World) (v : Vessel) (s : Bool) (rs : List Written) (m : Memory) (x : Said) (f : Fate) → Sound w → Step w x.from v s (record { records = rs; letters = [] }, m) → ((b : ℕ → List Written) → b x.from ≡ file (appended rs v.disk) → Numbered w.count b x) → journal.used (safe w x.from) < x.number →
    Sound (speaks (told f s (x ∷ [])) (boat_does w x.from v s (record { records = rs; letters = [] }, m) f))
word_sound w v s rs m x f sd t own new =
    let sv = boat_sound w x.from v s (record { records = rs; letters = [] }, m) f sd t in
    let y : Vessel = vessel_after f s rs m v in
    let b : ℕ → List Written = λ j. (put_at x.from y w.boat j).disk.synced in
    record {
      boats = sv.boats;
      ledger = sv.ledger;
      notices = sv.notices;
      words = each_both (Numbered w.count b) w.words (told f s (x ∷ [])) sv.words
          (told_each_lem (Numbered w.count b) f s rs v.disk (x ∷ []) t.kind (λ e. (own b (ap (λ (z : Vessel). z.disk.synced) (put_here x.from y w.boat) ∙ e), tt)));
      once = told_one (λ xs. Once (w.words ++ xs)) f s x (subst Once (sym (append-nil w.words)) sd.once) (more x sd.once (λ z at e. fresher z (each_of (Numbered w.count (safe w)) w.words sd.words z at).number.1 e));
    }
  where
    fresher : (z : Said) → z.number ≤ journal.used (safe w z.from) → z.from ≡ x.from → z.number < x.number
    fresher z l e =
        let l2 : z.number ≤ journal.used (safe w x.from) = subst (λ (j : ℕ). z.number ≤ journal.used (safe w j)) e l in
        omega (arith, l2, new)

-- WHAT AN EVENT CAN DO, by three cases: whatever is to hold over runs is shown for these, not for each event
pub data Moves (w : World) : World → Type 0 where
  boat_moves : (i : ℕ) (v : Vessel) (s : Bool) (d : Deed × Memory) (f : Fate) → Step w i v s d → Moves w (boat_does w i v s d f)
  harbour_moves : (s : Bool) (d : Deed × Book) (f : Fate) → Calls w s d → Moves w (harbour_does w s d f)
  word_moves : (v : Vessel) (s : Bool) (rs : List Written) (m : Memory) (x : Said) (f : Fate) → Step w x.from v s (record { records = rs; letters = [] }, m) → ((b : ℕ → List Written) → b x.from ≡ file (appended rs v.disk) → Numbered w.count b x) → journal.used (safe w x.from) < x.number →
      Moves w (speaks (told f s (x ∷ [])) (boat_does w x.from v s (record { records = rs; letters = [] }, m) f))

-- an event that is done
abbrev pub Made : World → Result World Verdict → Type 0
Made w (Ok v) = Moves w v
Made w (Err e) = Unit {0}

pub move_sound : (w : World) {v : World} → Sound w → Moves w v → Sound v
move_sound w sd (boat_moves i v s d f t) = boat_sound w i v s d f sd t
move_sound w sd (harbour_moves s d f t) = harbour_sound w s d f sd t
move_sound w sd (word_moves v s rs m x f t own new) = word_sound w v s rs m x f sd t own new

-- synced files only grow, and nothing that was sent is taken away
pub record Up (w v : World) : Type 0 where
  pub count : v.count ≡ w.count
  pub boats : (j : ℕ) → Part (safe w j) (safe v j)
  pub port : Part (safe_port w) (safe_port v)
  pub words : (xs : List Said) × (v.words ≡ w.words ++ xs)
  pub notices : (ls : List Letter) × (v.notices ≡ w.notices ++ ls)

pub move_up : (w : World) {v : World} → Moves w v → Up w v
move_up w (boat_moves i v s d f t) = record { count = refl; boats = boat_up w i v s d f t; port = same; words = ([], sym (append-nil w.words)); notices = (told f s d.0.letters, refl) }
move_up w (harbour_moves s d f t) = record { count = refl; boats = λ j. same; port = (after_step f s d.0.records w.harbour.disk t.kind).kept; words = ([], sym (append-nil w.words)); notices = (told f s d.0.letters, refl) }
move_up w (word_moves v s rs m x f t own new) =
    let d : Deed × Memory = (record { records = rs; letters = [] }, m) in
    record { count = refl; boats = boat_up w x.from v s d f t; port = same; words = (told f s (x ∷ []), refl); notices = (told f s [], refl) }

pub up_none : (w : World) → Up w w
up_none w = record { count = refl; boats = λ j. same; port = same; words = ([], sym (append-nil w.words)); notices = ([], sym (append-nil w.notices)) }

joined : {A : Type 0} (xs ys zs : List A) → ((ps : List A) × (ys ≡ xs ++ ps)) → ((bs : List A) × (zs ≡ ys ++ bs)) → (cs : List A) × (zs ≡ xs ++ cs)
joined xs ys zs p q = (p.0 ++ q.0, q.1 ∙ ap (λ ps. ps ++ q.0) p.1 ∙ append_assoc xs p.0 q.0)

pub up_then : (u v w : World) → Up u v → Up v w → Up u w
up_then u v w p q =
    record {
      count = q.count ∙ p.count;
      boats = λ j. part_then (safe u j) (safe v j) (p.boats j) (q.boats j);
      port = part_then (safe_port u) (safe_port v) p.port q.port;
      words = joined u.words v.words w.words p.words q.words;
      notices = joined u.notices v.notices w.notices p.notices q.notices;
    }
