-- What is promised of the fleet of records, after any events with any fates.
-- Assumes nothing.
use Rattle.std.specs.Prelude.{◌≡◌, ℕ, ◌<◌, ◌≤◌, true, false, ◌⊎◌, List, [], ◌∷◌, ◌++◌, length, drop, is_some, is_ok, Some, None, Ok, Err, Option, Result, slice_index_or}
use mathlib.Core.List.{Memᴰ}
use Rattle.std.specs.Option.{unwrap_or}
use Rattle.levels.specs.Verdicts.{Verdict, Number, Bad, Memory}
use Rattle.levels.specs.Rules.{reads}
use Rattle.ledger.specs.Entries.{floor_of}
use Rattle.ledger.specs.Ledgers.{Book}
use Rattle.forms.specs.Meaning.{form_of, get, without}
use Rattle.messages.specs.Messages.{Telling, word, promise, heard, level, has_it, Letter}
use Rattle.records.specs.Records.{Written}
use Rattle.stations.specs.Journals as journal
use Rattle.stations.specs.Boats as boats
use Rattle.stations.specs.Harbours as harbours
use Rattle.runs.specs.declared.events.Event.{Event}
use Rattle.runs.specs.declared.events.Event.TheVariants.{GoBack, Start, BringWord}
use Rattle.runs.specs.declared.events.Fate.{Fate}
use Rattle.runs.specs.declared.events.Fate.TheVariants.{Whole}
use Rattle.runs.specs.Disks.{Disk, file, flushed, after}
use Rattle.runs.specs.Worlds.{World, Vessel, Port, Said, no_word, there, play, run}

-- the records of a boat that are synced, and all that stand in its file; the same of the harbour
abbrev pub safe : World → ℕ → List Written
safe w b = (w.boat b).disk.synced

abbrev pub whole : World → ℕ → List Written
whole w b = file (w.boat b).disk

abbrev pub safe_port : World → List Written
safe_port w = w.harbour.disk.synced

abbrev pub whole_port : World → List Written
whole_port w = file w.harbour.disk

-- is a boat on the list that a journal of the harbour has; the highest promise that it has of a boat
abbrev pub Listed : List Written → ℕ → Type 0
Listed rs b = is_some (floor_of b (journal.boats rs)) ≡ true

abbrev pub heard_of : List Written → ℕ → ℕ
heard_of rs b = unwrap_or (floor_of b (journal.boats rs)) 1

-- the fact that a message other than a word states, by what is synced: b of the boats, h of the harbour. Whatever was sent, the synced files stand behind it
abbrev pub Backed : (ℕ → List Written) → List Written → ℕ → ℕ → Telling → Type 0
Backed b h from to (word u) = ⊥
Backed b h from to (promise f) = f ≤ journal.floor (b from)
Backed b h from to (heard f) = f ≤ heard_of h to
Backed b h from to (level k) = k ≤ journal.level h
Backed b h from to (has_it k) = k ≤ journal.level (b from)

-- of two words of one boat the later has the higher number
abbrev pub Above : List Said → Said → Type 0
Above xs y = (x : Said) → Memᴰ x xs → x.from ≡ y.from → x.number < y.number

pub data Once : List Said → Type 0 where
  none : Once []
  more : {xs : List Said} (y : Said) → Once xs → Above xs y → Once (xs ++ y ∷ [])

-- a word that comes is taken; or it is passed over, since its number is not above the last one (2); or there is no place for one ship more (6)
abbrev pub Heeded : Result World Verdict → Type 0
Heeded (Ok v) = Unit {0}
Heeded (Err (Number n)) = (n ≡ 2) ⊎ (n ≡ 6)
Heeded (Err Bad) = ⊥
Heeded (Err Memory) = ⊥

-- a program that runs knows what its file says, apart from what is volatile, and nothing waits for a sync
abbrev pub Recalls : Vessel → Option boats.Memory → Type 0
Recalls v None = Unit {0}
Recalls v (Some m) = (boats.settled m ≡ boats.settled (boats.recalled v.program (file v.disk))) × (v.disk.pending ≡ [])

abbrev pub RecallsPort : Port → Option Book → Type 0
RecallsPort p None = Unit {0}
RecallsPort p (Some x) = (x ≡ harbours.recalled (file p.disk)) × (p.disk.pending ≡ [])

-- a boat that no longer tells its floor has it in the ledger
abbrev pub Silent : List Written → ℕ → Option boats.Memory → Type 0
Silent h b None = Unit {0}
Silent h b (Some m) = boats.tells m ≡ false → m.standing.floor ≤ heard_of h b

pub record Promises (w : World) : Type 0 where
  -- every word that was ever sent to a boat of the list is in a form that its program reads; whenever it comes to one that runs, it is taken or passed over as older, or there is no place for its ship
  pub readable : (x : Said) → Memᴰ x w.words → Listed (whole_port w) x.to → reads (w.boat x.to).program (form_of x.spoken) ≡ true
  pub taken : (n : ℕ) (f : Fate) → n < length w.words → Listed (whole_port w) (slice_index_or w.words n no_word).to → is_some (w.boat (slice_index_or w.words n no_word).to).running ≡ true → Heeded (play w (BringWord n) f)
  -- and what it reads is the word that was given to be said, less what the form of saying leaves out
  pub meant : (x : Said) → Memᴰ x w.words → get x.spoken ≡ without (form_of x.spoken) x.given
  -- the file of a boat of the list opens under every program from its floor up, and so under the one that it has; the harbour's file opens
  pub opens : (b v : ℕ) → Listed (whole_port w) b → journal.floor (whole w b) ≤ v → is_ok (boats.opening b v (whole w b)) ≡ true
  pub reopens : is_ok (harbours.opening (whole_port w)) ≡ true
  -- every record is in a form of at most its boat's level
  pub written : (b : ℕ) (r : Written) → Memᴰ r (whole w b) → journal.form_in r ≤ journal.level (whole w b)
  -- nobody's level is above the level said, nor that above the floor of anybody on the list, nor a floor above its program; what counts is on the safe side of the file
  pub levels : (b : ℕ) → journal.level (whole w b) ≤ journal.level (safe_port w)
  pub floors : (b : ℕ) → Listed (whole_port w) b → journal.level (whole_port w) ≤ journal.floor (safe w b)
  pub programs : (b : ℕ) → journal.floor (whole w b) ≤ (w.boat b).program
  -- whatever was sent, the synced files stand behind it
  pub backed : (l : Letter) → Memᴰ l w.notices → Backed (safe w) (safe_port w) l.from l.to l.body
  pub numbered : (x : Said) → Memᴰ x w.words → (1 ≤ x.number) × (x.number ≤ journal.used (safe w x.from))
  pub spoken : (x : Said) → Memᴰ x w.words → (form_of x.spoken ≤ journal.level (safe w x.from)) × (form_of x.spoken ≤ journal.level (safe_port w))
  pub once : Once w.words
  -- what a program knows is what its file says
  pub recalls : (b : ℕ) → Recalls (w.boat b) (w.boat b).running
  pub recalls_port : RecallsPort w.harbour w.harbour.running
  pub silent : (b : ℕ) → Silent (safe_port w) b (w.boat b).running
  -- going back to any older program from the floor up succeeds
  pub back : (b to : ℕ) (f : Fate) → Listed (whole_port w) b → there w b ≡ true → journal.floor (whole w b) ≤ to → to < (w.boat b).program → is_ok (play w (GoBack (record { 0 = b }) (record { 0 = to })) f) ≡ true

-- the one theorem: so it is after every list of events with any fates
abbrev pub RunPromises : Type 0
RunPromises = (n : ℕ) (es : List (Event × Fate)) → Promises (run n es)

-- nothing that was promised, taken, used, heard or said is ever taken back, whatever is cut; and nothing that was sent is taken away
pub record Lasting (w v : World) : Type 0 where
  pub floors : (b : ℕ) → journal.floor (safe w b) ≤ journal.floor (safe v b)
  pub levels : (b : ℕ) → journal.level (safe w b) ≤ journal.level (safe v b)
  pub numbers : (b : ℕ) → journal.used (safe w b) ≤ journal.used (safe v b)
  pub promises : (b : ℕ) → heard_of (safe_port w) b ≤ heard_of (safe_port v) b
  pub said : journal.level (safe_port w) ≤ journal.level (safe_port v)
  pub words : (xs : List Said) × (v.words ≡ w.words ++ xs)
  pub notices : (ls : List Letter) × (v.notices ≡ w.notices ++ ls)

abbrev pub RunLasts : Type 0
RunLasts = (n : ℕ) (es fs : List (Event × Fate)) → Lasting (run n es) (run n (es ++ fs))

-- wherever a step that writes is cut short: what was synced before is still there, and the file is what it would be after the whole step, less some of the newest records
abbrev pub FallLeaves : Type 0
FallLeaves =
    (f : Fate) (rs : List Written) (d : Disk) → ((n : ℕ) × (d.synced ≡ drop n (after f true rs d).synced)) × ((n : ℕ) × (file (after f true rs d) ≡ drop n (rs ++ file d)))

-- and a boat of the list that begins again is as its file says, all of which is synced then
abbrev pub RunRecovers : Type 0
RunRecovers =
    (n b : ℕ) (es : List (Event × Fate)) → Listed (whole_port (run n es)) b → there (run n es) b ≡ true → (v : World) × (play (run n es) (Start (record { 0 = b })) Whole ≡ Ok v) × (v.boat b ≡ record { disk = flushed ((run n es).boat b).disk; program = ((run n es).boat b).program; running = Some (boats.recalled ((run n es).boat b).program (whole (run n es) b)) })
