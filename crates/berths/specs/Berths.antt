-- What a station does on its file, whatever it is.
-- Assumes nothing.
use Rattle.std.specs.Prelude.{◌≡◌, Bool, true, ◌⊎◌, List, Some, None, Ok, Err, Option, Result}
use Rattle.levels.specs.declared.refusals.Refusal.{Refusal}
use Rattle.levels.specs.declared.refusals.Refusal.TheVariants.{Invalid, NoMemory}
use Rattle.messages.specs.Messages.{Letter}
use Rattle.records.specs.declared.Record.{Record}
use Rattle.stations.specs.Deeds.{Deed}
use Rattle.stations.specs.Steps.{filed}
use Rattle.runs.specs.declared.events.Fate.{Fate}
use Rattle.runs.specs.Disks.{file, after, told, lives}
use Rattle.runs.specs.Worlds.{kept, writes}
use Rattle.berths.specs.declared.berth.Berth.{Berth}
use Rattle.berths.specs.Disks.{disk}

-- nothing is changed
pub record Stays {S : Type 0} (b c : Berth S) : Type 0 where
  pub same_file : disk c.journal ≡ disk b.journal
  pub same_program : c.station ≡ b.station

-- a step d that leaves y comes as far as its fate lets it; s: it syncs; m: what is told of it
pub record Comes {S : Type 0} (f : Fate) (s : Bool) (d : Deed) (y : S) (m : List Letter) (b c : Berth S) : Type 0 where
  pub says : m ≡ told f s d.letters
  pub writes_down : disk c.journal ≡ after f s d.records (disk b.journal)
  pub runs_on : c.station ≡ kept (lives f) y

-- a program takes a step, if it runs; what is refused leaves its file
abbrev pub Acts : {S D E M : Type 0} → (S → Result D E → S → Type 0) → (Refusal → E → Type 0) → (D → Deed) → (M → List Letter) → Fate → Option S → Result M E → Berth S → Berth S → Type 0
Acts takes gives means letters f None (Ok m) b c = ⊥
Acts takes gives means letters f None (Err e) b c = gives Invalid e × Stays b c
Acts {S} {D} takes gives means letters f (Some x) (Ok m) b c = (d : D) × (y : S) × takes x (Ok d) y × Comes f (writes (means d).records) (means d) y (letters m) b c
Acts {S} takes gives means letters f (Some x) (Err e) b c = (gives NoMemory e × Stays b c) ⊎ ((y : S) × takes x (Err e) y × (disk c.journal ≡ disk b.journal) × (c.station ≡ Some y))

-- a program begins over its file
abbrev pub Begins : {S D M : Type 0} → (List Record → Result (S × D) Refusal → Type 0) → (D → Deed) → (M → List Letter) → Fate → Result M Refusal → Berth S → Berth S → Type 0
Begins {S} {D} opens means letters f (Ok m) b c = (rs : List Record) × (filed rs ≡ file (disk b.journal)) × (p : S × D) × opens rs (Ok p) × Comes f true (means p.1) p.0 (letters m) b c
Begins opens means letters f (Err e) b c = Stays b c × ((e ≡ NoMemory) ⊎ ((rs : List Record) × (filed rs ≡ file (disk b.journal)) × opens rs (Err e)))
