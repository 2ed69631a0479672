-- A station is a function of its journal: what each step leaves is what the journal has with the records of that step.
-- Assumes nothing.
use Rattle.std.specs.Prelude.{◌≡◌, ℕ, ◌≤◌, List, ◌++◌, Ok, Err, Result}
use Rattle.levels.specs.Verdicts.{Verdict}
use Rattle.forms.specs.Meaning.{Uttered}
use Rattle.ledger.specs.Ledgers.{Book}
use Rattle.messages.specs.Messages.{Letter}
use Rattle.records.specs.Records.{Written}
use Rattle.stations.specs.Boats as boats
use Rattle.stations.specs.Boats.{Memory, settled}
use Rattle.stations.specs.Deeds.{Deed}
use Rattle.stations.specs.Harbours as harbours
use Rattle.stations.specs.Journals as journal

-- but for the volatile, a boat that runs program v knows what its journal has, and the program is not below the floor
pub record Recalls (v : ℕ) (rs : List Written) (m : Memory) : Type 0 where
  pub same : settled m ≡ settled (boats.recalled v rs)
  pub floored : journal.floor rs ≤ v

-- a step that is done leaves it so, with its records on the journal
abbrev pub Goes : ℕ → List Written → Deed × Memory → Type 0
Goes v rs p = Recalls v (p.0.records ++ rs) p.1

abbrev pub GoesOn : ℕ → List Written → Result (Deed × Memory) Verdict → Type 0
GoesOn v rs (Ok p) = Goes v rs p
GoesOn v rs (Err e) = Unit {0}

pub record BoatRecalls : Type 0 where
  pub opens : (me v : ℕ) (rs : List Written) → GoesOn v rs (boats.opening me v rs)
  pub promises : (me v : ℕ) (rs : List Written) (m : Memory) → Recalls v rs m → Goes v rs (boats.promising me m)
  pub says : (me to v : ℕ) (rs : List Written) (m : Memory) (u : Uttered) → Recalls v rs m → GoesOn v rs (boats.talking me to m u)
  pub hears : (me v : ℕ) (rs : List Written) (m : Memory) (l : Letter) → Recalls v rs m → GoesOn v rs (boats.hearing me m l)

-- the harbour knows just what its journal has
abbrev pub KeepsOn : List Written → Result (Deed × Book) Verdict → Type 0
KeepsOn rs (Ok p) = p.1 ≡ harbours.recalled (p.0.records ++ rs)
KeepsOn rs (Err e) = Unit {0}

pub record HarbourRecalls : Type 0 where
  pub lists : (rs : List Written) (x : Book) (b : ℕ) → x ≡ harbours.recalled rs → KeepsOn rs (harbours.listing x b)
  pub hears : (rs : List Written) (x : Book) (l : Letter) → x ≡ harbours.recalled rs → KeepsOn rs (harbours.hearing x l)
  pub announces : (rs : List Written) (x : Book) (k : ℕ) → x ≡ harbours.recalled rs → KeepsOn rs (harbours.announcing x k)
