-- The code's file as a disk of records.
-- Assumes nothing.
use Rattle.std.specs.Prelude.{ℕ, min, Bool, true, false}
use Rattle.stations.specs.Steps.{filed}
use Rattle.runs.specs.declared.events.Fate.{Fate}
use Rattle.runs.specs.declared.events.Fate.TheVariants.{Whole, Killed, Cut}
use Rattle.runs.specs.Disks.{Disk, spoken}
use Rattle.synced.specs.Parts.{safe, pending}
use Rattle.berths.specs.declared.journal.Journal.{Journal}

abbrev pub disk : Journal → Disk
disk j = record { synced = filed (safe j.records); pending = filed (pending j.records) }

-- how many of the append and the sync of a step are reached
abbrev pub wrote : Fate → Bool → ℕ
wrote f false = 0
wrote Whole true = 2
wrote (Killed e) true = e
wrote (Cut e k) true = e

-- how many of n messages are sent
abbrev pub sent : Fate → Bool → ℕ → ℕ
sent Whole s n = n
sent (Killed e) s n = min (spoken s e) n
sent (Cut e k) s n = min (spoken s e) n
