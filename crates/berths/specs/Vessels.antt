-- The code's boat with its file as a vessel of the fleet of records.
-- Assumes nothing.
use Rattle.std.specs.Prelude.{◌≡◌, ℕ, true, false, cond, List, Some, None, Ok, Err, Option, Result, ◌==◌}
use Rattle.std.specs.Option.{option_map}
use Rattle.levels.specs.declared.refusals.Refusal.{Refusal}
use Rattle.levels.specs.Verdicts.{Verdict, Bad, Memory as NoMemory, verdict}
use Rattle.messages.specs.Messages.{Letter}
use Rattle.boats.specs.Views.{memory}
use Rattle.stations.specs.Boats.{Memory}
use Rattle.stations.specs.Deeds.{Deed}
use Rattle.runs.specs.declared.events.Fate.{Fate}
use Rattle.runs.specs.Disks.{told}
use Rattle.runs.specs.Worlds as worlds
use Rattle.runs.specs.Worlds.{writes, vessel_after, under, fresh}
use Rattle.berths.specs.declared.vessel.Vessel.{Vessel}
use Rattle.berths.specs.Disks.{disk}

abbrev pub vessel_of : Vessel → worlds.Vessel
vessel_of v = record { disk = disk v.berth.journal; program = v.program.0; running = option_map memory v.berth.station }

-- its number
abbrev pub call_sign : Vessel → ℕ
call_sign v = v.number.0

-- a boat does what is done to its vessel, and keeps its number
abbrev pub Sails : (worlds.Vessel → worlds.Vessel → Type 0) → Vessel → Vessel → Type 0
Sails done v u = done (vessel_of v) (vessel_of u) × (call_sign u ≡ call_sign v)

-- what is asked of a program that does not run makes no sense
abbrev pub afloat : {A B : Type 0} → Option A → (A → Result B Verdict) → Result B Verdict
afloat None k = Err Bad
afloat (Some m) k = k m

-- what is sent of a step, and the vessel after it
abbrev pub stepped : Fate → worlds.Vessel → Result (Deed × Memory) Verdict → Result (List Letter × worlds.Vessel) Verdict
stepped f v (Ok d) = Ok (told f (writes d.0.records) d.0.letters, vessel_after f (writes d.0.records) d.0.records d.1 v)
stepped f v (Err e) = Err e

-- the same of a program p that begins, which always syncs
abbrev pub begun : Fate → ℕ → worlds.Vessel → Result (Deed × Memory) Verdict → Result (List Letter × worlds.Vessel) Verdict
begun f p v (Ok d) = Ok (told f true d.0.letters, vessel_after f true d.0.records d.1 (under p v))
begun f p v (Err e) = Err e

-- a new boat; there is no boat 0
abbrev pub Built : ℕ → Result Vessel Refusal → Type 0
Built n (Ok v) = ((n == 0) ≡ false) × (vessel_of v ≡ fresh) × (call_sign v ≡ n)
Built n (Err e) = cond (n == 0) (verdict e ≡ Bad) (verdict e ≡ NoMemory)
