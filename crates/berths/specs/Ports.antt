-- The code's harbour with its file as the port of the fleet of records.
-- Assumes nothing.
use Rattle.std.specs.Prelude.{◌≡◌, true, List, Ok, Err, Result}
use Rattle.std.specs.Option.{option_map}
use Rattle.levels.specs.declared.refusals.Refusal.{Refusal}
use Rattle.levels.specs.Verdicts.{Verdict, Memory, verdict}
use Rattle.ledger.specs.Ledgers.{Book}
use Rattle.messages.specs.Messages.{Letter}
use Rattle.harbours.specs.Views.{book_of}
use Rattle.stations.specs.Deeds.{Deed, nothing}
use Rattle.runs.specs.declared.events.Fate.{Fate}
use Rattle.runs.specs.Disks.{told}
use Rattle.runs.specs.Worlds as worlds
use Rattle.runs.specs.Worlds.{writes, port_after, new_port}
use Rattle.berths.specs.declared.port.Port.{Port}
use Rattle.berths.specs.Disks.{disk}

abbrev pub port_of : Port → worlds.Port
port_of p = record { disk = disk p.berth.journal; running = option_map book_of p.berth.station }

-- what is sent of a step, and the port after it
abbrev pub called : Fate → worlds.Port → Result (Deed × Book) Verdict → Result (List Letter × worlds.Port) Verdict
called f p (Ok d) = Ok (told f (writes d.0.records) d.0.letters, port_after f (writes d.0.records) d.0.records d.1 p)
called f p (Err e) = Err e

-- the same of a program that begins, which always syncs
abbrev pub begun : Fate → worlds.Port → Result Book Verdict → Result (List Letter × worlds.Port) Verdict
begun f p (Ok x) = Ok (told f true nothing.letters, port_after f true nothing.records x p)
begun f p (Err e) = Err e

-- a new harbour
abbrev pub Built : Result Port Refusal → Type 0
Built (Ok p) = port_of p ≡ new_port
Built (Err e) = verdict e ≡ Memory
