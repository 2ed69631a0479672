-- How a boat's program finds what its journal has.
-- Assumes nothing.
use Rattle.std.specs.Prelude.{◌≡◌, ℕ, max, true, List, length, Option, Ok, Err, Result, nat_le}
use Rattle.levels.specs.declared.refusals.Refusal.{Refusal}
use Rattle.levels.specs.Verdicts.{Verdict, verdict}
use Rattle.messages.specs.declared.Message.{Message}
use Rattle.logbooks.specs.declared.log.Logbook.{Logbook}
use Rattle.logbooks.specs.Logs as logs
use Rattle.logbooks.specs.Logs.{Log, restoring}
use Rattle.records.specs.Records.{Written, floor_is, level_is, word_is, boat_is, used_to}
use Rattle.boats.specs.declared.boat.Boat.{Boat}
use Rattle.boats.specs.declared.survey.Survey.{Survey}
use Rattle.boats.specs.Views.{memory, number_of}
use Rattle.stations.specs.declared.step.Step.{Step}
use Rattle.stations.specs.Boats as boats
use Rattle.stations.specs.Journals as journal
use Rattle.stations.specs.Openings.{Unfit, Barred}
use Rattle.stations.specs.Steps.{deed_of}

-- what a look through a journal finds
pub record Found : Type 0 where
  pub floor : ℕ
  pub level : ℕ
  pub used : ℕ

abbrev pub found : Survey → Found
found s = record { floor = s.floor.0; level = s.level.0; used = s.used }

abbrev pub surveyed : List Written → Found
surveyed rs = record { floor = journal.floor rs; level = journal.level rs; used = journal.used rs }

-- what one record more adds
abbrev pub noting : Written → Found → Found
noting r s = record { floor = max (journal.floor_in r) s.floor; level = max (journal.level_in r) s.level; used = max (journal.used_in r) s.used }

-- the log takes one record more
abbrev pub replaying : Log → Written → Result Log Verdict
replaying x (floor_is f) = Ok x
replaying x (level_is k) = Ok x
replaying x (word_is b n u) = restoring x b n u
replaying x (boat_is b f) = Ok x
replaying x (used_to n) = Ok x

-- the words of a journal
abbrev pub Rebuilt : List Written → Result Logbook Refusal → Type 0
Rebuilt rs (Ok l) = (logs.log l ≡ journal.log rs) × (nat_le (length (journal.slots rs)) 4096 ≡ true)
Rebuilt rs (Err e) = Unfit (nat_le (length (journal.slots rs)) 4096) (verdict e)

-- a boat opens its journal
abbrev pub Opens : ℕ → ℕ → List Written → Result (Boat × Step (Option Message)) Refusal → Type 0
Opens me v rs (Ok p) = (boats.starting me v rs ≡ Ok (deed_of p.1, memory p.0)) × (number_of p.0 ≡ me)
Opens me v rs (Err e) = Barred (boats.starting me v rs) (verdict e)
