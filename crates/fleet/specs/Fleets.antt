-- The code's fleet as a world of values.
-- Assumes nothing.
use Rattle.std.specs.Prelude.{◌≡◌, ℕ, ◌-◌, true, cond, ◌&&◌, List, [], ◌∷◌, ◌++◌, map, Some, None, Ok, Err, vec_items, Option, Result, nat_le, nat_lt}
use Rattle.levels.specs.declared.refusals.Refusal.{Refusal}
use Rattle.levels.specs.Verdicts.{Verdict, Bad, Memory, verdict, told}
use Rattle.levels.specs.declared.standing.Standing.{Standing}
use Rattle.levels.specs.Rules.{Boat}
use Rattle.levels.specs.Standings.{view}
use Rattle.ledger.specs.Ledgers.{book}
use Rattle.forms.specs.Said.{meaning, said}
use Rattle.logbooks.specs.Logs.{Log, log}
use Rattle.forms.specs.declared.sent.Sent.{Sent}
use Rattle.world.specs.declared.messages.Notice.{Notice}
use Rattle.world.specs.Worlds.{World, Said, BoatState, start, place_of, state_at, log_at, at, telling, opened}
use Rattle.fleet.specs.declared.fleet.Vessel.{Vessel}
use Rattle.fleet.specs.declared.fleet.Berth.{Berth}
use Rattle.fleet.specs.declared.fleet.Fleet.{Fleet}

abbrev pub state : Vessel → BoatState
state v = record { standing = view v.standing; answered = v.answered; used = v.used }

abbrev pub states : List Berth → List BoatState
states = map (λ b. state b.vessel)

abbrev pub sent : Sent → Said
sent x = record { from = x.from.0; to = x.to.0; number = x.number; given = meaning x.given; spoken = said x.spoken }

abbrev pub all_sent : List Sent → List Said
all_sent = map sent

abbrev pub all_logs : List Berth → List Log
all_logs = map (λ b. log b.log)

abbrev pub world : Fleet → World
world f = record { boats = states (vec_items f.boats); logs = all_logs (vec_items f.boats); harbour = book f.harbour; words = all_sent (vec_items f.words); notices = vec_items f.notices }

-- a fleet is made of 1 to 8 boats, or there is no memory
abbrev pub Begins : ℕ → Result Fleet Refusal → Type 0
Begins n (Ok f) = (nat_le 1 n && nat_le n 8 ≡ true) × (world f ≡ start n)
Begins n (Err e) = cond (nat_le 1 n && nat_le n 8) (verdict e ≡ Memory) (verdict e ≡ Bad)

-- what a look for the boat with the number b finds: nothing, or the boat at its place
abbrev pub Found : World → ℕ → Option Berth → Type 0
Found w b None = place_of w b ≡ None
Found w b (Some v) = (place_of w b ≡ Some (b - 1)) × (state_at w (b - 1) ≡ state v.vessel) × (log_at w (b - 1) ≡ log v.log)

-- what was told once a boat has told a floor, where that is above 1
abbrev pub floor_told : List Notice → ℕ → ℕ → List Notice
floor_told ns b f = cond (nat_lt 1 f) (ns ++ telling b f ∷ []) ns

-- a program that begins on boat b, with the standing that `make` makes of the last
abbrev pub beginning : World → ℕ → (Boat → Result Boat Verdict) → Result World Verdict
beginning w b make = at (place_of w b) (λ i. opened w i b (state_at w i).used (make (state_at w i).standing))

-- a call of the code that answers as `make` does, for want of memory never
abbrev pub Makes : (Standing → Result Standing Refusal → Type 0) → (Boat → Result Boat Verdict) → Type 0
Makes post make = ((s : Standing) (r : Result Standing Refusal) → post s r → told view r ≡ make (view s)) × ((s : Boat) → make s ≡ Err Memory → ⊥)
