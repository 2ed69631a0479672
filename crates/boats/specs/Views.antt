-- A boat by what it knows.
-- Assumes nothing.
use Rattle.std.specs.Prelude.{◌≡◌, ℕ}
use Rattle.levels.specs.Standings.{view}
use Rattle.logbooks.specs.Logs as logs
use Rattle.boats.specs.declared.boat.Boat.{Boat}
use Rattle.boats.specs.declared.boat.Memory as code
use Rattle.stations.specs.Boats.{Memory}

-- what it knows, of the code's memory and of the boat's
abbrev pub known : code.Memory → Memory
known m = record { standing = view m.standing; answered = m.answered; used = m.used; log = logs.log m.log }

abbrev pub memory : Boat → Memory
memory b = known b.memory

abbrev pub number_of : Boat → ℕ
number_of b = b.number.0

-- a step of a boat does what is done to its memory, and keeps its number
abbrev pub Acts : (Memory → Memory → Type 0) → Boat → Boat → Type 0
Acts done x y = done (memory x) (memory y) × (number_of y ≡ number_of x)
