-- What each step makes of a boat's standing.
-- Assumes nothing.
use Rattle.std.specs.Prelude.{ℕ, ◌+◌, max, cond, Ok, Err, Result, nat_le, nat_lt}
use Rattle.levels.specs.declared.standing.Standing.{Standing}
use Rattle.levels.specs.Verdicts.{Verdict, Number, Bad}
use Rattle.levels.specs.Rules.{Boat}

abbrev pub view : Standing → Boat
view s = record { program = s.program.0; floor = s.floor.0; level = s.level.0 }

abbrev pub first : Boat
first = record { program = 1; floor = 1; level = 1 }

-- the same boat under another program
abbrev pub running : Boat → ℕ → Boat
running s to = record { program = to; floor = s.floor; level = s.level }

abbrev pub renewed : Boat → ℕ → Result Boat Verdict
renewed s to = cond (nat_le s.program to) (Ok (running s to)) (Err Bad)

-- only to an older program, and not below the floor: 3
abbrev pub gone_back : Boat → ℕ → Result Boat Verdict
gone_back s to = cond (nat_lt to s.program) (cond (nat_le s.floor to) (Ok (running s to)) (Err (Number 3))) (Err Bad)

abbrev pub promised : Boat → Boat
promised s = record { program = s.program; floor = s.program; level = s.level }

abbrev pub raised : Boat → ℕ → Boat
raised s k = record { program = s.program; floor = s.floor; level = max s.level k }

-- the number after those that are used; at 2^32 they are used up, 6
abbrev pub counting : ℕ → Result ℕ Verdict
counting n = cond (nat_le 4294967296 (n + 1)) (Err (Number 6)) (Ok (n + 1))
