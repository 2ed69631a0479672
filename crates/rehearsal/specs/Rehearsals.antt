-- A rehearsal by the fleet that it holds.
-- Assumes nothing.
use Rattle.std.specs.Prelude.{◌≡◌, ℕ, true, cond, ◌&&◌, Ok, Err, Result, nat_le}
use Rattle.levels.specs.declared.refusals.Refusal.{Refusal}
use Rattle.levels.specs.Verdicts.{Bad, Memory, verdict}
use Rattle.rehearsal.specs.declared.rehearsal.Rehearsal.{Rehearsal}
use Rattle.world.specs.Worlds.{start}
use Rattle.fleet.specs.Fleets.{world}

-- a rehearsal is of 1 to 8 boats, or there is no memory
abbrev pub Began : ℕ → Result Rehearsal Refusal → Type 0
Began n (Ok x) = (nat_le 1 n && nat_le n 8 ≡ true) × (world x.fleet ≡ start n)
Began n (Err e) = cond (nat_le 1 n && nat_le n 8) (verdict e ≡ Memory) (verdict e ≡ Bad)
