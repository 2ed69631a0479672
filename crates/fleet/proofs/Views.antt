-- What the code's lists are in the world.
-- Assumes nothing.
use Rattle.std.proofs.Common.{◌≡◌, ℕ, ◌-◌, ◌≤◌, map, length, Some, vec_items, arith}
use Rattle.std.proofs.lemmas.Bool.{and_from, le-leb, cond-true}
use Rattle.std.proofs.lemmas.List.{length-map}
use Rattle.fleet.specs.declared.fleet.Berth.{Berth}
use Rattle.fleet.specs.declared.fleet.Fleet.{Fleet}
use Rattle.world.specs.Worlds.{place_of}
use Rattle.fleet.specs.Fleets.{world, state}

-- a boat that there is
pub somewhere : (f : Fleet) (b : ℕ) → 1 ≤ b → b ≤ length (vec_items f.boats) → place_of (world f) b ≡ Some (b - 1)
somewhere f b l m =
    let n = length-map (vec_items f.boats) (λ (x : Berth). state x.vessel) in
    cond-true _ _ _ (and_from _ _ (le-leb 1 b l) (le-leb b (length (map (λ (x : Berth). state x.vessel) (vec_items f.boats))) (omega (arith, n))))
