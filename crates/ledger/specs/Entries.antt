-- The harbour's list: boats by rising numbers, with the highest floor that was heard of each.
-- Assumes nothing.
use Rattle.std.specs.Prelude.{ℕ, max, Bool, true, cond, ◌&&◌, List, [], ◌∷◌, map, is_some, Some, None, Option, ◌==◌, nat_lt}
use Rattle.levels.specs.declared.numbers.BoatId.{BoatId}
use Rattle.levels.specs.declared.numbers.Program.{Program}

-- a boat of the list, and the highest floor that the harbour has heard it promise
pub record Entry : Type 0 where
  pub boat : BoatId
  pub floor : Program

-- the entry of a boat and a floor
abbrev pub entry : ℕ → ℕ → Entry
entry b f = record { boat = record { 0 = b }; floor = record { 0 = f } }

-- a pair of the map as an entry
abbrev pub entry_of : BoatId × Program → Entry
entry_of p = record { boat = p.0; floor = p.1 }

-- the numbers of the boats rise
abbrev pub above : ℕ → List Entry → Bool
above b [] = true
above b (e ∷ es) = nat_lt b e.boat.0

abbrev pub ascending : List Entry → Bool
ascending [] = true
ascending (e ∷ es) = above e.boat.0 es && ascending es

-- the highest floor that was heard of a boat, if it is on the list
abbrev pub floor_of : ℕ → List Entry → Option ℕ
floor_of b [] = None
floor_of b (e ∷ es) = cond (e.boat.0 == b) (Some e.floor.0) (floor_of b es)

-- the list with a boat more, in its place, of which no more than floor 1 is known
abbrev pub entered : ℕ → List Entry → List Entry
entered b [] = entry b 1 ∷ []
entered b (e ∷ es) = cond (nat_lt e.boat.0 b) (e ∷ entered b es) (entry b 1 ∷ e ∷ es)

-- the list with a boat that may be on it already
abbrev pub admitted : ℕ → List Entry → List Entry
admitted b es = cond (is_some (floor_of b es)) es (entered b es)

-- the list after boat b was heard to promise f
abbrev pub heard : ℕ → ℕ → List Entry → List Entry
heard b f [] = []
heard b f (e ∷ es) = cond (e.boat.0 == b) (entry e.boat.0 (max e.floor.0 f) ∷ es) (e ∷ heard b f es)

-- the first boat that has not promised the level k
abbrev pub lacking : ℕ → List Entry → Option ℕ
lacking k [] = None
lacking k (e ∷ es) = cond (nat_lt e.floor.0 k) (Some e.boat.0) (lacking k es)

-- the numbers of its boats
abbrev pub numbers_of : List Entry → List ℕ
numbers_of = map (λ (e : Entry). e.boat.0)
