-- The two parts of a list of which the first is safe.
-- Assumes nothing.
use Rattle.std.specs.Prelude.{◌≡◌, ℕ, ◌-◌, List, take, drop, vec_items, vec_len, vec_capacity}
use Rattle.synced.specs.declared.Synced.{Synced}

abbrev pub safe : {T : Type 0} → Synced T → List T
safe s = take s.synced (vec_items s.items)

abbrev pub pending : {T : Type 0} → Synced T → List T
pending s = drop s.synced (vec_items s.items)

abbrev pub Holds : {T : Type 0} → Synced T → List T → List T → Type 0
Holds s xs ys = (safe s ≡ xs) × (pending s ≡ ys)

-- for how many items more there is room
abbrev pub room : {T : Type 0} → Synced T → ℕ
room s = vec_capacity s.items - vec_len s.items
