-- Boats by their numbers.
-- Assumes nothing.
use Rattle.std.specs.Prelude.{ℕ, suc, Bool, true, ◌&&◌, List, [], ◌∷◌, ◌==◌}
use Rattle.berths.specs.declared.vessel.Vessel.{Vessel}
use Rattle.berths.specs.Vessels.{call_sign}

-- the boats are numbered in order, from n on
abbrev pub numbered : ℕ → List Vessel → Bool
numbered n [] = true
numbered n (v ∷ vs) = call_sign v == n && numbered (suc n) vs
