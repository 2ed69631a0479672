-- What is asked of the outside, one call each.
-- Assumes nothing.
use Rattle.std.specs.Prelude.{ℕ, List}

pub data Effect : Type 0 where
  Append : (bytes : List ℕ) → Effect
  Sync : Effect
  Send : (bytes : List ℕ) → Effect
  CutBack : (len : ℕ) → Effect
