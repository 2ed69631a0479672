-- Records by what they say.
-- Assumes nothing.
use Rattle.std.specs.Prelude.{ℕ}
use Rattle.forms.specs.Meaning.{Uttered}
use Rattle.forms.specs.Said.{said}
use Rattle.records.specs.declared.Record.{Record}
use Rattle.records.specs.declared.Record.TheVariants.{Floor, Allowed, Word, Listed, Used}

-- a floor that was promised; a level that was taken or said; a word of boat b with the number n, as it is kept; a boat of the list with a floor that was heard; numbers that are used
pub data Written : Type 0 where
  floor_is : (f : ℕ) → Written
  level_is : (k : ℕ) → Written
  word_is : (b n : ℕ) (u : Uttered) → Written
  boat_is : (b f : ℕ) → Written
  used_to : (n : ℕ) → Written

abbrev pub written : Record → Written
written (Floor f) = floor_is f.0
written (Allowed k) = level_is k.0
written (Word b n u) = word_is b.0 n (said u)
written (Listed b f) = boat_is b.0 f.0
written (Used n) = used_to n
