-- A ship's second name, by its bytes.
-- Assumes nothing.
use Rattle.std.specs.Prelude.{ℕ, cond, List, length, take, Ok, Err, Result, nat_lt}
use Rattle.levels.specs.Verdicts.{Verdict, Number}
use Rattle.forms.specs.declared.name.Name.{Name}

abbrev pub name_of : Name → List ℕ
name_of n = take n.len n.bytes

-- at most 40 bytes, else 1
abbrev pub naming : List ℕ → Result (List ℕ) Verdict
naming bs = cond (nat_lt 40 (length bs)) (Err (Number 1)) (Ok bs)
