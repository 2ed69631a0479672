-- When a station's program doesn't open its journal.
-- Assumes nothing.
use Rattle.std.specs.Prelude.{◌≡◌, Bool, true, false, ◌⊎◌, is_ok, Err, Result}
use Rattle.levels.specs.Verdicts.{Verdict, Number, Bad, Memory}

-- the table of a journal: it is refused only where there are too many for it, 6, or for want of memory
abbrev pub Unfit : Bool → Verdict → Type 0
Unfit fits (Number n) = (n ≡ 6) × (fits ≡ false)
Unfit fits Bad = ⊥
Unfit fits Memory = Unit {0}

-- a refusal to open is the one that is wanted. Want of memory may come where nothing else is wrong, or where there are too many, which only the filled table shows
abbrev pub Barred : {A : Type 0} → Result A Verdict → Verdict → Type 0
Barred want (Number n) = want ≡ Err (Number n)
Barred want Bad = want ≡ Err Bad
Barred want Memory = (is_ok want ≡ true) ⊎ (want ≡ Err (Number 6))
