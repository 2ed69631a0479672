-- What a message that is not taken is answered with.
-- Assumes nothing.
use Rattle.std.specs.Prelude.{◌≡◌, Bool, true, Ok, Err, Result}
use Rattle.levels.specs.Verdicts.{Verdict, Number, verdict, passes, Due}
use Rattle.stations.specs.declared.unheard.Unheard.{Unheard}
use Rattle.stations.specs.declared.unheard.Unheard.TheVariants.{Elsewhere, Refused}

abbrev pub turned : Unheard → Verdict
turned Elsewhere = Number 0
turned (Refused e) = verdict e

-- a message for another station is passed over, and so is one with a refusal that passes over
abbrev pub passed : Unheard → Bool
passed Elsewhere = true
passed (Refused e) = passes (verdict e)

-- a message comes to x: what is wanted is done, leaves y, and its answer means f of it; what is not taken leaves x
abbrev pub Hears : {A B C : Type 0} → (C → B) → Result (B × A) Verdict → Result C Unheard → A → A → Type 0
Hears f want (Ok v) x y = want ≡ Ok (f v, y)
Hears f want (Err e) x y = Due want (turned e) × (y ≡ x)
