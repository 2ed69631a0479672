-- A call on a station with its file.
-- Assumes nothing.
use Rattle.std.specs.Prelude.{◌≡◌, Ok, Err, Result}
use Rattle.levels.specs.declared.refusals.Refusal.{Refusal}
use Rattle.levels.specs.Verdicts.{Verdict, Number, Bad, Memory, verdict}
use Rattle.stations.specs.declared.unheard.Unheard.{Unheard}
use Rattle.stations.specs.Unheards.{turned}

-- a refusal is the one that is wanted; want of memory may come at any time
abbrev pub Refuses : {A : Type 0} → Result A Verdict → Verdict → Type 0
Refuses want (Number n) = want ≡ Err (Number n)
Refuses want Bad = want ≡ Err Bad
Refuses want Memory = Unit {0}

-- a call on x does what is wanted and leaves y, and its answer means f of it; a refusal, by what it says, leaves x
abbrev pub Answers : {A B C E : Type 0} → (E → Verdict) → (C → B) → Result (B × A) Verdict → Result C E → A → A → Type 0
Answers says f want (Ok v) x y = want ≡ Ok (f v, y)
Answers says f want (Err e) x y = Refuses want (says e) × (y ≡ x)

abbrev pub Attempts : {A B C : Type 0} → (C → B) → Result (B × A) Verdict → Result C Refusal → A → A → Type 0
Attempts = Answers verdict

-- the same where a message comes
abbrev pub Heeds : {A B C : Type 0} → (C → B) → Result (B × A) Verdict → Result C Unheard → A → A → Type 0
Heeds = Answers turned
