-- What the calls that raise a level answer, and what they leave.
-- Assumes nothing.
use Rattle.std.specs.Prelude.{◌≡◌, ℕ, List, take, Ok, Err, Result}
use Rattle.levels.specs.declared.refusals.Refusal.{Refusal}
use Rattle.levels.specs.Verdicts.{Verdict, Number, Bad, Memory, verdict, Due}
use Rattle.world.specs.declared.events.Event.{Event}
use Rattle.world.specs.Worlds.{World}
use Rattle.world.specs.Promises.{plays}
use Rattle.world.specs.Rising.{raising, can_raise, Risen}

-- a call that does what is wanted, or finds no memory
abbrev pub OrMemory : Result (Unit {0}) Refusal → Type 0 → Type 0
OrMemory (Ok u) P = P
OrMemory (Err e) P = verdict e ≡ Memory

-- a call that gives the events, or finds no memory
abbrev pub Gives : {V : Type 0} → (V → List Event) → List Event → Result V Refusal → Type 0
Gives items fs (Ok v) = items v ≡ fs
Gives items fs (Err e) = verdict e ≡ Memory

-- a call that gives the events if there are any, or finds no memory
abbrev pub Planned : {V : Type 0} → (V → List Event) → ℕ → World → Result V Refusal → Type 0
Planned items k w (Ok v) = can_raise k w ≡ Ok (items v)
Planned items k w (Err e) = Due (can_raise k w) (verdict e)

-- a refusal changes nothing; want of memory comes only where there are events, and leaves what some of the first have made
abbrev pub Halted : ℕ → World → World → Verdict → Type 0
Halted k w v (Number n) = (can_raise k w ≡ Err (Number n)) × (v ≡ w)
Halted k w v Bad = (can_raise k w ≡ Err Bad) × (v ≡ w)
Halted k w v Memory = (can_raise k w ≡ Ok (raising k w)) × ((i : ℕ) × (v ≡ plays w (take i (raising k w))))

-- a call that plays events on w, and leaves v: all of them, or some of the first for want of memory
abbrev pub PlaysAll : List Event → World → World → Result (Unit {0}) Refusal → Type 0
PlaysAll es w v (Ok u) = v ≡ plays w es
PlaysAll es w v (Err e) = (verdict e ≡ Memory) × ((i : ℕ) × (v ≡ plays w (take i es)))

-- a call on w that plays the events, and leaves v
abbrev pub Raised : ℕ → World → World → Result (Unit {0}) Refusal → Type 0
Raised k w v (Ok u) = (can_raise k w ≡ Ok (raising k w)) × (v ≡ plays w (raising k w)) × Risen k w v
Raised k w v (Err e) = Halted k w v (verdict e)
