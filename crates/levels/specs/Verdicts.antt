-- What each refusal says: its number, or which of the two cases without a number it is.
-- Assumes nothing.
use Rattle.std.specs.Prelude.{◌≡◌, ℕ, Bool, true, false, ◌||◌, is_ok, Some, None, Ok, Err, Option, Result, ◌==◌}
use Rattle.levels.specs.declared.refusals.Refusal.{Refusal}
use Rattle.levels.specs.declared.refusals.Refusal.TheVariants.{Malformed, OlderNumber, BelowFloor, NotPromised, NotListed, Full, Invalid, NoMemory}

-- Bad: what was asked makes no sense; Memory: there is none
pub data Verdict : Type 0 where
  Number : (n : ℕ) → Verdict
  Bad : Verdict
  Memory : Verdict

abbrev pub verdict : Refusal → Verdict
verdict Malformed = Number 1
verdict OlderNumber = Number 2
verdict BelowFloor = Number 3
verdict NotPromised = Number 4
verdict NotListed = Number 5
verdict Full = Number 6
verdict Invalid = Bad
verdict NoMemory = Memory

abbrev pub number_of : Verdict → Option ℕ
number_of (Number n) = Some n
number_of Bad = None
number_of Memory = None

-- an older number and a boat that is not on the list are passed over; all else is turned away
abbrev pub passes : Verdict → Bool
passes (Number n) = n == 2 || n == 5
passes Bad = false
passes Memory = false

-- an answer by the rules: what the value means, or what the refusal says
abbrev pub told : {A B : Type 0} → (A → B) → Result A Refusal → Result B Verdict
told f (Ok x) = Ok (f x)
told f (Err e) = Err (verdict e)

-- a call on x does what is wanted, and leaves y; a refusal leaves x
abbrev pub Does : {A : Type 0} → Result A Verdict → Result (Unit {0}) Refusal → A → A → Type 0
Does want (Ok u) x y = want ≡ Ok y
Does want (Err e) x y = (want ≡ Err (verdict e)) × (y ≡ x)

-- a call that only judges whether it can be done
abbrev pub Judges : {A : Type 0} → Result A Verdict → Result (Unit {0}) Refusal → Type 0
Judges want (Ok u) = is_ok want ≡ true
Judges want (Err e) = want ≡ Err (verdict e)

-- a call that answers with a value, which means f of it
abbrev pub Replies : {A B C : Type 0} → (C → B) → Result (B × A) Verdict → Result C Refusal → A → A → Type 0
Replies f want (Ok v) x y = want ≡ Ok (f v, y)
Replies f want (Err e) x y = (want ≡ Err (verdict e)) × (y ≡ x)

-- want of memory may come only where the call would have done what is wanted; any other refusal is the one that is wanted
abbrev pub Due : {A : Type 0} → Result A Verdict → Verdict → Type 0
Due want (Number n) = want ≡ Err (Number n)
Due want Bad = want ≡ Err Bad
Due want Memory = is_ok want ≡ true

-- the same of a call that may find no memory, which leaves x too
abbrev pub Tries : {A : Type 0} → Result A Verdict → Result (Unit {0}) Refusal → A → A → Type 0
Tries want (Ok u) x y = want ≡ Ok y
Tries want (Err e) x y = Due want (verdict e) × (y ≡ x)

-- the same of a call that answers with a value, which means f of it
abbrev pub Performs : {A B C : Type 0} → (C → B) → Result (B × A) Verdict → Result C Refusal → A → A → Type 0
Performs f want (Ok v) x y = want ≡ Ok (f v, y)
Performs f want (Err e) x y = Due want (verdict e) × (y ≡ x)
