-- Effects done in order, all of them or up to the first that failed; and the plans of a step and of an opening.
-- Assumes nothing.
use Rattle.std.specs.Prelude.{◌≡◌, ℕ, Bool, true, false, cond, ◌⊎◌, List, [], ◌∷◌, map, length, vec_items, Result, Vec, MatchResult, nat_lt}
use Rattle.files.specs.declared.steps.Step.{Step}
use Rattle.files.specs.declared.steps.Opening.{Opening}
use Rattle.files.specs.Effects.{Effect, Append, Sync, Send, CutBack}

module _ {S : Type 0} (did : S → Effect → Bool → S → Type 0) where
  -- each effect was done, in order
  abbrev pub Done : List Effect → S → S → Type 0
  Done [] s t = s ≡ t
  Done (e ∷ es) s t = (u : S) × did s e true u × Done es u t

  -- a first part of them was done, the next failed, and no other was asked
  abbrev pub Stopped : List Effect → S → S → Type 0
  Stopped [] s t = ⊥
  Stopped (e ∷ es) s t = did s e false t ⊎ ((u : S) × did s e true u × Stopped es u t)

  -- what a call that has the plan es did
  abbrev pub Performs : {E : Type 0} → List Effect → Result (Unit {0}) E → S → S → Type 0
  Performs es r s t = MatchResult r (λ _. Done es s t) (λ _. Stopped es s t)

abbrev pub sends : {Z : Type 0} → List (Vec ℕ Z) → List Effect
sends ms = map (λ m. Send (vec_items m)) ms

abbrev pub committing : List ℕ → List Effect
committing b = Append b ∷ Sync ∷ []

-- the record is on the file, synced, before any message is sent; no record, no append and no sync
abbrev pub stepping : {Z : Type 0} → List ℕ → List (Vec ℕ Z) → List Effect
stepping b ms = cond (nat_lt 0 (length b)) (Append b ∷ Sync ∷ sends ms) (sends ms)

-- the file is cut back and synced before any message is sent
abbrev pub opening : {Z : Type 0} → ℕ → List (Vec ℕ Z) → List Effect
opening n ms = CutBack n ∷ Sync ∷ sends ms

-- the same of the code's step and opening
abbrev pub step_plan : Step → List Effect
step_plan s = stepping s.bytes.now s.messages.now

abbrev pub opening_plan : Opening → List Effect
opening_plan o = opening o.whole_len o.messages.now
