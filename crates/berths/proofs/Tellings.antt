-- Which of a step's messages are sent.
-- Assumes nothing.
use Rattle.std.proofs.Common.{◌≡◌, ℕ, min, Bool, List, length, take, sym, ap, ◌∙◌, inl, inr, arith, take_all}
use Rattle.std.proofs.lemmas.Bool.{cases_lt}
use Rattle.runs.specs.declared.events.Fate.{Fate}
use Rattle.runs.specs.declared.events.Fate.TheVariants.{Whole, Killed, Cut}
use Rattle.runs.specs.Disks.{spoken, told}
use Rattle.berths.specs.Disks.{sent}

capped : {A : Type 0} (n : ℕ) (ms : List A) → take n ms ≡ take (min n (length ms)) ms
capped n ms = elim (cases_lt n (length ms)) [ inl l ↦ (let e : n ≡ min n (length ms) = omega arith in ap (λ k. take k ms) e) | inr l ↦ take_all n ms l ∙ sym (take_all (min n (length ms)) ms (omega arith)) ]

-- the first so many
pub told_sent : {A : Type 0} (f : Fate) (s : Bool) (ms : List A) → told f s ms ≡ take (sent f s (length ms)) ms
told_sent Whole s ms = sym (take_all (length ms) ms (omega arith))
told_sent (Killed e) s ms = capped (spoken s e) ms
told_sent (Cut e k) s ms = capped (spoken s e) ms
