-- What a disk holds, what each effect makes of it, and what a fall leaves.
-- Assumes nothing.
use Rattle.std.specs.Prelude.{◌≡◌, ℕ, ◌-◌, ◌<◌, Bool, true, false, ◌&&◌, List, [], ◌∷◌, ◌++◌, length, take, Some, None, Option, Result, MatchResult, nat_le, nat_lt}
use Rattle.files.specs.Effects.{Effect, Append, Sync, Send, CutBack}

-- the safe bytes of the file, those behind them that are not, every message sent, and how many effects can still be done, where there is a limit
pub record Held : Type 0 where
  pub synced : List ℕ
  pub pending : List ℕ
  pub sent : List (List ℕ)
  pub budget : Option ℕ

abbrev pub empty : Held
empty = record { synced = []; pending = []; sent = []; budget = None }

abbrev pub file : Held → List ℕ
file h = h.synced ++ h.pending

-- can one more effect be done
abbrev pub runs : Option ℕ → Bool
runs None = true
runs (Some n) = nat_lt 0 n

abbrev pub lowered : Option ℕ → Option ℕ
lowered None = None
lowered (Some n) = Some (n - 1)

-- a file is not cut back into what is synced
abbrev pub can : Effect → Held → Bool
can (Append b) h = runs h.budget
can Sync h = runs h.budget
can (Send b) h = runs h.budget
can (CutBack n) h = runs h.budget && nat_le (length h.synced) n

-- what an effect makes of it
abbrev pub after : Effect → Held → Held
after (Append b) h = record { synced = h.synced; pending = h.pending ++ b; sent = h.sent; budget = lowered h.budget }
after Sync h = record { synced = file h; pending = []; sent = h.sent; budget = lowered h.budget }
after (Send b) h = record { synced = h.synced; pending = h.pending; sent = h.sent ++ b ∷ []; budget = lowered h.budget }
after (CutBack n) h = record { synced = h.synced; pending = take (n - length h.synced) h.pending; sent = h.sent; budget = lowered h.budget }

-- what is done is done as a whole; what fails changes nothing
abbrev pub Did : Held → Effect → Bool → Held → Type 0
Did h e true k = (can e h ≡ true) × (k ≡ after e h)
Did h e false k = k ≡ h

-- effects one after another
abbrev pub ran : List Effect → Held → Held
ran [] h = h
ran (e ∷ es) h = ran es (after e h)

-- all of them were done, or just the first n
abbrev pub Ran : {E : Type 0} → List Effect → Result (Unit {0}) E → Held → Held → Type 0
Ran es r h k = MatchResult r (λ _. k ≡ ran es h) (λ _. (n : ℕ) × (n < length es) × (k ≡ ran (take n es) h))

abbrev pub limited : ℕ → Held → Held
limited n h = record { synced = h.synced; pending = h.pending; sent = h.sent; budget = Some n }

-- the program ends, and another can be started
abbrev pub ended : Held → Held
ended h = record { synced = h.synced; pending = h.pending; sent = h.sent; budget = None }

-- the power is cut: so many bytes of what was not synced are left, and are not synced yet
abbrev pub cut_to : ℕ → Held → Held
cut_to left h = record { synced = h.synced; pending = take left h.pending; sent = h.sent; budget = None }
