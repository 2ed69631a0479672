-- What is promised of the fleet after any events from the start.
-- Assumes nothing.
use Rattle.std.specs.Prelude.{◌≡◌, ℕ, ◌<◌, ◌≤◌, true, false, ◌⊎◌, List, [], ◌∷◌, ◌++◌, length, is_some, Some, Ok, Err, Result, slice_index_or}
use mathlib.Core.List.{Memᴰ}
use Rattle.levels.specs.Verdicts.{Verdict, Number, Bad, Memory}
use Rattle.levels.specs.Rules.{reads}
use Rattle.levels.specs.Standings.{running}
use Rattle.ledger.specs.Entries.{floor_of}
use Rattle.forms.specs.Meaning.{form_of, get, without}
use Rattle.logbooks.specs.Slots.{Kept}
use Rattle.world.specs.declared.messages.Notice.{Notice}
use Rattle.world.specs.declared.messages.Notice.TheVariants.{Promised, Heard, Allowed, Taken}
use Rattle.world.specs.declared.events.Event.{Event}
use Rattle.world.specs.declared.events.Event.TheVariants.{GoBack, BringWord}
use Rattle.world.specs.Worlds.{World, Said, begun, start, play, tells, place_of, opening, state_at, no_word}
use Rattle.world.specs.Abstract.{boat_of, log_of, heard_of}

-- the world after an event: what is refused changes nothing
abbrev pub after : World → Result World Verdict → World
after w (Ok v) = v
after w (Err e) = w

abbrev pub plays : World → List Event → World
plays w [] = w
plays w (e ∷ es) = plays (after w (play w e)) es

-- n boats, and any events
abbrev pub run : ℕ → List Event → World
run n es = plays (start n) es

-- is a boat on the harbour's list
abbrev pub Listed : World → ℕ → Type 0
Listed w b = is_some (floor_of b w.harbour.list) ≡ true

-- the fact that a notice states
abbrev pub Holds : World → Notice → Type 0
Holds w (Promised b f) = f.0 ≤ (boat_of w b.0).standing.floor
Holds w (Heard b f) = f.0 ≤ heard_of w b.0
Holds w (Allowed b k) = k.0 ≤ w.harbour.said
Holds w (Taken b k) = k.0 ≤ (boat_of w b.0).standing.level

-- of two words of one boat the later has the higher number; words are in the order of their sending
abbrev pub Above : List Said → Said → Type 0
Above xs y = (x : Said) → Memᴰ x xs → x.from ≡ y.from → x.number < y.number

pub data Once : List Said → Type 0 where
  none : Once []
  more : {xs : List Said} (y : Said) → Once xs → Above xs y → Once (xs ++ y ∷ [])

-- a word that comes is taken; or it is passed over, since its number is not above the last one (2); or there is no place for one ship more (6)
abbrev pub Heeded : Result World Verdict → Type 0
Heeded (Ok v) = Unit {0}
Heeded (Err (Number n)) = (n ≡ 2) ⊎ (n ≡ 6)
Heeded (Err Bad) = ⊥
Heeded (Err Memory) = ⊥

pub record Promises (w : World) : Type 0 where
  -- every word that was ever sent to a boat of the list is in a form that its program reads: whenever it comes, it is taken or passed over as older, or there is no place for its ship
  pub readable : (x : Said) → Memᴰ x w.words → Listed w x.to → reads (boat_of w x.to).standing.program (form_of x.spoken) ≡ true
  pub taken : (n : ℕ) → n < length w.words → Listed w (slice_index_or w.words n no_word).to → Heeded (play w (BringWord n))
  -- and what it reads is the word that was given to be said, less what the form of saying leaves out
  pub meant : (x : Said) → Memᴰ x w.words → get x.spoken ≡ without (form_of x.spoken) x.given
  -- every word that a boat keeps is in a form of at most its level; and so, on the list, in one that every program from its floor up reads
  pub kept : (b : ℕ) (s : Kept) → Memᴰ s (log_of w b).slots → form_of s.word ≤ (boat_of w b).standing.level
  pub legible : (b v : ℕ) (s : Kept) → Memᴰ s (log_of w b).slots → Listed w b → (boat_of w b).standing.floor ≤ v → reads v (form_of s.word) ≡ true
  -- a boat's words have numbers from 1 up to those that it has used, and no two the same
  pub numbered : (x : Said) → Memᴰ x w.words → (1 ≤ x.number) × (x.number ≤ (boat_of w x.from).used)
  pub once : Once w.words
  -- every word is in a form of at most the level of the boat that said it, and of at most the level said
  pub spoken : (x : Said) → Memᴰ x w.words → (form_of x.spoken ≤ (boat_of w x.from).standing.level) × (form_of x.spoken ≤ w.harbour.said)
  -- nobody's level is above the level said, nor that above the floor of anybody on the list, nor a floor above its program
  pub levels : (b : ℕ) → (boat_of w b).standing.level ≤ w.harbour.said
  pub floors : (b : ℕ) → Listed w b → w.harbour.said ≤ (boat_of w b).standing.floor
  pub programs : (b : ℕ) → (boat_of w b).standing.floor ≤ (boat_of w b).standing.program
  -- every notice that was ever sent is true; so is what the harbour has heard
  pub backed : (n : Notice) → Memᴰ n w.notices → Holds w n
  pub heard : (b : ℕ) → heard_of w b ≤ (boat_of w b).standing.floor
  -- a boat that no longer tells its floor has it in the ledger
  pub silent : (b : ℕ) → tells (boat_of w b) ≡ false → (boat_of w b).standing.floor ≤ heard_of w b
  -- going back to any older program from the floor up succeeds
  pub back : (b i to : ℕ) → place_of w b ≡ Some i → (state_at w i).standing.floor ≤ to → to < (state_at w i).standing.program → play w (GoBack (record { 0 = b }) (record { 0 = to })) ≡ Ok (opening w i b (begun (running (state_at w i).standing to) (state_at w i).used))

-- the one theorem: so it is after every list of events
abbrev pub RunPromises : Type 0
RunPromises = (n : ℕ) (es : List Event) → Promises (run n es)

-- a world that events have made from the start
abbrev pub Reached : World → Type 0
Reached w = (n : ℕ) × (es : List Event) × (run n es ≡ w)

-- what was sent in w was sent in v, too
abbrev pub Lasting : World → World → Type 0
Lasting w v = ((x : Said) → Memᴰ x w.words → Memᴰ x v.words) × ((n : Notice) → Memᴰ n w.notices → Memᴰ n v.notices)

-- nothing that was sent is ever taken away: whatever happens later, it may still come, and the promises hold of it
abbrev pub RunLasts : Type 0
RunLasts = (n : ℕ) (es fs : List Event) → Lasting (run n es) (run n (es ++ fs))
