-- How the level rises, wherever falls have left the stations.
-- Assumes nothing.
use Rattle.std.specs.Prelude.{◌≡◌, ℕ, ◌≤◌, Bool, true, ◌&&◌, List, [], ◌∷◌, map, is_ok}
use Rattle.ledger.specs.Entries.{numbers_of}
use Rattle.stations.specs.Journals as journal
use Rattle.runs.specs.declared.events.Event.{Event}
use Rattle.runs.specs.declared.events.Fate.{Fate}
use Rattle.runs.specs.declared.events.Fate.TheVariants.{Whole}
use Rattle.runs.specs.Worlds.{World, play, outcome, plays, run}
use Rattle.runs.specs.Promises.{safe, whole, whole_port, Listed}

-- events of which none is cut short
abbrev pub wholly : List Event → List (Event × Fate)
wholly = map (λ (e : Event). (e, Whole))

-- none of a list is refused
abbrev pub taken : World → List Event → Bool
taken w [] = true
taken w (e ∷ es) = is_ok (play w e Whole) && taken (outcome w (play w e Whole)) es

-- what is true of v, which events have made of w to raise the level to k
pub record Risen (k : ℕ) (w v : World) : Type 0 where
  -- each boat of the list has the level k or a higher one, and it is synced
  pub levels : (b : ℕ) → Listed (whole_port w) b → k ≤ journal.level (safe v b)
  -- every boat runs the program that it ran or had run, and the same boats are on the list
  pub programs : (b : ℕ) → (v.boat b).program ≡ (w.boat b).program
  pub listed : numbers_of (journal.boats (whole_port v)) ≡ numbers_of (journal.boats (whole_port w))
  -- nobody that had promised k has promised more
  pub floors : (b : ℕ) → k ≤ journal.floor (whole w b) → journal.floor (whole v b) ≡ journal.floor (whole w b)

-- after any events with any fates: where every boat of the list has a program of at least k, there are events that raise the level to k, and none of them is refused
abbrev pub RunRises : Type 0
RunRises =
    (n k b : ℕ) (es : List (Event × Fate)) → 1 ≤ k → Listed (whole_port (run n es)) b → ((j : ℕ) → Listed (whole_port (run n es)) j → k ≤ ((run n es).boat j).program) → (fs : List Event) × (taken (run n es) fs ≡ true) × Risen k (run n es) (plays (run n es) (wholly fs))
