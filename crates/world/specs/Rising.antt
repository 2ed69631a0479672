-- How the level rises: the events after which every boat of the list has it, and what is then true.
-- Assumes nothing.
use Rattle.std.specs.Prelude.{◌≡◌, ℕ, ◌+◌, ◌*◌, ◌≤◌, Bool, true, false, cond, ◌&&◌, ◌||◌, List, [], ◌∷◌, ◌++◌, length, is_ok, Ok, Err, Result, ◌==◌, nat_lt}
use Rattle.levels.specs.declared.numbers.BoatId.{BoatId}
use Rattle.ledger.specs.Entries.{Entry, numbers_of}
use Rattle.levels.specs.Verdicts.{Verdict, Number, Bad}
use Rattle.world.specs.declared.events.Event.{Event}
use Rattle.world.specs.declared.events.Event.TheVariants.{Promise, Tick, Announce, BringNotice}
use Rattle.world.specs.Worlds.{World, play}
use Rattle.world.specs.Abstract.{boat_of}
use Rattle.world.specs.Promises.{after, run, Listed}

-- a boat promises if its floor is below k; else it tells again what it has promised
abbrev pub vouch : World → ℕ → BoatId → Event
vouch w k b = cond (nat_lt (boat_of w b.0).standing.floor k) (Promise b) (Tick b)

-- each boat of which less than k was heard vouches, its notice comes, and the answer comes. The next notice has the number n
abbrev pub vouching : World → ℕ → List Entry → ℕ → List Event
vouching w k [] n = []
vouching w k (e ∷ es) n =
    cond (nat_lt e.floor.0 k) (vouch w k e.boat ∷ BringNotice n ∷ BringNotice (n + 1) ∷ vouching w k es (n + 2)) (vouching w k es n)

-- how many boats that is; each time two notices are sent
abbrev pub behind : ℕ → List Entry → ℕ
behind k [] = 0
behind k (e ∷ es) = cond (nat_lt e.floor.0 k) (1 + behind k es) (behind k es)

-- one notice for each boat of the list comes, the first has the number n
abbrev pub bringing : List Entry → ℕ → List Event
bringing [] n = []
bringing (e ∷ es) n = BringNotice n ∷ bringing es (n + 1)

-- the number of the level's first notice
abbrev pub levels_notice : ℕ → World → ℕ
levels_notice k w = length w.notices + 2 * behind k w.harbour.list

-- boats vouch, the harbour says the level, and each boat of the list hears it
abbrev pub raising : ℕ → World → List Event
raising k w =
    vouching w k w.harbour.list (length w.notices) ++ Announce (record { 0 = k }) ∷ bringing w.harbour.list (levels_notice k w)

-- does a boat of the list run a program below k
abbrev pub outdated : World → ℕ → List Entry → Bool
outdated w k [] = false
outdated w k (e ∷ es) = nat_lt (boat_of w e.boat.0).standing.program k || outdated w k es

-- the events, or why there are none: there is no level 0; and 4 where the list is empty, for a level above 1, or where a program is too old
abbrev pub can_raise : ℕ → World → Result (List Event) Verdict
can_raise k w =
    cond (k == 0) (Err Bad) (cond ((nat_lt 1 k && length w.harbour.list == 0) || outdated w k w.harbour.list) (Err (Number 4)) (Ok (raising k w)))

-- no event of a list is refused
abbrev pub taken : World → List Event → Bool
taken w [] = true
taken w (e ∷ es) = is_ok (play w e) && taken (after w (play w e)) es

-- what is true of v, which the events for k have made of w
pub record Risen (k : ℕ) (w v : World) : Type 0 where
  -- each boat of the list has the level k or a higher one
  pub levels : (b : ℕ) → Listed w b → k ≤ (boat_of v b).standing.level
  -- every boat runs the program that it ran, and the same boats are on the list
  pub programs : (b : ℕ) → (boat_of v b).standing.program ≡ (boat_of w b).standing.program
  pub listed : numbers_of v.harbour.list ≡ numbers_of w.harbour.list
  -- nobody that had promised k has promised more
  pub floors : (b : ℕ) → k ≤ (boat_of w b).standing.floor → (boat_of v b).standing.floor ≡ (boat_of w b).standing.floor

-- the one theorem: after any events, where there are events for a level, none of them is refused, and they raise it
abbrev pub RunRises : Type 0
RunRises = (n k : ℕ) (es fs : List Event) → can_raise k (run n es) ≡ Ok fs → (taken (run n es) fs ≡ true) × Risen k (run n es) (run n (es ++ fs))
