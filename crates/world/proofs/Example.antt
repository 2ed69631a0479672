-- The events for a level, computed: two boats on the list, of which one has promised and is not answered.
-- Assumes nothing.
use Rattle.std.proofs.Common.{◌≡◌, List, [], ◌∷◌, ◌++◌, Ok, Err, refl}
use Rattle.levels.specs.Verdicts.{Number}
use Rattle.world.specs.declared.events.Event.{Event}
use Rattle.world.specs.declared.events.Event.TheVariants.{Enlist, Renew, Promise, Tick, Announce, BringNotice}
use Rattle.world.specs.Abstract.{boat_of}
use Rattle.world.specs.Promises.{run}
use Rattle.world.specs.Rising.{can_raise, raising}

es : List Event
es = Enlist (record { 0 = 2 }) ∷ Enlist (record { 0 = 1 }) ∷ Renew (record { 0 = 1 }) (record { 0 = 2 }) ∷ Renew (record { 0 = 2 }) (record { 0 = 3 }) ∷ Promise (record { 0 = 2 }) ∷ []

-- the one promises, the other tells again, and both are told the level
gives : can_raise 2 (run 2 es) ≡ Ok (Promise (record { 0 = 1 }) ∷ BringNotice 1 ∷ BringNotice 2 ∷ Tick (record { 0 = 2 }) ∷ BringNotice 3 ∷ BringNotice 4 ∷ Announce (record { 0 = 2 }) ∷ BringNotice 5 ∷ BringNotice 6 ∷ [])
unfolding es
gives = refl

risen : (boat_of (run 2 (es ++ raising 2 (run 2 es))) 2).standing.level ≡ 2
unfolding es
risen = refl

-- the program of one is too old for 3; nobody is on the list; and level 1 takes nothing
old : can_raise 3 (run 2 es) ≡ Err (Number 4)
unfolding es
old = refl

nobody : can_raise 2 (run 2 []) ≡ Err (Number 4)
nobody = refl

one : can_raise 1 (run 2 []) ≡ Ok (Announce (record { 0 = 1 }) ∷ [])
one = refl
