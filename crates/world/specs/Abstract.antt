-- The world as one of the abstract fleet: every boat is a machine with an empty file, and what was sent stands newest first.
-- Assumes nothing.
use Rattle.std.specs.Prelude.{ℕ, List, [], ◌∷◌, Some, None, Option}
use Rattle.std.specs.Option.{unwrap_or}
use Rattle.levels.specs.Rules.{Boat}
use Rattle.ledger.specs.Entries.{floor_of}
use Rattle.forms.specs.Meaning.{form_of}
use Rattle.logbooks.specs.Logs.{Log, empty}
use Rattle.protocol.specs.Fleet.{Machine}
use Rattle.protocol.specs.Fleet as fleet
use Rattle.world.specs.declared.messages.Notice.{Notice}
use Rattle.world.specs.declared.messages.Notice.TheVariants.{Promised, Heard, Allowed, Taken}
use Rattle.world.specs.Worlds.{World, Said, BoatState, fresh, place_of, state_at, log_at}

-- the boat with a number; where there is none, one at its start
abbrev pub seen : World → Option ℕ → BoatState
seen w None = fresh
seen w (Some i) = state_at w i

abbrev pub boat_of : World → ℕ → BoatState
boat_of w b = seen w (place_of w b)

-- what the boat with a number keeps; where there is none, nothing
abbrev pub log_in : World → Option ℕ → Log
log_in w None = empty
log_in w (Some i) = log_at w i

abbrev pub log_of : World → ℕ → Log
log_of w b = log_in w (place_of w b)

-- the highest floor that the harbour has heard of a boat, 1 where it is not on the list
abbrev pub heard_of : World → ℕ → ℕ
heard_of w b = unwrap_or (floor_of b w.harbour.list) 1

abbrev pub machine_of : Boat → Machine ℕ
machine_of s = record { program = s.program; floor = s.floor; level = s.level; file = [] }

abbrev pub word_of : Said → fleet.Word ℕ
word_of x = record { from = x.from; to = x.to; number = x.number; form = form_of x.spoken }

abbrev pub notice_of : Notice → fleet.Notice ℕ
notice_of (Promised b f) = fleet.Promise b.0 f.0
notice_of (Heard b f) = fleet.Heard b.0 f.0
notice_of (Allowed b k) = fleet.Level k.0
notice_of (Taken b k) = fleet.HasIt b.0 k.0

-- the newest first
abbrev pub back : {A B : Type 0} → (A → B) → List A → List B → List B
back f [] acc = acc
back f (x ∷ xs) acc = back f xs (f x ∷ acc)

-- crew: the boats of the list, in the order in which they came onto it
abbrev pub abs : List ℕ → World → fleet.World ℕ
abs crew w = record { machine = λ b. machine_of (boat_of w b).standing; listed = crew; heard = heard_of w; said = w.harbour.said; words = back word_of w.words []; notices = back notice_of w.notices [] }
