-- The code's waters as a world of the fleet of records.
-- Assumes nothing.
use Rattle.std.specs.Prelude.{◌≡◌, ℕ, ◌-◌, cond, List, ◌++◌, map, length, Ok, Err, vec_items, Option, Result, nat_le, slice_index_or}
use Rattle.levels.specs.declared.numbers.Program.{Program}
use Rattle.levels.specs.Verdicts.{Verdict, Bad}
use Rattle.forms.specs.Said.{meaning, said}
use Rattle.messages.specs.declared.Message.{Message}
use Rattle.messages.specs.Messages.{Letter, letter}
use Rattle.stations.specs.Boats as boats
use Rattle.stations.specs.Deeds.{nothing, option}
use Rattle.stations.specs.declared.unheard.Unheard.{Unheard}
use Rattle.stations.specs.Unheards.{turned}
use Rattle.runs.specs.declared.events.Fate.{Fate}
use Rattle.runs.specs.Disks.{file}
use Rattle.runs.specs.Worlds as worlds
use Rattle.runs.specs.Worlds.{World, Said, fresh, put_at, there}
use Rattle.berths.specs.declared.vessel.Vessel.{Vessel}
use Rattle.berths.specs.Calls.{Refuses, Heeds}
use Rattle.berths.specs.Vessels.{vessel_of, call_sign, afloat, stepped, begun}
use Rattle.berths.specs.Ports.{port_of}
use Rattle.forms.specs.declared.sent.Sent.{Sent}
use Rattle.waters.specs.declared.waters.Waters.{Waters}

-- boat b; where there is none, a new one
abbrev pub vessel_at : List Vessel → ℕ → worlds.Vessel
vessel_at vs b = cond (nat_le 1 b) (slice_index_or (map vessel_of vs) (b - 1) fresh) fresh

abbrev pub sent : Sent → Said
sent x = record { from = x.from.0; to = x.to.0; number = x.number; given = meaning x.given; spoken = said x.spoken }

abbrev pub world : Waters → World
world w = record { count = length (vec_items w.vessels); boat = vessel_at (vec_items w.vessels); harbour = port_of w.port; words = map sent (vec_items w.words); notices = map letter (vec_items w.notices) }

-- a call on w does what is wanted and leaves v; a refusal leaves w
abbrev pub Plays : Result World Verdict → Result (Unit {0}) Unheard → World → World → Type 0
Plays want (Ok u) w v = want ≡ Ok v
Plays want (Err e) w v = Refuses want (turned e) × (v ≡ w)

-- what a boat may be told to do that is answered by a notice at most
pub data Order : Type 0 where
  Hear : Message → Order
  Promise : Order
  Tick : Order
  Rest : Order
  Open : Program → Order

-- what boat b, which is v, does when it is told to
abbrev pub ordered : ℕ → Order → Fate → worlds.Vessel → Result (List Letter × worlds.Vessel) Verdict
ordered b (Hear m) f v = afloat v.running (λ x. stepped f v (boats.hearing b x (letter m)))
ordered b Promise f v = afloat v.running (λ x. stepped f v (Ok (boats.promising b x)))
ordered b Tick f v = afloat v.running (λ x. stepped f v (Ok (boats.ticking b x, x)))
ordered b Rest f v = afloat v.running (λ x. stepped f v (Ok (nothing, x)))
ordered b (Open p) f v = begun f p.0 v (boats.starting b p.0 (file v.disk))

-- the world after that
abbrev pub sailed : World → ℕ → Result (List Letter × worlds.Vessel) Verdict → Result World Verdict
sailed w b (Ok r) = Ok (record { count = w.count; boat = put_at b r.1 w.boat; harbour = w.harbour; words = w.words; notices = w.notices ++ r.0 })
sailed w b (Err e) = Err e

-- boat b is asked for something; want: what it then does
abbrev pub asking : World → ℕ → (ℕ → worlds.Vessel → Result (List Letter × worlds.Vessel) Verdict) → Result World Verdict
asking w b want = cond (there w b) (sailed w b (want b (w.boat b))) (Err Bad)

abbrev pub ordering : World → ℕ → Order → Fate → Result World Verdict
ordering w b o f = asking w b (λ c v. ordered c o f v)

-- a call on boat b, which lets it act: whatever is wanted, if the act does it of every boat, the call does it of boat b
abbrev pub Obeys : (Vessel → Result (Option Message) Unheard → Vessel → Type 0) → ℕ → Result (Unit {0}) Unheard → World → World → Type 0
Obeys act b r w x = (want : ℕ → worlds.Vessel → Result (List Letter × worlds.Vessel) Verdict) → ((v : Vessel) (a : Result (Option Message) Unheard) (u : Vessel) → act v a u → Heeds (option letter) (want (call_sign v) (vessel_of v)) a (vessel_of v) (vessel_of u)) → Plays (asking w b want) r w x
