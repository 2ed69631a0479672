-- What a script may ask for, and within which bounds.
-- Assumes nothing.
use Rattle.std.specs.Prelude.{◌≡◌, ℕ, ◌-◌, ◌≤◌, List, ◌++◌, take, codes}
use Rattle.std.specs.Fmt.{decimal}
use Rattle.script.specs.declared.command.Command.{Command}
use Rattle.script.specs.declared.command.Command.TheVariants.{Boats, Seed, Read, Play}
use Rattle.script.specs.declared.steps.Message.{Message}
use Rattle.script.specs.declared.steps.Message.TheVariants.{Word, Notice}
use Rattle.script.specs.declared.steps.Step.{Step}
use Rattle.script.specs.declared.steps.Step.TheVariants.{Renew, Back, Promise, Tick, Announce, Cut, Say, Show, Lose, Hold, Come, Raise}
use Rattle.world.specs.declared.events.Event.{Event}
use Rattle.world.specs.declared.events.Event.TheVariants.{BringWord, BringNotice}

-- a message has a number from 1 in a script, and from 0 in an event
abbrev pub comes : Message → Event
comes (Word n) = BringWord (n - 1)
comes (Notice n) = BringNotice (n - 1)

abbrev pub Numbered : Message → Type 0
Numbered (Word n) = 1 ≤ n
Numbered (Notice n) = 1 ≤ n

-- how a message is written, and the text that names one begins so
abbrev pub name_of : Message → List ℕ
name_of (Word n) = codes "w" ++ decimal n
name_of (Notice n) = codes "n" ++ decimal n

abbrev pub Names : List ℕ → Message → Type 0
Names t (Word n) = (1 ≤ n) × (take 1 t ≡ codes "w")
Names t (Notice n) = (1 ≤ n) × (take 1 t ≡ codes "n")

-- programs are 1 to 3, and a level is none of 0
abbrev pub Sensible : Step → Type 0
Sensible (Renew b p) = (1 ≤ p.0) × (p.0 ≤ 3)
Sensible (Back b p) = (1 ≤ p.0) × (p.0 ≤ 3)
Sensible (Promise b) = Unit {0}
Sensible (Tick b) = Unit {0}
Sensible (Announce k) = 1 ≤ k.0
Sensible (Cut b) = Unit {0}
Sensible (Say b c w) = Unit {0}
Sensible (Show b) = Unit {0}
Sensible Lose = Unit {0}
Sensible Hold = Unit {0}
Sensible (Come m) = Numbered m
Sensible (Raise k) = 1 ≤ k.0

-- boats are 1 to 8, and a seed draws at most a million steps
abbrev pub Allowed : Command → Type 0
Allowed (Boats n) = (1 ≤ n) × (n ≤ 8)
Allowed (Seed s n) = n ≤ 1000000
Allowed Read = Unit {0}
Allowed (Play s) = Sensible s
