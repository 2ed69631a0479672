-- What a drawn step speaks of: boats that there are, programs and levels 1 to 3, messages that were sent.
-- Assumes nothing.
use Rattle.std.specs.Prelude.{ℕ, ◌≤◌}
use Rattle.levels.specs.declared.numbers.BoatId.{BoatId}
use Rattle.script.specs.declared.seed.Scene.{Scene}
use Rattle.script.specs.declared.steps.Message.{Message}
use Rattle.script.specs.declared.steps.Message.TheVariants.{Word, Notice}
use Rattle.script.specs.declared.steps.Step.{Step}
use Rattle.script.specs.declared.steps.Step.TheVariants.{Renew, Back, Promise, Tick, Announce, Cut, Say, Show, Lose, Hold, Come, Raise}

abbrev pub There : ℕ → BoatId → Type 0
There n b = (1 ≤ b.0) × (b.0 ≤ n)

abbrev pub OneToThree : ℕ → Type 0
OneToThree n = (1 ≤ n) × (n ≤ 3)

abbrev pub WasSent : Scene → Message → Type 0
WasSent s (Word n) = (1 ≤ n) × (n ≤ s.words)
WasSent s (Notice n) = (1 ≤ n) × (n ≤ s.notices)

-- nothing is shown or raised by itself
abbrev pub Drawn : Scene → Step → Type 0
Drawn s (Renew b p) = There s.boats b × OneToThree p.0
Drawn s (Back b p) = There s.boats b × OneToThree p.0
Drawn s (Promise b) = There s.boats b
Drawn s (Tick b) = There s.boats b
Drawn s (Announce k) = OneToThree k.0
Drawn s (Cut b) = There s.boats b
Drawn s (Say b c w) = There s.boats b × There s.boats c
Drawn s (Show b) = ⊥
Drawn s Lose = Unit {0}
Drawn s Hold = Unit {0}
Drawn s (Come m) = WasSent s m
Drawn s (Raise k) = ⊥
