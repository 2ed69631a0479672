-- A station's file, by its records: what is synced and what is not, the newest first; and what is left of a step that is cut short.
-- Assumes nothing.
use Rattle.std.specs.Prelude.{ℕ, ◌-◌, Bool, true, false, cond, List, [], ◌++◌, length, take, drop, nat_lt}
use Rattle.records.specs.Records.{Written}
use Rattle.runs.specs.declared.events.Fate.{Fate}
use Rattle.runs.specs.declared.events.Fate.TheVariants.{Whole, Killed, Cut}

pub record Disk : Type 0 where
  pub synced : List Written
  pub pending : List Written

-- the file as a program finds it
abbrev pub file : Disk → List Written
file d = d.pending ++ d.synced

abbrev pub blank : Disk
blank = record { synced = []; pending = [] }

abbrev pub appended : List Written → Disk → Disk
appended rs d = record { synced = d.synced; pending = rs ++ d.pending }

abbrev pub flushed : Disk → Disk
flushed d = record { synced = d.pending ++ d.synced; pending = [] }

-- a step that syncs, after e of its effects: the append, the sync, the messages. One that doesn't has messages only
abbrev pub reached : Bool → ℕ → List Written → Disk → Disk
reached false e rs d = d
reached true e rs d = cond (nat_lt e 1) d (cond (nat_lt e 2) (appended rs d) (flushed (appended rs d)))

-- how many messages are sent by then
abbrev pub spoken : Bool → ℕ → ℕ
spoken false e = e
spoken true e = e - 2

-- the power is cut: of what is not synced the oldest n are left
abbrev pub shortened : ℕ → Disk → Disk
shortened n d = record { synced = d.synced; pending = drop (length d.pending - n) d.pending }

-- the disk after a step with a fate; the step syncs or doesn't
abbrev pub after : Fate → Bool → List Written → Disk → Disk
after Whole true rs d = flushed (appended rs d)
after Whole false rs d = d
after (Killed e) s rs d = reached s e rs d
after (Cut e n) s rs d = shortened n (reached s e rs d)

-- what of it is sent
abbrev pub told : {A : Type 0} → Fate → Bool → List A → List A
told Whole s ms = ms
told (Killed e) s ms = take (spoken s e) ms
told (Cut e n) s ms = take (spoken s e) ms

-- does the program run on
abbrev pub lives : Fate → Bool
lives Whole = true
lives (Killed e) = false
lives (Cut e n) = false
