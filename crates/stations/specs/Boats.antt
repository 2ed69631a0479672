-- A boat as a program that runs: what it knows, and what it does with each input.
-- Assumes nothing.
use Rattle.std.specs.Prelude.{ℕ, ◌+◌, min, max, Bool, false, cond, not, ◌&&◌, ◌||◌, List, [], ◌∷◌, length, Ok, Err, Result, ◌==◌, nat_le, nat_lt}
use Rattle.levels.specs.Verdicts.{Verdict, Number, Bad}
use Rattle.levels.specs.Rules.{Boat, reads, accepts, say_form, keep_form}
use Rattle.levels.specs.Standings.{promised, raised}
use Rattle.forms.specs.Meaning.{Uttered, form_of, put, get}
use Rattle.logbooks.specs.Logs.{Log, taking, fallen}
use Rattle.messages.specs.Messages.{Telling, word, promise, heard, level, has_it, Letter, notice}
use Rattle.records.specs.Records.{Written, floor_is, level_is, word_is, used_to}
use Rattle.stations.specs.Journals as journal
use Rattle.stations.specs.Deeds.{Deed, deed, nothing}

-- what it knows. Whether its promise was answered, and what the log has that is newer than what is kept, is volatile: it is in no file
pub record Memory : Type 0 where
  pub standing : Boat
  pub answered : Bool
  pub used : ℕ
  pub log : Log

-- what a program v finds in a journal
abbrev pub recalled : ℕ → List Written → Memory
recalled v rs = record { standing = record { program = v; floor = journal.floor rs; level = journal.level rs }; answered = false; used = journal.used rs; log = journal.log rs }

-- what is left of what it knows where the volatile is gone
abbrev pub settled : Memory → Memory
settled m = record { standing = m.standing; answered = false; used = m.used; log = fallen m.log }

-- a boat tells its floor to the harbour, which is number 0
abbrev pub vow : ℕ → ℕ → Letter
vow me f = notice me 0 (promise f)

-- a program v opens a journal: a record that it doesn't read is 1; a floor above it 3; too many ships 6. It tells a floor above 1
abbrev pub opening : ℕ → ℕ → List Written → Result (Deed × Memory) Verdict
opening me v rs =
    cond (journal.every (journal.boat_reads v) rs) (cond (nat_le (journal.floor rs) v) (cond (nat_le (length (journal.slots rs)) 4096) (Ok (deed [] (cond (nat_lt 1 (journal.floor rs)) (vow me (journal.floor rs) ∷ []) []), recalled v rs)) (Err (Number 6))) (Err (Number 3))) (Err (Number 1))

-- a boat that there is not opens nothing
abbrev pub starting : ℕ → ℕ → List Written → Result (Deed × Memory) Verdict
starting me v rs = cond (me == 0) (Err Bad) (opening me v rs)

-- the floor becomes the program's number; an answer counts on only where it was that already
abbrev pub vowed : Memory → Memory
vowed m = record { standing = promised m.standing; answered = m.answered && nat_le m.standing.program m.standing.floor; used = m.used; log = m.log }

abbrev pub promising : ℕ → Memory → Deed × Memory
promising me m =
    (deed (cond (nat_lt m.standing.floor m.standing.program) (floor_is m.standing.program ∷ []) []) (vow me m.standing.program ∷ []), vowed m)

-- a floor of 1 needs no telling, and one that is answered no more
abbrev pub tells : Memory → Bool
tells m = nat_lt 1 m.standing.floor && not m.answered

abbrev pub ticking : ℕ → Memory → Deed
ticking me m = deed [] (cond (tells m) (vow me m.standing.floor ∷ []) [])

-- a word is given to be said to boat `to`. To the harbour or to oneself makes no sense; a form that the program doesn't know is 1; the numbers are used up at 2^32, 6
abbrev pub counted : Memory → Memory
counted m = record { standing = m.standing; answered = m.answered; used = m.used + 1; log = m.log }

abbrev pub saying : ℕ → ℕ → Memory → Uttered → Letter
saying me to m u = record { from = me; to = to; number = m.used + 1; body = word (put (say_form m.standing to) (get u)) }

abbrev pub talking : ℕ → ℕ → Memory → Uttered → Result (Deed × Memory) Verdict
talking me to m u =
    cond (to == 0 || to == me) (Err Bad) (cond (reads m.standing.program (form_of u)) (cond (nat_le 4294967296 (m.used + 1)) (Err (Number 6)) (Ok (deed (used_to (m.used + 1) ∷ []) (saying me to m u ∷ []), counted m))) (Err (Number 1)))

-- a word comes from boat b with the number n: it is kept in a form that may be written
abbrev pub noted : Memory → Log → Memory
noted m l = record { standing = m.standing; answered = m.answered; used = m.used; log = l }

abbrev pub kept_as : Memory → Uttered → Uttered
kept_as m u = put (min (form_of u) (keep_form m.standing (form_of u))) (get u)

abbrev pub kept : Memory → ℕ → ℕ → Uttered → Result Log Verdict → Result (Deed × Memory) Verdict
kept m b n u (Ok l) = Ok (deed (word_is b n (kept_as m u) ∷ []) [], noted m l)
kept m b n u (Err e) = Err e

abbrev pub hearing_word : Memory → ℕ → ℕ → Uttered → Result (Deed × Memory) Verdict
hearing_word m b n u =
    cond (reads m.standing.program (form_of u)) (kept m b n u (taking m.log b n u (keep_form m.standing (form_of u)))) (Err (Number 1))

-- an answer to the floor, or to more, is one
abbrev pub assured : Memory → ℕ → Memory
assured m f = record { standing = m.standing; answered = m.answered || nat_le m.standing.floor f; used = m.used; log = m.log }

abbrev pub assuring : Memory → ℕ → Deed × Memory
assuring m f = (nothing, assured m f)

-- a level above its own is taken; it answers with the one that it then has
abbrev pub lifted : Memory → ℕ → Memory
lifted m k = record { standing = raised m.standing k; answered = m.answered; used = m.used; log = m.log }

abbrev pub learning : ℕ → Memory → ℕ → Deed × Memory
learning me m k = (deed (cond (nat_lt m.standing.level k) (level_is k ∷ []) []) (notice me 0 (has_it (max m.standing.level k)) ∷ []), lifted m k)

-- words come from boats, answers and levels from the harbour; anything else is 1
abbrev pub judging : ℕ → Memory → ℕ → ℕ → Telling → Result (Deed × Memory) Verdict
judging me m from n (word u) = cond (from == 0) (Err (Number 1)) (hearing_word m from n u)
judging me m from n (promise f) = Err (Number 1)
judging me m from n (heard f) = cond (from == 0) (Ok (assuring m f)) (Err (Number 1))
judging me m from n (level k) = cond (from == 0) (Ok (learning me m k)) (Err (Number 1))
judging me m from n (has_it k) = Err (Number 1)

-- a message comes: one for another station is passed over, 0, whatever is in it
abbrev pub hearing : ℕ → Memory → Letter → Result (Deed × Memory) Verdict
hearing me m l = cond (accepts me l.to) (judging me m l.from l.number l.body) (Err (Number 0))
