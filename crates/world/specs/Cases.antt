-- Worked cases: what is played, what is answered, and how all stand afterwards.
-- Assumes nothing.
use Rattle.std.specs.Prelude.{◌≡◌, ℕ, Bool, true, false, ◌&&◌, List, [], ◌∷◌, ◌++◌, map, Some, None, Ok, Err, Option, Result, ◌==◌}
use Rattle.levels.specs.Verdicts.{Verdict, Number, Bad, Memory}
use Rattle.forms.specs.declared.word.Spoken.TheVariants.{First, Second}
use Rattle.forms.specs.Meaning.{Meaning, form_of, put, get}
use Rattle.forms.specs.Shows.{View, showing}
use Rattle.logbooks.specs.Slots.{Kept, shown_of}
use Rattle.logbooks.specs.Logs.{Log}
use Rattle.world.specs.declared.messages.Notice.{Notice}
use Rattle.world.specs.declared.messages.Notice.TheVariants.{Promised, Heard, Allowed, Taken}
use Rattle.world.specs.declared.events.Event.{Event}
use Rattle.world.specs.declared.events.Event.TheVariants.{Enlist, Renew, GoBack, Restart, Promise, Announce, Say, BringWord, BringNotice}
use Rattle.world.specs.Worlds.{World, BoatState, Said, start, play}
use Rattle.world.specs.Promises.{after, run}

-- a row of numbers, and a table of rows
abbrev pub same : List ℕ → List ℕ → Bool
same [] [] = true
same [] (y ∷ ys) = false
same (x ∷ xs) [] = false
same (x ∷ xs) (y ∷ ys) = x == y && same xs ys

abbrev pub same_rows : List (List ℕ) → List (List ℕ) → Bool
same_rows [] [] = true
same_rows [] (y ∷ ys) = false
same_rows (x ∷ xs) [] = false
same_rows (x ∷ xs) (y ∷ ys) = same x y && same_rows xs ys

-- an answer as a number: 0 is yes, 1 to 6 are the refusals that have a number
abbrev pub said : Verdict → ℕ
said (Number n) = n
said Bad = 100
said Memory = 101

abbrev pub answer : Result World Verdict → ℕ
answer (Ok v) = 0
answer (Err e) = said e

abbrev pub answers : World → List Event → List ℕ
answers w [] = []
answers w (e ∷ es) = answer (play w e) ∷ answers (after w (play w e)) es

-- a boat: program, floor, level. A word: from, to, number, form. A notice: its kind (2 promise, 3 heard, 4 level, 5 has it), the boat, the number in it
abbrev pub boat_row : BoatState → List ℕ
boat_row s = s.standing.program ∷ s.standing.floor ∷ s.standing.level ∷ []

abbrev pub word_row : Said → List ℕ
word_row x = x.from ∷ x.to ∷ x.number ∷ form_of x.spoken ∷ []

-- what stands on a screen: ship, lock, draught before, draught behind where it is shown, the form in which the word came
abbrev pub shown_if : Option ℕ → List ℕ → List ℕ
shown_if None rest = rest
shown_if (Some n) rest = n ∷ rest

abbrev pub view_row : View → List ℕ
view_row v = v.ship ∷ v.lock ∷ v.before ∷ shown_if v.behind (v.form ∷ [])

abbrev pub screen : ℕ → List Kept → List (List ℕ)
screen p [] = []
screen p (s ∷ ss) = view_row (showing p (shown_of s)) ∷ screen p ss

-- the screens of all boats, one after the other
abbrev pub screens : List BoatState → List Log → List (List ℕ)
screens [] ls = []
screens (b ∷ bs) [] = []
screens (b ∷ bs) (l ∷ ls) = screen b.standing.program l.slots ++ screens bs ls

-- the forms in which words are kept, boat by boat
abbrev pub kept_forms : List Kept → List ℕ
kept_forms [] = []
kept_forms (s ∷ ss) = form_of s.word ∷ kept_forms ss

abbrev pub kept_row : Log → List ℕ
kept_row l = kept_forms l.slots

abbrev pub notice_row : Notice → List ℕ
notice_row (Promised b f) = 2 ∷ b.0 ∷ f.0 ∷ []
notice_row (Heard b f) = 3 ∷ b.0 ∷ f.0 ∷ []
notice_row (Allowed b k) = 4 ∷ b.0 ∷ k.0 ∷ []
notice_row (Taken b k) = 5 ∷ b.0 ∷ k.0 ∷ []

-- a case is a run: how many boats, the events, and what is expected
pub record Case : Type 0 where
  pub boats : ℕ
  pub events : List Event
  pub replies : List ℕ
  pub standings : List (List ℕ)
  pub level : ℕ
  pub words : List (List ℕ)
  pub notices : List (List ℕ)
  pub shown : List (List ℕ)
  pub kept : List (List ℕ)

abbrev pub holds : Case → Bool
holds c =
    same (answers (start c.boats) c.events) c.replies && (same_rows (map boat_row (run c.boats c.events).boats) c.standings && ((run c.boats c.events).harbour.said == c.level && (same_rows (map word_row (run c.boats c.events).words) c.words && (same_rows (map notice_row (run c.boats c.events).notices) c.notices && (same_rows (screens (run c.boats c.events).boats (run c.boats c.events).logs) c.shown && same_rows (map kept_row (run c.boats c.events).logs) c.kept)))))

-- a chain of forms: a word is put into each, one after the other, and read again
abbrev pub through : Meaning → List ℕ → Meaning
through m [] = m
through m (f ∷ fs) = through (get (put f m)) fs

abbrev pub same_word : Meaning → Meaning → Bool
same_word m n = m.ship == n.ship && (m.lock == n.lock && (m.before == n.before && (m.behind == n.behind && same m.name n.name)))

-- a row of the table is a run, or a chain of forms with what is left of a word
pub data Row : Type 0 where
  Run : Case → Row
  Chain : (word : Meaning) (forms : List ℕ) (left : Meaning) → Row

abbrev pub row_holds : Row → Bool
row_holds (Run c) = holds c
row_holds (Chain m fs n) = same_word (through m fs) n

abbrev pub all_hold : List Row → Bool
all_hold [] = true
all_hold (r ∷ rs) = row_holds r && all_hold rs

-- events, by plain numbers
abbrev pub list : ℕ → Event
list b = Enlist (record { 0 = b })

abbrev pub renew : ℕ → ℕ → Event
renew b v = Renew (record { 0 = b }) (record { 0 = v })

abbrev pub go_back : ℕ → ℕ → Event
go_back b v = GoBack (record { 0 = b }) (record { 0 = v })

abbrev pub promise : ℕ → Event
promise b = Promise (record { 0 = b })

abbrev pub level : ℕ → Event
level k = Announce (record { 0 = k })

-- a word about ship 7 at lock 3, with a draught before of 21 and, in form 2, one behind of 24
abbrev pub say1 : ℕ → ℕ → Event
say1 i j = Say (record { 0 = i }) (record { 0 = j }) (First 7 3 21)

abbrev pub say2 : ℕ → ℕ → Event
say2 i j = Say (record { 0 = i }) (record { 0 = j }) (Second 7 3 21 24)

abbrev pub cut : ℕ → Event
cut b = Restart (record { 0 = b })

-- one renewed boat is not enough: 4. Both have promised: the level is said
abbrev pub one_is_not_enough : Case
one_is_not_enough =
    record {
      boats = 2;
      events = list 1 ∷ list 2 ∷ renew 1 2 ∷ promise 1 ∷ BringNotice 0 ∷ level 2 ∷ renew 2 2 ∷ promise 2 ∷ BringNotice 2 ∷ level 2 ∷ [];
      replies = 0 ∷ 0 ∷ 0 ∷ 0 ∷ 0 ∷ 4 ∷ 0 ∷ 0 ∷ 0 ∷ 0 ∷ [];
      standings = (2 ∷ 2 ∷ 1 ∷ []) ∷ (2 ∷ 2 ∷ 1 ∷ []) ∷ [];
      level = 2;
      words = [];
      notices = (2 ∷ 1 ∷ 2 ∷ []) ∷ (3 ∷ 1 ∷ 2 ∷ []) ∷ (2 ∷ 2 ∷ 2 ∷ []) ∷ (3 ∷ 2 ∷ 2 ∷ []) ∷ (4 ∷ 1 ∷ 2 ∷ []) ∷ (4 ∷ 2 ∷ 2 ∷ []) ∷ [];
      shown = [];
      kept = [] ∷ [] ∷ [];
    }

-- then boat 1 hears the level and boat 2 does not yet: boat 1 says a word in form 2 to boat 2, which reads it, since it runs program 2
abbrev pub one_heard_the_level : Case
one_heard_the_level =
    record {
      boats = 2;
      events = list 1 ∷ list 2 ∷ renew 1 2 ∷ promise 1 ∷ BringNotice 0 ∷ renew 2 2 ∷ promise 2 ∷ BringNotice 2 ∷ level 2 ∷ BringNotice 4 ∷ say2 1 2 ∷ BringWord 0 ∷ say2 2 1 ∷ BringWord 1 ∷ [];
      replies = 0 ∷ 0 ∷ 0 ∷ 0 ∷ 0 ∷ 0 ∷ 0 ∷ 0 ∷ 0 ∷ 0 ∷ 0 ∷ 0 ∷ 0 ∷ 0 ∷ [];
      standings = (2 ∷ 2 ∷ 2 ∷ []) ∷ (2 ∷ 2 ∷ 1 ∷ []) ∷ [];
      level = 2;
      words = (1 ∷ 2 ∷ 1 ∷ 2 ∷ []) ∷ (2 ∷ 1 ∷ 1 ∷ 1 ∷ []) ∷ [];
      notices = (2 ∷ 1 ∷ 2 ∷ []) ∷ (3 ∷ 1 ∷ 2 ∷ []) ∷ (2 ∷ 2 ∷ 2 ∷ []) ∷ (3 ∷ 2 ∷ 2 ∷ []) ∷ (4 ∷ 1 ∷ 2 ∷ []) ∷ (4 ∷ 2 ∷ 2 ∷ []) ∷ (5 ∷ 1 ∷ 2 ∷ []) ∷ [];
      shown = (7 ∷ 3 ∷ 21 ∷ 21 ∷ 1 ∷ []) ∷ (7 ∷ 3 ∷ 21 ∷ 24 ∷ 2 ∷ []) ∷ [];
      kept = (1 ∷ []) ∷ (1 ∷ []) ∷ [];
    }

-- after promising 2, back to 1: 3. A third program, and from there back to 2: done
abbrev pub back_to_the_floor : Case
back_to_the_floor =
    record {
      boats = 1;
      events = list 1 ∷ renew 1 2 ∷ promise 1 ∷ go_back 1 1 ∷ renew 1 3 ∷ go_back 1 2 ∷ go_back 1 1 ∷ [];
      replies = 0 ∷ 0 ∷ 0 ∷ 3 ∷ 0 ∷ 0 ∷ 3 ∷ [];
      standings = (2 ∷ 2 ∷ 1 ∷ []) ∷ [];
      level = 1;
      words = [];
      notices = (2 ∷ 1 ∷ 2 ∷ []) ∷ (2 ∷ 1 ∷ 2 ∷ []) ∷ (2 ∷ 1 ∷ 2 ∷ []) ∷ [];
      shown = [];
      kept = [] ∷ [];
    }

-- a boat that has not promised goes back as it likes, and is not told a level that it has not promised
abbrev pub not_promised : Case
not_promised =
    record {
      boats = 2;
      events = list 1 ∷ list 2 ∷ renew 1 3 ∷ go_back 1 1 ∷ level 2 ∷ say2 1 2 ∷ say1 1 2 ∷ say1 1 1 ∷ renew 9 2 ∷ [];
      replies = 0 ∷ 0 ∷ 0 ∷ 0 ∷ 4 ∷ 1 ∷ 0 ∷ 100 ∷ 100 ∷ [];
      standings = (1 ∷ 1 ∷ 1 ∷ []) ∷ (1 ∷ 1 ∷ 1 ∷ []) ∷ [];
      level = 1;
      words = (1 ∷ 2 ∷ 1 ∷ 1 ∷ []) ∷ [];
      notices = [];
      shown = [];
      kept = [] ∷ [] ∷ [];
    }

-- boat 2 heard form 2 before it heard the level: it keeps form 1, and shows what it heard until its power goes; after that, the draught behind as before
abbrev pub cut_after_hearing : Case
cut_after_hearing =
    record {
      boats = 2;
      events = list 1 ∷ list 2 ∷ renew 1 2 ∷ promise 1 ∷ BringNotice 0 ∷ renew 2 2 ∷ promise 2 ∷ BringNotice 2 ∷ level 2 ∷ BringNotice 4 ∷ say2 1 2 ∷ BringWord 0 ∷ cut 2 ∷ BringWord 0 ∷ [];
      replies = 0 ∷ 0 ∷ 0 ∷ 0 ∷ 0 ∷ 0 ∷ 0 ∷ 0 ∷ 0 ∷ 0 ∷ 0 ∷ 0 ∷ 0 ∷ 2 ∷ [];
      standings = (2 ∷ 2 ∷ 2 ∷ []) ∷ (2 ∷ 2 ∷ 1 ∷ []) ∷ [];
      level = 2;
      words = (1 ∷ 2 ∷ 1 ∷ 2 ∷ []) ∷ [];
      notices = (2 ∷ 1 ∷ 2 ∷ []) ∷ (3 ∷ 1 ∷ 2 ∷ []) ∷ (2 ∷ 2 ∷ 2 ∷ []) ∷ (3 ∷ 2 ∷ 2 ∷ []) ∷ (4 ∷ 1 ∷ 2 ∷ []) ∷ (4 ∷ 2 ∷ 2 ∷ []) ∷ (5 ∷ 1 ∷ 2 ∷ []) ∷ (2 ∷ 2 ∷ 2 ∷ []) ∷ [];
      shown = (7 ∷ 3 ∷ 21 ∷ 21 ∷ 1 ∷ []) ∷ [];
      kept = [] ∷ (1 ∷ []) ∷ [];
    }

-- a word in form 1 from last year, the first of its boat about its ship, comes to a boat that runs program 3 by now: read, the draught behind as before. It comes again: passed over, 2
abbrev pub from_last_year : Case
from_last_year =
    record {
      boats = 2;
      events = list 1 ∷ list 2 ∷ say1 1 2 ∷ renew 2 3 ∷ BringWord 0 ∷ BringWord 0 ∷ [];
      replies = 0 ∷ 0 ∷ 0 ∷ 0 ∷ 0 ∷ 2 ∷ [];
      standings = (1 ∷ 1 ∷ 1 ∷ []) ∷ (3 ∷ 1 ∷ 1 ∷ []) ∷ [];
      level = 1;
      words = (1 ∷ 2 ∷ 1 ∷ 1 ∷ []) ∷ [];
      notices = [];
      shown = (7 ∷ 3 ∷ 21 ∷ 21 ∷ 1 ∷ []) ∷ [];
      kept = [] ∷ (1 ∷ []) ∷ [];
    }

-- the word with both draughts and a second name, and what is left of it
abbrev pub whole : Meaning
whole = record { ship = 7; lock = 3; before = 21; behind = 24; name = 65 ∷ 66 ∷ [] }

abbrev pub nameless : Meaning
nameless = record { ship = 7; lock = 3; before = 21; behind = 24; name = [] }

abbrev pub alike : Meaning
alike = record { ship = 7; lock = 3; before = 21; behind = 21; name = [] }

-- form 3 put into form 2 and read: no second name; put into form 1 from there: as put into form 1 at once
abbrev pub rows : List Row
rows =
    Run one_is_not_enough ∷ Run one_heard_the_level ∷ Run back_to_the_floor ∷ Run not_promised ∷ Run cut_after_hearing ∷ Run from_last_year ∷ Chain whole (3 ∷ []) whole ∷ Chain whole (3 ∷ 2 ∷ []) nameless ∷ Chain whole (3 ∷ 2 ∷ 1 ∷ []) alike ∷ Chain whole (3 ∷ 1 ∷ []) alike ∷ Chain whole (1 ∷ 3 ∷ []) alike ∷ []

abbrev pub CasesHold : Type 0
CasesHold = all_hold rows ≡ true
