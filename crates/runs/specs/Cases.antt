-- Worked cases: what is played and how far it comes, what is answered, and how all stand afterwards.
-- Assumes nothing.
use Rattle.std.specs.Prelude.{◌≡◌, ℕ, zero, suc, Bool, true, false, ◌&&◌, List, [], ◌∷◌, ◌++◌, map, length, Some, None, Ok, Err, Option, Result, ◌==◌}
use Rattle.levels.specs.Verdicts.{Verdict, Number, Bad, Memory}
use Rattle.forms.specs.declared.word.Spoken.TheVariants.{First, Second}
use Rattle.forms.specs.Meaning.{Meaning, form_of, put, get}
use Rattle.forms.specs.Shows.{View, showing}
use Rattle.logbooks.specs.Slots.{Kept, shown_of}
use Rattle.messages.specs.Messages.{Telling, word, promise, heard, level, has_it, Letter}
use Rattle.stations.specs.Journals as journal
use Rattle.stations.specs.Boats as boats
use Rattle.runs.specs.declared.events.Event.{Event}
use Rattle.runs.specs.declared.events.Event.TheVariants.{Enlist, Renew, GoBack, Start, Rest, Promise, Announce, Say, BringWord, BringNotice}
use Rattle.runs.specs.declared.events.Fate.{Fate}
use Rattle.runs.specs.declared.events.Fate.TheVariants.{Whole, Killed, Cut}
use Rattle.runs.specs.Disks.{file}
use Rattle.runs.specs.Worlds.{World, Vessel, Said, start, play, outcome, run}

-- a row of numbers, and a table of rows
abbrev pub same : List ℕ → List ℕ → Bool
same [] [] = true
same [] (y ∷ ys) = false
same (x ∷ xs) [] = false
same (x ∷ xs) (y ∷ ys) = x == y && same xs ys

abbrev pub same_rows : List (List ℕ) → List (List ℕ) → Bool
same_rows [] [] = true
same_rows [] (y ∷ ys) = false
same_rows (x ∷ xs) [] = false
same_rows (x ∷ xs) (y ∷ ys) = same x y && same_rows xs ys

-- an answer as a number: 200 is yes, 0 to 6 are the refusals that have a number
abbrev pub answer : Result World Verdict → ℕ
answer (Ok v) = 200
answer (Err (Number n)) = n
answer (Err Bad) = 100
answer (Err Memory) = 101

abbrev pub answers : World → List (Event × Fate) → List ℕ
answers w [] = []
answers w (e ∷ es) = answer (play w e.0 e.1) ∷ answers (outcome w (play w e.0 e.1)) es

-- a boat: program, floor and level by its file, how many records are synced and how many are not, 1 if its program runs
abbrev pub runs : {A : Type 0} → Option A → ℕ
runs None = 0
runs (Some m) = 1

abbrev pub boat_row : Vessel → List ℕ
boat_row v = v.program ∷ journal.floor (file v.disk) ∷ journal.level (file v.disk) ∷ length v.disk.synced ∷ length v.disk.pending ∷ runs v.running ∷ []

-- boats 1 to n
abbrev pub rows_to : World → ℕ → List (List ℕ)
rows_to w zero = []
rows_to w (suc n) = rows_to w n ++ boat_row (w.boat (suc n)) ∷ []

-- a word: from, to, number, form. A notice: its kind (2 promise, 3 heard, 4 level, 5 has it), the boat, the number in it
abbrev pub word_row : Said → List ℕ
word_row x = x.from ∷ x.to ∷ x.number ∷ form_of x.spoken ∷ []

abbrev pub notice_row_of : ℕ → ℕ → Telling → List ℕ
notice_row_of i j (word u) = 1 ∷ []
notice_row_of i j (promise f) = 2 ∷ i ∷ f ∷ []
notice_row_of i j (heard f) = 3 ∷ j ∷ f ∷ []
notice_row_of i j (level k) = 4 ∷ j ∷ k ∷ []
notice_row_of i j (has_it k) = 5 ∷ i ∷ k ∷ []

abbrev pub notice_row : Letter → List ℕ
notice_row l = notice_row_of l.from l.to l.body

-- what stands on a screen: ship, lock, draught before, draught behind where it is shown, the form in which the word came
abbrev pub shown_if : Option ℕ → List ℕ → List ℕ
shown_if None rest = rest
shown_if (Some n) rest = n ∷ rest

abbrev pub view_row : View → List ℕ
view_row v = v.ship ∷ v.lock ∷ v.before ∷ shown_if v.behind (v.form ∷ [])

abbrev pub screen : ℕ → List Kept → List (List ℕ)
screen p [] = []
screen p (s ∷ ss) = view_row (showing p (shown_of s)) ∷ screen p ss

abbrev pub screen_of : ℕ → Option boats.Memory → List (List ℕ)
screen_of p None = []
screen_of p (Some m) = screen p m.log.slots

abbrev pub screens_to : World → ℕ → List (List ℕ)
screens_to w zero = []
screens_to w (suc n) = screens_to w n ++ screen_of (w.boat (suc n)).program (w.boat (suc n)).running

-- a case is a run: how many boats, the events with their fates, and what is expected
pub record Case : Type 0 where
  pub boats : ℕ
  pub events : List (Event × Fate)
  pub replies : List ℕ
  pub standings : List (List ℕ)
  pub said : ℕ
  pub words : List (List ℕ)
  pub notices : List (List ℕ)
  pub shown : List (List ℕ)

abbrev pub ends_as : Case → World → Bool
ends_as c w =
    same_rows (rows_to w c.boats) c.standings && (journal.level (file w.harbour.disk) == c.said && (same_rows (map word_row w.words) c.words && (same_rows (map notice_row w.notices) c.notices && same_rows (screens_to w c.boats) c.shown)))

abbrev pub holds : Case → Bool
holds c = same (answers (start c.boats) c.events) c.replies && ends_as c (run c.boats c.events)

-- a chain of forms: a word is put into each, one after the other, and read again
abbrev pub through : Meaning → List ℕ → Meaning
through m [] = m
through m (f ∷ fs) = through (get (put f m)) fs

abbrev pub same_word : Meaning → Meaning → Bool
same_word m n = m.ship == n.ship && (m.lock == n.lock && (m.before == n.before && (m.behind == n.behind && same m.name n.name)))

-- a row of the table is a run, or a chain of forms with what is left of a word
pub data Row : Type 0 where
  Run : Case → Row
  Chain : (word : Meaning) (forms : List ℕ) (left : Meaning) → Row

abbrev pub row_holds : Row → Bool
row_holds (Run c) = holds c
row_holds (Chain m fs n) = same_word (through m fs) n

abbrev pub all_hold : List Row → Bool
all_hold [] = true
all_hold (r ∷ rs) = row_holds r && all_hold rs

-- events, by plain numbers, that come to their end
abbrev pub done : Event → Event × Fate
done e = (e, Whole)

abbrev pub list : ℕ → Event × Fate
list b = done (Enlist (record { 0 = b }))

abbrev pub renew : ℕ → ℕ → Event × Fate
renew b v = done (Renew (record { 0 = b }) (record { 0 = v }))

abbrev pub go_back : ℕ → ℕ → Event × Fate
go_back b v = done (GoBack (record { 0 = b }) (record { 0 = v }))

abbrev pub promised : ℕ → Event × Fate
promised b = done (Promise (record { 0 = b }))

abbrev pub say : ℕ → Event × Fate
say k = done (Announce (record { 0 = k }))

abbrev pub comes : ℕ → Event × Fate
comes n = done (BringNotice n)

abbrev pub starts : ℕ → Event × Fate
starts b = done (Start (record { 0 = b }))

-- the power goes after e effects, and nothing of what was not synced is left; the program ends after e effects
abbrev pub cut_at : Event → ℕ → Event × Fate
cut_at e n = (e, Cut n 0)

abbrev pub killed_at : Event → ℕ → Event × Fate
killed_at e n = (e, Killed n)

-- a word about ship 7 at lock 3, with a draught before of 21 and, in form 2, one behind of 24
abbrev pub first : ℕ → ℕ → Event
first i j = Say (record { 0 = i }) (record { 0 = j }) (First 7 3 21)

abbrev pub second : ℕ → ℕ → Event
second i j = Say (record { 0 = i }) (record { 0 = j }) (Second 7 3 21 24)

-- one renewed boat is not enough: 4. Both have promised: the level is said
abbrev pub one_is_not_enough : Case
one_is_not_enough =
    record {
      boats = 2;
      events = list 1 ∷ list 2 ∷ renew 1 2 ∷ promised 1 ∷ comes 0 ∷ say 2 ∷ renew 2 2 ∷ promised 2 ∷ comes 2 ∷ say 2 ∷ [];
      replies = 200 ∷ 200 ∷ 200 ∷ 200 ∷ 200 ∷ 4 ∷ 200 ∷ 200 ∷ 200 ∷ 200 ∷ [];
      standings = (2 ∷ 2 ∷ 1 ∷ 1 ∷ 0 ∷ 1 ∷ []) ∷ (2 ∷ 2 ∷ 1 ∷ 1 ∷ 0 ∷ 1 ∷ []) ∷ [];
      said = 2;
      words = [];
      notices = (2 ∷ 1 ∷ 2 ∷ []) ∷ (3 ∷ 1 ∷ 2 ∷ []) ∷ (2 ∷ 2 ∷ 2 ∷ []) ∷ (3 ∷ 2 ∷ 2 ∷ []) ∷ (4 ∷ 1 ∷ 2 ∷ []) ∷ (4 ∷ 2 ∷ 2 ∷ []) ∷ [];
      shown = [];
    }

-- boat 1 heard the level and boat 2 did not yet: boat 1 says a word in form 2 to boat 2, which reads it, since it runs program 2; it keeps form 1, and shows what it heard until its power goes; after that, the draught behind as before
abbrev pub heard_before : List (Event × Fate)
heard_before = list 1 ∷ list 2 ∷ renew 1 2 ∷ promised 1 ∷ comes 0 ∷ renew 2 2 ∷ promised 2 ∷ comes 2 ∷ say 2 ∷ comes 4 ∷ done (second 1 2) ∷ done (BringWord 0) ∷ []

abbrev pub one_heard_the_level : Case
one_heard_the_level =
    record {
      boats = 2;
      events = heard_before;
      replies = 200 ∷ 200 ∷ 200 ∷ 200 ∷ 200 ∷ 200 ∷ 200 ∷ 200 ∷ 200 ∷ 200 ∷ 200 ∷ 200 ∷ [];
      standings = (2 ∷ 2 ∷ 2 ∷ 3 ∷ 0 ∷ 1 ∷ []) ∷ (2 ∷ 2 ∷ 1 ∷ 2 ∷ 0 ∷ 1 ∷ []) ∷ [];
      said = 2;
      words = (1 ∷ 2 ∷ 1 ∷ 2 ∷ []) ∷ [];
      notices = (2 ∷ 1 ∷ 2 ∷ []) ∷ (3 ∷ 1 ∷ 2 ∷ []) ∷ (2 ∷ 2 ∷ 2 ∷ []) ∷ (3 ∷ 2 ∷ 2 ∷ []) ∷ (4 ∷ 1 ∷ 2 ∷ []) ∷ (4 ∷ 2 ∷ 2 ∷ []) ∷ (5 ∷ 1 ∷ 2 ∷ []) ∷ [];
      shown = (7 ∷ 3 ∷ 21 ∷ 24 ∷ 2 ∷ []) ∷ [];
    }

abbrev pub cut_after_hearing : Case
cut_after_hearing =
    record {
      boats = 2;
      events = heard_before ++ cut_at (Rest (record { 0 = 2 })) 0 ∷ starts 2 ∷ done (BringWord 0) ∷ [];
      replies = 200 ∷ 200 ∷ 200 ∷ 200 ∷ 200 ∷ 200 ∷ 200 ∷ 200 ∷ 200 ∷ 200 ∷ 200 ∷ 200 ∷ 200 ∷ 200 ∷ 2 ∷ [];
      standings = (2 ∷ 2 ∷ 2 ∷ 3 ∷ 0 ∷ 1 ∷ []) ∷ (2 ∷ 2 ∷ 1 ∷ 2 ∷ 0 ∷ 1 ∷ []) ∷ [];
      said = 2;
      words = (1 ∷ 2 ∷ 1 ∷ 2 ∷ []) ∷ [];
      notices = (2 ∷ 1 ∷ 2 ∷ []) ∷ (3 ∷ 1 ∷ 2 ∷ []) ∷ (2 ∷ 2 ∷ 2 ∷ []) ∷ (3 ∷ 2 ∷ 2 ∷ []) ∷ (4 ∷ 1 ∷ 2 ∷ []) ∷ (4 ∷ 2 ∷ 2 ∷ []) ∷ (5 ∷ 1 ∷ 2 ∷ []) ∷ (2 ∷ 2 ∷ 2 ∷ []) ∷ [];
      shown = (7 ∷ 3 ∷ 21 ∷ 21 ∷ 1 ∷ []) ∷ [];
    }

-- after promising 2, back to 1: 3. A third program, and from there back to 2: done
abbrev pub back_to_the_floor : Case
back_to_the_floor =
    record {
      boats = 1;
      events = list 1 ∷ renew 1 2 ∷ promised 1 ∷ go_back 1 1 ∷ renew 1 3 ∷ go_back 1 2 ∷ go_back 1 1 ∷ [];
      replies = 200 ∷ 200 ∷ 200 ∷ 3 ∷ 200 ∷ 200 ∷ 3 ∷ [];
      standings = (2 ∷ 2 ∷ 1 ∷ 1 ∷ 0 ∷ 1 ∷ []) ∷ [];
      said = 1;
      words = [];
      notices = (2 ∷ 1 ∷ 2 ∷ []) ∷ (2 ∷ 1 ∷ 2 ∷ []) ∷ (2 ∷ 1 ∷ 2 ∷ []) ∷ [];
      shown = [];
    }

-- a boat that has not promised goes back as it likes, and no level is said that it has not promised
abbrev pub not_promised : Case
not_promised =
    record {
      boats = 2;
      events = list 1 ∷ list 2 ∷ renew 1 3 ∷ go_back 1 1 ∷ say 2 ∷ done (second 1 2) ∷ done (first 1 2) ∷ done (first 1 1) ∷ renew 9 2 ∷ [];
      replies = 200 ∷ 200 ∷ 200 ∷ 200 ∷ 4 ∷ 1 ∷ 200 ∷ 100 ∷ 100 ∷ [];
      standings = (1 ∷ 1 ∷ 1 ∷ 1 ∷ 0 ∷ 1 ∷ []) ∷ (1 ∷ 1 ∷ 1 ∷ 0 ∷ 0 ∷ 1 ∷ []) ∷ [];
      said = 1;
      words = (1 ∷ 2 ∷ 1 ∷ 1 ∷ []) ∷ [];
      notices = [];
      shown = [];
    }

-- a word in form 1 from last year, the first of its boat about its ship, comes to a boat that runs program 3 by now: read, the draught behind as before. It comes again: passed over, 2
abbrev pub from_last_year : Case
from_last_year =
    record {
      boats = 2;
      events = list 1 ∷ list 2 ∷ done (first 1 2) ∷ renew 2 3 ∷ done (BringWord 0) ∷ done (BringWord 0) ∷ [];
      replies = 200 ∷ 200 ∷ 200 ∷ 200 ∷ 200 ∷ 2 ∷ [];
      standings = (1 ∷ 1 ∷ 1 ∷ 1 ∷ 0 ∷ 1 ∷ []) ∷ (3 ∷ 1 ∷ 1 ∷ 1 ∷ 0 ∷ 1 ∷ []) ∷ [];
      said = 1;
      words = (1 ∷ 2 ∷ 1 ∷ 1 ∷ []) ∷ [];
      notices = [];
      shown = (7 ∷ 3 ∷ 21 ∷ 21 ∷ 1 ∷ []) ∷ [];
    }

-- the power goes between the floor's sync and its telling: nothing works on a boat that is down, its floor stands in its file, and it comes up with it and tells it
abbrev pub cut_before_telling : Case
cut_before_telling =
    record {
      boats = 1;
      events = list 1 ∷ renew 1 2 ∷ cut_at (Promise (record { 0 = 1 })) 2 ∷ promised 1 ∷ go_back 1 1 ∷ starts 1 ∷ comes 0 ∷ [];
      replies = 200 ∷ 200 ∷ 200 ∷ 100 ∷ 3 ∷ 200 ∷ 200 ∷ [];
      standings = (2 ∷ 2 ∷ 1 ∷ 1 ∷ 0 ∷ 1 ∷ []) ∷ [];
      said = 1;
      words = [];
      notices = (2 ∷ 1 ∷ 2 ∷ []) ∷ (3 ∷ 1 ∷ 2 ∷ []) ∷ [];
      shown = [];
    }

-- the program is killed between the append and the sync: the record stands in the file, not yet safe. Going back is judged by it, 3; the next start syncs it, and only then tells it
abbrev pub killed_before_sync : Case
killed_before_sync =
    record {
      boats = 1;
      events = list 1 ∷ renew 1 2 ∷ killed_at (Promise (record { 0 = 1 })) 1 ∷ go_back 1 1 ∷ killed_at (Start (record { 0 = 1 })) 1 ∷ starts 1 ∷ [];
      replies = 200 ∷ 200 ∷ 200 ∷ 3 ∷ 200 ∷ 200 ∷ [];
      standings = (2 ∷ 2 ∷ 1 ∷ 1 ∷ 0 ∷ 1 ∷ []) ∷ [];
      said = 1;
      words = [];
      notices = (2 ∷ 1 ∷ 2 ∷ []) ∷ [];
      shown = [];
    }

-- the same, but then the power goes before the start has synced: the record is lost, nobody was told of it, and the boat may go back
abbrev pub lost_before_sync : Case
lost_before_sync =
    record {
      boats = 1;
      events = list 1 ∷ renew 1 2 ∷ killed_at (Promise (record { 0 = 1 })) 1 ∷ cut_at (Start (record { 0 = 1 })) 1 ∷ go_back 1 1 ∷ [];
      replies = 200 ∷ 200 ∷ 200 ∷ 200 ∷ 200 ∷ [];
      standings = (1 ∷ 1 ∷ 1 ∷ 0 ∷ 0 ∷ 1 ∷ []) ∷ [];
      said = 1;
      words = [];
      notices = [];
      shown = [];
    }

-- the harbour loses its power when the level stands in its file and nobody was told: it comes up with it, and says it again
abbrev pub harbour_cut : Case
harbour_cut =
    record {
      boats = 1;
      events = list 1 ∷ renew 1 2 ∷ promised 1 ∷ comes 0 ∷ cut_at (Announce (record { 0 = 2 })) 2 ∷ say 2 ∷ starts 0 ∷ say 2 ∷ comes 2 ∷ [];
      replies = 200 ∷ 200 ∷ 200 ∷ 200 ∷ 200 ∷ 100 ∷ 200 ∷ 200 ∷ 200 ∷ [];
      standings = (2 ∷ 2 ∷ 2 ∷ 2 ∷ 0 ∷ 1 ∷ []) ∷ [];
      said = 2;
      words = [];
      notices = (2 ∷ 1 ∷ 2 ∷ []) ∷ (3 ∷ 1 ∷ 2 ∷ []) ∷ (4 ∷ 1 ∷ 2 ∷ []) ∷ (5 ∷ 1 ∷ 2 ∷ []) ∷ [];
      shown = [];
    }

-- the power goes when a word's number is used and the word is not sent: the number is not used again
abbrev pub number_once : Case
number_once =
    record {
      boats = 2;
      events = list 1 ∷ list 2 ∷ cut_at (first 1 2) 2 ∷ starts 1 ∷ done (first 1 2) ∷ [];
      replies = 200 ∷ 200 ∷ 200 ∷ 200 ∷ 200 ∷ [];
      standings = (1 ∷ 1 ∷ 1 ∷ 2 ∷ 0 ∷ 1 ∷ []) ∷ (1 ∷ 1 ∷ 1 ∷ 0 ∷ 0 ∷ 1 ∷ []) ∷ [];
      said = 1;
      words = (1 ∷ 2 ∷ 2 ∷ 1 ∷ []) ∷ [];
      notices = [];
      shown = [];
    }

-- the word with both draughts and a second name, and what is left of it
abbrev pub whole : Meaning
whole = record { ship = 7; lock = 3; before = 21; behind = 24; name = 65 ∷ 66 ∷ [] }

abbrev pub nameless : Meaning
nameless = record { ship = 7; lock = 3; before = 21; behind = 24; name = [] }

abbrev pub alike : Meaning
alike = record { ship = 7; lock = 3; before = 21; behind = 21; name = [] }

-- form 3 put into form 2 and read: no second name; put into form 1 from there: as put into form 1 at once
abbrev pub rows : List Row
rows =
    Run one_is_not_enough ∷ Run one_heard_the_level ∷ Run cut_after_hearing ∷ Run back_to_the_floor ∷ Run not_promised ∷ Run from_last_year ∷ Run cut_before_telling ∷ Run killed_before_sync ∷ Run lost_before_sync ∷ Run harbour_cut ∷ Run number_once ∷ Chain whole (3 ∷ []) whole ∷ Chain whole (3 ∷ 2 ∷ []) nameless ∷ Chain whole (3 ∷ 2 ∷ 1 ∷ []) alike ∷ Chain whole (3 ∷ 1 ∷ []) alike ∷ Chain whole (1 ∷ 3 ∷ []) alike ∷ []

abbrev pub CasesHold : Type 0
CasesHold = all_hold rows ≡ true
