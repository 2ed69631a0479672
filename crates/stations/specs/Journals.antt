-- What a station knows is a function of its journal: the list of its records, the newest first.
-- Assumes nothing.
use Rattle.std.specs.Prelude.{ℕ, max, Bool, true, false, cond, ◌&&◌, List, [], ◌∷◌, Some, None, Option, ◌==◌, nat_le}
use Rattle.ledger.specs.Entries.{Entry, admitted, heard}
use Rattle.levels.specs.Rules.{reads}
use Rattle.forms.specs.Meaning.{form_of, ship_of}
use Rattle.logbooks.specs.Slots.{Kept}
use Rattle.logbooks.specs.Logs.{Log, placed, slot, higher}
use Rattle.records.specs.Records.{Written, floor_is, level_is, word_is, boat_is, used_to}

-- the highest of what the records have of something, and d at least
abbrev pub top : ℕ → (Written → ℕ) → List Written → ℕ
top d v [] = d
top d v (r ∷ rs) = max (v r) (top d v rs)

-- what one record has of each
abbrev pub floor_in : Written → ℕ
floor_in (floor_is f) = f
floor_in (level_is k) = 0
floor_in (word_is b n u) = 0
floor_in (boat_is b f) = 0
floor_in (used_to n) = 0

abbrev pub level_in : Written → ℕ
level_in (floor_is f) = 0
level_in (level_is k) = k
level_in (word_is b n u) = 0
level_in (boat_is b f) = 0
level_in (used_to n) = 0

abbrev pub used_in : Written → ℕ
used_in (floor_is f) = 0
used_in (level_is k) = 0
used_in (word_is b n u) = 0
used_in (boat_is b f) = 0
used_in (used_to n) = n

-- the form of a word that is kept, 0 in any other record
abbrev pub form_in : Written → ℕ
form_in (floor_is f) = 0
form_in (level_is k) = 0
form_in (word_is b n u) = form_of u
form_in (boat_is b f) = 0
form_in (used_to n) = 0

-- the number of a word of boat c about ship s
abbrev pub number_in : ℕ → ℕ → Written → Option ℕ
number_in c s (floor_is f) = None
number_in c s (level_is k) = None
number_in c s (word_is b n u) = cond (b == c && ship_of u == s) (Some n) None
number_in c s (boat_is b f) = None
number_in c s (used_to n) = None

-- a boat's floor, its level or the level that the harbour has said, the numbers that it has used
abbrev pub floor : List Written → ℕ
floor = top 1 floor_in

abbrev pub level : List Written → ℕ
level = top 1 level_in

abbrev pub used : List Written → ℕ
used = top 0 used_in

-- the highest number of a word of boat b about ship s
abbrev pub last : List Written → ℕ → ℕ → Option ℕ
last [] b s = None
last (r ∷ rs) b s = higher (number_in b s r) (last rs b s)

-- the last word of each ship, by rising numbers of ships
abbrev pub slotted : Written → List Kept → List Kept
slotted (floor_is f) ks = ks
slotted (level_is k) ks = ks
slotted (word_is b n u) ks = placed (slot b n u) ks
slotted (boat_is b f) ks = ks
slotted (used_to n) ks = ks

abbrev pub slots : List Written → List Kept
slots [] = []
slots (r ∷ rs) = slotted r (slots rs)

abbrev pub log : List Written → Log
log rs = record { slots = slots rs; lasts = last rs }

-- the harbour's list: a boat that is not on it comes on it; then its promise counts
abbrev pub enlisted : Written → List Entry → List Entry
enlisted (floor_is f) es = es
enlisted (level_is k) es = es
enlisted (word_is b n u) es = es
enlisted (boat_is b f) es = heard b f (admitted b es)
enlisted (used_to n) es = es

abbrev pub boats : List Written → List Entry
boats [] = []
boats (r ∷ rs) = enlisted r (boats rs)

-- does a boat that runs program v read a record; does the harbour
abbrev pub boat_reads : ℕ → Written → Bool
boat_reads v (floor_is f) = true
boat_reads v (level_is k) = true
boat_reads v (word_is b n u) = reads v (form_of u)
boat_reads v (boat_is b f) = false
boat_reads v (used_to n) = true

abbrev pub harbour_reads : Written → Bool
harbour_reads (floor_is f) = false
harbour_reads (level_is k) = true
harbour_reads (word_is b n u) = false
harbour_reads (boat_is b f) = nat_le 1 b
harbour_reads (used_to n) = false

abbrev pub every : (Written → Bool) → List Written → Bool
every p [] = true
every p (r ∷ rs) = p r && every p rs
