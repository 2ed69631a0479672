-- What a boat keeps of the words that it takes.
-- Assumes nothing.
use Rattle.std.specs.Prelude.{ℕ, max, Bool, false, cond, not, ◌&&◌, List, [], ◌∷◌, map, length, is_some, Some, None, Ok, Err, Option, Result, ◌==◌, nat_le, nat_lt}
use Rattle.std.specs.BTreeMap.{get, values}
use Rattle.std.specs.List.{list_any}
use Rattle.levels.specs.Verdicts.{Verdict, Number}
use Rattle.forms.specs.Meaning.{Uttered, ship_of, form_of}
use Rattle.logbooks.specs.declared.slot.Slot.{Slot}
use Rattle.logbooks.specs.declared.log.Logbook.{Logbook}
use Rattle.logbooks.specs.Slots.{Kept, kept, keeping, forgotten}
use Rattle.logbooks.specs.Ships.{slots_of, last_of}
use Rattle.std.specs.Ordering.{nat_cmp}

-- slots: the last word of each ship, by rising numbers of ships; lasts: the last number taken from a boat about a ship
pub record Log : Type 0 where
  pub slots : List Kept
  pub lasts : ℕ → ℕ → Option ℕ

abbrev pub kept_all : List Slot → List Kept
kept_all = map kept

abbrev pub log : Logbook → Log
log l = record { slots = kept_all (slots_of (values l.ships)); lasts = λ b s. last_of (get nat_cmp l.ships s) b }

abbrev pub empty : Log
empty = record { slots = []; lasts = λ b s. None }

-- the slot of a ship
abbrev pub slot_of : ℕ → List Kept → Option Kept
slot_of n [] = None
slot_of n (s ∷ ss) = cond (s.ship == n) (Some s) (slot_of n ss)

-- a word is kept in form k
abbrev pub keeps : Log → ℕ → Bool
keeps x k = list_any (λ s. form_of s.word == k) x.slots

-- a slot in its place; the one of the same ship goes
abbrev pub placed : Kept → List Kept → List Kept
placed x [] = x ∷ []
placed x (s ∷ ss) = cond (nat_lt s.ship x.ship) (s ∷ placed x ss) (cond (s.ship == x.ship) (x ∷ ss) (x ∷ s ∷ ss))

-- a number that is not above the last one is older
abbrev pub older : Option ℕ → ℕ → Bool
older None n = false
older (Some m) n = nat_le n m

abbrev pub noted : (ℕ → ℕ → Option ℕ) → ℕ → ℕ → ℕ → ℕ → ℕ → Option ℕ
noted f b s n c t = cond (c == b && t == s) (Some n) (f c t)

-- a slot is entered, and some last number noted
abbrev pub entered_to : Log → Kept → ℕ → Log
entered_to x s n = record { slots = placed s x.slots; lasts = noted x.lasts s.from s.ship n }

-- a slot is entered, and its number noted
abbrev pub entered : Log → Kept → Log
entered x s = record { slots = placed s x.slots; lasts = noted x.lasts s.from s.ship s.number }

-- there is no place for one more ship
abbrev pub crowded : Log → ℕ → Bool
crowded x s = not (is_some (slot_of s x.slots)) && nat_le 4096 (length x.slots)

-- a slot is entered, and some last number noted, where there is place
abbrev pub putting : Log → Kept → ℕ → Result Log Verdict
putting x s n = cond (crowded x s.ship) (Err (Number 6)) (Ok (entered_to x s n))

-- a word with the number n comes from boat b and is kept in a form of at most k. An older number is passed over, 2; a ship for which there is no place is refused, 6
abbrev pub taking : Log → ℕ → ℕ → Uttered → ℕ → Result Log Verdict
taking x b n u k =
    cond (older (x.lasts b (ship_of u)) n) (Err (Number 2)) (cond (not (is_some (slot_of (ship_of u) x.slots)) && nat_le 4096 (length x.slots)) (Err (Number 6)) (Ok (entered x (keeping b n u k))))

-- the slot of a word as a file has it
abbrev pub slot : ℕ → ℕ → Uttered → Kept
slot b n u = record { ship = ship_of u; from = b; number = n; word = u; newer = None }

-- the higher of two numbers that may be missing
abbrev pub higher : Option ℕ → Option ℕ → Option ℕ
higher None o = o
higher (Some n) None = Some n
higher (Some n) (Some m) = Some (max n m)

-- a word comes back from a file, whatever its number: it is the ship's last word, and of the last numbers the higher counts. A ship for which there is no place is refused, 6
abbrev pub restored : Log → ℕ → ℕ → Uttered → Log
restored x b n u = record { slots = placed (slot b n u) x.slots; lasts = λ c s. higher (cond (b == c && ship_of u == s) (Some n) None) (x.lasts c s) }

abbrev pub restoring : Log → ℕ → ℕ → Uttered → Result Log Verdict
restoring x b n u = cond (crowded x (ship_of u)) (Err (Number 6)) (Ok (restored x b n u))

-- the power goes: nothing newer than what is kept is known any more
abbrev pub fallen : Log → Log
fallen x = record { slots = map forgotten x.slots; lasts = x.lasts }
