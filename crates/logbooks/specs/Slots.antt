-- One ship's place among the words that are kept.
-- Assumes nothing.
use Rattle.std.specs.Prelude.{ℕ, ◌+◌, min, cond, List, [], ◌∷◌, Some, None, Option, ◌==◌, nat_le}
use Rattle.forms.specs.declared.word.Spoken.{Spoken}
use Rattle.forms.specs.Meaning.{Uttered, form_of, ship_of, put, get}
use Rattle.forms.specs.Said.{said}
use Rattle.logbooks.specs.declared.slot.Slot.{Slot}

-- word: as it is kept; newer: as it came, where that is a newer form, until the power goes
pub record Kept : Type 0 where
  pub ship : ℕ
  pub from : ℕ
  pub number : ℕ
  pub word : Uttered
  pub newer : Option Uttered

abbrev pub said_in : Option Spoken → Option Uttered
said_in None = None
said_in (Some u) = Some (said u)

abbrev pub kept : Slot → Kept
kept s = record { ship = s.ship; from = s.from.0; number = s.number; word = said s.word; newer = said_in s.newer }

-- how many slots keep their word in form k
abbrev pub in_form : ℕ → List Kept → ℕ
in_form k [] = 0
in_form k (s ∷ ss) = cond (form_of s.word == k) 1 0 + in_form k ss

-- a word that came is kept in a form of at most k
abbrev pub keeping : ℕ → ℕ → Uttered → ℕ → Kept
keeping b n u k = record { ship = ship_of u; from = b; number = n; word = put (min (form_of u) k) (get u); newer = cond (nat_le (form_of u) k) None (Some u) }

-- what is shown: the newer, while it is there
abbrev pub newer_or : Option Uttered → Uttered → Uttered
newer_or None u = u
newer_or (Some v) u = v

abbrev pub shown_of : Kept → Uttered
shown_of s = newer_or s.newer s.word

-- the power goes: what is not in the file is forgotten
abbrev pub forgotten : Kept → Kept
forgotten s = record { ship = s.ship; from = s.from; number = s.number; word = s.word; newer = None }
