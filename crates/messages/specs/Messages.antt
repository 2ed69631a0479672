-- Messages by what they say.
-- Assumes nothing.
use Rattle.std.specs.Prelude.{ℕ}
use Rattle.forms.specs.Meaning.{Uttered}
use Rattle.forms.specs.Said.{said}
use Rattle.messages.specs.declared.Body.{Body}
use Rattle.messages.specs.declared.Body.TheVariants.{Word, Promise, Heard, Allowed, Taken}
use Rattle.messages.specs.declared.Message.{Message}

-- a word in some form; a floor that was promised; a floor that the ledger has; a level that all have promised; a level that was taken
pub data Telling : Type 0 where
  word : Uttered → Telling
  promise : ℕ → Telling
  heard : ℕ → Telling
  level : ℕ → Telling
  has_it : ℕ → Telling

pub record Letter : Type 0 where
  pub from : ℕ
  pub to : ℕ
  pub number : ℕ
  pub body : Telling

abbrev pub telling : Body → Telling
telling (Word u) = word (said u)
telling (Promise f) = promise f.0
telling (Heard f) = heard f.0
telling (Allowed k) = level k.0
telling (Taken k) = has_it k.0

abbrev pub letter : Message → Letter
letter m = record { from = m.from.0; to = m.to.0; number = m.number; body = telling m.body }

-- anything but a word has the number 0
abbrev pub notice : ℕ → ℕ → Telling → Letter
notice i j b = record { from = i; to = j; number = 0; body = b }
