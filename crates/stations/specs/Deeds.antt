-- What a station does in one step: the records that it appends, which are synced before anything is sent, and the messages that it then sends.
-- Assumes nothing.
use Rattle.std.specs.Prelude.{List, [], ◌∷◌, Some, None, Option}
use Rattle.messages.specs.Messages.{Letter}
use Rattle.records.specs.Records.{Written}

pub record Deed : Type 0 where
  pub records : List Written
  pub letters : List Letter

abbrev pub deed : List Written → List Letter → Deed
deed rs ls = record { records = rs; letters = ls }

abbrev pub nothing : Deed
nothing = deed [] []

-- one or none
abbrev pub option : {A B : Type 0} → (A → B) → Option A → List B
option f None = []
option f (Some x) = f x ∷ []
