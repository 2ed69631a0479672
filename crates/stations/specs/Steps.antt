-- The code's steps and journals by what they mean.
-- Assumes nothing.
use Rattle.std.specs.Prelude.{List, map, reverse, Option, vec_items}
use Rattle.std.specs.Global.{Vec}
use Rattle.messages.specs.declared.Message.{Message}
use Rattle.messages.specs.Messages.{letter}
use Rattle.records.specs.declared.Record.{Record}
use Rattle.records.specs.Records.{Written, written}
use Rattle.stations.specs.declared.step.Step.{Step}
use Rattle.stations.specs.Deeds.{Deed, deed, option}

abbrev pub deed_of : Step (Option Message) → Deed
deed_of s = deed (option written s.«record») (option letter s.messages)

abbrev pub call_of : Step (Vec Message) → Deed
call_of c = deed (option written c.«record») (map letter (vec_items c.messages))

-- a journal as it lies in its file, the oldest record first, as the list of what was written, the newest first
abbrev pub filed : List Record → List Written
filed rs = reverse (map written rs)
