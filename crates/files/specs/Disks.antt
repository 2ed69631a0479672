-- The code's disk by what it holds.
-- Assumes nothing.
use Rattle.std.specs.Prelude.{◌≡◌, ◌<◌, ◌≤◌, Bool, true, false, ◌⊎◌, map, length, vec_items, vec_len, vec_capacity}
use Rattle.synced.specs.Parts.{safe, pending, room}
use Rattle.files.specs.declared.disk.Disk.{Disk}
use Rattle.files.specs.Effects.{Effect, Append, Sync, Send, CutBack}
use Rattle.files.specs.Holdings.{Held, can, Did}

abbrev pub held : Disk → Held
held d = record { synced = safe d.bytes; pending = pending d.bytes; sent = map (λ m. vec_items m) (vec_items d.sent); budget = d.budget }

-- only an append and a message can want memory
abbrev pub NoRoom : Disk → Effect → Type 0
NoRoom d (Append b) = room d.bytes < length b
NoRoom d Sync = ⊥
NoRoom d (Send b) = (vec_capacity d.sent ≤ vec_len d.sent) ⊎ (0 < length b)
NoRoom d (CutBack n) = ⊥

-- an effect fails only where it cannot be done or there is no memory for it, and then it changes nothing
abbrev pub DiskDid : Disk → Effect → Bool → Disk → Type 0
DiskDid s e true t = Did (held s) e true (held t)
DiskDid s e false t = ((can e (held s) ≡ false) ⊎ NoRoom s e) × Did (held s) e false (held t)
