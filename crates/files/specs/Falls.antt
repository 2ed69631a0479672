-- What a step and an opening leave of a disk, wherever they stop, and what a fall leaves of that.
-- Assumes nothing.
use Rattle.std.specs.Prelude.{◌≡◌, ℕ, ◌<◌, ◌⊎◌, List, [], ◌++◌, length, take}
use Rattle.files.specs.Holdings.{Held, file, ended, cut_to}

-- all that was on the file and these bytes are safe
abbrev pub AllSafe : Held → List ℕ → Held → Type 0
AllSafe h b k = (k.synced ≡ file h ++ b) × (k.pending ≡ [])

-- A step at h that succeeded left k: all messages were sent, and all of the file is safe where there is a record.
pub record Finished (h : Held) (b : List ℕ) (ms : List (List ℕ)) (k : Held) : Type 0 where
  pub told : k.sent ≡ h.sent ++ ms
  pub filed : 0 < length b → AllSafe h b k

-- An opening that succeeded: all messages were sent, and all of the file, cut back, is safe.
pub record Settled (h : Held) (n : ℕ) (ms : List (List ℕ)) (k : Held) : Type 0 where
  pub told : k.sent ≡ h.sent ++ ms
  pub filed : (k.synced ≡ take n (file h)) × (k.pending ≡ [])

-- The file x, after a step at h that left k and then a fall: all that was synced, and a first part of the rest and of the record;
-- all of the record, where a message of the step was sent.
pub record Fallen (h : Held) (b : List ℕ) (k : Held) (x : List ℕ) : Type 0 where
  pub part : (n : ℕ) × (x ≡ h.synced ++ take n (h.pending ++ b))
  pub whole : 0 < length b → (k.sent ≡ h.sent) ⊎ (x ≡ file h ++ b)

-- A step at h, with the record b and the messages ms, left k.
pub record Stepped (h : Held) (b : List ℕ) (ms : List (List ℕ)) (k : Held) : Type 0 where
  -- what was synced is a first part of what is synced
  pub safe : (more : List ℕ) × (k.synced ≡ h.synced ++ more)
  -- the file is as before, with a first part of the record
  pub grown : (n : ℕ) × (file k ≡ file h ++ take n b)
  -- what was synced is as it was, and behind it is a first part of the rest and of the record; or all is safe
  pub parts : ((k.synced ≡ h.synced) × ((n : ℕ) × (k.pending ≡ take n (h.pending ++ b)))) ⊎ AllSafe h b k
  -- a first part of the messages was sent
  pub told : (n : ℕ) × (k.sent ≡ h.sent ++ take n ms)
  -- where there is a record, nothing is sent before all of the file is safe
  pub backed : 0 < length b → (k.sent ≡ h.sent) ⊎ AllSafe h b k
  -- where there is none, the file stays
  pub still : b ≡ [] → (k.synced ≡ h.synced) × (k.pending ≡ h.pending)
  -- the program ends, or the power is cut
  pub killed : Fallen h b k (file (ended k))
  pub cut : (left : ℕ) → Fallen h b k (file (cut_to left k))

-- An opening at h, whose whole part has n bytes, left k.
pub record Opened (h : Held) (n : ℕ) (ms : List (List ℕ)) (k : Held) : Type 0 where
  pub safe : (more : List ℕ) × (k.synced ≡ h.synced ++ more)
  -- the file is as it was, or cut back
  pub kept : (file k ≡ file h) ⊎ (file k ≡ take n (file h))
  -- what was synced is as it was, and behind it is a first part of the rest; or all, cut back, is safe
  pub parts : ((k.synced ≡ h.synced) × ((i : ℕ) × (k.pending ≡ take i h.pending))) ⊎ ((k.synced ≡ take n (file h)) × (k.pending ≡ []))
  pub told : (i : ℕ) × (k.sent ≡ h.sent ++ take i ms)
  -- nothing is sent before all of the file, cut back, is safe
  pub backed : (k.sent ≡ h.sent) ⊎ ((k.synced ≡ take n (file h)) × (k.pending ≡ []))
  -- after a fall it has what was synced and a first part of the rest
  pub killed : (i : ℕ) × (file (ended k) ≡ h.synced ++ take i h.pending)
  pub cut : (left : ℕ) → (i : ℕ) × (file (cut_to left k) ≡ h.synced ++ take i h.pending)
