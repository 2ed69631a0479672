-- What is recovered of a file of records after a step and any fall.
-- Assumes nothing.
use Rattle.std.specs.Prelude.{◌≡◌, ℕ, ◌<◌, ◌⊎◌, List, [], ◌++◌, All, length, take, drop, Some, Result, OnOk}
use Rattle.files.specs.Fronts.{Front}
use Rattle.files.specs.Holdings.{Held, file, ended, cut_to}
use Rattle.files.specs.Recovery.{records, together, whole_part, wholes}

-- Of the file x the records rs are recovered and a first part of qs, and all of qs where something was sent.
pub record Recovered (front : List ℕ → Front) (rs qs : List (List ℕ)) (h k : Held) (x : List ℕ) : Type 0 where
  pub part : (n : ℕ) × (records front x ≡ Some (rs ++ take n qs))
  pub told : (k.sent ≡ h.sent) ⊎ (records front x ≡ Some (rs ++ qs))

-- A step at h that appends b, the records bs, left k. The records rs were synced and ps were not: with ps empty and one record in bs,
-- the records before the step are recovered, or those and the new one.
abbrev pub ComesBack : (List ℕ → Front) → (List ℕ → Type 0) → Held → List ℕ → Held → Type 0
ComesBack front known h b k =
    (rs ps bs : List (List ℕ)) → All known rs → All known ps → All known bs → 0 < length b → b ≡ together bs → h.synced ≡ together rs → h.pending ≡ together ps → Recovered front rs (ps ++ bs) h k (file (ended k)) × ((left : ℕ) → Recovered front rs (ps ++ bs) h k (file (cut_to left k)))

-- An opening at h left k, where n is the length of the file's whole part. The records rs were synced, and behind them was what a cut left of ps:
-- what is recovered after a fall is what was recovered before, all of it where something was sent, and else at least rs.
abbrev pub OpensAgain : (List ℕ → Front) → (List ℕ → Type 0) → Held → ℕ → Held → Type 0
OpensAgain front known h n k =
    (rs ps : List (List ℕ)) (m : ℕ) (w : List ℕ) → All known rs → All known ps → h.synced ≡ together rs → h.pending ≡ take m (together ps) → whole_part front (file h) ≡ Some w → n ≡ length w → (records front (file h) ≡ Some (rs ++ wholes m ps)) × Recovered front rs (wholes m ps) h k (file (ended k)) × ((left : ℕ) → Recovered front rs (wholes m ps) h k (file (cut_to left k)))

-- the file is just these records, and all of it is safe
abbrev pub Filed : List (List ℕ) → Held → Type 0
Filed rs k = (k.synced ≡ together rs) × (k.pending ≡ [])

-- a step that succeeded leaves the records that were there and the new ones
abbrev pub Extends : {E : Type 0} → Result (Unit {0}) E → Held → List ℕ → Held → Type 0
Extends r h b k =
    (rs bs : List (List ℕ)) → 0 < length b → b ≡ together bs → file h ≡ together rs → OnOk r (Filed (rs ++ bs) k)

-- an opening that succeeded, with n the length of the whole part w, leaves the records that were recovered
abbrev pub Restores : {E : Type 0} → (List ℕ → Front) → Result (Unit {0}) E → Held → ℕ → Held → Type 0
Restores front r h n k =
    (rs : List (List ℕ)) (w : List ℕ) → records front (file h) ≡ Some rs → whole_part front (file h) ≡ Some w → w ++ drop (length w) (file h) ≡ file h → n ≡ length w → OnOk r (Filed rs k)

-- The synced bytes are the records rs, and what is behind them is a first part of records: so a file is at any time, whatever fell.
pub record Torn (known : List ℕ → Type 0) (rs : List (List ℕ)) (h : Held) : Type 0 where
  pub all : All known rs
  pub safe : h.synced ≡ together rs
  pub behind : (ps : List (List ℕ)) × All known ps × ((m : ℕ) × (h.pending ≡ take m (together ps)))

-- a fall leaves it so
abbrev pub FallsTorn : (List ℕ → Type 0) → Type 0
FallsTorn known =
    (rs : List (List ℕ)) (h : Held) → Torn known rs h → Torn known rs (ended h) × ((left : ℕ) → Torn known rs (cut_to left h))

-- a step on whole records leaves it so, with rs synced or all of them
abbrev pub StepsTorn : (List ℕ → Type 0) → Held → List ℕ → Held → Type 0
StepsTorn known h b k =
    (rs ps bs : List (List ℕ)) → All known rs → All known ps → All known bs → b ≡ together bs → h.synced ≡ together rs → h.pending ≡ together ps → Torn known rs k ⊎ Torn known (rs ++ (ps ++ bs)) k

-- an opening of any such file leaves it so, with rs synced or all that was recovered
abbrev pub OpensTorn : (List ℕ → Front) → (List ℕ → Type 0) → Held → ℕ → Held → Type 0
OpensTorn front known h n k =
    (rs : List (List ℕ)) (w : List ℕ) → Torn known rs h → whole_part front (file h) ≡ Some w → n ≡ length w → Torn known rs k ⊎ ((qs : List (List ℕ)) × (records front (file h) ≡ Some (rs ++ qs)) × Torn known (rs ++ qs) k)
