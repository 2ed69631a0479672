-- The records of a boat's and of the harbour's file as bytes. All numbers have their high byte first.
-- Assumes nothing.
use Rattle.std.specs.Prelude.{◌≡◌, ℕ, ◌/◌, ◌%◌, ◌≤◌, true, List, [], ◌∷◌, ◌++◌, length, Ok, Some}
use Rattle.levels.specs.Rules.{reads}
use Rattle.forms.specs.Meaning.{Uttered, first, second, third, form_of}
use Rattle.files.specs.Records.{boat_front, harbour_front}

abbrev pub two : ℕ → List ℕ
two n = n / 256 % 256 ∷ n % 256 ∷ []

abbrev pub four : ℕ → List ℕ
four n = n / 16777216 % 256 ∷ n / 65536 % 256 ∷ n / 256 % 256 ∷ n % 256 ∷ []

abbrev pub word_bytes : Uttered → List ℕ
word_bytes (first s l b) = 1 ∷ (four s ++ (two l ++ two b))
word_bytes (second s l b h) = 2 ∷ (four s ++ (two l ++ (two b ++ two h)))
word_bytes (third s l b h n) = 3 ∷ (four s ++ (two l ++ (two b ++ (two h ++ (length n ∷ n)))))

pub data BoatRecord : Type 0 where
  floor : (f : ℕ) → BoatRecord
  level : (k : ℕ) → BoatRecord
  word : (from number : ℕ) (said : Uttered) → BoatRecord
  used : (n : ℕ) → BoatRecord

pub data HarbourRecord : Type 0 where
  boat : (number floor : ℕ) → HarbourRecord
  said : (k : ℕ) → HarbourRecord

abbrev pub boat_bytes : BoatRecord → List ℕ
boat_bytes (floor f) = 6 ∷ four f
boat_bytes (level k) = 7 ∷ four k
boat_bytes (word j n u) = 8 ∷ (two j ++ (four n ++ word_bytes u))
boat_bytes (used n) = 10 ∷ four n

abbrev pub harbour_bytes : HarbourRecord → List ℕ
harbour_bytes (boat j f) = 9 ∷ (two j ++ four f)
harbour_bytes (said k) = 7 ∷ four k

-- a name has at most 40 bytes
abbrev pub Named : Uttered → Type 0
Named (first s l b) = Unit {0}
Named (second s l b h) = Unit {0}
Named (third s l b h n) = length n ≤ 40

-- a word has to be in a form that program p reads
abbrev pub Readable : ℕ → BoatRecord → Type 0
Readable p (floor f) = Unit {0}
Readable p (level k) = Unit {0}
Readable p (word j n u) = (reads p (form_of u) ≡ true) × Named u
Readable p (used n) = Unit {0}

-- every record that there can be is seen as one whole record
pub record AllSeen : Type 0 where
  pub boats : (p : ℕ) (r : BoatRecord) → Readable p r → boat_front p (boat_bytes r) ≡ Ok (Some (length (boat_bytes r)))
  pub harbours : (r : HarbourRecord) → harbour_front (harbour_bytes r) ≡ Ok (Some (length (harbour_bytes r)))
