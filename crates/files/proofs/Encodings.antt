-- Every record is seen as one whole record.
-- Assumes nothing.
use Rattle.std.proofs.Common.{◌≡◌, ℕ, length, refl, arith, Ok, Some}
use Rattle.std.proofs.lemmas.Bool.{cond-true}
use Rattle.forms.specs.Meaning.{Uttered, first, second, third}
use Rattle.files.specs.Records.{boat_front, harbour_front}
use Rattle.files.specs.Shapes.{named_whole}
use Rattle.files.specs.Encodings.{BoatRecord, floor, level, word, used, HarbourRecord, boat, said, boat_bytes, harbour_bytes, Readable, AllSeen}

word_seen : (p j n : ℕ) (u : Uttered) → Readable p (word j n u) → boat_front p (boat_bytes (word j n u)) ≡ Ok (Some (length (boat_bytes (word j n u))))
word_seen p j n (first s l b) g = cond-true _ _ _ g.0
word_seen p j n (second s l b h) g = cond-true _ _ _ g.0
word_seen p j n (third s l b h m) g = named_whole (length (boat_bytes (word j n (third s l b h m)))) (length m) _ (omega arith) g.1 g.0

boat_seen : (p : ℕ) (r : BoatRecord) → Readable p r → boat_front p (boat_bytes r) ≡ Ok (Some (length (boat_bytes r)))
boat_seen p (floor f) g = refl
boat_seen p (level k) g = refl
boat_seen p (word j n u) g = word_seen p j n u g
boat_seen p (used n) g = refl

harbour_seen : (r : HarbourRecord) → harbour_front (harbour_bytes r) ≡ Ok (Some (length (harbour_bytes r)))
harbour_seen (boat j f) = refl
harbour_seen (said k) = refl

pub all_seen : AllSeen
all_seen = record { boats = boat_seen; harbours = harbour_seen }
