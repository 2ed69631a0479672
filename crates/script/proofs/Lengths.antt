-- How long a text of so many characters can be.
use Rattle.std.proofs.Common.{ℕ, List, [], ◌∷◌, ◌≡◌, ◌*◌, ◌≤◌, ap, length, length-append, length-take, arith}
use Rattle.std.proofs.Math.ListN.{take}
use Rattle.std.proofs.Math.Utf8.{encodes, encode}
use Rattle.std.proofs.lemmas.Str.{length-encode, len_utf8_bounds}

-- a character takes at most four bytes
length-encodes_le : (cs : List ℕ) → length (encodes cs) ≤ 4 * length cs
length-encodes_le [] = omega arith
length-encodes_le (c ∷ cs) = let most = (len_utf8_bounds c).1 in let rest = length-encodes_le cs in omega (arith, length-encode c, length-append (encode c) (encodes cs))

-- so the first n characters take at most four times n
pub length-first_chars_le : (n : ℕ) (cs bs : List ℕ) → bs ≡ encodes (take n cs) → length bs ≤ 4 * n
length-first_chars_le n cs bs is = omega (arith, ap length is, length-encodes_le (take n cs), length-take n cs)
