-- A record is not a first part of another.
-- Assumes nothing.
use Rattle.std.specs.Prelude.{◌≡◌, ℕ, ◌+◌, ◌<◌, ◌≤◌, Bool, true, cond, ◌||◌, List, ◌++◌, length, take, Ok, Err, Some, None, Option, ◌==◌, nat_le, nat_lt, slice_index}
use Rattle.std.proofs.Common.{ap, arith}
use Rattle.std.proofs.lemmas.List.{length-append, get_or_append_left, get_or-take, length-take-le}
use Rattle.std.proofs.lemmas.Bool.Decides.{nat_tests}
use Rattle.levels.specs.Rules.{reads}
use Rattle.files.specs.Fronts.{Front, wrong}
use Rattle.files.specs.Records.{boat_front, harbour_front}

-- the fronts as functions of the length and of the bytes that they look at
abbrev sz : ℕ → ℕ → Option ℕ
sz n l = cond (nat_le n l) (Some n) None

abbrev name : ℕ → ℕ → Front
name l m = cond (nat_lt l 19) (Ok None) (cond (nat_lt 40 m) (Err wrong) (Ok (sz (19 + m) l)))

abbrev word : ℕ → Bool → ℕ → Front → Front
word l r f n = cond (nat_lt l 8) (Ok None) (cond r (cond (f == 1) (Ok (sz 16 l)) (cond (f == 2) (Ok (sz 18 l)) n)) (Err wrong))

abbrev kind : ℕ → ℕ → Front → Front
kind l k w = cond (l == 0) (Ok None) (cond (k == 6 || (k == 7 || k == 10)) (Ok (sz 5 l)) (cond (k == 8) w (Err wrong)))

abbrev harbour : ℕ → ℕ → Front
harbour l k = cond (l == 0) (Ok None) (cond (k == 7) (Ok (sz 5 l)) (cond (k == 9) (Ok (sz 7 l)) (Err wrong)))

-- what is whole is not empty, and is there
abbrev Within : Front → ℕ → Type 0
Within v l = (n : ℕ) → v ≡ Ok (Some n) → (0 < n) × (n ≤ l)

name_within : (l m : ℕ) → Within (name l m) l
name_within l m n e = grind (arith, nat_tests)

word_within : (l : ℕ) (r : Bool) (f : ℕ) (v : Front) → Within v l → Within (word l r f v) l
word_within l r f v h n e = let g = h n in grind (arith, nat_tests)

kind_within : (l k : ℕ) (v : Front) → Within v l → Within (kind l k v) l
kind_within l k v h n e = let g = h n in grind (arith, nat_tests)

pub boat_within : (p : ℕ) (bs : List ℕ) (n : ℕ) → boat_front p bs ≡ Ok (Some n) → (0 < n) × (n ≤ length bs)
boat_within p bs =
    kind_within (length bs) (slice_index bs 0) _ (word_within (length bs) (reads p (slice_index bs 7)) (slice_index bs 7) _ (name_within (length bs) (slice_index bs 18)))

pub harbour_within : (bs : List ℕ) (n : ℕ) → harbour_front bs ≡ Ok (Some n) → (0 < n) × (n ≤ length bs)
harbour_within bs n e = grind (arith, nat_tests)

-- a word in form 3 with all of its name
pub named_whole : (l k : ℕ) (r : Bool) → l ≡ 19 + k → k ≤ 40 → r ≡ true → kind l 8 (word l r 3 (name l k)) ≡ Ok (Some l)
named_whole l k r e h t = grind (arith, nat_tests)

-- more bytes behind a record
name_more : (l l' m m' : ℕ) → l ≤ l' → (18 < l → m' ≡ m) → name l m ≡ Ok (Some l) → name l' m' ≡ Ok (Some l)
name_more l l' m m' h c e = grind (arith, nat_tests)

word_more : (l l' : ℕ) (r r' : Bool) (f f' : ℕ) (n n' : Front) → l ≤ l' → (7 < l → r' ≡ r) → (7 < l → f' ≡ f) → (n ≡ Ok (Some l) → n' ≡ Ok (Some l)) → word l r f n ≡ Ok (Some l) → word l' r' f' n' ≡ Ok (Some l)
word_more l l' r r' f f' n n' h a b c e = grind (arith, nat_tests)

kind_more : (l l' k k' : ℕ) (w w' : Front) → l ≤ l' → (0 < l → k' ≡ k) → (w ≡ Ok (Some l) → w' ≡ Ok (Some l)) → kind l k w ≡ Ok (Some l) → kind l' k' w' ≡ Ok (Some l)
kind_more l l' k k' w w' h a c e = grind (arith, nat_tests)

harbour_moves : (l l' k k' : ℕ) → l ≤ l' → (0 < l → k' ≡ k) → harbour l k ≡ Ok (Some l) → harbour l' k' ≡ Ok (Some l)
harbour_moves l l' k k' h a e = grind (arith, nat_tests)

pub boat_more : (p : ℕ) (xs ys : List ℕ) → boat_front p xs ≡ Ok (Some (length xs)) → boat_front p (xs ++ ys) ≡ Ok (Some (length xs))
boat_more p xs ys =
    let h : length xs ≤ length (xs ++ ys) = simp length-append (omega arith) in
    kind_more (length xs) (length (xs ++ ys)) (slice_index xs 0) _ _ _ h (λ l. get_or_append_left xs ys 0 0 l)
    (word_more (length xs) (length (xs ++ ys)) (reads p (slice_index xs 7)) _ (slice_index xs 7) _ _ _ h (λ l. ap (reads p) (get_or_append_left xs ys 0 7 l)) (λ l. get_or_append_left xs ys 0 7 l)
    (name_more (length xs) (length (xs ++ ys)) (slice_index xs 18) _ h (λ l. get_or_append_left xs ys 0 18 l)))

pub harbour_more : (xs ys : List ℕ) → harbour_front xs ≡ Ok (Some (length xs)) → harbour_front (xs ++ ys) ≡ Ok (Some (length xs))
harbour_more xs ys =
    let h : length xs ≤ length (xs ++ ys) = simp length-append (omega arith) in
    harbour_moves (length xs) (length (xs ++ ys)) (slice_index xs 0) _ h (λ l. get_or_append_left xs ys 0 0 l)

-- a first part of a record
name_cut : (l l' m m' : ℕ) → l' < l → (18 < l' → m' ≡ m) → name l m ≡ Ok (Some l) → name l' m' ≡ Ok None
name_cut l l' m m' h c e = grind (arith, nat_tests)

word_cut : (l l' : ℕ) (r r' : Bool) (f f' : ℕ) (n n' : Front) → l' < l → (7 < l' → r' ≡ r) → (7 < l' → f' ≡ f) → (n ≡ Ok (Some l) → n' ≡ Ok None) → word l r f n ≡ Ok (Some l) → word l' r' f' n' ≡ Ok None
word_cut l l' r r' f f' n n' h a b c e = grind (arith, nat_tests)

kind_cut : (l l' k k' : ℕ) (w w' : Front) → l' < l → (0 < l' → k' ≡ k) → (w ≡ Ok (Some l) → w' ≡ Ok None) → kind l k w ≡ Ok (Some l) → kind l' k' w' ≡ Ok None
kind_cut l l' k k' w w' h a c e = grind (arith, nat_tests)

harbour_shortens : (l l' k k' : ℕ) → l' < l → (0 < l' → k' ≡ k) → harbour l k ≡ Ok (Some l) → harbour l' k' ≡ Ok None
harbour_shortens l l' k k' h a e = grind (arith, nat_tests)

pub boat_cut : (p : ℕ) (xs : List ℕ) (n : ℕ) → boat_front p xs ≡ Ok (Some (length xs)) → n < length xs → boat_front p (take n xs) ≡ Ok None
boat_cut p xs n e l =
    let k : length (take n xs) ≡ n = length-take-le n xs (omega arith) in
    let h : length (take n xs) < length xs = omega arith in
    kind_cut (length xs) (length (take n xs)) (slice_index xs 0) _ _ _ h (λ j. get_or-take n xs 0 0 (omega arith))
    (word_cut (length xs) (length (take n xs)) (reads p (slice_index xs 7)) _ (slice_index xs 7) _ _ _ h (λ j. ap (reads p) (get_or-take n xs 7 0 (omega arith))) (λ j. get_or-take n xs 7 0 (omega arith))
    (name_cut (length xs) (length (take n xs)) (slice_index xs 18) _ h (λ j. get_or-take n xs 18 0 (omega arith))))
    e

pub harbour_cut_lem : (xs : List ℕ) (n : ℕ) → harbour_front xs ≡ Ok (Some (length xs)) → n < length xs → harbour_front (take n xs) ≡ Ok None
harbour_cut_lem xs n e l =
    let k : length (take n xs) ≡ n = length-take-le n xs (omega arith) in
    let h : length (take n xs) < length xs = omega arith in
    harbour_shortens (length xs) (length (take n xs)) (slice_index xs 0) _ h (λ j. get_or-take n xs 0 0 (omega arith)) e
