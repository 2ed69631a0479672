-- The records that a file is recovered to, by how bytes begin.
-- Assumes nothing.
use Rattle.std.specs.Prelude.{◌≡◌, ℕ, zero, suc, ◌-◌, ◌≤◌, cond, List, [], ◌∷◌, ◌++◌, All, length, take, drop, Ok, Err, Some, None, Option, ◌==◌, nat_le}
use Rattle.std.specs.Option.{option_map}
use Rattle.std.specs.List.{flat_map}
use Rattle.files.specs.Fronts.{Front}

-- goes on behind a whole record, stops at a short one, refuses a wrong one
abbrev pub front_case : {X : Type 0} → Front → (ℕ → Option (List X)) → Option (List X)
front_case (Ok (Some n)) rest = rest n
front_case (Ok None) rest = Some []
front_case (Err e) rest = None

-- the whole records at the front of the bytes, at most so many; None where one is wrong
unfoldable pub scan : (List ℕ → Front) → ℕ → List ℕ → Option (List (List ℕ))
scan front zero bs = Some []
scan front (suc f) [] = Some []
scan front (suc f) (b ∷ bs) = front_case (front (b ∷ bs)) (λ n. option_map (λ rs. take n (b ∷ bs) ∷ rs) (scan front f (drop n (b ∷ bs))))

-- a record has a byte at least, so there are not more of them than bytes
unfoldable pub records : (List ℕ → Front) → List ℕ → Option (List (List ℕ))
records front bs = scan front (length bs) bs

abbrev pub together : List (List ℕ) → List ℕ
together rs = flat_map (λ r. r) rs

abbrev pub whole_part : (List ℕ → Front) → List ℕ → Option (List ℕ)
whole_part front bs = option_map (λ rs. together rs) (records front bs)

-- those records that are whole where n bytes of all are left
abbrev pub wholes : ℕ → List (List ℕ) → List (List ℕ)
wholes n [] = []
wholes n (r ∷ rs) = cond (nat_le (length r) n) (r ∷ wholes (n - length r) rs) []

-- records and a first part of one more are recovered to the records, with that one where it is whole
abbrev pub CutLast : (List ℕ → Front) → (List ℕ → Type 0) → Type 0
CutLast front known =
    (rs : List (List ℕ)) (r : List ℕ) → All known rs → known r → (n : ℕ) → n ≤ length r → records front (together rs ++ take n r) ≡ Some (cond (n == length r) (rs ++ r ∷ []) rs)

-- records cut anywhere are recovered to those that are whole
abbrev pub CutAnywhere : (List ℕ → Front) → (List ℕ → Type 0) → Type 0
CutAnywhere front known =
    (rs : List (List ℕ)) → All known rs → (n : ℕ) → records front (take n (together rs)) ≡ Some (wholes n rs)

pub record CutsBack (front : List ℕ → Front) (known : List ℕ → Type 0) : Type 0 where
  pub last : CutLast front known
  pub anywhere : CutAnywhere front known
