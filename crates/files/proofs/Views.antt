-- A disk's file in its two parts.
-- Assumes nothing.
use Rattle.std.proofs.Common.{◌≡◌, ℕ, ◌≤◌, List, length, take, None, Option, ap, ⊎_elim, arith}
use Rattle.std.proofs.lemmas.List.{take_all, take-take, length-take}
use Rattle.std.proofs.lemmas.Bool.{cases_lt}
use Rattle.std.proofs.Math.Nat.{le_refl}
use Rattle.std.proofs.Math.Seq.{take-length}
use Rattle.files.specs.Holdings.{Held, ended, cut_to}

-- two that hold the same
pub same_held : {s t p q : List ℕ} {m n : List (List ℕ)} {b d : Option ℕ} → s ≡ t → p ≡ q → m ≡ n → b ≡ d → ◌≡◌ {A = Held} (record { synced = s; pending = p; sent = m; budget = b }) (record { synced = t; pending = q; sent = n; budget = d })
same_held e f g h = λ i. record { synced = e i; pending = f i; sent = g i; budget = h i }

-- a first part of a first part
pub part_of : (i m : ℕ) (xs : List ℕ) → (j : ℕ) × (j ≤ m) × (take i (take m xs) ≡ take j xs)
part_of i m xs =
    ⊎_elim
    (λ h. let l : i ≤ m = omega arith in (i, l, take-take i m xs l))
    (λ h. let l : length (take m xs) ≤ i = omega (arith, length-take m xs) in (m, le_refl m, take_all i (take m xs) l))
    (cases_lt i m)

-- the end of the program is a cut that takes nothing
pub ended_is_cut : (k : Held) → cut_to (length k.pending) k ≡ ended k
ended_is_cut k = ap (λ (p : List ℕ). record { synced = k.synced; pending = p; sent = k.sent; budget = None }) (take-length k.pending)
