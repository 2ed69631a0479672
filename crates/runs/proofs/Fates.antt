-- What is left of a disk after a step, whatever its fate; and when its messages are sent.
-- Assumes nothing.
use Rattle.std.proofs.Common.{◌≡◌, ℕ, zero, suc, ◌-◌, Bool, true, false, cond, ltb, List, [], ◌∷◌, ◌++◌, length, take, drop, sym, refl, ap, subst, arith}
use Rattle.std.proofs.lemmas.Bool.{cond_both, ltb-true}
use Rattle.records.specs.Records.{Written}
use Rattle.runs.specs.declared.events.Fate.{Fate}
use Rattle.runs.specs.declared.events.Fate.TheVariants.{Whole, Killed, Cut}
use Rattle.runs.specs.Disks.{Disk, file, appended, flushed, reached, spoken, shortened, after, told}
use Rattle.runs.specs.Worlds.{writes}
use Rattle.runs.proofs.Parts.{Part, same, part_then, part_behind, part_append, part_drop, Each, each_take}

-- a step syncs, or it writes nothing and nothing waits for a sync
pub data Kind (d : Disk) : Bool → List Written → Type 0 where
  syncs : (rs : List Written) → Kind d true rs
  quiet : d.pending ≡ [] → Kind d false []

pub kind_of : (d : Disk) (rs : List Written) → d.pending ≡ [] → Kind d (writes rs) rs
kind_of d [] e = quiet e
kind_of d (r ∷ rs) e = syncs (r ∷ rs)

-- d did rs and is t
pub record After (rs : List Written) (d t : Disk) : Type 0 where
  pub kept : Part d.synced t.synced
  pub left : Part (file t) (file (appended rs d))

after_reached : (s : Bool) (e : ℕ) (rs : List Written) (d : Disk) → Kind d s rs → After rs d (reached s e rs d)
after_reached s e rs d (syncs _) =
    cond_both (ltb e 1) d (cond (ltb e 2) (appended rs d) (flushed (appended rs d))) (After rs d)
    (λ t. record { kept = same; left = part_append rs d.pending d.synced })
    (λ t. cond_both (ltb e 2) (appended rs d) (flushed (appended rs d)) (After rs d)
    (λ u. record { kept = same; left = same })
    (λ u. record { kept = part_behind (rs ++ d.pending) d.synced; left = same }))
after_reached s e rs d (quiet q) = record { kept = same; left = same }

after_shortened : (n : ℕ) (rs : List Written) (d t : Disk) → After rs d t → After rs d (shortened n t)
after_shortened n rs d t h = record { kept = h.kept; left = part_then (drop (length t.pending - n) t.pending ++ t.synced) (file t) (part_drop (length t.pending - n) t.pending t.synced) h.left }

pub after_step : (f : Fate) (s : Bool) (rs : List Written) (d : Disk) → Kind d s rs → After rs d (after f s rs d)
after_step Whole s rs d (syncs _) = record { kept = part_behind (rs ++ d.pending) d.synced; left = same }
after_step Whole s rs d (quiet q) = record { kept = same; left = same }
after_step (Killed e) s rs d k = after_reached s e rs d k
after_step (Cut e n) s rs d k = after_shortened n rs d (reached s e rs d) (after_reached s e rs d k)

-- what was sent, was sent when all was synced
calm_file : (d : Disk) → d.pending ≡ [] → d.synced ≡ file (appended [] d)
calm_file d q = ap (λ (ps : List Written). ps ++ d.synced) (sym q)

told_reached : {A : Type 0} (P : A → Type 0) (s : Bool) (e : ℕ) (rs : List Written) (d : Disk) (ms : List A) → Kind d s rs → ((reached s e rs d).synced ≡ file (appended rs d) → Each P ms) → Each P (take (spoken s e) ms)
told_reached P s e rs d ms (syncs _) =
    cond_both (ltb e 1) d (cond (ltb e 2) (appended rs d) (flushed (appended rs d))) (λ t. (t.synced ≡ file (appended rs d) → Each P ms) → Each P (take (e - 2) ms))
    (λ t h. none (omega (arith, ltb-true e 1 t)))
    (λ t. cond_both (ltb e 2) (appended rs d) (flushed (appended rs d)) (λ t. (t.synced ≡ file (appended rs d) → Each P ms) → Each P (take (e - 2) ms))
    (λ u h. none (omega (arith, ltb-true e 2 u)))
    (λ u h. each_take P (e - 2) ms (h refl)))
  where
    empty : (xs : List _) → Each P (take 0 xs)
    empty [] = tt
    empty (x ∷ xs) = tt

    none : e - 2 ≡ 0 → Each P (take (e - 2) ms)
    none q = subst (λ (n : ℕ). Each P (take n ms)) (sym q) (empty ms)
told_reached P s e rs d ms (quiet q) = λ h. each_take P e ms (h (calm_file d q))

pub told_each_lem : {A : Type 0} (P : A → Type 0) (f : Fate) (s : Bool) (rs : List Written) (d : Disk) (ms : List A) → Kind d s rs → ((after f s rs d).synced ≡ file (appended rs d) → Each P ms) → Each P (told f s ms)
told_each_lem P Whole s rs d ms (syncs _) h = h refl
told_each_lem P Whole s rs d ms (quiet q) h = h (calm_file d q)
told_each_lem P (Killed e) s rs d ms k h = told_reached P s e rs d ms k h
told_each_lem P (Cut e n) s rs d ms k h = told_reached P s e rs d ms k h

-- of one message: it was sent or not
one_taken : {A : Type 0} (Q : List A → Type 0) (n : ℕ) (x : A) → Q [] → Q (x ∷ []) → Q (take n (x ∷ []))
one_taken Q zero x p q = p
one_taken Q (suc zero) x p q = q
one_taken Q (suc (suc n)) x p q = q

pub told_one : {A : Type 0} (Q : List A → Type 0) (f : Fate) (s : Bool) (x : A) → Q [] → Q (x ∷ []) → Q (told f s (x ∷ []))
told_one Q Whole s x p q = q
told_one Q (Killed e) s x p q = one_taken Q (spoken s e) x p q
told_one Q (Cut e n) s x p q = one_taken Q (spoken s e) x p q
