-- Files of records, the newest first, and what is cut off them.
-- Assumes nothing.
use Rattle.std.proofs.Common.{◌≡◌, ℕ, ◌-◌, List, ◌++◌, map, reverse, length, take, drop, sym, ap, ◌∙◌, length-drop, take-append-drop, drop_at}
use Rattle.std.proofs.lemmas.List.{length-map, length-reverse, map-append, reverse-append}
use Rattle.synced.specs.declared.Synced.{Synced}
use Rattle.synced.specs.Parts.{safe, pending, Holds}
use Rattle.records.specs.declared.Record.{Record}
use Rattle.records.specs.Records.{Written, written}
use Rattle.stations.specs.Steps.{filed}
use Rattle.runs.specs.Disks.{Disk, shortened}
use Rattle.berths.specs.Disks.{disk}

filed_both : (xs ys : List Record) → filed (xs ++ ys) ≡ filed ys ++ filed xs
filed_both xs ys = ap reverse (map-append written xs ys) ∙ reverse-append (map written xs) (map written ys)

filed_length : (xs : List Record) → length (filed xs) ≡ length xs
filed_length xs = length-reverse (map written xs) ∙ length-map xs written

-- some are left
filed_take : (n : ℕ) (ys : List Record) → filed (take n ys) ≡ drop (length (filed ys) - n) (filed ys)
filed_take n ys =
    let l : length (filed (drop n ys)) ≡ length (filed ys) - n = filed_length (drop n ys) ∙ length-drop n ys ∙ ap (λ k. k - n) (sym (filed_length ys)) in
    let b : filed ys ≡ filed (drop n ys) ++ filed (take n ys) = ap filed (sym (take-append-drop n ys)) ∙ filed_both (take n ys) (drop n ys) in
    sym (ap (drop (length (filed ys) - n)) b ∙ drop_at (filed (drop n ys)) (filed (take n ys)) (length (filed ys) - n) l)

pub cut_short : (s t : Synced Record) (k : ℕ) → Holds t (safe s) (take k (pending s)) → disk (record { records = t }) ≡ shortened k (disk (record { records = s }))
cut_short s t k h =
    let D : List Written → List Written → Disk = λ a b. record { synced = a; pending = b } in
    ap (λ xs. D (filed xs) (filed (pending t))) h.0 ∙ ap (λ ys. D (filed (safe s)) (filed ys)) h.1 ∙ ap (D (filed (safe s))) (filed_take k (pending s))
