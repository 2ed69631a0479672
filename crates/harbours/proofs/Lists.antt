-- The harbour's journal as it lies in its file.
-- Assumes nothing.
use Rattle.std.proofs.Common.{◌≡◌, ℕ, suc, ◌+◌, ◌<◌, ◌≤◌, max, Bool, true, false, cond, not, ◌&&◌, eqb, ltb, leb, List, [], ◌∷◌, length, get_or, take, drop, is_some, Ok, Err, sym, refl, ap, ◌∙◌, subst, le_refl, arith}
use Rattle.std.proofs.lemmas.Bool.{and_parts, le-leb, lt-leb, leb-true, cond-false}
use Rattle.std.proofs.lemmas.List.{length-map}
use Rattle.std.proofs.lemmas.Bool.Decides.{nat_tests}
use Rattle.ledger.specs.declared.book.Ledger.{Ledger}
use Rattle.ledger.specs.Entries.{Entry, entry, floor_of, entered, admitted, heard, entry_of}
use Rattle.ledger.specs.Ledgers.{Book, book, entries, promised, levelled}
use Rattle.levels.specs.Verdicts.{Verdict, Number, Bad, Memory, Due}
use Rattle.records.specs.declared.Record.{Record}
use Rattle.records.specs.Records.{Written, written, floor_is, level_is, word_is, boat_is, used_to}
use Rattle.stations.specs.Harbours.{recalled}
use Rattle.stations.specs.Journals as journal
use Rattle.harbours.specs.Openings.{enlisting}
use Rattle.stations.specs.Openings.{Unfit}
use Rattle.stations.specs.Steps.{filed}
use Rattle.stations.proofs.Files.{every_at, grown_at, known_more, none_there, due_none}

pub every_not : (a b : Bool) → a && (false && b) ≡ false
every_not true b = refl
every_not false b = refl

-- the list only becomes longer
heard_length : (b f : ℕ) (es : List Entry) → length (heard b f es) ≡ length es
heard_length b f [] = refl
heard_length b f (e ∷ es) = go (eqb e.boat.0 b) (heard_length b f es)
  where
    go : (t : Bool) → length (heard b f es) ≡ length es → length (cond t (entry e.boat.0 (max e.floor.0 f) ∷ es) (e ∷ heard b f es)) ≡ suc (length es)
    go true h = refl
    go false h = ap suc h

entered_length : (b : ℕ) (es : List Entry) → length (entered b es) ≡ suc (length es)
entered_length b [] = refl
entered_length b (e ∷ es) = go (ltb e.boat.0 b) (entered_length b es)
  where
    go : (t : Bool) → length (entered b es) ≡ suc (length es) → length (cond t (e ∷ entered b es) (entry b 1 ∷ e ∷ es)) ≡ suc (suc (length es))
    go true h = ap suc h
    go false h = refl

admitted_length : (b : ℕ) (es : List Entry) → length es ≤ length (admitted b es)
admitted_length b es = go (is_some (floor_of b es)) (entered_length b es)
  where
    go : (t : Bool) → length (entered b es) ≡ suc (length es) → length es ≤ length (cond t es (entered b es))
    go true h = le_refl _
    go false h = omega arith

boats_more : (r : Written) (rs : List Written) → length (journal.boats rs) ≤ length (journal.boats (r ∷ rs))
boats_more (floor_is f) rs = le_refl _
boats_more (level_is k) rs = le_refl _
boats_more (word_is b n u) rs = le_refl _
boats_more (boat_is b f) rs = let h = heard_length b f (admitted b (journal.boats rs)) in let g = admitted_length b (journal.boats rs) in omega arith
boats_more (used_to n) rs = le_refl _

-- the ledger takes a record, or refuses it
same_said : (x y : Book) (k : ℕ) → x ≡ y → k ≡ x.said → y ≡ record { list = x.list; said = k }
same_said x y k e f =
    let F : ℕ → Book = λ n. record { list = x.list; said = n } in
    sym e ∙ ap F (sym f)

pub enlisted_is : (r : Written) (rs : List Written) (y : Book) → enlisting (recalled rs) r ≡ Ok y → y ≡ recalled (r ∷ rs)
enlisted_is (floor_is f) rs y e = let q : recalled rs ≡ y = cc in same_said (recalled rs) y (max 0 (journal.level rs)) q (omega arith)
enlisted_is (level_is k) rs y e =
    let q : levelled (recalled rs) k ≡ y = cc in
    same_said (levelled (recalled rs) k) y (max k (journal.level rs)) q (omega arith)
enlisted_is (word_is b n u) rs y e = let q : recalled rs ≡ y = cc in same_said (recalled rs) y (max 0 (journal.level rs)) q (omega arith)
enlisted_is (boat_is b f) rs y e = go (eqb b 0) (not (is_some (floor_of b (journal.boats rs))) && leb 4096 (length (journal.boats rs))) e
  where
    go : (s t : Bool) → cond s (Err Bad) (promised b f (cond t (Err (Number 6)) (Ok (record { list = admitted b (journal.boats rs); said = journal.level rs })))) ≡ Ok y → y ≡ recalled (boat_is b f ∷ rs)
    go true t e = absurd cc
    go false true e = absurd cc
    go false false e =
        let x : Book = record { list = heard b f (admitted b (journal.boats rs)); said = journal.level rs } in
        let q : x ≡ y = cc in
        same_said x y (max 0 (journal.level rs)) q (omega arith)
enlisted_is (used_to n) rs y e = let q : recalled rs ≡ y = cc in same_said (recalled rs) y (max 0 (journal.level rs)) q (omega arith)

unfit_boats : (r : Written) (rs : List Written) (m : ℕ) (v : Verdict) → journal.harbour_reads r ≡ true → length (journal.boats (r ∷ rs)) ≤ m → Due (enlisting (recalled rs) r) v → Unfit (leb m 4096) v
unfit_boats (floor_is f) rs m v o l d = due_none (recalled rs) _ v d
unfit_boats (level_is k) rs m v o l d = due_none (levelled (recalled rs) k) _ v d
unfit_boats (word_is b n u) rs m v o l d = due_none (recalled rs) _ v d
unfit_boats (boat_is b f) rs m v o l d = go (eqb b 0) (not (is_some (floor_of b (journal.boats rs))) && leb 4096 (length (journal.boats rs))) refl refl v d
  where
    full : not (is_some (floor_of b (journal.boats rs))) && leb 4096 (length (journal.boats rs)) ≡ true → leb m 4096 ≡ false
    full e =
        let p : (not (is_some (floor_of b (journal.boats rs))) ≡ true) × (leb 4096 (length (journal.boats rs)) ≡ true) = and_parts (not (is_some (floor_of b (journal.boats rs)))) (leb 4096 (length (journal.boats rs))) e in
        let g : length (admitted b (journal.boats rs)) ≡ suc (length (journal.boats rs)) = ap length (cond-false (is_some (floor_of b (journal.boats rs))) (journal.boats rs) (entered b (journal.boats rs)) (ap is_some (none_there (floor_of b (journal.boats rs)) p.0))) ∙ entered_length b (journal.boats rs) in
        let k = heard_length b f (admitted b (journal.boats rs)) in
        let h : 4096 ≤ length (journal.boats rs) = leb-true 4096 (length (journal.boats rs)) p.1 in
        lt-leb m 4096 (omega arith)

    go : (s t : Bool) → eqb b 0 ≡ s → not (is_some (floor_of b (journal.boats rs))) && leb 4096 (length (journal.boats rs)) ≡ t → (v : Verdict) → Due (cond s (Err Bad) (promised b f (cond t (Err (Number 6)) (Ok (record { list = admitted b (journal.boats rs); said = journal.level rs }))))) v → Unfit (leb m 4096) v
    go true t e g v d = absurd (grind (arith, nat_tests))
    go false true e g (Number k) d = let q : k ≡ 6 = cc in (q, full g)
    go false true e g Bad d = absurd cc
    go false true e g Memory d = tt
    go false false e g v d = due_none {A = Book} (record { list = heard b f (admitted b (journal.boats rs)); said = journal.level rs }) _ v d
unfit_boats (used_to n) rs m v o l d = due_none (recalled rs) _ v d

-- in the turn at a record
pub enlisted_more : (xs : List Record) (i : ℕ) (r : Record) (x y : Book) → i < length xs → r ≡ get_or xs i r → x ≡ recalled (filed (take i xs)) → enlisting x (written r) ≡ Ok y → y ≡ recalled (filed (take (i + 1) xs))
enlisted_more = known_more recalled enlisting enlisted_is

pub barred_at : (xs : List Record) (i : ℕ) (r : Record) (x : Book) (v : Verdict) → journal.every journal.harbour_reads (filed xs) ≡ true → i < length xs → r ≡ get_or xs i r → x ≡ recalled (filed (take i xs)) → Due (enlisting x (written r)) v → Unfit (leb (length (journal.boats (filed xs))) 4096) v
barred_at xs i r x v a h g e d =
    let l = grown_at (λ rs. length (journal.boats rs)) boats_more xs i r h g in
    let o : journal.harbour_reads (written r) ≡ true = inner (journal.every journal.harbour_reads (filed (drop (i + 1) xs))) (journal.harbour_reads (written r)) (journal.every journal.harbour_reads (filed (take i xs))) (sym (every_at journal.harbour_reads xs i r h g) ∙ a) in
    unfit_boats (written r) (filed (take i xs)) (length (journal.boats (filed xs))) v o l (subst (λ a. Due (enlisting a (written r)) v) e d)
  where
    inner : (a b c : Bool) → a && (b && c) ≡ true → b ≡ true
    inner a true c h = refl
    inner a false c h = sym (every_not a c) ∙ h

pub fits_list : (l : Ledger) (rs : List Written) → book l ≡ recalled rs → leb (length (journal.boats rs)) 4096 ≡ true
fits_list l rs e =
    let m = length-map l.floors.entries entry_of in
    let f : length (journal.boats rs) ≡ length (entries l) = sym (ap (λ (x : Book). length x.list) e) in
    let few = l.few in
    le-leb _ _ (omega (arith, m, f, few))
