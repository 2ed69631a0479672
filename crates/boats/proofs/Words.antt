-- The words of a journal as it lies in its file.
-- Assumes nothing.
use Rattle.std.proofs.Common.{◌≡◌, ℕ, suc, ◌+◌, ◌<◌, ◌≤◌, Bool, true, false, cond, not, eqb, ltb, leb, List, [], ◌∷◌, ◌++◌, length, get_or, take, is_some, Some, None, Ok, Err, sym, refl, ap, subst, suc-le-suc, zero-le, le_refl, arith}
use Rattle.std.proofs.lemmas.List.{length-map}
use Rattle.std.proofs.lemmas.Bool.{and_parts, le-leb, lt-leb, leb-true}
use Rattle.levels.specs.Verdicts.{Verdict, Number, Bad, Memory, Due}
use Rattle.forms.specs.Meaning.{ship_of}
use Rattle.logbooks.specs.declared.log.Logbook.{Logbook}
use Rattle.logbooks.specs.Logs as logs
use Rattle.std.specs.BTreeMap.{values, btree_map_len}
use Rattle.logbooks.specs.Slots.{Kept}
use Rattle.logbooks.specs.Ships.{slots_of}
use Rattle.logbooks.specs.Logs.{Log, slot_of, placed, slot, crowded, restored}
use Rattle.records.specs.declared.Record.{Record}
use Rattle.records.specs.Records.{Written, written, floor_is, level_is, word_is, boat_is, used_to}
use Rattle.stations.specs.Journals as journal
use Rattle.boats.specs.Openings.{replaying}
use Rattle.stations.specs.Openings.{Unfit}
use Rattle.stations.specs.Steps.{filed}
use Rattle.stations.proofs.Files.{grown_all, grown_at, known_more, none_there, due_none}

-- the slots only become more
pub placed_length : (x : Kept) (ks : List Kept) → length ks ≤ length (placed x ks)
placed_length x [] = zero-le
placed_length x (s ∷ ss) = go (ltb s.ship x.ship) (eqb s.ship x.ship) (placed_length x ss)
  where
    go : (p q : Bool) → length ss ≤ length (placed x ss) → suc (length ss) ≤ length (cond p (s ∷ placed x ss) (cond q (x ∷ ss) (x ∷ s ∷ ss)))
    go true q h = suc-le-suc h
    go false true h = le_refl _
    go false false h = omega arith

pub placed_new : (x : Kept) (ks : List Kept) → slot_of x.ship ks ≡ None → suc (length ks) ≤ length (placed x ks)
placed_new x [] e = le_refl 1
placed_new x (s ∷ ss) e = go (ltb s.ship x.ship) (eqb s.ship x.ship) e (placed_new x ss)
  where
    go : (p q : Bool) → cond q (Some s) (slot_of x.ship ss) ≡ None → (slot_of x.ship ss ≡ None → suc (length ss) ≤ length (placed x ss)) → suc (suc (length ss)) ≤ length (cond p (s ∷ placed x ss) (cond q (x ∷ ss) (x ∷ s ∷ ss)))
    go p true e h = absurd cc
    go true false e h = suc-le-suc (h e)
    go false false e h = le_refl _

slots_more : (r : Written) (rs : List Written) → length (journal.slots rs) ≤ length (journal.slots (r ∷ rs))
slots_more (floor_is f) rs = le_refl _
slots_more (level_is k) rs = le_refl _
slots_more (word_is b n u) rs = placed_length (slot b n u) (journal.slots rs)
slots_more (boat_is b f) rs = le_refl _
slots_more (used_to n) rs = le_refl _

pub slots_all : (ps rs : List Written) → length (journal.slots rs) ≤ length (journal.slots (ps ++ rs))
slots_all = grown_all (λ rs. length (journal.slots rs)) slots_more

-- the log takes a record, or refuses it
pub replayed : (r : Written) (rs : List Written) (y : Log) → replaying (journal.log rs) r ≡ Ok y → y ≡ journal.log (r ∷ rs)
replayed (floor_is f) rs y e = cc
replayed (level_is k) rs y e = cc
replayed (word_is b n u) rs y e = go (crowded (journal.log rs) (ship_of u)) e
  where
    go : (t : Bool) → cond t (Err (Number 6)) (Ok (restored (journal.log rs) b n u)) ≡ Ok y → y ≡ journal.log (word_is b n u ∷ rs)
    go true e = absurd cc
    go false e = let q : restored (journal.log rs) b n u ≡ y = cc in sym q
replayed (boat_is b f) rs y e = cc
replayed (used_to n) rs y e = cc

pub unfit : (r : Written) (rs : List Written) (m : ℕ) (v : Verdict) → length (journal.slots (r ∷ rs)) ≤ m → Due (replaying (journal.log rs) r) v → Unfit (leb m 4096) v
unfit (floor_is f) rs m v l d = due_none (journal.log rs) _ v d
unfit (level_is k) rs m v l d = due_none (journal.log rs) _ v d
unfit (word_is b n u) rs m v l d = go (crowded (journal.log rs) (ship_of u)) refl v d
  where
    full : crowded (journal.log rs) (ship_of u) ≡ true → leb m 4096 ≡ false
    full e =
        let p : (not (is_some (slot_of (ship_of u) (journal.slots rs))) ≡ true) × (leb 4096 (length (journal.slots rs)) ≡ true) = and_parts (not (is_some (slot_of (ship_of u) (journal.slots rs)))) (leb 4096 (length (journal.slots rs))) e in
        let g : suc (length (journal.slots rs)) ≤ length (placed (slot b n u) (journal.slots rs)) = placed_new (slot b n u) (journal.slots rs) (none_there (slot_of (ship_of u) (journal.slots rs)) p.0) in
        let h : 4096 ≤ length (journal.slots rs) = leb-true 4096 (length (journal.slots rs)) p.1 in
        lt-leb m 4096 (omega arith)

    go : (t : Bool) → crowded (journal.log rs) (ship_of u) ≡ t → (v : Verdict) → Due (cond t (Err (Number 6)) (Ok (restored (journal.log rs) b n u))) v → Unfit (leb m 4096) v
    go true e (Number k) d = let q : k ≡ 6 = cc in (q, full e)
    go true e Bad d = absurd cc
    go true e Memory d = tt
    go false e v d = due_none (restored (journal.log rs) b n u) _ v d
unfit (boat_is b f) rs m v l d = due_none (journal.log rs) _ v d
unfit (used_to n) rs m v l d = due_none (journal.log rs) _ v d

-- in the turn at a record
pub rebuilt_more : (xs : List Record) (i : ℕ) (r : Record) (x y : Log) → i < length xs → r ≡ get_or xs i r → x ≡ journal.log (filed (take i xs)) → replaying x (written r) ≡ Ok y → y ≡ journal.log (filed (take (i + 1) xs))
rebuilt_more = known_more journal.log replaying replayed

pub refused_at : (xs : List Record) (i : ℕ) (r : Record) (x : Log) (v : Verdict) → i < length xs → r ≡ get_or xs i r → x ≡ journal.log (filed (take i xs)) → Due (replaying x (written r)) v → Unfit (leb (length (journal.slots (filed xs))) 4096) v
refused_at xs i r x v h g e d =
    unfit (written r) (filed (take i xs)) (length (journal.slots (filed xs))) v (grown_at (λ rs. length (journal.slots rs)) slots_more xs i r h g) (subst (λ a. Due (replaying a (written r)) v) e d)

-- a table that there is has place for all
pub fits : (l : Logbook) (rs : List Written) → logs.log l ≡ journal.log rs → leb (length (journal.slots rs)) 4096 ≡ true
fits l rs e =
    let n : length (logs.kept_all (slots_of (values l.ships))) ≡ btree_map_len l.ships = simp length-map in
    let f : length (journal.slots rs) ≡ length (logs.kept_all (slots_of (values l.ships))) = sym (ap (λ (x : Log). length x.slots) e) in
    let few = l.few in
    le-leb _ _ (omega arith)
