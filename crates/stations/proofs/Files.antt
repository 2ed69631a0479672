-- Journals as they lie in their files.
-- Assumes nothing.
use Rattle.std.proofs.Common.{◌≡◌, ℕ, ◌+◌, ◌<◌, ◌≤◌, Bool, true, false, not, ◌&&◌, List, [], ◌∷◌, ◌++◌, map, reverse, length, get_or, take, drop, is_some, Some, None, Ok, Option, Result, sym, refl, ap, ◌∙◌, subst, le_trans, le_refl, arith}
use Rattle.std.specs.List.{list_all}
use Rattle.std.proofs.lemmas.List.{take_more, take-append-drop, map_push, map-append, reverse-append}
use Rattle.levels.specs.Verdicts.{Verdict, Number, Bad, Memory, Due}
use Rattle.records.specs.declared.Record.{Record}
use Rattle.records.specs.Records.{Written, written}
use Rattle.stations.specs.Journals as journal
use Rattle.stations.specs.Openings.{Unfit}
use Rattle.stations.specs.Steps.{filed}

-- one record more; and the rest
pub filed_more : (xs : List Record) (i : ℕ) (d : Record) → i < length xs → filed (take (i + 1) xs) ≡ written (get_or xs i d) ∷ filed (take i xs)
filed_more xs i d h =
    ap filed (take_more xs i d h) ∙ ap reverse (map_push written (take i xs) (get_or xs i d)) ∙ reverse-append (map written (take i xs)) (written (get_or xs i d) ∷ [])

pub filed_rest : (xs : List Record) (k : ℕ) → filed xs ≡ filed (drop k xs) ++ filed (take k xs)
filed_rest xs k =
    sym (ap filed (take-append-drop k xs)) ∙ ap reverse (map-append written (take k xs) (drop k xs)) ∙ reverse-append (map written (take k xs)) (map written (drop k xs))

pub filed_at : (xs : List Record) (i : ℕ) (r : Record) → i < length xs → r ≡ get_or xs i r → filed (take (i + 1) xs) ≡ written r ∷ filed (take i xs)
filed_at xs i r h e = filed_more xs i r h ∙ ap (λ a. written a ∷ filed (take i xs)) (sym e)

-- the highest is at least the least
pub top_least : (d : ℕ) (v : Written → ℕ) (rs : List Written) → d ≤ journal.top d v rs
top_least d v [] = le_refl d
top_least d v (r ∷ rs) = let h = top_least d v rs in omega arith

-- what is done is not refused
pub due_none : {A : Type 0} (x : A) (t : Bool) (v : Verdict) → Due (Ok x) v → Unfit t v
due_none x t (Number n) d = absurd cc
due_none x t Bad d = absurd cc
due_none x t Memory d = tt

-- what holds of every record
pub every_append : (p : Written → Bool) (ps rs : List Written) → journal.every p (ps ++ rs) ≡ journal.every p ps && journal.every p rs
every_append p [] rs = refl
every_append p (r ∷ ps) rs = go (p r) (every_append p ps rs)
  where
    go : (t : Bool) → journal.every p (ps ++ rs) ≡ journal.every p ps && journal.every p rs → t && journal.every p (ps ++ rs) ≡ (t && journal.every p ps) && journal.every p rs
    go true h = h
    go false h = refl

pub every_all : (p : Written → Bool) (xs : List Record) → list_all (λ r. p (written r)) xs ≡ journal.every p (filed xs)
every_all p [] = refl
every_all p (x ∷ xs) =
    ap (λ t. p (written x) && t) (every_all p xs) ∙ swap (p (written x)) (journal.every p (filed xs)) ∙ sym (ap (journal.every p) (reverse-append (written x ∷ []) (map written xs)) ∙ every_append p (filed xs) (written x ∷ []))
  where
    swap : (a b : Bool) → a && b ≡ b && (a && true)
    swap true true = refl
    swap true false = refl
    swap false true = refl
    swap false false = refl

pub every_at : (p : Written → Bool) (xs : List Record) (i : ℕ) (r : Record) → i < length xs → r ≡ get_or xs i r → journal.every p (filed xs) ≡ journal.every p (filed (drop (i + 1) xs)) && (p (written r) && journal.every p (filed (take i xs)))
every_at p xs i r h e =
    ap (journal.every p) (filed_rest xs (i + 1)) ∙ every_append p (filed (drop (i + 1) xs)) (filed (take (i + 1) xs)) ∙ ap (λ l. journal.every p (filed (drop (i + 1) xs)) && journal.every p l) (filed_at xs i r h e)

-- what only grows is at a record at most what it is at the end
pub grown_all : (size : List Written → ℕ) → ((r : Written) (rs : List Written) → size rs ≤ size (r ∷ rs)) → (ps rs : List Written) → size rs ≤ size (ps ++ rs)
grown_all size more [] rs = le_refl _
grown_all size more (p ∷ ps) rs = le_trans (grown_all size more ps rs) (more p (ps ++ rs))

pub grown_at : (size : List Written → ℕ) → ((r : Written) (rs : List Written) → size rs ≤ size (r ∷ rs)) → (xs : List Record) (i : ℕ) (r : Record) → i < length xs → r ≡ get_or xs i r → size (written r ∷ filed (take i xs)) ≤ size (filed xs)
grown_at size more xs i r h e =
    subst (λ rs. size (written r ∷ filed (take i xs)) ≤ size rs) (sym (filed_rest xs (i + 1))) (subst (λ rs. size rs ≤ size (filed (drop (i + 1) xs) ++ filed (take (i + 1) xs))) (filed_at xs i r h e) (grown_all size more (filed (drop (i + 1) xs)) (filed (take (i + 1) xs))))

-- what is known of a journal, record by record
pub known_more : {K : Type 0} (known : List Written → K) (taking : K → Written → Result K Verdict) → ((r : Written) (rs : List Written) (y : K) → taking (known rs) r ≡ Ok y → y ≡ known (r ∷ rs)) → (xs : List Record) (i : ℕ) (r : Record) (x y : K) → i < length xs → r ≡ get_or xs i r → x ≡ known (filed (take i xs)) → taking x (written r) ≡ Ok y → y ≡ known (filed (take (i + 1) xs))
known_more known taking one xs i r x y h g e f =
    one (written r) (filed (take i xs)) y (ap (λ a. taking a (written r)) (sym e) ∙ f) ∙ sym (ap known (filed_at xs i r h g))

pub none_there : {A : Type 0} (o : Option A) → not (is_some o) ≡ true → o ≡ None
none_there None h = refl
none_there (Some a) h = cc
