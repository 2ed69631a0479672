-- What listing and hearing make of what the harbour knows of each boat.
-- Assumes nothing.
use Rattle.std.proofs.Common.{◌≡◌, ℕ, ◌<◌, ◌≤◌, max, Bool, zero, suc, true, false, cond, not, ◌&&◌, eqb, ltb, leb, List, [], ◌∷◌, length, get_or, is_some, Some, None, Ok, Err, Option, Result, sym, refl, ap, ◌∙◌, inl, inr, suc-le-suc, zero-le, le_of_suc-le-suc, not-suc-le-zero, arith}
use Rattle.std.proofs.lemmas.Bool.{cond-true, cond-false, eq-eqb, ne_eqb, lt-ltb, ltb-true, ltb-false, le-ltb, le-leb, lt-leb, and_from, and_left, and_right, and_parts, cases_Bool}
use Rattle.std.proofs.lemmas.Bool.Decides.{nat_tests}
use Rattle.levels.specs.declared.numbers.Program.{Program}
use Rattle.levels.specs.declared.refusals.Refusal.{Refusal}
use Rattle.levels.specs.Verdicts.{Verdict, Number, Replies}
use Rattle.ledger.specs.Entries.{Entry, entry, above, ascending, floor_of, entered, admitted, heard, lacking, numbers_of}
use Rattle.ledger.specs.Ledgers.{Book, floor_number, listing, answering, hearing, admitting, promised, restoring}

-- a promise that is heard raises that boat's floor, and no other's
abbrev pub raised_by : ℕ → Option ℕ → Option ℕ
raised_by f None = None
raised_by f (Some n) = Some (max n f)

pub floor_heard : (i b f : ℕ) (es : List Entry) → floor_of i (heard b f es) ≡ cond (eqb i b) (raised_by f (floor_of i es)) (floor_of i es)
floor_heard i b f [] = elim (cases_Bool (eqb i b)) [ inl t ↦ sym (cond-true _ _ _ t) | inr t ↦ sym (cond-false _ _ _ t) ]
floor_heard i b f (x ∷ es) =
    let ih = floor_heard i b f es in
    elim (cases_Bool (eqb x.boat.0 b)) [
      | inl t ↦ elim (cases_Bool (eqb x.boat.0 i)) [
        | inl u ↦ (let e : eqb i b ≡ true = grind (arith, nat_tests) in simp (t, u, e))
        | inr u ↦ (let e : eqb i b ≡ false = grind (arith, nat_tests) in simp (t, u, e))
      ]
      | inr t ↦ elim (cases_Bool (eqb x.boat.0 i)) [
        | inl u ↦ (let e : eqb i b ≡ false = grind (arith, nat_tests) in simp (t, u, e))
        | inr u ↦ simp (t, u) ih
      ]
    ]

-- a promise that is not higher changes nothing
pub heard_lower : (b f g : ℕ) (es : List Entry) → floor_of b es ≡ Some g → f ≤ g → heard b f es ≡ es
heard_lower b f g [] h l = refl
heard_lower b f g (e ∷ es) h l = go (eqb e.boat.0 b) h (λ k. heard_lower b f g es k l)
  where
    go : (t : Bool) → cond t (Some e.floor.0) (floor_of b es) ≡ Some g → (floor_of b es ≡ Some g → heard b f es ≡ es) → cond t (entry e.boat.0 (max e.floor.0 f) ∷ es) (e ∷ heard b f es) ≡ e ∷ es
    go true h k =
        let q : e.floor.0 ≡ g = cc in
        let m : max e.floor.0 f ≡ e.floor.0 = omega arith in
        ap (λ n. entry e.boat.0 n ∷ es) m
    go false h k = ap (λ r. e ∷ r) (k h)

-- and hearing leaves the order
above_heard : (a b f : ℕ) (es : List Entry) → above a (heard b f es) ≡ above a es
above_heard a b f [] = refl
above_heard a b f (x ∷ es) = go (eqb x.boat.0 b)
  where
    go : (t : Bool) → above a (cond t (entry x.boat.0 (max x.floor.0 f) ∷ es) (x ∷ heard b f es)) ≡ ltb a x.boat.0
    go true = refl
    go false = refl

pub ascending_heard : (b f : ℕ) (es : List Entry) → ascending (heard b f es) ≡ ascending es
ascending_heard b f [] = refl
ascending_heard b f (x ∷ es) = go (eqb x.boat.0 b) (ascending_heard b f es)
  where
    go : (t : Bool) → ascending (heard b f es) ≡ ascending es → ascending (cond t (entry x.boat.0 (max x.floor.0 f) ∷ es) (x ∷ heard b f es)) ≡ above x.boat.0 es && ascending es
    go true r = refl
    go false r = ap (λ t. t && ascending (heard b f es)) (above_heard x.boat.0 b f es) ∙ ap (λ t. above x.boat.0 es && t) r

-- a boat more is known with floor 1, and nothing else of any other
pub floor_entered : (i b : ℕ) (es : List Entry) → floor_of i (entered b es) ≡ cond (eqb b i) (Some 1) (floor_of i es)
floor_entered i b [] = refl
floor_entered i b (x ∷ es) =
    let ih = floor_entered i b es in
    elim (cases_Bool (ltb x.boat.0 b)) [
      | inl t ↦ elim (cases_Bool (eqb x.boat.0 i)) [
        | inl u ↦ (let e : eqb b i ≡ false = grind (arith, nat_tests) in simp (t, u, e))
        | inr u ↦ simp (t, u) ih
      ]
      | inr t ↦ simp t
    ]

-- and it leaves the order
above_entered : (c b : ℕ) (es : List Entry) → c < b → above c es ≡ true → above c (entered b es) ≡ true
above_entered c b [] l h = lt-ltb _ _ l
above_entered c b (e ∷ es) l h =
    elim (cases_Bool (ltb e.boat.0 b)) [ inl t ↦ ap (above c) (cond-true _ _ _ t) ∙ h | inr t ↦ ap (above c) (cond-false _ _ _ t) ∙ lt-ltb _ _ l ]

pub ascending_entered : (b : ℕ) (es : List Entry) → floor_of b es ≡ None → ascending es ≡ true → ascending (entered b es) ≡ true
ascending_entered b [] n a = refl
ascending_entered b (e ∷ es) n a =
    let p : (above e.boat.0 es ≡ true) × (ascending es ≡ true) = and_parts (above e.boat.0 es) (ascending es) a in
    let d : eqb e.boat.0 b ≡ false = apart (eqb e.boat.0 b) e.floor.0 (floor_of b es) n in
    elim (cases_Bool (ltb e.boat.0 b)) [
      | inl t ↦ ap ascending (cond-true _ _ _ t) ∙ and_from _ _ (above_entered e.boat.0 b es (grind (arith, nat_tests)) p.0) (ascending_entered b es (sym (cond-false _ _ _ d) ∙ n) p.1)
      | inr t ↦ ap ascending (cond-false _ _ _ t) ∙ and_from _ _ (let l : ltb b e.boat.0 ≡ true = grind (arith, nat_tests) in l) a
    ]
  where
    apart : (t : Bool) (x : ℕ) (o : Option ℕ) → cond t (Some x) o ≡ None → t ≡ false
    apart true x o h = cc
    apart false x o h = refl

-- a boat that came on the list is on it
pub admitted_there : (b : ℕ) (es : List Entry) → is_some (floor_of b (admitted b es)) ≡ true
admitted_there b es =
    elim (cases_Bool (is_some (floor_of b es))) [
      | inl t ↦ ap (λ l. is_some (floor_of b l)) (cond-true _ _ _ t) ∙ t
      | inr t ↦ ap (λ l. is_some (floor_of b l)) (cond-false _ _ _ t) ∙ ap is_some (floor_entered b b es ∙ cond-true _ _ _ (eq-eqb b b refl))
    ]

-- where nobody lacks a level, each on the list has promised it
pub none_lacks : (k b f : ℕ) (es : List Entry) → lacking k es ≡ None → floor_of b es ≡ Some f → k ≤ f
none_lacks k b f [] n e = let z : ◌≡◌ {A = ℕ} 0 1 = cc in absurd (omega arith)
none_lacks k b f (x ∷ es) n e = go (ltb x.floor.0 k) refl (eqb x.boat.0 b) n e (none_lacks k b f es)
  where
    go : (t : Bool) → ltb x.floor.0 k ≡ t → (u : Bool) → cond t (Some x.boat.0) (lacking k es) ≡ None → cond u (Some x.floor.0) (floor_of b es) ≡ Some f → (lacking k es ≡ None → floor_of b es ≡ Some f → k ≤ f) → k ≤ f
    go true q u m h r = let z : ◌≡◌ {A = ℕ} 0 1 = cc in absurd (omega arith)
    go false q true m h r =
        let s : x.floor.0 ≡ f = cc in
        let l : k ≤ x.floor.0 = ltb-false x.floor.0 k q in
        omega arith
    go false q false m h r = r m h

pub none_is : (o : Option ℕ) → is_some o ≡ false → o ≡ None
none_is None h = refl
none_is (Some x) h = let z : ◌≡◌ {A = ℕ} 0 1 = cc in absurd (omega arith)

pub some_is : (o : Option ℕ) → is_some o ≡ true → (f : ℕ) × (o ≡ Some f)
some_is None h = let z : ◌≡◌ {A = ℕ} 0 1 = cc in absurd (omega arith)
some_is (Some f) h = (f, refl)

-- each of the entries is what a list knows of its boat
abbrev pub Known : List Entry → List Entry → Type 0
Known list [] = Unit {0}
Known list (e ∷ es) = (floor_of e.boat.0 list ≡ Some e.floor.0) × Known list es

pub floor_tail : (j : ℕ) (e : Entry) (es : List Entry) → (j ≡ e.boat.0 → ⊥) → floor_of j (e ∷ es) ≡ floor_of j es
floor_tail j e es d = cond-false (eqb e.boat.0 j) (Some e.floor.0) (floor_of j es) (ne_eqb e.boat.0 j (λ q. d (sym q)))

above_lower : (a : ℕ) (e : Entry) (es : List Entry) → ltb a e.boat.0 ≡ true → above e.boat.0 es ≡ true → above a es ≡ true
above_lower a e [] l h = refl
above_lower a e (x ∷ es) l h = grind (arith, nat_tests)

-- a boat below a rising list is not on it
pub below_absent : (b : ℕ) (es : List Entry) → above b es ≡ true → ascending es ≡ true → floor_of b es ≡ None
below_absent b [] h a = refl
below_absent b (e ∷ es) h a =
    let p : (above e.boat.0 es ≡ true) × (ascending es ≡ true) = and_parts (above e.boat.0 es) (ascending es) a in
    let n : eqb e.boat.0 b ≡ false = grind (arith, nat_tests) in
    cond-false _ _ _ n ∙ below_absent b es (above_lower b e es h p.0) p.1

-- what changes for one boat changes nothing for those that come after it
pub known_past : (b : ℕ) (old new es : List Entry) → above b es ≡ true → ascending es ≡ true → ((j : ℕ) → (j ≡ b → ⊥) → floor_of j new ≡ floor_of j old) → Known old es → Known new es
known_past b old new [] h a same known = tt
known_past b old new (e ∷ es) h a same known =
    let p : (above e.boat.0 es ≡ true) × (ascending es ≡ true) = and_parts (above e.boat.0 es) (ascending es) a in
    let l : b < e.boat.0 = ltb-true b e.boat.0 h in
    (same e.boat.0 (λ q. (omega arith)) ∙ known.0, known_past b old new es (above_lower b e es h p.0) p.1 same known.1)

pub known_all : (es : List Entry) → ascending es ≡ true → Known es es
known_all [] a = tt
known_all (e ∷ es) a =
    let p : (above e.boat.0 es ≡ true) × (ascending es ≡ true) = and_parts (above e.boat.0 es) (ascending es) a in
    (cond-true (eqb e.boat.0 e.boat.0) (Some e.floor.0) (floor_of e.boat.0 es) (eq-eqb _ _ refl), known_past e.boat.0 es (e ∷ es) es p.0 p.1 (λ j d. floor_tail j e es d) (known_all es p.1))

-- nobody lacks a level that each has promised
pub lacks_none : (k : ℕ) (list es : List Entry) → Known list es → ((j f : ℕ) → floor_of j list ≡ Some f → k ≤ f) → lacking k es ≡ None
lacks_none k list [] known h = refl
lacks_none k list (e ∷ es) known h = cond-false (ltb e.floor.0 k) (Some e.boat.0) (lacking k es) (le-ltb e.floor.0 k (h e.boat.0 e.floor.0 known.0)) ∙ lacks_none k list es known.1 h

-- and by places, where the first that has not promised it is the one found
pub lacking_none : (k : ℕ) (es : List Entry) → ((i : ℕ) → i < length es → k ≤ (get_or es i (entry 0 0)).floor.0) → lacking k es ≡ None
lacking_none k [] h = refl
lacking_none k (e ∷ es) h =
    let p : k ≤ e.floor.0 = h 0 (suc-le-suc zero-le) in
    let n : ltb e.floor.0 k ≡ false = grind (arith, nat_tests) in
    cond-false _ _ _ n ∙ lacking_none k es (λ i l. h (suc i) (suc-le-suc l))

pub lacking_first : (k : ℕ) (es : List Entry) (i : ℕ) → i < length es → ((j : ℕ) → j < i → k ≤ (get_or es j (entry 0 0)).floor.0) → (get_or es i (entry 0 0)).floor.0 < k → lacking k es ≡ Some (get_or es i (entry 0 0)).boat.0
lacking_first k [] i l h g = absurd (not-suc-le-zero l)
lacking_first k (e ∷ es) zero l h g = cond-true _ _ _ (lt-ltb _ _ g)
lacking_first k (e ∷ es) (suc i) l h g =
    let p : k ≤ e.floor.0 = h 0 (suc-le-suc zero-le) in
    let n : ltb e.floor.0 k ≡ false = grind (arith, nat_tests) in
    cond-false _ _ _ n ∙ lacking_first k es i (le_of_suc-le-suc l) (λ j m. h (suc j) (suc-le-suc m)) g

-- hearing leaves the numbers, and who is on the list is said by these
pub numbers_heard : (b f : ℕ) (es : List Entry) → numbers_of (heard b f es) ≡ numbers_of es
numbers_heard b f [] = refl
numbers_heard b f (x ∷ es) = go (eqb x.boat.0 b) (numbers_heard b f es)
  where
    go : (t : Bool) → numbers_of (heard b f es) ≡ numbers_of es → numbers_of (cond t (entry x.boat.0 (max x.floor.0 f) ∷ es) (x ∷ heard b f es)) ≡ x.boat.0 ∷ numbers_of es
    go true r = refl
    go false r = ap (λ ns. x.boat.0 ∷ ns) r

pub listed_same : (j : ℕ) (xs ys : List Entry) → numbers_of xs ≡ numbers_of ys → is_some (floor_of j xs) ≡ is_some (floor_of j ys)
listed_same j [] [] q = refl
listed_same j [] (y ∷ ys) q = let z : ◌≡◌ {A = ℕ} 0 1 = cc in absurd (omega arith)
listed_same j (x ∷ xs) [] q = let z : ◌≡◌ {A = ℕ} 0 1 = cc in absurd (omega arith)
listed_same j (x ∷ xs) (y ∷ ys) q =
    let e : x.boat.0 ≡ y.boat.0 = cc in
    let r : numbers_of xs ≡ numbers_of ys = cc in
    ap (λ n. is_some (cond (eqb n j) (Some x.floor.0) (floor_of j xs))) e ∙ go (eqb y.boat.0 j) (listed_same j xs ys r)
  where
    go : (t : Bool) → is_some (floor_of j xs) ≡ is_some (floor_of j ys) → is_some (cond t (Some x.floor.0) (floor_of j xs)) ≡ is_some (cond t (Some y.floor.0) (floor_of j ys))
    go true s = refl
    go false s = s

-- when a boat is put on the list
pub listing_new : (x : Book) (b : ℕ) → (b ≡ 0 → ⊥) → floor_of b x.list ≡ None → x.said ≤ 1 → length x.list < 4096 → listing x b ≡ Ok (record { list = entered b x.list; said = x.said })
listing_new x b z n s l =
    cond-false _ _ _ (ne_eqb b 0 z) ∙ cond-false _ _ _ (ap is_some n) ∙ cond-false _ _ _ (le-ltb 1 x.said s) ∙ cond-false _ _ _ (lt-leb 4096 (length x.list) l)

-- a boat that was on the list, that comes on it, and for which there is no place
pub admitting_old : (x : Book) (b : ℕ) → is_some (floor_of b x.list) ≡ true → admitting x b ≡ Ok x
admitting_old x b h =
    let F : List Entry → Result Book Verdict = λ l. Ok (record { list = l; said = x.said }) in
    cond-false _ _ _ (and_left (not (is_some (floor_of b x.list))) (leb 4096 (length x.list)) (ap not h)) ∙ ap F (cond-true _ _ _ h)

pub admitting_new : (x : Book) (b : ℕ) → floor_of b x.list ≡ None → length x.list < 4096 → admitting x b ≡ Ok (record { list = entered b x.list; said = x.said })
admitting_new x b n l =
    let F : List Entry → Result Book Verdict = λ l. Ok (record { list = l; said = x.said }) in
    cond-false _ _ _ (and_right (not (is_some (floor_of b x.list))) (leb 4096 (length x.list)) (lt-leb 4096 (length x.list) l)) ∙ ap F (cond-false _ _ _ (ap is_some n))

pub admitting_full : (x : Book) (b : ℕ) → floor_of b x.list ≡ None → 4096 ≤ length x.list → admitting x b ≡ Err (Number 6)
admitting_full x b n l = cond-true _ _ _ (and_from (not (is_some (floor_of b x.list))) (leb 4096 (length x.list)) (ap (λ o. not (is_some o)) n) (le-leb 4096 (length x.list) l))

-- of a boat that is on the list every promise is heard
pub hears_it : (y z : Book) (b f : ℕ) (r : Result Program Refusal) → is_some (floor_of b y.list) ≡ true → Replies floor_number (hearing y b f) r y z → z ≡ record { list = heard b f y.list; said = y.said }
hears_it y z b f r h p = go (floor_of b y.list) r h p
  where
    left : Result (ℕ × Book) Verdict → Book
    left (Ok q) = q.1
    left (Err e) = y

    go : (o : Option ℕ) (r : Result Program Refusal) → is_some o ≡ true → Replies floor_number (answering y b f o) r y z → z ≡ record { list = heard b f y.list; said = y.said }
    go None r h p = let q : ◌≡◌ {A = ℕ} 0 1 = cc in absurd (omega arith)
    go (Some g) (Ok v) h p = sym (ap left p)
    go (Some g) (Err e) h p = let k = p.0 in let q : ◌≡◌ {A = ℕ} 0 1 = cc in absurd (omega arith)

-- the list that a boat comes back to
pub restored_is : (x y z : Book) (b f : ℕ) (r : Result Program Refusal) → (b ≡ 0 → ⊥) → admitting x b ≡ Ok y → Replies floor_number (hearing y b f) r y z → restoring x b f ≡ Ok z
restored_is x y z b f r n e p =
    let F : Book → Result Book Verdict = λ a. Ok a in
    cond-false _ _ _ (ne_eqb b 0 n) ∙ ap (promised b f) e ∙ sym (ap F (hears_it y z b f r (there x y b e) p))
  where
    there : (x y : Book) (b : ℕ) → admitting x b ≡ Ok y → is_some (floor_of b y.list) ≡ true
    there x y b e = go (not (is_some (floor_of b x.list)) && leb 4096 (length x.list)) e
      where
        go : (t : Bool) → cond t (Err (Number 6)) (Ok (record { list = admitted b x.list; said = x.said })) ≡ Ok y → is_some (floor_of b y.list) ≡ true
        go true h = let q : ◌≡◌ {A = ℕ} 0 1 = cc in absurd (omega arith)
        go false h =
            let q : record { list = admitted b x.list; said = x.said } ≡ y = cc in
            ap (λ (a : Book). is_some (floor_of b a.list)) (sym q) ∙ admitted_there b x.list
