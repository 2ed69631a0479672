-- The ships of which a newer form is known are among those that are noted.
-- Assumes nothing.
use Rattle.std.proofs.Common.{◌≡◌, ℕ, Bool, true, false, not, cond, ◌||◌, eqb, List, [], ◌∷◌, is_some, Some, None, Option, Less, refl, sym, ap, ◌∙◌, subst, arith}
use Rattle.std.specs.BTreeMap.{insert_entry, is_at}
use Rattle.std.specs.Global.{Box}
use Rattle.std.specs.Box.{with_value}
use Rattle.std.specs.Ordering.{is_eq, nat_cmp}
use Rattle.std.specs.Cmp.{unsigned_tied}
use Rattle.std.specs.List.{AllByRecursion, list_any}
use Rattle.std.specs.Map.{keys_of, values_of, lookup, set_value}
use Rattle.std.specs.List.Sorted.{IsStrictlySortedBy}
use Rattle.std.proofs.lemmas.Bool.{cond_both, cond-false, eqb-true, and_from, and_parts}
use Rattle.std.proofs.lemmas.Bool.Decides.{nat_tests}
use Rattle.std.proofs.lemmas.Map.Keys.{sorted_head, sorted_tail}
use Rattle.forms.specs.declared.word.Spoken.{Spoken}
use Rattle.logbooks.specs.declared.log.Ship.{Ship}
use Rattle.logbooks.specs.declared.slot.Slot.{Slot}
use Rattle.logbooks.specs.Slots.{Kept, kept, said_in}
use Rattle.logbooks.specs.Ships.{slots_of, covered, covers, bare, bare_all}
use Rattle.logbooks.specs.Logs.{kept_all}
use Rattle.logbooks.proofs.Ships.{Numbered, first, rest, by_order}

-- more numbers cover no less
covered_more : (ns ks : List ℕ) → ((n : ℕ) → list_any (is_at (nat_cmp n)) ns ≡ true → list_any (is_at (nat_cmp n)) ks ≡ true) → (s : Slot) → covered ns s ≡ true → covered ks s ≡ true
covered_more ns ks h s = go (is_some s.newer) (h s.ship)
  where
    go : (t : Bool) → (list_any (is_at (nat_cmp s.ship)) ns ≡ true → list_any (is_at (nat_cmp s.ship)) ks ≡ true) → not t || list_any (is_at (nat_cmp s.ship)) ns ≡ true → not t || list_any (is_at (nat_cmp s.ship)) ks ≡ true
    go true f a = f a
    go false f a = refl

pub covers_more : (ns ks : List ℕ) → ((n : ℕ) → list_any (is_at (nat_cmp n)) ns ≡ true → list_any (is_at (nat_cmp n)) ks ≡ true) → (ss : List (Box Ship)) → covers ns ss ≡ true → covers ks ss ≡ true
covers_more ns ks h [] c = refl
covers_more ns ks h (s ∷ ss) c =
    let p : (covered ns s.value.slot ≡ true) × (covers ns ss ≡ true) = and_parts (covered ns s.value.slot) (covers ns ss) c in
    and_from _ _ (covered_more ns ks h s.value.slot p.0) (covers_more ns ks h ss p.1)

-- a ship that is covered goes among ships that are
pub covers_in : (ns : List ℕ) (n : ℕ) (v : Box Ship) → covered ns v.value.slot ≡ true → (es : List (ℕ × Box Ship)) → covers ns (values_of es) ≡ true → covers ns (values_of (insert_entry nat_cmp es n v)) ≡ true
covers_in ns n v h [] c = and_from _ _ h refl
covers_in ns n v h (e ∷ es) c =
    let p : (covered ns e.1.value.slot ≡ true) × (covers ns (values_of es) ≡ true) = and_parts (covered ns e.1.value.slot) (covers ns (values_of es)) c in
    by_order n e.0 ((n, v) ∷ e ∷ es) ((e.0, v) ∷ es) (e ∷ insert_entry nat_cmp es n v) (λ l. covers ns (values_of l) ≡ true)
    (λ l. and_from _ _ h c)
    (λ l. and_from _ _ h p.1)
    (λ l. and_from _ _ p.0 (covers_in ns n v h es p.1))

-- a number that is not the ship's covers nothing of it
other : (k : ℕ) (ns : List ℕ) (s : Slot) → eqb s.ship k ≡ false → covered (k ∷ ns) s ≡ true → covered ns s ≡ true
other k ns s d c = go (is_eq (nat_cmp s.ship k)) (unsigned_tied s.ship k ∙ d) c
  where
    go : (t : Bool) → t ≡ false → not (is_some s.newer) || (t || list_any (is_at (nat_cmp s.ship)) ns) ≡ true → not (is_some s.newer) || list_any (is_at (nat_cmp s.ship)) ns ≡ true
    go true e h = cc
    go false e h = h

none_above : (k : ℕ) (es : List (ℕ × Box Ship)) → AllByRecursion (λ y. nat_cmp k y ≡ Less) (keys_of es) → lookup (is_at (nat_cmp k)) es ≡ None
none_above k [] h = refl
none_above k (e ∷ es) h = cond-false _ _ _ (ap is_eq h.0) ∙ none_above k es h.1

-- a ship that there is not
pub covers_past : (k : ℕ) (ns : List ℕ) (es : List (ℕ × Box Ship)) → Numbered es → lookup (is_at (nat_cmp k)) es ≡ None → covers (k ∷ ns) (values_of es) ≡ true → covers ns (values_of es) ≡ true
covers_past k ns [] h n c = refl
covers_past k ns (e ∷ es) h n c =
    let p : (covered (k ∷ ns) e.1.value.slot ≡ true) × (covers (k ∷ ns) (values_of es) ≡ true) = and_parts (covered (k ∷ ns) e.1.value.slot) (covers (k ∷ ns) (values_of es)) c in
    let f : e.1.value.slot.ship ≡ e.0 = first e es h in
    cond_both (is_eq (nat_cmp k e.0)) (Some e.1) (lookup (is_at (nat_cmp k)) es) (λ o. o ≡ None → covers ns (values_of (e ∷ es)) ≡ true)
    (λ y g. cc)
    (λ y g.
    let d : eqb e.1.value.slot.ship k ≡ false = grind (arith, nat_tests) in
    and_from _ _ (other k ns e.1.value.slot d p.0) (covers_past k ns es (rest e es h) g p.1)) n

-- a ship whose newer form is forgotten needs no number
pub covers_left : (k : ℕ) (ns : List ℕ) (v : Box Ship) (es : List (ℕ × Box Ship)) → Numbered es → IsStrictlySortedBy nat_cmp (keys_of es) → lookup (is_at (nat_cmp k)) es ≡ Some v → covers (k ∷ ns) (values_of es) ≡ true → covers ns (values_of (set_value (is_at (nat_cmp k)) es (bare v))) ≡ true
covers_left k ns v [] h o g c = cc
covers_left k ns v (e ∷ es) h o g c = go (is_eq (nat_cmp k e.0)) refl (λ q. covers_left k ns v es (rest e es h) (sorted_tail nat_cmp e.0 (keys_of es) o) q p.1) g
  where
    p : (covered (k ∷ ns) e.1.value.slot ≡ true) × (covers (k ∷ ns) (values_of es) ≡ true)
    p = and_parts (covered (k ∷ ns) e.1.value.slot) (covers (k ∷ ns) (values_of es)) c

    f : e.1.value.slot.ship ≡ e.0
    f = first e es h

    go : (t : Bool) → is_eq (nat_cmp k e.0) ≡ t → (lookup (is_at (nat_cmp k)) es ≡ Some v → covers ns (values_of (set_value (is_at (nat_cmp k)) es (bare v))) ≡ true) → cond t (Some e.1) (lookup (is_at (nat_cmp k)) es) ≡ Some v → covers ns (values_of (cond t ((e.0, bare v) ∷ es) (e ∷ set_value (is_at (nat_cmp k)) es (bare v)))) ≡ true
    go true y m q =
        let s : k ≡ e.0 = eqb-true k e.0 (sym (unsigned_tied k e.0) ∙ y) in
        let a : AllByRecursion (λ y. nat_cmp e.0 y ≡ Less) (keys_of es) = sorted_head nat_cmp e.0 (keys_of es) o in
        covers_past k ns es (rest e es h) (none_above k es (subst (λ (n : ℕ). AllByRecursion (λ y. nat_cmp n y ≡ Less) (keys_of es)) (sym s) a)) p.1
    go false y m q =
        let d : eqb e.1.value.slot.ship k ≡ false = grind (arith, nat_tests) in
        and_from _ _ (other k ns e.1.value.slot d p.0) (m q)

-- a slot by what is kept of it
some_said : (o : Option Spoken) → is_some (said_in o) ≡ is_some o
some_said None = refl
some_said (Some w) = refl

pub covered_same : (ns : List ℕ) (s t : Slot) → kept s ≡ kept t → covered ns s ≡ true → covered ns t ≡ true
covered_same ns s t e c =
    let n : is_some s.newer ≡ is_some t.newer = sym (some_said s.newer) ∙ ap (λ (k : Kept). is_some k.newer) e ∙ some_said t.newer in
    let F : Bool → ℕ → Bool = λ b i. not b || list_any (is_at (nat_cmp i)) ns in
    ap (F (is_some t.newer)) (sym (ap (λ (k : Kept). k.ship) e)) ∙ ap (λ b. F b s.ship) (sym n) ∙ c

-- ships of which the same is kept
pub covers_kept : (ns : List ℕ) (ss ts : List (Box Ship)) → kept_all (slots_of ts) ≡ kept_all (slots_of ss) → covers ns ss ≡ true → covers ns ts ≡ true
covers_kept ns ss [] e c = refl
covers_kept ns [] (t ∷ ts) e c = cc
covers_kept ns (s ∷ ss) (t ∷ ts) e c =
    let p : (covered ns s.value.slot ≡ true) × (covers ns ss ≡ true) = and_parts (covered ns s.value.slot) (covers ns ss) c in
    let h : kept s.value.slot ≡ kept t.value.slot = cc in
    let r : kept_all (slots_of ts) ≡ kept_all (slots_of ss) = cc in
    and_from _ _ (covered_same ns s.value.slot t.value.slot h p.0) (covers_kept ns ss ts r p.1)

pub covered_there : (ns : List ℕ) (test : ℕ → Bool) (es : List (ℕ × Box Ship)) (v : Box Ship) → lookup test es ≡ Some v → covers ns (values_of es) ≡ true → covered ns v.value.slot ≡ true
covered_there ns test [] v f c = cc
covered_there ns test (e ∷ es) v f c = go (test e.0) (λ q. covered_there ns test es v q p.1) f
  where
    p : (covered ns e.1.value.slot ≡ true) × (covers ns (values_of es) ≡ true)
    p = and_parts (covered ns e.1.value.slot) (covers ns (values_of es)) c

    go : (t : Bool) → (lookup test es ≡ Some v → covered ns v.value.slot ≡ true) → cond t (Some e.1) (lookup test es) ≡ Some v → covered ns v.value.slot ≡ true
    go true m q =
        let s : e.1 ≡ v = cc in
        subst (λ (x : Box Ship). covered ns x.value.slot ≡ true) s p.0
    go false m q = m q

pub covers_bare : (ns : List ℕ) (es : List (ℕ × Box Ship)) → covers ns (values_of (bare_all es)) ≡ true
covers_bare ns [] = refl
covers_bare ns (e ∷ es) = covers_bare ns es

-- to forget it first changes nothing of what is left when all is forgotten
pub bare_set : (test : ℕ → Bool) (es : List (ℕ × Box Ship)) (v : Box Ship) → lookup test es ≡ Some v → bare_all (set_value test es (bare v)) ≡ bare_all es
bare_set test [] v f = refl
bare_set test (e ∷ es) v f = go (test e.0) (bare_set test es v) f
  where
    go : (t : Bool) → (lookup test es ≡ Some v → bare_all (set_value test es (bare v)) ≡ bare_all es) → cond t (Some e.1) (lookup test es) ≡ Some v → bare_all (cond t ((e.0, bare v) ∷ es) (e ∷ set_value test es (bare v))) ≡ bare_all (e ∷ es)
    go true m q =
        let s : v ≡ e.1 = cc in
        ap (λ (x : Box Ship). (e.0, bare x) ∷ bare_all es) s
    go false m q = ap (λ l. (e.0, bare e.1) ∷ l) (m q)

pub numbered_set : (test : ℕ → Bool) (es : List (ℕ × Box Ship)) (v : Box Ship) → lookup test es ≡ Some v → Numbered es → Numbered (set_value test es (bare v))
numbered_set test [] v f h = h
numbered_set test (e ∷ es) v f h = go (test e.0) (λ q. numbered_set test es v q (rest e es h)) f
  where
    i : e.1.value.slot.ship ≡ e.0
    i = first e es h

    r : Numbered es
    r = rest e es h

    go : (t : Bool) → (lookup test es ≡ Some v → Numbered (set_value test es (bare v))) → cond t (Some e.1) (lookup test es) ≡ Some v → Numbered (cond t ((e.0, bare v) ∷ es) (e ∷ set_value test es (bare v)))
    go true m q =
        let s : e.1 ≡ v = cc in
        let j : v.value.slot.ship ≡ e.0 = ap (λ (x : Box Ship). x.value.slot.ship) (sym s) ∙ i in
        cc
    go false m q =
        let w : Numbered (set_value test es (bare v)) = m q in
        cc

-- where no number is left, all is forgotten
pub bare_is : (es : List (ℕ × Box Ship)) → covers [] (values_of es) ≡ true → bare_all es ≡ es
bare_is [] c = refl
bare_is (e ∷ es) c =
    let p : (covered [] e.1.value.slot ≡ true) × (covers [] (values_of es) ≡ true) = and_parts (covered [] e.1.value.slot) (covers [] (values_of es)) c in
    ap (λ (x : Box Ship). (e.0, x) ∷ bare_all es) (go e.1.value.slot.newer refl p.0) ∙ ap (λ l. e ∷ l) (bare_is es p.1)
  where
    go : (o : Option Spoken) → e.1.value.slot.newer ≡ o → not (is_some o) || false ≡ true → bare e.1 ≡ e.1
    go None q t = ap (λ (o : Option Spoken). with_value e.1 (record e.1.value { slot = record { ship = e.1.value.slot.ship; from = e.1.value.slot.from; number = e.1.value.slot.number; word = e.1.value.slot.word; newer = o } })) (sym q)
    go (Some w) q t = cc
