-- How many slots keep their word in each form.
-- Assumes nothing.
use Rattle.std.proofs.Common.{◌≡◌, ℕ, zero, suc, ◌+◌, ◌-◌, ◌≤◌, ◌<◌, Bool, true, false, cond, ◌||◌, eqb, ltb, List, [], ◌∷◌, map, length, is_some, Some, None, Option, Ordering, Less, Equal, Greater, Bor, slice_index_or, slice_set, refl, sym, ap, ◌∙◌, subst, arith}
use Rattle.std.specs.BTreeMap.{BTreeMap, get, values, insert_entry, is_at, btree_map_len, IsOrdered, WritesThrough}
use Rattle.std.specs.Global.{Box}
use Rattle.std.specs.List.{list_any, HoldsAt}
use Rattle.std.specs.List.Sorted.{IsStrictlySortedBy}
use Rattle.std.specs.Map.{keys_of, lookup}
use Rattle.std.specs.Option.{MatchOption}
use Rattle.std.specs.Ordering.{is_eq, match_ordering, nat_cmp}
use Rattle.std.proofs.lemmas.Bool.{cond-true, eq-eqb, lt-ltb}
use Rattle.std.proofs.lemmas.Bool.Decides.{nat_tests}
use Rattle.std.proofs.lemmas.List.{length-map}
use Rattle.std.proofs.lemmas.Cmp.{nat_cmp_total}
use Rattle.std.proofs.lemmas.Map.{lookup-none}
use Rattle.std.proofs.lemmas.Map.Entries.{none_below_head}
use Rattle.std.proofs.lemmas.Map.Keys.{sorted_tail}
use Rattle.forms.specs.Meaning.{Uttered, first, second, third, form_of}
use Rattle.forms.specs.Said.{said}
use Rattle.logbooks.specs.declared.log.Ship.{Ship}
use Rattle.logbooks.specs.declared.slot.Slot.{Slot}
use Rattle.logbooks.specs.Slots.{Kept, kept, in_form, forgotten}
use Rattle.logbooks.specs.Ships.{in_forms}
use Rattle.logbooks.proofs.Ships.{slots_in, set_is}

-- one, where a word is in form k
abbrev pub one : ℕ → Uttered → ℕ
one k u = cond (eqb (form_of u) k) 1 0

-- the same of what the map has at a number
abbrev pub had : ℕ → Option (Box Ship) → ℕ
had k None = 0
had k (Some s) = one k (kept s.value.slot).word

-- a ship is written: its slot counts in place of the one that it had
pub counted_in : (k n : ℕ) (v : Box Ship) (es : List (ℕ × Box Ship)) → IsStrictlySortedBy nat_cmp (keys_of es) → in_form k (slots_in (insert_entry nat_cmp es n v)) + had k (lookup (is_at (nat_cmp n)) es) ≡ in_form k (slots_in es) + one k (kept v.value.slot).word
counted_in k n v [] o = omega arith
counted_in k n v (e ∷ es) o = go (nat_cmp n e.0) refl (counted_in k n v es (sorted_tail nat_cmp e.0 (keys_of es) o))
  where
    go : (r : Ordering) → nat_cmp n e.0 ≡ r → in_form k (slots_in (insert_entry nat_cmp es n v)) + had k (lookup (is_at (nat_cmp n)) es) ≡ in_form k (slots_in es) + one k (kept v.value.slot).word → in_form k (slots_in (match_ordering r ((n, v) ∷ e ∷ es) ((e.0, v) ∷ es) (e ∷ insert_entry nat_cmp es n v))) + had k (cond (is_eq r) (Some e.1) (lookup (is_at (nat_cmp n)) es)) ≡ in_form k (slots_in (e ∷ es)) + one k (kept v.value.slot).word
    go Less q m =
        let x : had k (lookup (is_at (nat_cmp n)) es) ≡ 0 = ap (had k) (lookup-none (is_at (nat_cmp n)) es (none_below_head nat_cmp_total n e es o q).1) in
        omega arith
    go Equal q m = omega arith
    go Greater q m = omega arith

-- what there is is counted
pub had_most : (k : ℕ) (test : ℕ → Bool) (es : List (ℕ × Box Ship)) → had k (lookup test es) ≤ in_form k (slots_in es)
had_most k test [] = omega arith
had_most k test (e ∷ es) = go (test e.0) (had_most k test es)
  where
    go : (t : Bool) → had k (lookup test es) ≤ in_form k (slots_in es) → had k (cond t (Some e.1) (lookup test es)) ≤ in_form k (slots_in (e ∷ es))
    go true m = omega arith
    go false m = omega arith

pub in_most : (k : ℕ) (ss : List Kept) → in_form k ss ≤ length ss
in_most k [] = omega arith
in_most k (s ∷ ss) =
    let m : in_form k ss ≤ length ss = in_most k ss in
    go (eqb (form_of s.word) k) m
  where
    go : (t : Bool) → in_form k ss ≤ length ss → cond t 1 0 + in_form k ss ≤ length (s ∷ ss)
    go true m = omega arith
    go false m = omega arith

pub in_forgotten : (k : ℕ) (ss : List Kept) → in_form k (map forgotten ss) ≡ in_form k ss
in_forgotten k [] = refl
in_forgotten k (s ∷ ss) = ap (λ (n : ℕ). one k s.word + n) (in_forgotten k ss)

-- the numbers of the forms, 0 to 3
abbrev pub table : (ℕ → ℕ) → List ℕ
table f = f 0 ∷ f 1 ∷ f 2 ∷ f 3 ∷ []

four : (a b c d : ℕ) (f : ℕ → ℕ) → a ≡ f 0 → b ≡ f 1 → c ≡ f 2 → d ≡ f 3 → a ∷ b ∷ c ∷ d ∷ [] ≡ table f
four a b c d f p q r s = cc

-- a number more, or less, of the form of a word
pub one_more : (u : Uttered) (f g : ℕ → ℕ) → ((k : ℕ) → g k ≡ f k + one k u) → slice_set (table f) (form_of u) (slice_index_or (table f) (form_of u) 0 + 1) ≡ table g
one_more (first s l b) f g h = four _ _ _ _ g (omega (arith, h 0)) (omega (arith, h 1)) (omega (arith, h 2)) (omega (arith, h 3))
one_more (second s l b n) f g h = four _ _ _ _ g (omega (arith, h 0)) (omega (arith, h 1)) (omega (arith, h 2)) (omega (arith, h 3))
one_more (third s l b n m) f g h = four _ _ _ _ g (omega (arith, h 0)) (omega (arith, h 1)) (omega (arith, h 2)) (omega (arith, h 3))

pub one_less : (u : Uttered) (f g : ℕ → ℕ) → ((k : ℕ) → f k ≡ g k + one k u) → slice_set (table f) (form_of u) (slice_index_or (table f) (form_of u) 0 - 1) ≡ table g
one_less (first s l b) f g h = four _ _ _ _ g (omega (arith, h 0)) (omega (arith, h 1)) (omega (arith, h 2)) (omega (arith, h 3))
one_less (second s l b n) f g h = four _ _ _ _ g (omega (arith, h 0)) (omega (arith, h 1)) (omega (arith, h 2)) (omega (arith, h 3))
one_less (third s l b n m) f g h = four _ _ _ _ g (omega (arith, h 0)) (omega (arith, h 1)) (omega (arith, h 2)) (omega (arith, h 3))

pub index_is : (u : Uttered) (f : ℕ → ℕ) → slice_index_or (table f) (form_of u) 0 ≡ f (form_of u)
index_is (first s l b) f = refl
index_is (second s l b n) f = refl
index_is (third s l b n m) f = refl

-- the same at an index that is that form's number
at_is : (xs : List ℕ) (j : ℕ) (f : ℕ → ℕ) (u : Uttered) → xs ≡ table f → j ≡ form_of u → slice_index_or xs j 0 ≡ f (form_of u)
at_is xs j f u a i = ap (λ (ys : List ℕ). slice_index_or ys j 0) a ∙ ap (λ (q : ℕ). slice_index_or (table f) q 0) i ∙ index_is u f

put_up : (xs : List ℕ) (j : ℕ) (f g : ℕ → ℕ) (u : Uttered) → xs ≡ table f → j ≡ form_of u → ((k : ℕ) → g k ≡ f k + one k u) → slice_set xs j (slice_index_or xs j 0 + 1) ≡ table g
put_up xs j f g u a i h = ap (λ (ys : List ℕ). slice_set ys j (slice_index_or ys j 0 + 1)) a ∙ ap (λ (q : ℕ). slice_set (table f) q (slice_index_or (table f) q 0 + 1)) i ∙ one_more u f g h

-- whether a form is counted is whether a slot is kept in it
kept_in : (k : ℕ) (ss : List Kept) → list_any (λ s. eqb (form_of s.word) k) ss ≡ ltb 0 (in_form k ss)
kept_in k [] = refl
kept_in k (s ∷ ss) = go (eqb (form_of s.word) k) (kept_in k ss)
  where
    go : (t : Bool) → list_any (λ s. eqb (form_of s.word) k) ss ≡ ltb 0 (in_form k ss) → t || list_any (λ s. eqb (form_of s.word) k) ss ≡ ltb 0 (cond t 1 0 + in_form k ss)
    go true m = sym (lt-ltb 0 (1 + in_form k ss) (omega arith))
    go false m = let z : 0 + in_form k ss ≡ in_form k ss = omega arith in m ∙ ap (ltb 0) (sym z)

-- there are three forms
no_more : (k : ℕ) → 4 ≤ k → (u : Uttered) → eqb (form_of u) k ≡ false
no_more k f (first s l b) = grind (arith, nat_tests)
no_more k f (second s l b n) = grind (arith, nat_tests)
no_more k f (third s l b n m) = grind (arith, nat_tests)

none_in : (k : ℕ) → 4 ≤ k → (ss : List Kept) → list_any (λ s. eqb (form_of s.word) k) ss ≡ false
none_in k f [] = refl
none_in k f (s ∷ ss) = ap (λ t. t || list_any (λ s. eqb (form_of s.word) k) ss) (no_more k f s.word) ∙ none_in k f ss

-- what a look at the count of a form says, and a choice by it
abbrev pub Looked : List ℕ → ℕ → Option (Bor ℕ) → Type 0
Looked xs k o = MatchOption o (length xs ≤ k) (λ x. (k < length xs) × HoldsAt (λ y. x.now ≡ y) xs k)

pub keeps_is : (ss : List Kept) (xs : List ℕ) (k : ℕ) (o : Option (Bor ℕ)) (r : Bool) (Q : Bor ℕ → Type 0) → xs ≡ table (λ i. in_form i ss) → Looked xs k o → ((x : Bor ℕ) → Q x → r ≡ ltb 0 x.now) → MatchOption o (r ≡ false) Q → r ≡ list_any (λ s. eqb (form_of s.word) k) ss
keeps_is ss xs k o r Q a l f m = go k o (subst (λ (ys : List ℕ). Looked ys k o) a l) m
  where
    go : (k : ℕ) (o : Option (Bor ℕ)) → Looked (table (λ i. in_form i ss)) k o → MatchOption o (r ≡ false) Q → r ≡ list_any (λ s. eqb (form_of s.word) k) ss
    go k None l m = m ∙ sym (none_in k l ss)
    go zero (Some x) l m = f x m ∙ ap (ltb 0) (l.1 0) ∙ sym (kept_in 0 ss)
    go (suc zero) (Some x) l m = f x m ∙ ap (ltb 0) (l.1 0) ∙ sym (kept_in 1 ss)
    go (suc (suc zero)) (Some x) l m = f x m ∙ ap (ltb 0) (l.1 0) ∙ sym (kept_in 2 ss)
    go (suc (suc (suc zero))) (Some x) l m = f x m ∙ ap (ltb 0) (l.1 0) ∙ sym (kept_in 3 ss)
    go (suc (suc (suc (suc k)))) (Some x) l m =
        let i : suc (suc (suc (suc k))) < 4 = l.0 in
        let y : ⊥ = omega arith in
        absurd y

-- the counts of the slots of a map
abbrev pub counts : BTreeMap ℕ (Box Ship) → ℕ → ℕ
counts m k = in_form k (slots_in m.entries)

most : (m : BTreeMap ℕ (Box Ship)) (k : ℕ) → btree_map_len m ≤ 4096 → counts m k ≤ 4096
most m k f =
    let l : length (slots_in m.entries) ≡ btree_map_len m = simp length-map in
    let i : counts m k ≤ length (slots_in m.entries) = in_most k (slots_in m.entries) in
    omega arith

-- a ship that is known: a slot less in the form that it had
module _ (m : BTreeMap ℕ (Box Ship)) (n : ℕ) (v : Box Ship) (there : get nat_cmp m n ≡ Some v) (xs : List ℕ) (i : ℕ) (are : xs ≡ in_forms (values m)) (was : i ≡ form_of (kept v.value.slot).word) where
  fewer : ℕ → ℕ
  fewer k = counts m k - one k (kept v.value.slot).word

  there_one : (k : ℕ) → one k (kept v.value.slot).word ≤ counts m k
  there_one k = subst (λ (o : Option (Box Ship)). had k o ≤ counts m k) there (had_most k (is_at (nat_cmp n)) m.entries)

  fewer_is : (k : ℕ) → counts m k ≡ fewer k + one k (kept v.value.slot).word
  unfolding fewer
  fewer_is k =
      let f : fewer k ≡ counts m k - one k (kept v.value.slot).word = refl in
      omega (arith, there_one k)

  one_gone : slice_set xs i (slice_index_or xs i 0 - 1) ≡ table fewer
  one_gone =
      let T : List ℕ = table (counts m) in
      ap (λ (ys : List ℕ). slice_set ys i (slice_index_or ys i 0 - 1)) are
      ∙ ap (λ (q : ℕ). slice_set T q (slice_index_or T q 0 - 1)) was
      ∙ one_less (kept v.value.slot).word (counts m) fewer fewer_is

  pub not_none : 1 ≤ slice_index_or xs i 0
  not_none =
      let w : Uttered = (kept v.value.slot).word in
      let a : one (form_of w) w ≤ counts m (form_of w) = there_one (form_of w) in
      let b : one (form_of w) w ≡ 1 = cond-true _ _ _ (eq-eqb (form_of w) (form_of w) refl) in
      let d : slice_index_or xs i 0 ≡ counts m (form_of w) = at_is xs i (counts m) w are was in
      omega arith

  module _ (b : BTreeMap ℕ (Box Ship)) (w : Box Ship) (o : IsOrdered nat_cmp m) (written : WritesThrough nat_cmp (nat_cmp n) m w b) (s : Slot) (k : kept w.value.slot ≡ kept s) (j : ℕ) (is : j ≡ form_of (said s.word)) where
    pub not_most : btree_map_len m ≤ 4096 → slice_index_or (slice_set xs i (slice_index_or xs i 0 - 1)) j 0 ≤ 4096
    not_most f =
        let q : ℕ = form_of (said s.word) in
        let d : slice_index_or (slice_set xs i (slice_index_or xs i 0 - 1)) j 0 ≡ fewer q = at_is _ j fewer (said s.word) one_gone is in
        let e : counts m q ≤ 4096 = most m q f in
        omega (arith, fewer_is q)

    pub counted_known : slice_set (slice_set xs i (slice_index_or xs i 0 - 1)) j (slice_index_or (slice_set xs i (slice_index_or xs i 0 - 1)) j 0 + 1) ≡ in_forms (values b)
    counted_known =
        let entries : b.entries ≡ insert_entry nat_cmp m.entries n w = written.0 ∙ set_is n w m.entries o (ap is_some there) in
        let word : (kept w.value.slot).word ≡ said s.word = ap (λ (z : Kept). z.word) k in
        let more : (q : ℕ) → counts b q ≡ fewer q + one q (said s.word) = λ q.
        let c : in_form q (slots_in (insert_entry nat_cmp m.entries n w)) + had q (get nat_cmp m n) ≡ counts m q + one q (kept w.value.slot).word = counted_in q n w m.entries o in
        let d : had q (get nat_cmp m n) ≡ one q (kept v.value.slot).word = ap (had q) there in
        let e : counts b q ≡ in_form q (slots_in (insert_entry nat_cmp m.entries n w)) = ap (λ es. in_form q (slots_in es)) entries in
        let g : one q (kept w.value.slot).word ≡ one q (said s.word) = ap (one q) word in
        omega (arith, fewer_is q) in
        put_up _ j fewer (counts b) (said s.word) one_gone is more

-- a slot that is as it was
pub counted_same : (m b : BTreeMap ℕ (Box Ship)) (xs : List ℕ) → xs ≡ in_forms (values m) → slots_in b.entries ≡ slots_in m.entries → xs ≡ in_forms (values b)
counted_same m b xs a e = a ∙ ap (λ ss. table (λ k. in_form k ss)) (sym e)

-- a ship that is new
module _ (m b : BTreeMap ℕ (Box Ship)) (n : ℕ) (absent : get nat_cmp m n ≡ None) (xs : List ℕ) (are : xs ≡ in_forms (values m)) (w : Box Ship) (o : IsOrdered nat_cmp m) (entries : b.entries ≡ insert_entry nat_cmp m.entries n w) (s : Slot) (k : kept w.value.slot ≡ kept s) (j : ℕ) (is : j ≡ form_of (said s.word)) where
  pub not_most_new : btree_map_len m ≤ 4096 → slice_index_or xs j 0 ≤ 4096
  not_most_new f =
      let q : ℕ = form_of (said s.word) in
      let d : slice_index_or xs j 0 ≡ counts m q = at_is xs j (counts m) (said s.word) are is in
      let e : counts m q ≤ 4096 = most m q f in
      omega arith

  pub counted_new : slice_set xs j (slice_index_or xs j 0 + 1) ≡ in_forms (values b)
  counted_new =
      let word : (kept w.value.slot).word ≡ said s.word = ap (λ (z : Kept). z.word) k in
      let more : (q : ℕ) → counts b q ≡ counts m q + one q (said s.word) = λ q.
      let c : in_form q (slots_in (insert_entry nat_cmp m.entries n w)) + had q (get nat_cmp m n) ≡ counts m q + one q (kept w.value.slot).word = counted_in q n w m.entries o in
      let d : had q (get nat_cmp m n) ≡ 0 = ap (had q) absent in
      let e : counts b q ≡ in_form q (slots_in (insert_entry nat_cmp m.entries n w)) = ap (λ es. in_form q (slots_in es)) entries in
      let g : one q (kept w.value.slot).word ≡ one q (said s.word) = ap (one q) word in
      omega arith in
      put_up xs j (counts m) (counts b) (said s.word) are is more
