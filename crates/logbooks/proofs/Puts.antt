-- The log after a slot is put in.
-- Assumes nothing.
use Rattle.std.proofs.Common.{◌≡◌, ℕ, Bool, true, false, cond, ◌<◌, ◌≤◌, ◌&&◌, not, eqb, leb, List, length, is_some, Some, None, Ok, Err, OnOk, OnErr, Option, Result, sym, refl, ap, ◌∙◌}
use mathlib.Core.Path.{fun_ext}
use Rattle.std.specs.BTreeMap.{BTreeMap, get, insert_entry, is_at, btree_map_len, IsOrdered, Updates, WritesThrough, IsUnchanged}
use Rattle.std.specs.Global.{Box}
use Rattle.std.specs.Ordering.{nat_cmp, eq_by_cmp}
use Rattle.std.specs.Cmp.{unsigned_tied, nat_eq_equiv}
use Rattle.std.proofs.lemmas.Bool.{cond_both, cond-true, cond-false, eqb-true, and_from, and_right, le-leb, lt-leb, leb-false}
use Rattle.std.proofs.lemmas.List.{length-map}
use Rattle.levels.specs.declared.refusals.Refusal.{Refusal}
use Rattle.levels.specs.Verdicts.{Verdict, Number, Bad, Memory, Due, Tries, verdict}
use Rattle.logbooks.specs.declared.log.Ship.{Ship}
use Rattle.logbooks.specs.Slots.{Kept, kept}
use Rattle.logbooks.specs.Ships.{seen, last_of, noted_by}
use Rattle.logbooks.specs.Logs.{Log, placed, noted, entered_to, crowded, putting}
use Rattle.logbooks.proofs.Ships.{Numbered, slots_in, placed_in, numbered_in, slot_there, number_there, set_is, slots_same}

abbrev pub log_in : BTreeMap ℕ (Box Ship) → Log
log_in m = record { slots = slots_in m.entries; lasts = λ b s. last_of (get nat_cmp m s) b }

-- the numbers of one ship, with one that is noted
pub noted_is : (f g : ℕ → Option ℕ) (b n : ℕ) → ((c : ℕ) → g c ≡ cond (eq_by_cmp nat_cmp b c) (Some n) (f c)) → noted_by f b n ≡ g
noted_is f g b n h = fun_ext (λ c. ap (λ t. cond t (Some n) (f c)) (nat_eq_equiv.symm c b ∙ sym (unsigned_tied b c)) ∙ sym (h c))

-- the same, where the number of one boat stands beside those of the others: it goes to them where another boat takes its place
pub renoted_is : (d l b n : ℕ) (f g : ℕ → Option ℕ) → ((c : ℕ) → eqb c b ≡ false → cond (eqb c d) (Some l) (f c) ≡ g c) → noted_by (λ c. cond (eqb c d) (Some l) (f c)) b n ≡ (λ c. cond (eqb c b) (Some n) (g c))
renoted_is d l b n f g h = fun_ext (λ c. go c (eqb c b) refl)
  where
    go : (c : ℕ) (t : Bool) → eqb c b ≡ t → cond t (Some n) (cond (eqb c d) (Some l) (f c)) ≡ cond t (Some n) (g c)
    go c true e = refl
    go c false e = h c e

both : {A : Type 0} (p q : Bool) (x y : A) → cond (p && q) x y ≡ cond q (cond p x y) y
both true q x y = refl
both false true x y = refl
both false false x y = refl

module _ (m n : BTreeMap ℕ (Box Ship)) (s : ℕ) (w : Box Ship) (up : (q : ℕ) → get nat_cmp n q ≡ cond (eq_by_cmp nat_cmp s q) (Some w) (get nat_cmp m q)) where
  last_at : (t c : ℕ) → last_of (get nat_cmp n t) c ≡ cond (eqb t s) ((seen w.value).1 c) (last_of (get nat_cmp m t) c)
  last_at t c =
      ap (λ o. last_of o c) (up t ∙ ap (λ y. cond y (Some w) (get nat_cmp m t)) (unsigned_tied s t ∙ nat_eq_equiv.symm s t))
      ∙ cond_both (eqb t s) (Some w) (get nat_cmp m t) (λ o. last_of o c ≡ cond (eqb t s) ((seen w.value).1 c) (last_of (get nat_cmp m t) c)) (λ y. sym (cond-true _ _ _ y)) (λ y. sym (cond-false _ _ _ y))

  -- the numbers about the other ships stay
  pub lasts_noted : (b k : ℕ) → (seen w.value).1 ≡ noted_by (last_of (get nat_cmp m s)) b k → noted (log_in m).lasts b s k ≡ (log_in n).lasts
  lasts_noted b k h = fun_ext (λ c. fun_ext (λ t.
      let old : Option ℕ = last_of (get nat_cmp m t) c in
      both (eqb c b) (eqb t s) (Some k) old
      ∙ cond_both (eqb t s) ((seen w.value).1 c) old (λ o. cond (eqb t s) (cond (eqb c b) (Some k) old) old ≡ o)
      (λ y. cond-true _ _ _ y ∙ ap (λ (r : ℕ). cond (eqb c b) (Some k) (last_of (get nat_cmp m r) c)) (eqb-true t s y) ∙ sym (ap (λ (f : ℕ → Option ℕ). f c) h))
      (λ y. cond-false _ _ _ y)
      ∙ sym (last_at t c)))

  pub lasts_same : (seen w.value).1 ≡ last_of (get nat_cmp m s) → (log_in n).lasts ≡ (log_in m).lasts
  lasts_same h = fun_ext (λ c. fun_ext (λ t.
      let old : Option ℕ = last_of (get nat_cmp m t) c in
      last_at t c ∙ cond_both (eqb t s) ((seen w.value).1 c) old (λ o. o ≡ old)
      (λ y. ap (λ (f : ℕ → Option ℕ). f c) h ∙ sym (ap (λ (r : ℕ). last_of (get nat_cmp m r) c) (eqb-true t s y)))
      (λ y. refl)))

  -- a ship that is new, or written anew
  pub entered_in : (x : Kept) (k : ℕ) → Numbered m.entries → x.ship ≡ s → seen w.value ≡ (x, noted_by (last_of (get nat_cmp m s)) x.from k) → n.entries ≡ insert_entry nat_cmp m.entries s w → entered_to (log_in m) x k ≡ log_in n
  entered_in x k h i e p =
      let F : List Kept → (ℕ → ℕ → Option ℕ) → Log = λ l f. record { slots = l; lasts = f } in
      let kw : kept w.value.slot ≡ x = ap (λ (z : Kept × (ℕ → Option ℕ)). z.0) e in
      let ship : w.value.slot.ship ≡ s = ap (λ (z : Kept). z.ship) kw ∙ i in
      let slots : placed x (slots_in m.entries) ≡ slots_in n.entries = ap (λ z. placed z (slots_in m.entries)) (sym kw) ∙ placed_in s w ship m.entries h ∙ sym (ap slots_in p) in
      let lasts : noted (log_in m).lasts x.from x.ship k ≡ (log_in n).lasts = ap (λ z. noted (log_in m).lasts x.from z k) i ∙ lasts_noted x.from k (ap (λ (z : Kept × (ℕ → Option ℕ)). z.1) e) in
      ap (λ l. F l (noted (log_in m).lasts x.from x.ship k)) slots ∙ ap (F (slots_in n.entries)) lasts

-- when there is no place
pub crowded_is : (m : BTreeMap ℕ (Box Ship)) (s : ℕ) → Numbered m.entries → crowded (log_in m) s ≡ not (is_some (get nat_cmp m s)) && leb 4096 (btree_map_len m)
crowded_is m s h =
    let l : length (slots_in m.entries) ≡ btree_map_len m = simp length-map in
    ap (λ t. not t && leb 4096 (length (slots_in m.entries))) (slot_there s m.entries h) ∙ ap (λ n. not (is_some (get nat_cmp m s)) && leb 4096 n) l

roomy : (m : BTreeMap ℕ (Box Ship)) (x : Kept) (k : ℕ) → Numbered m.entries → not (is_some (get nat_cmp m x.ship)) && leb 4096 (btree_map_len m) ≡ false → putting (log_in m) x k ≡ Ok (entered_to (log_in m) x k)
roomy m x k h f = cond-false _ _ _ (crowded_is m x.ship h ∙ f)

pub full_is : (m : BTreeMap ℕ (Box Ship)) (x : Kept) (k : ℕ) → Numbered m.entries → is_some (get nat_cmp m x.ship) ≡ false → 4096 ≤ btree_map_len m → putting (log_in m) x k ≡ Err (Number 6)
full_is m x k h n l = cond-true _ _ _ (crowded_is m x.ship h ∙ and_from _ _ (ap not n) (le-leb 4096 (btree_map_len m) l))

pub memory_due : (m : BTreeMap ℕ (Box Ship)) (x : Kept) (k : ℕ) → Numbered m.entries → not (is_some (get nat_cmp m x.ship)) && leb 4096 (btree_map_len m) ≡ false → Due (putting (log_in m) x k) Memory
memory_due m x k h f = rw (roomy m x k h f) refl

-- what is due of a call that does what is wanted is due of each
pub due_of : {A B : Type 0} (a : A) (b : B) (v : Verdict) → Due (Ok a) v → Due (Ok b) v
due_of a b (Number n) d = cc
due_of a b Bad d = cc
due_of a b Memory d = refl

-- a ship that is known, when what is kept of it is written
module _ (m n : BTreeMap ℕ (Box Ship)) (v w : Box Ship) (x : Kept) (k : ℕ)
    (h : Numbered m.entries) (there : get nat_cmp m x.ship ≡ Some v) (o : IsOrdered nat_cmp m) (written : WritesThrough nat_cmp (nat_cmp x.ship) m w n) where
  some : is_some (get nat_cmp m x.ship) ≡ true
  some = ap is_some there

  put_is : n.entries ≡ insert_entry nat_cmp m.entries x.ship w
  put_is = written.0 ∙ set_is x.ship w m.entries o some

  pub numbered_known : (r : Result (Unit {0}) Refusal) → Tries (Ok (x, noted_by (seen v.value).1 x.from k)) r (seen v.value) (seen w.value) → Numbered n.entries
  numbered_known r t = rw put_is (numbered_in x.ship w (go r t) m.entries h)
    where
      go : (r : Result (Unit {0}) Refusal) → Tries (Ok (x, noted_by (seen v.value).1 x.from k)) r (seen v.value) (seen w.value) → w.value.slot.ship ≡ x.ship
      go (Ok u) t =
          let e : (x, noted_by (seen v.value).1 x.from k) ≡ seen w.value = cc in
          sym (ap (λ (z : Kept × (ℕ → Option ℕ)). z.0.ship) e)
      go (Err e) t = ap (λ (z : Kept × (ℕ → Option ℕ)). z.0.ship) t.1 ∙ number_there x.ship v m.entries h there

  pub put_known : (r : Result (Unit {0}) Refusal) → Tries (Ok (x, noted_by (seen v.value).1 x.from k)) r (seen v.value) (seen w.value) → Tries (putting (log_in m) x k) r (log_in m) (log_in n)
  put_known r t = go r t
    where
      room : putting (log_in m) x k ≡ Ok (entered_to (log_in m) x k)
      room = roomy m x k h (ap (λ t. not t && leb 4096 (btree_map_len m)) some)

      go : (r : Result (Unit {0}) Refusal) → Tries (Ok (x, noted_by (seen v.value).1 x.from k)) r (seen v.value) (seen w.value) → Tries (putting (log_in m) x k) r (log_in m) (log_in n)
      go (Ok u) t =
          let e : (x, noted_by (seen v.value).1 x.from k) ≡ seen w.value = cc in
          let G : Log → Result Log Verdict = λ l. Ok l in
          room ∙ ap G (entered_in m n x.ship w (written.3 some).0 x k h refl (sym e ∙ ap (λ (q : Option (Box Ship)). (x, noted_by (last_of q) x.from k)) (sym there)) put_is)
      go (Err e) t =
          let F : List Kept → (ℕ → ℕ → Option ℕ) → Log = λ l f. record { slots = l; lasts = f } in
          let ks : slots_in n.entries ≡ slots_in m.entries = ap slots_in written.0 ∙ slots_same (is_at (nat_cmp x.ship)) m.entries v w there (ap (λ (z : Kept × (ℕ → Option ℕ)). z.0) t.1) in
          let ls : (log_in n).lasts ≡ (log_in m).lasts = lasts_same m n x.ship w (written.3 some).0 (ap (λ (z : Kept × (ℕ → Option ℕ)). z.1) t.1 ∙ ap last_of (sym there)) in
          (rw room (due_of _ _ (verdict e) t.0), ap (λ l. F l (log_in n).lasts) ks ∙ ap (F (slots_in m.entries)) ls)

-- a ship that is not known; b is the map again, once it was looked up
module _ (m b : BTreeMap ℕ (Box Ship)) (x : Kept) (k : ℕ) (again : b ≡ m) (h : Numbered m.entries) (absent : get nat_cmp m x.ship ≡ None) where
  none : is_some (get nat_cmp m x.ship) ≡ false
  none = ap is_some absent

  pub roomy_new : crowded (log_in m) x.ship ≡ false → btree_map_len b < 4096
  roomy_new f =
      let l : leb 4096 (btree_map_len m) ≡ false = sym (ap (λ t. t && leb 4096 (btree_map_len m)) (ap not none)) ∙ sym (crowded_is m x.ship h) ∙ f in
      rw again (leb-false 4096 (btree_map_len m) l)

  module _ (n : BTreeMap ℕ (Box Ship)) (w : Box Ship) (new : seen w.value ≡ (x, noted_by (λ c. None) x.from k)) where
    -- whether there was memory or not
    pub numbered_new : {A E : Type 0} (r : Result A E) → OnOk r (n.entries ≡ insert_entry nat_cmp b.entries x.ship w) → OnErr r (IsUnchanged b n) → Numbered n.entries
    numbered_new (Ok y) f g = rw (f, again) (numbered_in x.ship w (ap (λ (z : Kept × (ℕ → Option ℕ)). z.0.ship) new) m.entries h)
    numbered_new (Err e) f g = rw (g, again) h

    pub put_new : btree_map_len b < 4096 → n.entries ≡ insert_entry nat_cmp b.entries x.ship w → Updates nat_cmp b n x.ship (Some w) → putting (log_in m) x k ≡ Ok (log_in n)
    put_new l e u =
        let G : Log → Result Log Verdict = λ l. Ok l in
        let numbers : seen w.value ≡ (x, noted_by (last_of (get nat_cmp m x.ship)) x.from k) = new ∙ ap (λ (q : Option (Box Ship)). (x, noted_by (last_of q) x.from k)) (sym absent) in
        roomy m x k h (and_right _ _ (lt-leb 4096 (btree_map_len m) (rw (← again) l)))
        ∙ ap G (entered_in m n x.ship w (rw again at u.0) x k h refl numbers (rw again at e))
