-- The ships with a newer form stay among those that are noted.
-- Assumes nothing.
use Rattle.std.proofs.Common.{◌≡◌, ℕ, Bool, true, false, not, cond, List, is_some, Some, Ok, Err, OnOk, OnErr, Option, Result, refl, sym, ap, ◌∙◌, subst}
use Rattle.std.specs.BTreeMap.{BTreeMap, get, insert_entry, is_at, IsOrdered, WritesThrough, IsUnchanged}
use Rattle.std.specs.BTreeSet.{BTreeSet, contains, Updates}
use Rattle.std.specs.Bool.{OnFalse}
use Rattle.std.specs.List.{list_any}
use Rattle.std.specs.Global.{Box}
use Rattle.std.specs.Ordering.{nat_cmp}
use Rattle.std.specs.Map.{values_of}
use Rattle.std.specs.Cmp.{unsigned_tied}
use Rattle.std.proofs.lemmas.Bool.{eqb-true}
use Rattle.levels.specs.declared.refusals.Refusal.{Refusal}
use Rattle.levels.specs.Verdicts.{Verdict, Tries}
use Rattle.logbooks.specs.declared.log.Ship.{Ship}
use Rattle.logbooks.specs.declared.slot.Slot.{Slot}
use Rattle.logbooks.specs.Slots.{Kept, kept}
use Rattle.logbooks.specs.Ships.{Alike, seen, covered, covers}
use Rattle.logbooks.proofs.Ships.{set_is}
use Rattle.logbooks.proofs.Covers.{covers_in, covered_same, covered_there, covers_more, covers_kept}
use Rattle.logbooks.proofs.Puts.{log_in}
use Rattle.logbooks.specs.Logs.{Log}
use Rattle.std.specs.Result.{is_err}

-- a ship that is known, when what is kept of it is written, or was not for want of memory
pub noted_known : (ns : List ℕ) (m n : BTreeMap ℕ (Box Ship)) (a : Slot) (v w : Box Ship) → get nat_cmp m a.ship ≡ Some v → IsOrdered nat_cmp m → WritesThrough nat_cmp (nat_cmp a.ship) m w n → covers ns (values_of m.entries) ≡ true → covered ns a ≡ true → (f : ℕ → Option ℕ) (r : Result (Unit {0}) Refusal) → Tries (Ok (kept a, f)) r (seen v.value) (seen w.value) → covers ns (values_of n.entries) ≡ true
noted_known ns m n a v w there o written c d f r t =
    let e : n.entries ≡ insert_entry nat_cmp m.entries a.ship w = written.0 ∙ set_is a.ship w m.entries o (ap is_some there) in
    ap (λ es. covers ns (values_of es)) e ∙ covers_in ns a.ship w (go r t) m.entries c
  where
    go : (r : Result (Unit {0}) Refusal) → Tries (Ok (kept a, f)) r (seen v.value) (seen w.value) → covered ns w.value.slot ≡ true
    go (Ok u) t =
        let e : (kept a, f) ≡ seen w.value = cc in
        covered_same ns a w.value.slot (ap (λ (z : Kept × (ℕ → Option ℕ)). z.0) e) d
    go (Err x) t = covered_same ns v.value.slot w.value.slot (sym (ap (λ (z : Kept × (ℕ → Option ℕ)). z.0) t.1)) (covered_there ns (is_at (nat_cmp a.ship)) m.entries v there c)

-- a ship that is new, or is not there for want of memory
pub noted_new : {A E : Type 0} (ns : List ℕ) (m b n : BTreeMap ℕ (Box Ship)) (a : Slot) (w : Box Ship) → b ≡ m → covers ns (values_of m.entries) ≡ true → covered ns a ≡ true → kept w.value.slot ≡ kept a → (r : Result A E) → OnOk r (n.entries ≡ insert_entry nat_cmp b.entries a.ship w) → OnErr r (IsUnchanged b n) → covers ns (values_of n.entries) ≡ true
noted_new ns m b n a w again c d k (Ok y) f g = rw (f, again) (covers_in ns a.ship w (covered_same ns a w.value.slot (sym k) d) m.entries c)
noted_new ns m b n a w again c d k (Err e) f g = rw (g, again) c

-- a number more, or none for want of memory
pub grown : {A E : Type 0} (s n : BTreeSet ℕ) (k : ℕ) (r : Result A E) → OnOk r (Updates nat_cmp s n k true) → OnErr r (n.keys ≡ s.keys) → (q : ℕ) → list_any (is_at (nat_cmp q)) s.keys ≡ true → list_any (is_at (nat_cmp q)) n.keys ≡ true
grown s n k (Ok y) f g q h = f.0 q ∙ go (is_at (nat_cmp k) q) h
  where
    go : (t : Bool) → contains nat_cmp s q ≡ true → cond t true (contains nat_cmp s q) ≡ true
    go true e = refl
    go false e = e
grown s n k (Err e) f g q h = ap (list_any (is_at (nat_cmp q))) g ∙ h

pub same_alike : (s n : BTreeSet ℕ) → n.keys ≡ s.keys → Alike s.keys n.keys
same_alike s n e q = ap (list_any (is_at (nat_cmp q))) e

-- what a call says of an error, and a flag of what it is not
pub err_of : {E P : Type 0} (r : Result (Unit {0}) E) → P → OnErr r P
err_of (Ok u) p = tt {0}
err_of (Err e) p = p

pub ok_of : {E : Type 0} (P : Type 0) (r : Result (Unit {0}) E) → is_err r ≡ false → OnErr r P
ok_of P (Ok u) e = tt {0}
ok_of P (Err x) e = cc

pub of_false : {P : Type 0} (b : Bool) → b ≡ false → OnFalse b P → P
of_false true e f = cc
of_false false e f = f

pub absent : (s : BTreeSet ℕ) (k : ℕ) → not (contains nat_cmp s k) ≡ true → contains nat_cmp s k ≡ false
absent s k e = go (contains nat_cmp s k) e
  where
    go : (t : Bool) → not t ≡ true → t ≡ false
    go true e = cc
    go false e = refl

-- a number that was not there, put in and taken out again
pub taken_back : (s n m b : BTreeSet ℕ) (k : ℕ) → m ≡ n → contains nat_cmp s k ≡ false → Updates nat_cmp s n k true → Updates nat_cmp m b k false → Alike s.keys b.keys
taken_back s n m b k again absent put gone q = go (is_at (nat_cmp k) q) refl
  where
    out : Updates nat_cmp n b k false
    out = subst (λ (z : BTreeSet ℕ). Updates nat_cmp z b k false) again gone

    go : (t : Bool) → is_at (nat_cmp k) q ≡ t → contains nat_cmp b q ≡ contains nat_cmp s q
    go false e = out.2 q e ∙ put.2 q e
    go true e =
        let i : k ≡ q = eqb-true k q (sym (unsigned_tied k q) ∙ e) in
        out.0 q ∙ ap (λ t. cond t false (contains nat_cmp n q)) e ∙ sym absent ∙ ap (λ (m : ℕ). contains nat_cmp s m) i

-- where the log stays, and the numbers, too
pub noted_back : (want : Result Log Verdict) (m n : BTreeMap ℕ (Box Ship)) (ns ks : List ℕ) (r : Result (Unit {0}) Refusal) → Tries want r (log_in m) (log_in n) → is_err r ≡ true → Alike ns ks → covers ns (values_of m.entries) ≡ true → covers ks (values_of n.entries) ≡ true
noted_back want m n ns ks (Ok u) t e a c = cc
noted_back want m n ns ks (Err x) t e a c = covers_more ns ks (λ q h. a q ∙ h) (values_of n.entries) (covers_kept ns (values_of m.entries) (values_of n.entries) (ap (λ (l : Log). l.slots) t.1) c)
