-- What stays of the ships when one that is known is written, or was not for want of memory.
-- Assumes nothing.
use Rattle.std.proofs.Common.{◌≡◌, ℕ, true, ◌≤◌, List, Some, Ok, Option, Result, sym, ap, arith}
use Rattle.std.specs.BTreeMap.{BTreeMap, get, values, btree_map_len, IsOrdered, WritesThrough}
use Rattle.std.specs.Global.{Box}
use Rattle.std.specs.Ordering.{nat_cmp}
use Rattle.levels.specs.declared.refusals.Refusal.{Refusal}
use Rattle.levels.specs.Verdicts.{Tries}
use Rattle.logbooks.specs.declared.log.Ship.{Ship}
use Rattle.logbooks.specs.declared.slot.Slot.{Slot}
use Rattle.logbooks.specs.Slots.{Kept, kept}
use Rattle.logbooks.specs.Ships.{seen, noted_by, slots_of, rising, covered, covers}
use Rattle.logbooks.proofs.Ships.{Numbered, rises}
use Rattle.logbooks.proofs.Noted.{noted_known}
use Rattle.logbooks.proofs.Puts.{numbered_known}

abbrev pub Stays : List ℕ → BTreeMap ℕ (Box Ship) → Type 0
Stays ns m = Numbered m.entries × (rising (slots_of (values m)) ≡ true) × (covers ns (values m) ≡ true) × (btree_map_len m ≤ 4096)

pub stays_known : (ns : List ℕ) (m n : BTreeMap ℕ (Box Ship)) (a : Slot) (k : ℕ) (v w : Box Ship) → Stays ns m → covered ns a ≡ true → Some v ≡ get nat_cmp m a.ship → IsOrdered nat_cmp m → WritesThrough nat_cmp (nat_cmp a.ship) m w n → (r : Result (Unit {0}) Refusal) → Tries (Ok (kept a, noted_by (seen v.value).1 a.from.0 k)) r (seen v.value) (seen w.value) → Stays ns n
stays_known ns m n a k v w s d there o h r t =
    let i : Numbered n.entries = numbered_known m n v w (kept a) k s.0 (sym there) o h r t in
    let l : btree_map_len n ≤ 4096 = let f = s.3 in let e = h.2 in omega arith in
    (i, rises n.entries i h.4, noted_known ns m n a v w (sym there) o h s.2 d _ r t, l)

-- what is kept once it is written
pub kept_then : {V : Type 0} (p q : Kept × (ℕ → Option ℕ)) → ◌≡◌ {A = Result (Kept × (ℕ → Option ℕ)) V} (Ok p) (Ok q) → q.0 ≡ p.0
kept_then p q e =
    let i : p ≡ q = cc in
    ap (λ (z : Kept × (ℕ → Option ℕ)). z.0) (sym i)
