-- A boat that is lent to be changed, and what the boats are once it is given back.
-- Assumes nothing.
use Rattle.std.specs.Prelude.{◌≡◌, ℕ, ◌-◌, ◌≤◌, false, ◌&&◌, List, length, Ok, Err, Vec, Result, nat_le, slice_index_or}
use Rattle.std.specs.Borrow.{LendsIfOk, MutBor, Fml}
use Rattle.std.specs.Vec.{with_item}
use Rattle.std.specs.declared.alloc.Global.{Global}
use Rattle.std.specs.contracts.alloc.Global as global
use Rattle.std.specs.contracts.vec.Vec as vec
use Rattle.std.specs.contracts.impls.GlobalAllocator.TheImpl.{ghosts}
use Rattle.levels.specs.declared.refusals.Refusal.{Refusal}
use Rattle.levels.specs.Verdicts.{Bad, verdict}
use Rattle.fleet.specs.declared.fleet.Berth.{Berth}
use Rattle.fleet.specs.contracts.fleet.Berth as berth

-- a look for the one with the number b among boats: nothing makes no sense
abbrev pub Lookup : List Berth → ℕ → Result (MutBor Berth) Refusal → Type 0
Lookup vs b (Ok v) = (1 ≤ b) × (b ≤ length vs) × (v.now ≡ slice_index_or vs (b - 1) v.now)
Lookup vs b (Err e) = (nat_le 1 b && nat_le b (length vs) ≡ false) × (verdict e ≡ Bad)

-- the one with the number b ends as it is left, and the others stay
abbrev pub LendsBoat : MutBor (Vec Berth Global) → ℕ → Result (MutBor Berth) Refusal → Fml
LendsBoat boats b r = LendsIfOk (vec.the_row berth.the_row global.the_row ghosts) berth.the_row boats r (with_item boats.now (b - 1)) boats.now
