-- The boats of the code in the world: what a look for one finds, and what a change of one makes.
-- Assumes nothing.
use Rattle.std.specs.Prelude.{Vec}
use Rattle.std.proofs.Common.{◌≡◌, ℕ, ◌-◌, ◌<◌, Bool, true, false, cond, ltb, List, [], ◌∷◌, ◌++◌, map, length, set, Some, Ok, Err, vec_items, Result, sym, refl, ap, ◌∙◌, arith}
use Rattle.std.proofs.lemmas.List.{get_or-map, map-set, set-get_or}
use Rattle.std.specs.Borrow.{MutBor}
use Rattle.std.specs.Vec.{with_item}
use Rattle.std.specs.declared.alloc.Global.{Global}
use Rattle.levels.specs.Verdicts.{Verdict, Number, Bad, Memory, Due}
use Rattle.levels.specs.Rules.{Boat}
use Rattle.logbooks.specs.Logs.{Log, log, empty, fallen}
use Rattle.fleet.specs.declared.fleet.Berth.{Berth}
use Rattle.fleet.specs.declared.fleet.Fleet.{Fleet}
use Rattle.world.specs.declared.messages.Notice.{Notice}
use Rattle.world.specs.Worlds.{World, BoatState, fresh, place_of, state_at, log_at, moored, logged, noticed, begun, opening, opened, telling}
use Rattle.fleet.specs.Fleets.{world, state, floor_told}
use Rattle.fleet.specs.Lends.{Lookup}
use Rattle.fleet.proofs.Views.{somewhere}

told_if : (t : Bool) (w : World) (n : Notice) → cond t (noticed w n) w ≡ record w { notices = cond t (w.notices ++ n ∷ []) w.notices }
told_if true w n = refl
told_if false w n = refl

-- a program that does not begin
pub due_made : (w : World) (i b n : ℕ) (r : Result Boat Verdict) (v : Verdict) → (r ≡ Err Memory → ⊥) → Err v ≡ r → Due (opened w i b n r) v
due_made w i b n r (Number m) h e = ap (opened w i b n) (sym e)
due_made w i b n r Bad h e = ap (opened w i b n) (sym e)
due_made w i b n r Memory h e = absurd (h (sym e))

abbrev kept : Berth → Log
kept x = log x.log

abbrev seen : Berth → BoatState
seen x = state x.vessel

-- a boat with that number, as it was found
module _ (f : Fleet) (b : ℕ) (v : MutBor Berth) (found : Lookup (vec_items f.boats) b (Ok v)) where
  pub within : b - 1 < length (vec_items f.boats)
  within = omega (arith, found.0, found.1)

  pub there : place_of (world f) b ≡ Some (b - 1)
  there = somewhere f b found.0 found.1

  pub state_is : state_at (world f) (b - 1) ≡ state v.now.vessel
  state_is = get_or-map seen (vec_items f.boats) (b - 1) v.now fresh within ∙ ap seen (sym found.2)

  pub log_is : log_at (world f) (b - 1) ≡ log v.now.log
  log_is = get_or-map kept (vec_items f.boats) (b - 1) v.now empty within ∙ ap kept (sym found.2)

  -- it is another, and what it keeps too
  pub opened_is : (x : Berth) (s : BoatState) (l : Log) → state x.vessel ≡ s → log x.log ≡ l → logged (moored (world f) (b - 1) s) (b - 1) l ≡ world (record f { boats = with_item f.boats (b - 1) x })
  opened_is x s l d e =
      let F : List BoatState → List Log → World = λ t m. record (world f) { boats = t; logs = m } in
      let p : set (world f).boats (b - 1) s ≡ map seen (set (vec_items f.boats) (b - 1) x) = ap (set (world f).boats (b - 1)) (sym d) ∙ sym (map-set seen (vec_items f.boats) (b - 1) x) in
      let q : set (world f).logs (b - 1) l ≡ map kept (set (vec_items f.boats) (b - 1) x) = ap (set (world f).logs (b - 1)) (sym e) ∙ sym (map-set kept (vec_items f.boats) (b - 1) x) in
      ap (λ t. F t (set (world f).logs (b - 1) l)) p ∙ ap (F (map seen (set (vec_items f.boats) (b - 1) x))) q

  -- it is another, and keeps what it did
  pub moored_is : (x : Berth) (s : BoatState) → state x.vessel ≡ s → log x.log ≡ log v.now.log → moored (world f) (b - 1) s ≡ world (record f { boats = with_item f.boats (b - 1) x })
  moored_is x s d e =
      ap (λ l. record (moored (world f) (b - 1) s) { logs = l }) (sym (ap (set (world f).logs (b - 1)) (sym log_is) ∙ set-get_or (world f).logs (b - 1) empty)) ∙ opened_is x s (log v.now.log) d e

  -- it is as it was, and what it keeps is another
  pub logged_is : (x : Berth) (l : Log) → state x.vessel ≡ state v.now.vessel → log x.log ≡ l → logged (world f) (b - 1) l ≡ world (record f { boats = with_item f.boats (b - 1) x })
  logged_is x l d e =
      ap (λ t. record (logged (world f) (b - 1) l) { boats = t }) (sym (ap (set (world f).boats (b - 1)) (sym state_is) ∙ set-get_or (world f).boats (b - 1) fresh)) ∙ opened_is x (state v.now.vessel) l d e

  -- it stays as it is
  pub same_is : world f ≡ world (record f { boats = with_item f.boats (b - 1) v.now })
  same_is =
      ap (λ t. record (world f) { boats = t }) (sym (ap (set (world f).boats (b - 1)) (sym state_is) ∙ set-get_or (world f).boats (b - 1) fresh)) ∙ moored_is v.now (state v.now.vessel) refl refl

  -- it is another, and has told something
  pub told_is : (x : Berth) (s : BoatState) (n m : Notice) (ns : Vec Notice Global) → state x.vessel ≡ s → log x.log ≡ log v.now.log → vec_items ns ≡ vec_items f.notices ++ m ∷ [] → m ≡ n → noticed (moored (world f) (b - 1) s) n ≡ world (record f { boats = with_item f.boats (b - 1) x; notices = ns })
  told_is x s n m ns d e p q =
      let g : Fleet = record f { boats = with_item f.boats (b - 1) x } in
      ap (λ y. noticed y n) (moored_is x s d e) ∙ ap (λ l. record (world g) { notices = l }) (sym (p ∙ ap (λ y. vec_items f.notices ++ y ∷ []) q))

  -- a program begins on it
  pub begun_is : (x : Berth) (s : Boat) (ns : Vec Notice Global) → state x.vessel ≡ begun s v.now.vessel.used → log x.log ≡ fallen (log v.now.log) → ◌≡◌ {A = Result (List Notice) Verdict} (Ok (floor_told (vec_items f.notices) b s.floor)) (Ok (vec_items ns)) → opening (world f) (b - 1) b (begun s v.now.vessel.used) ≡ world (record f { boats = with_item f.boats (b - 1) x; notices = ns })
  begun_is x s ns d e p =
      let g : Fleet = record f { boats = with_item f.boats (b - 1) x } in
      let n : Notice = telling b s.floor in
      let q : floor_told (vec_items f.notices) b s.floor ≡ vec_items ns = cc p in
      ap (λ y. cond (ltb 1 s.floor) (noticed y n) y) (ap (λ l. logged (moored (world f) (b - 1) (begun s v.now.vessel.used)) (b - 1) (fallen l)) log_is ∙ opened_is x (begun s v.now.vessel.used) (fallen (log v.now.log)) d e) ∙ told_if (ltb 1 s.floor) (world g) n ∙ ap (λ l. record (world g) { notices = l }) q
