use Rattle.std.proofs.Common.{◌≡◌, List, [], ◌++◌, map, vec_items, sym, ap, ◌∙◌, append-nil}
use Rattle.std.proofs.lemmas.Simd.{map-map}
use Rattle.std.specs.BTreeMap.{keys}
use Rattle.levels.specs.declared.numbers.BoatId.{BoatId}
use Rattle.ledger.specs.Ledgers.{listed}
use Rattle.world.specs.declared.messages.Notice.{Notice}
use Rattle.world.specs.declared.messages.Notice.TheVariants.{Allowed}
use Rattle.world.specs.Worlds.{to_each}
use Rattle.fleet.proofs.fleet.steps.tell_each.Goals as goal

pub returns : goal.returns
returns c =
    let F : List BoatId → List Notice = λ bs. vec_items c.loop-boat.notices ++ map (λ b. Allowed b c.args.level) bs in
    let e : c.loop-boat.boat-iterator ≡ [] = c.in-None.ensures.steps.0 in
    let each : map (λ b. Allowed b c.args.level) (keys c.args.boats.now) ≡ to_each c.args.level.0 (listed c.args.boats.now) = simp map-map in
    sym (append-nil _) ∙ sym (ap F e) ∙ c.loop-boat.invariant.told ∙ ap (λ ns. vec_items c.args.notices.now ++ ns) each
