use Rattle.std.proofs.Common.{◌≡◌, map, Err, Ok, Result, IfOk, Vec, vec_items, ap, ◌∙◌, rules}
use Rattle.std.proofs.lemmas.Iterator.{YieldsList-from_map, items_from_collect}
use Rattle.std.proofs.lemmas.Iterator.Consumers.{YieldsList-from_rest}
use Rattle.std.proofs.lemmas.Simd.{map-map}
use Rattle.std.specs.BTreeMap.{keys}
use Rattle.levels.specs.declared.numbers.BoatId.{BoatId}
use Rattle.ledger.specs.Ledgers.{listed}
use Rattle.messages.specs.declared.Message.{Message}
use Rattle.messages.specs.declared.Body.TheVariants.{Allowed}
use Rattle.messages.specs.Messages.{letter}
use Rattle.stations.specs.Harbours.{allowing}
use Rattle.harbours.proofs.harbour.calls.tell_each.Goals as goal

pub returns : goal.returns
returns c =
    let h : BoatId → Message = λ b. record { from = record { 0 = 0 }; to = b; number = 0; body = Allowed c.args.level } in
    go c.collect.result (items_from_collect _ c.collect.ensures.ran (YieldsList-from_map _ h (YieldsList-from_rest (keys c.args.boats.now) (c.map.ensures.source ∙ c.keys.ensures.rest)) c.map.ensures.closure (λ x r q k. search rules)))
  where
    go : {E Z : Type 0} (r : Result (Vec Message Z) E) → IfOk r (λ v. vec_items v ≡ map (λ b. record { from = record { 0 = 0 }; to = b; number = 0; body = Allowed c.args.level }) (keys c.args.boats.now)) → IfOk r (λ v. map letter (vec_items v) ≡ map (allowing c.args.level.0) (listed c.args.boats.now))
    go (Ok v) e = ap (map letter) e ∙ simp map-map
    go (Err v) e = e
