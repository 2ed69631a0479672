use Rattle.std.proofs.Common.{◌≡◌, ltb, sym, ap, ◌∙◌, rules}
use borrow.Author.Tests.{tests}
use Rattle.std.specs.BTreeMap.{keys}
use Rattle.std.proofs.lemmas.Iterator.Consumers.{YieldsList-from_rest}
use Rattle.std.proofs.lemmas.Iterator.Search.{any_from_yields_List}
use Rattle.levels.specs.declared.numbers.BoatId.{BoatId}
use Rattle.ledger.specs.Ledgers.{Book, listed}
use Rattle.world.specs.Worlds.{World}
use Rattle.fleet.specs.Fleets.{world}
use Rattle.world.specs.Abstract.{boat_of}
use Rattle.world.specs.Rising.{outdated}
use Rattle.rehearsal.proofs.Plans.{outdated_any}
use Rattle.rehearsal.proofs.rehearsal.Rehearsal.outdated.Goals as goal

pub returns : goal.returns
returns c =
    let w : World = world c.args.self.now.fleet in
    let same : listed c.boats-boats.result.now ≡ w.harbour.list = c.boats-boats.ensures.list ∙ ap (λ (x : Book). x.list) c.harbour.ensures in
    any_from_yields_List (λ (b : BoatId). ltb (boat_of w b.0).standing.program c.args.level.0) _ _ c.any.result c.any.ensures.ran (YieldsList-from_rest (keys c.boats-boats.result.now) c.keys.ensures.rest) (λ x b q k. search (rules, tests)) ∙ sym (outdated_any w c.args.level.0 c.boats-boats.result.now.entries) ∙ ap (outdated w c.args.level.0) same
