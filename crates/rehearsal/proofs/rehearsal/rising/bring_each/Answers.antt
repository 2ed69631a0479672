use Rattle.std.proofs.Common.{ℕ, ◌++◌, List, map, vec_items, sym, ap, ◌∙◌, arith, rules}
use Rattle.std.proofs.lemmas.Iterator.{YieldsList-from_range, YieldsList-from_map}
use Rattle.std.proofs.lemmas.Iterator.Adapters.{items_from_extend}
use Rattle.std.specs.List.{range_with_len}
use Rattle.world.specs.declared.events.Event.{Event}
use Rattle.world.specs.declared.events.Event.TheVariants.{BringNotice}
use Rattle.rehearsal.proofs.Plans.{bringing_numbers}
use Rattle.rehearsal.proofs.rehearsal.rising.bring_each.Goals as goal

pub returns : goal.returns
returns c =
    let h = items_from_extend c.extend.result c.extend.ensures.ran (YieldsList-from_map _ (λ m. BringNotice m) (YieldsList-from_range c.args.first _ c.len.result c.map.ensures.source (omega arith)) c.map.ensures.closure (λ x r q k. search rules)) in
    let k = rw c.in_ok-extend.was at h in
    let F : List Event → List Event = λ es. vec_items c.args.events.now ++ es in
    let G : ℕ → List Event = λ m. map (λ j. BringNotice j) (range_with_len c.args.first m) in
    k.0 ∙ ap F (ap G c.len.ensures.len ∙ sym (bringing_numbers c.args.first c.args.boats.now.entries))
