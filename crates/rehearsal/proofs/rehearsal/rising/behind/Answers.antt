use Rattle.std.proofs.Common.{ltb, sym, ◌∙◌, arith, rules}
use borrow.Author.Tests.{tests}
use Rattle.std.specs.BTreeMap.{values}
use Rattle.std.proofs.lemmas.List.{length-map}
use Rattle.std.proofs.lemmas.Iterator.Consumers.{YieldsList-from_rest, YieldsList-from_filter, count_from_yields_List}
use Rattle.levels.specs.declared.numbers.Program.{Program}
use Rattle.ledger.specs.Entries.{entry_of}
use Rattle.ledger.specs.Ledgers.{listed}
use Rattle.rehearsal.proofs.Plans.{behind_counts, behind_most}
use Rattle.rehearsal.proofs.rehearsal.rising.behind.Goals as goal

pub returns : goal.returns
returns c =
    let e = count_from_yields_List c.filter.result c.count.result c.count.ensures.ran (YieldsList-from_filter _ (λ (p : Program). ltb p.0 c.args.level.0) (YieldsList-from_rest (values c.args.boats.now) (c.filter.ensures.source ∙ c.values.ensures.rest)) c.filter.ensures.closure (λ x b q k. search (rules, tests))) ∙ sym (behind_counts c.args.level.0 c.args.boats.now.entries) in
    let m = behind_most c.args.level.0 (listed c.args.boats.now) in
    let n = length-map c.args.boats.now.entries entry_of in
    record { count = e; most = omega (arith, e, m, n) }
