use Rattle.std.proofs.Common.{◌≡◌, ap, ◌∙◌}
use Rattle.std.proofs.lemmas.List.{take_all}
use Rattle.std.proofs.lemmas.Result.{err_from_is_err_and}
use Rattle.ledger.specs.Ledgers.{book}
use Rattle.levels.specs.Verdicts.{verdict}
use Rattle.stations.specs.Harbours.{recalled}
use Rattle.stations.specs.Steps.{filed}
use Rattle.harbours.proofs.Lists.{enlisted_more, barred_at, fits_list}
use Rattle.harbours.proofs.harbour.opens.enlist_all.Goals as goal

pub loop-record-preserved : goal.loop-record-preserved
loop-record-preserved c =
    enlisted_more c.args.journal.now c.loop-record.record-index c.record-item.result (book c.loop-record.ledger) (book c.enlist.new.ledger) c.loop-record-test.true c.record-item.is c.loop-record.invariant c.in_ok-enlist.ensures

pub returns-in_err-enlist : goal.returns-in_err-enlist
returns-in_err-enlist c =
    let p = err_from_is_err_and c.from_residual.result c.from_residual.ensures.1 in
    rw (p.1, p.2) (barred_at c.args.journal.now c.loop-record.record-index c.record-item.result (book c.loop-record.ledger) (verdict c.in_err-enlist.field-0.0) c.requires c.loop-record-test.true c.record-item.is c.loop-record.invariant c.in_err-enlist.ensures.0)

pub returns : goal.returns
returns c =
    let e : book c.loop-record.ledger ≡ recalled (filed c.args.journal.now) = c.loop-record.invariant ∙ ap (λ l. recalled (filed l)) (take_all c.loop-record.record-index c.args.journal.now c.loop-record-test.false) in
    (e, fits_list c.loop-record.ledger (filed c.args.journal.now) e)
