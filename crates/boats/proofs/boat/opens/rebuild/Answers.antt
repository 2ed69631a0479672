use Rattle.std.proofs.Common.{◌≡◌, ap, ◌∙◌}
use Rattle.std.proofs.lemmas.List.{take_all}
use Rattle.std.proofs.lemmas.Result.{err_from_is_err_and}
use Rattle.levels.specs.Verdicts.{verdict}
use Rattle.logbooks.specs.Logs as logs
use Rattle.stations.specs.Journals as journal
use Rattle.stations.specs.Steps.{filed}
use Rattle.boats.proofs.Words.{rebuilt_more, refused_at, fits}
use Rattle.boats.proofs.boat.opens.rebuild.Goals as goal

pub loop-record-preserved : goal.loop-record-preserved
loop-record-preserved c =
    rebuilt_more c.args.journal.now c.loop-record.record-index c.record-item.result (logs.log c.loop-record.log) (logs.log c.replay.new.log) c.loop-record-test.true c.record-item.is c.loop-record.invariant c.in_ok-replay.ensures

pub returns-in_err-replay : goal.returns-in_err-replay
returns-in_err-replay c =
    let p = err_from_is_err_and c.from_residual.result c.from_residual.ensures.1 in
    rw (p.1, p.2) (refused_at c.args.journal.now c.loop-record.record-index c.record-item.result (logs.log c.loop-record.log) (verdict c.in_err-replay.field-0.0) c.loop-record-test.true c.record-item.is c.loop-record.invariant c.in_err-replay.ensures.0)

pub returns : goal.returns
returns c =
    let e : logs.log c.loop-record.log ≡ journal.log (filed c.args.journal.now) = c.loop-record.invariant ∙ ap (λ l. journal.log (filed l)) (take_all c.loop-record.record-index c.args.journal.now c.loop-record-test.false) in
    (e, fits c.loop-record.log (filed c.args.journal.now) e)
