use Rattle.files.specs.Plans.{opening_plan}
use Rattle.files.proofs.Survivals.{opened, came, settled}
use Rattle.files.proofs.steps.Opening.open_disk.Goals as goal

pub returns-clause-ran : goal.returns-clause-ran
returns-clause-ran c = came (opening_plan c.args.self.now) c.args.disk.now c.reopen.new.outside c.reopen.result c.reopen.ensures

pub returns-clause-ok : goal.returns-clause-ok
returns-clause-ok c =
    let o = c.args.self.now in
    settled o.whole_len o.messages.now c.args.disk.now c.reopen.new.outside c.reopen.result c.reopen.ensures

pub returns-clause-falls : goal.returns-clause-falls
returns-clause-falls c =
    let o = c.args.self.now in
    opened o.whole_len o.messages.now c.args.disk.now c.reopen.new.outside c.reopen.result c.reopen.ensures
