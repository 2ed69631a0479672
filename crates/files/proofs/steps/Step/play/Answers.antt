use Rattle.files.specs.Plans.{step_plan}
use Rattle.files.proofs.Survivals.{stepped, came, finished}
use Rattle.files.proofs.steps.Step.play.Goals as goal

pub returns-clause-ran : goal.returns-clause-ran
returns-clause-ran c = came (step_plan c.args.self.now) c.args.disk.now c.perform.new.outside c.perform.result c.perform.ensures

pub returns-clause-ok : goal.returns-clause-ok
returns-clause-ok c =
    let s = c.args.self.now in
    finished s.bytes.now s.messages.now c.args.disk.now c.perform.new.outside c.perform.result c.perform.ensures

pub returns-clause-falls : goal.returns-clause-falls
returns-clause-falls c =
    let s = c.args.self.now in
    stepped s.bytes.now s.messages.now c.args.disk.now c.perform.new.outside c.perform.result c.perform.ensures
