use Rattle.files.specs.Disks.{held}
use Rattle.files.proofs.Comebacks.{comes_back, extends, steps_torn}
use Rattle.files.proofs.steps.Step.play_records.Goals as goal

pub returns-clause-ok : goal.returns-clause-ok
returns-clause-ok g c = extends c.play.result (held c.args.disk.now) c.args.self.now.bytes.now _ (held c.play.new.disk) c.play.ensures.ok

pub returns-clause-torn : goal.returns-clause-torn
returns-clause-torn g c f =
    steps_torn (g.F.Format.begins f) (g.F.Format.known f) (g.met.F.Format.within f) (g.met.F.Format.stays f) (g.met.F.Format.cut f) (held c.args.disk.now) c.args.self.now.bytes.now _ (held c.play.new.disk) c.play.ensures.falls

pub returns-clause-recovered : goal.returns-clause-recovered
returns-clause-recovered g c f =
    comes_back (g.F.Format.begins f) (g.F.Format.known f) (g.met.F.Format.within f) (g.met.F.Format.stays f) (g.met.F.Format.cut f) (held c.args.disk.now) c.args.self.now.bytes.now _ (held c.play.new.disk) c.play.ensures.falls
