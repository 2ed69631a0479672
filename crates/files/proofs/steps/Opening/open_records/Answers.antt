use Rattle.files.specs.Disks.{held}
use Rattle.files.proofs.Comebacks.{opens_again, opens_torn}
use Rattle.files.proofs.steps.Opening.open_records.Goals as goal

pub returns-clause-torn : goal.returns-clause-torn
returns-clause-torn g c f =
    opens_torn (g.F.Format.begins f) (g.F.Format.known f) (g.met.F.Format.within f) (g.met.F.Format.stays f) (g.met.F.Format.cut f) (held c.args.disk.now) c.args.self.now.whole_len _ (held c.open_disk.new.disk) c.open_disk.ensures.falls

pub returns-clause-recovered : goal.returns-clause-recovered
returns-clause-recovered g c f =
    opens_again (g.F.Format.begins f) (g.F.Format.known f) (g.met.F.Format.within f) (g.met.F.Format.stays f) (g.met.F.Format.cut f) (held c.args.disk.now) c.args.self.now.whole_len _ (held c.open_disk.new.disk) c.open_disk.ensures.falls
