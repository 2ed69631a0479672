use Rattle.files.proofs.Comebacks.{falls_torn}
use Rattle.files.proofs.recovers.falls_stand.Goals as goal

pub returns : goal.returns
returns g c f = falls_torn (g.F.Format.known f)
