use Rattle.protocol.proofs.AllRuns.{all_runs}
use Rattle.protocol.proofs.runs_stand.Goals as goal

pub returns : goal.returns
returns g c = all_runs g.T.Ordered.order g.T.Ordered.lawful
