use Rattle.runs.proofs.Keeps.{run_recovers}
use Rattle.runs.proofs.promises.recovers_stands.Goals as goal

pub returns : goal.returns
returns c = run_recovers
