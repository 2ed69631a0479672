use Rattle.runs.proofs.Keeps.{run_lasts}
use Rattle.runs.proofs.promises.lasts_stands.Goals as goal

pub returns : goal.returns
returns c = run_lasts
