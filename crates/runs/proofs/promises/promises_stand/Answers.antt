use Rattle.runs.proofs.Keeps.{run_promises}
use Rattle.runs.proofs.promises.promises_stand.Goals as goal

pub returns : goal.returns
returns c = run_promises
