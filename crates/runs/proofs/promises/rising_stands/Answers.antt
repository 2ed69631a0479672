use Rattle.runs.proofs.Rises.{run_rises_lem}
use Rattle.runs.proofs.promises.rising_stands.Goals as goal

pub returns : goal.returns
returns c = run_rises_lem
