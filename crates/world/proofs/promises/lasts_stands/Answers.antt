use Rattle.world.proofs.Lasts.{run_lasts}
use Rattle.world.proofs.promises.lasts_stands.Goals as goal

pub returns : goal.returns
returns c = run_lasts
