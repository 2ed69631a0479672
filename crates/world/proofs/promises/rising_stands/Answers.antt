use Rattle.world.proofs.Rises.{run_rises_lem}
use Rattle.world.proofs.promises.rising_stands.Goals as goal

pub returns : goal.returns
returns c = run_rises_lem
