use Rattle.world.proofs.Kept.{run_promises}
use Rattle.world.proofs.promises.promises_stand.Goals as goal

pub returns : goal.returns
returns c = run_promises
