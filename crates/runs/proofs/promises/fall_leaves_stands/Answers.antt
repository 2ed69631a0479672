use Rattle.runs.proofs.Keeps.{fall_leaves}
use Rattle.runs.proofs.promises.fall_leaves_stands.Goals as goal

pub returns : goal.returns
returns c = fall_leaves
