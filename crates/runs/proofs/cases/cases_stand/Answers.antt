use Rattle.std.proofs.Common.{refl}
use Rattle.runs.proofs.cases.cases_stand.Goals as goal

pub returns : goal.returns
returns c = refl
