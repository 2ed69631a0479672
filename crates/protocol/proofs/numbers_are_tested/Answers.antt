use Rattle.protocol.proofs.AllRuns.{numbers_truthful}
use Rattle.protocol.proofs.numbers_are_tested.Goals as goal

pub returns : goal.returns
returns c = numbers_truthful
