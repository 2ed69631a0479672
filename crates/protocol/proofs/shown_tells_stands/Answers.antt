use Rattle.protocol.proofs.AllRuns.{shown_tells}
use Rattle.protocol.proofs.shown_tells_stands.Goals as goal

pub returns : goal.returns
returns c = shown_tells
