use Rattle.protocol.proofs.AllRuns.{shown_rises}
use Rattle.protocol.proofs.shown_rises_stands.Goals as goal

pub returns : goal.returns
returns c = shown_rises
