use Rattle.stations.proofs.Recalled.{boat_recalls}
use Rattle.stations.proofs.laws.boat_recalls_stands.Goals as goal

pub returns : goal.returns
returns c = boat_recalls
