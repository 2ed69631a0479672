use Rattle.stations.proofs.Enlisted.{harbour_recalls}
use Rattle.stations.proofs.laws.harbour_recalls_stands.Goals as goal

pub returns : goal.returns
returns c = harbour_recalls
