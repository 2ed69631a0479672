use Rattle.std.proofs.Common.{rules}
use Rattle.waters.specs.Waters.{ordered, Open}
use Rattle.waters.proofs.waters.Waters.open.Goals as goal

pub returns : goal.returns
returns c = c.at_boat.ensures (λ b v. ordered b (Open c.args.program) c.args.fate v) (λ v a u t. search rules)
