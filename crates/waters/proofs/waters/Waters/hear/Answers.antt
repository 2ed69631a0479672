use Rattle.std.proofs.Common.{rules}
use Rattle.waters.specs.Waters.{ordered, Hear}
use Rattle.waters.proofs.waters.Waters.hear.Goals as goal

pub returns : goal.returns
returns c = c.at_boat.ensures (λ b v. ordered b (Hear c.args.message) c.args.fate v) (λ v a u t. search rules)
