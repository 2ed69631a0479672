use Rattle.std.proofs.Common.{rules}
use Rattle.waters.specs.Waters.{ordered, Tick}
use Rattle.waters.proofs.waters.Waters.tick.Goals as goal

pub returns : goal.returns
returns c = c.at_boat.ensures (λ b v. ordered b Tick c.args.fate v) (λ v a u t. search rules)
