use Rattle.std.proofs.Common.{rules}
use Rattle.waters.specs.Waters.{ordered, Promise}
use Rattle.waters.proofs.waters.Waters.promise.Goals as goal

pub returns : goal.returns
returns c = c.at_boat.ensures (λ b v. ordered b Promise c.args.fate v) (λ v a u t. search rules)
