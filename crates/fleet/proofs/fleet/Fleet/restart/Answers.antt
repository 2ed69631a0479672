use Rattle.std.proofs.Common.{Ok, Result, rules}
use Rattle.levels.specs.Rules.{Boat}
use Rattle.levels.specs.Verdicts.{Verdict}
use Rattle.fleet.proofs.fleet.Fleet.restart.Goals as goal

pub returns : goal.returns
returns c =
    let make : Boat → Result Boat Verdict = λ s. Ok s in
    c.begin.ensures make (λ s r p. search rules, λ s. search rules)
