use Rattle.std.proofs.Common.{Result, rules}
use Rattle.levels.specs.Rules.{Boat}
use Rattle.levels.specs.Standings.{gone_back}
use Rattle.levels.specs.Verdicts.{Verdict}
use Rattle.fleet.proofs.fleet.Fleet.go_back.Goals as goal

pub returns : goal.returns
returns c =
    let make : Boat → Result Boat Verdict = λ s. gone_back s c.args.to.0 in
    c.begin.ensures make (λ s r p. search rules, λ s. search rules)
