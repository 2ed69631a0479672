use Rattle.std.proofs.Common.{ap, ◌∙◌, arith}
use Rattle.std.specs.Map.{values_of}
use Rattle.logbooks.specs.Ships.{covers}
use Rattle.logbooks.proofs.Falls.{numbered_bare, rises_bare, length_bare, log_bare, counted_fallen}
use Rattle.logbooks.proofs.Covers.{covers_bare}
use Rattle.logbooks.proofs.log.Logbook.fall.Goals as goal

pub invariant_of-self : goal.invariant_of-self
invariant_of-self c =
    let m = c.args.self.now.ships in
    let n = c.forget.new.ships in
    let l = length_bare m n c.forget.ensures in
    record {
      keyed = numbered_bare m n c.forget.ensures c.args.self.now.keyed;
      sorted = rises_bare m n c.forget.ensures c.args.self.now.sorted;
      noted = ap (λ es. covers c.clear.new.self.keys (values_of es)) c.forget.ensures ∙ covers_bare c.clear.new.self.keys m.entries;
      counted = counted_fallen m n c.forget.ensures c.args.self.now.in_form c.args.self.now.counted;
      few = let f = c.args.self.now.few in omega arith;
    }

pub returns : goal.returns
returns c = log_bare c.args.self.now.ships c.forget.new.ships c.forget.ensures
