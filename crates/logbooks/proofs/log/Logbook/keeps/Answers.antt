use Rattle.std.proofs.Common.{ℕ, subst, rules}
use Rattle.logbooks.specs.Logs.{kept_all}
use Rattle.logbooks.specs.Ships.{slots_of}
use Rattle.std.specs.BTreeMap.{values}
use Rattle.logbooks.proofs.Counts.{Looked, keeps_is}
use Rattle.logbooks.proofs.log.Logbook.keeps.Goals as goal

pub returns : goal.returns
returns c =
    keeps_is (kept_all (slots_of (values c.args.self.now.ships))) c.args.self.now.in_form c.args.form.0 c.get.result c.is_some_and.result _ c.args.self.now.counted (subst (λ (k : ℕ). Looked c.args.self.now.in_form k c.get.result) c.from.ensures c.get.ensures.lookup.3) (λ x q. search rules) c.is_some_and.ensures
