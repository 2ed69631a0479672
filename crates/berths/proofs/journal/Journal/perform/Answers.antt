use Rattle.std.proofs.Common.{◌≡◌, ap, ◌∙◌, arith}
use Rattle.std.proofs.lemmas.Grind.{common_steps}
use Rattle.records.specs.Records.{written}
use Rattle.stations.specs.Deeds.{option}
use Rattle.runs.specs.Disks.{reached, shortened}
use Rattle.berths.specs.Disks.{disk}
use Rattle.berths.proofs.Files.{cut_short}
use Rattle.berths.proofs.journal.Journal.perform.Goals as goal

pub returns-in-Cut : goal.returns-in-Cut
returns-in-Cut c =
    let q : disk c.if-effects-ge2.self ≡ reached c.args.course.syncs c.in-Cut.effects (option written c.args.record) (disk c.args.self.now) = grind (arith, common_steps) in
    rw c.in-Cut.is (cut_short c.if-effects-ge2.self.records c.cut.new.self c.in-Cut.left c.cut.ensures ∙ ap (shortened c.in-Cut.left) q)
