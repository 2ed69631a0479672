use Rattle.std.proofs.Common.{◌∙◌, rules, tests}
use Rattle.std.proofs.lemmas.Iterator.{YieldsList-from_slice}
use Rattle.std.proofs.lemmas.Iterator.Search.{all_from_yields_List}
use Rattle.records.specs.Records.{written}
use Rattle.stations.specs.Journals as journal
use Rattle.stations.proofs.Files.{every_all}
use Rattle.boats.proofs.survey.Survey.reads_all.Goals as goal

pub returns : goal.returns
returns c =
    all_from_yields_List (λ r. journal.boat_reads c.args.program.0 (written r)) _ _ c.all.result c.all.ensures.ran (YieldsList-from_slice c.args.journal.now cc) (λ x b q k. search (rules, tests)) ∙ every_all (journal.boat_reads c.args.program.0) c.args.journal.now
