use Rattle.files.proofs.Encodings.{all_seen}
use Rattle.files.proofs.records.records_stand.Goals as goal

pub returns : goal.returns
returns c = all_seen
