use Rattle.forms.proofs.Laws.{laws}
use Rattle.forms.proofs.word.laws_stand.Goals as goal

pub returns : goal.returns
returns c = laws
