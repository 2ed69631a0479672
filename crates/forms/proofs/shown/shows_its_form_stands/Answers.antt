use Rattle.forms.proofs.Laws.{shows_its_form}
use Rattle.forms.proofs.shown.shows_its_form_stands.Goals as goal

pub returns : goal.returns
returns c = shows_its_form
