use Rattle.crs_rules.proofs.OwnFormLemmas.{own-form}
use Rattle.crs_rules.proofs.laws.forms_are_their_own.Goals as goal

pub returns : goal.returns
returns c = λ r level text bytes h s f. own-form level (c.form_laws.ensures level) c.set_laws.ensures r h s text bytes f
