use Rattle.crs_normal.proofs.normal.TextLemmas.{text-form}
use Rattle.crs_normal.proofs.laws.texts.normal_text_is_its_form.Goals as goal

pub returns : goal.returns
returns c = text-form c.lower_laws.ensures
