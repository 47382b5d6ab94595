use Rattle.crs_normal.proofs.made.CrsLemmas.{crs-text-normal}
use Rattle.crs_normal.proofs.laws.texts.written_form_is_normal.Goals as goal

pub returns : goal.returns
returns c = crs-text-normal c.lower_laws.ensures
