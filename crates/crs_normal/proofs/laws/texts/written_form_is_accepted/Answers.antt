use Rattle.crs_normal.proofs.made.CrsLemmas.{crs-made}
use Rattle.crs_normal.proofs.read.CompoundLemmas.{crs-read}
use Rattle.crs_normal.proofs.texts.RootLemmas.{form-spells}
use Rattle.crs_normal.proofs.laws.texts.written_form_is_accepted.Goals as goal

pub returns : goal.returns
returns c level crs sound =
    let laws = c.lower_laws.ensures in
    form-spells laws.shape laws.spells level crs (crs-made laws level crs sound 0) (crs-read laws level crs sound 0)
