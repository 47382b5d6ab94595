use Rattle.crs_normal.proofs.same.CrsLemmas.{crs-agrees}
use Rattle.crs_normal.proofs.same.PartLemmas.{decides-parts}
use Rattle.crs_normal.proofs.laws.texts.same_crss_have_one_form.Goals as goal

pub returns : goal.returns
returns c level =
    decides-parts (c.parts_agree_where_same.ensures level).crs (crs-agrees c.lower_laws.ensures c.sets_decide.ensures level)
