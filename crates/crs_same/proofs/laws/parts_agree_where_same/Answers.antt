use Rattle.crs_same.proofs.AgreementLemmas.{agree-where-same}
use Rattle.crs_same.proofs.laws.parts_agree_where_same.Goals as goal

pub returns : goal.returns
returns c level = agree-where-same level c.as_many_axes.ensures c.one_axis_each.ensures.some
