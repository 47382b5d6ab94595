use Rattle.crs_same.proofs.AllSameLemmas.{walked-same}
use Rattle.crs_same.proofs.EachPartLemmas.{base}
use Rattle.crs_same.proofs.SettledLemmas.{without}
use Rattle.crs_same.proofs.crs.same_base.Goals as goal

pub returns : goal.returns
returns c = walked-same _ _ _ _ (base (without _) _ _ _ tt) c.start.ensures.path c.start.ensures.level c.first.ensures c.base.ensures c.is_same.ensures
