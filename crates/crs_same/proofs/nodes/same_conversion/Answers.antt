use Rattle.crs_same.proofs.AllSameLemmas.{walked-same}
use Rattle.crs_same.proofs.EachPartLemmas.{conversion}
use Rattle.crs_same.proofs.SettledLemmas.{without}
use Rattle.crs_same.proofs.nodes.same_conversion.Goals as goal

pub returns : goal.returns
returns c = walked-same _ _ _ _ (conversion (without _) _ _ _ tt) c.start.ensures.path c.start.ensures.level c.first.ensures c.conversion.ensures c.is_same.ensures
