use Rattle.crs_same.proofs.AllSameLemmas.{walked-same}
use Rattle.crs_same.proofs.EachPartLemmas.{frame-of}
use Rattle.crs_same.proofs.SettledLemmas.{without}
use Rattle.crs_same.proofs.frames.same_frame.Goals as goal

pub returns : goal.returns
returns c = walked-same _ _ _ _ (frame-of (without _) _ _ _ tt) c.start.ensures.path c.start.ensures.level c.first.ensures c.frame.ensures c.is_same.ensures
