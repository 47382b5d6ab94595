use Rattle.std.proofs.Common.{[]}
use Rattle.crs_same.proofs.AllSameLemmas.{walked-same}
use Rattle.crs_same.proofs.EachPartLemmas.{ensemble}
use Rattle.crs_same.proofs.SettledLemmas.{without}
use Rattle.crs_same.proofs.frames.same_ensemble.Goals as goal

pub returns : goal.returns
returns c = walked-same _ _ _ _ (ensemble (without c.args.level) [] c.args.a.now c.args.b.now tt) c.start.ensures.path c.start.ensures.level c.first.ensures c.ensemble.ensures c.is_same.ensures
