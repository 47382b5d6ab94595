use Rattle.std.proofs.Common.{[]}
use Rattle.crs_same.proofs.AllSameLemmas.{walked-same}
use Rattle.crs_same.proofs.EachPartLemmas.{datum}
use Rattle.crs_same.proofs.SettledLemmas.{without}
use Rattle.crs_same.proofs.frames.same_datum.Goals as goal

pub returns : goal.returns
returns c = walked-same _ _ _ _ (datum (without c.args.level) [] c.args.a.now c.args.b.now tt) c.start.ensures.path c.start.ensures.level c.first.ensures c.datum.ensures c.is_same.ensures
