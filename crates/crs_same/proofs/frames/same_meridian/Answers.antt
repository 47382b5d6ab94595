use Rattle.std.proofs.Common.{[]}
use Rattle.crs_same.proofs.AllSameLemmas.{walked-same}
use Rattle.crs_same.proofs.EachPartLemmas.{given}
use Rattle.crs_same.proofs.SettledLemmas.{without}
use Rattle.crs_same.proofs.frames.same_meridian.Goals as goal

pub returns : goal.returns
returns c = walked-same _ _ _ _ (given (without c.args.level) [] c.args.a.now c.args.b.now tt) c.start.ensures.path c.start.ensures.level c.first.ensures c.given.ensures c.is_same.ensures
