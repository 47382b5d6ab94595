use Rattle.crs_decimal.proofs.ValueLemmas.{bounded-denotes}
use Rattle.crs_decimal.proofs.laws.denotes_some.Goals as goal

pub returns : goal.returns
returns c = bounded-denotes
