use Rattle.crs_decimal.proofs.NumberLemmas.{denoted_one}
use Rattle.crs_decimal.proofs.laws.denotes_one.Goals as goal

pub returns : goal.returns
returns c = denoted_one
