use Rattle.crs_decimal.proofs.DigitLemmas.{few_in_bounds}
use Rattle.crs_decimal.proofs.laws.few_digits.Goals as goal

pub returns : goal.returns
returns c = few_in_bounds
