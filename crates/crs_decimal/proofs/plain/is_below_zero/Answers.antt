use Rattle.std.proofs.Common.{rules}
use Rattle.crs_decimal.proofs.PlainBytesLemmas.{below-zero}
use Rattle.crs_decimal.proofs.plain.is_below_zero.Goals as goal

pub returns-then-rest-gt1 : goal.returns-then-rest-gt1
returns-then-rest-gt1 c = search (rules, below-zero)
