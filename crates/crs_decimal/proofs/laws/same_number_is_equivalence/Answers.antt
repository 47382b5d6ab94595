use Rattle.crs_decimal.proofs.NumberLemmas as number
use Rattle.crs_decimal.proofs.laws.same_number_is_equivalence.Goals as goal

pub returns : goal.returns
returns c = record { reflexive = number.reflexive; symmetric = number.symmetric; transitive = number.transitive }
