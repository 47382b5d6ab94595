use Rattle.crs_same.proofs.ExchangedLemmas.{crs-of}
use Rattle.crs_same.proofs.laws.differences_are_exchanged.Goals as goal

pub returns : goal.returns
returns c level a b = (crs-of level c.same_value_is_equivalence.ensures.symmetric a b).turned
