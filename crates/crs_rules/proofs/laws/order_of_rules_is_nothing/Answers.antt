use Rattle.crs_rules.proofs.OrderLemmas.{same-form}
use Rattle.crs_rules.proofs.SteadyLemmas.{clear}
use Rattle.crs_rules.proofs.laws.order_of_rules_is_nothing.Goals as goal

pub returns : goal.returns
returns c = λ r s d h level text bytes f. same-form r s d (clear r h) level text bytes f
