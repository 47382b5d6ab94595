use Rattle.crs_same.proofs.PositionLemmas.{as-many}
use Rattle.crs_same.proofs.laws.as_many_axes.Goals as goal

pub returns : goal.returns
returns c = as-many c.same_number_is_equivalence.ensures.symmetric c.same_number_is_equivalence.ensures.transitive
