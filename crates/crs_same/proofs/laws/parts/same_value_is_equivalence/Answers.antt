use Rattle.crs_decimal.specs.inner.Prelude.{SameNumber, exact}
use Rattle.crs_same.specs.SameParts.{SameValue}
use Rattle.crs_same.specs.inner.SamenessLaws.{by}
use Rattle.crs_same.proofs.laws.parts.same_value_is_equivalence.Goals as goal

pub returns : goal.returns
unfolding SameValue
returns c = by {Same = SameNumber} exact (assumption c.same_number_is_equivalence.ensures)
