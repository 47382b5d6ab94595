use Rattle.crs_shape.specs.declared.unit_kind.UnitKind.TheVariants as kinds
use Rattle.crs_same.specs.SameParts.{or_metre}
use Rattle.crs_same.specs.inner.SamenessLaws.{by}
use Rattle.crs_same.proofs.laws.parts.same_length_is_equivalence.Goals as goal

pub returns : goal.returns
returns c level = by or_metre (c.same_unit_is_equivalence.ensures kinds.Length level)
