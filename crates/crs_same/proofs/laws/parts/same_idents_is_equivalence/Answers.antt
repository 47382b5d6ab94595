use Rattle.crs_value.specs.inner.Prelude.{kept}
use Rattle.crs_same.specs.inner.SamenessLaws.{by, set}
use Rattle.crs_same.proofs.laws.parts.same_idents_is_equivalence.Goals as goal

pub returns : goal.returns
returns c level = by (kept level) (set c.same_ident_is_equivalence.ensures)
