use Rattle.crs_shape.specs.declared.unit_kind.UnitKind.TheVariants as kinds
use Rattle.crs_same.specs.inner.SamenessLaws.{equal-by, by, ◌⊗◌, in-words, optional}
use Rattle.crs_same.proofs.laws.parts.same_parameter_is_equivalence.Goals as goal

pub returns : goal.returns
returns c level =
    in-words
    (equal-by (λ a. a.name) ⊗ by (λ a. a.value) c.same_value_is_equivalence.ensures
    ⊗ by (λ a. a.unit) (optional (c.same_unit_is_equivalence.ensures kinds.Plain level))
    ⊗ by (λ a. a.identifiers) (c.same_idents_is_equivalence.ensures level)) (assumption) (assumption)
