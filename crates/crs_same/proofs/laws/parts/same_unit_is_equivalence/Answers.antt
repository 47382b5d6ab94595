use Rattle.crs_same.specs.SameParts.{kind_as}
use Rattle.crs_same.specs.inner.SamenessLaws.{equal-by, by, ◌⊗◌, in-words}
use Rattle.crs_same.proofs.laws.parts.same_unit_is_equivalence.Goals as goal

pub returns : goal.returns
returns c asked level =
    in-words
    (equal-by (λ a. kind_as asked a.kind) ⊗ equal-by (λ a. a.name) ⊗ by (λ a. a.factor) c.same_value_is_equivalence.ensures
    ⊗ by (λ a. a.identifiers) (c.same_idents_is_equivalence.ensures level)) (assumption) (assumption)
