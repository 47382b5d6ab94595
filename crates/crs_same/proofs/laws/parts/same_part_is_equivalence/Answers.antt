use Rattle.crs_shape.specs.declared.unit_kind.UnitKind.TheVariants as kinds
use Rattle.crs_value.specs.declared.values.level.Level.TheVariants as levels
use Rattle.crs_same.specs.inner.SamenessLaws.{equal-by, by, ◌⊗◌, in-words, optional}
use Rattle.crs_same.proofs.laws.parts.same_part_is_equivalence.Goals as goal

pub returns-clause-geoid_model : goal.returns-clause-geoid_model
returns-clause-geoid_model c level =
    in-words (equal-by (λ a. a.name) ⊗ by (λ a. a.identifiers) (c.same_idents_is_equivalence.ensures level)) (assumption) (assumption)

pub returns-clause-deformation_model : goal.returns-clause-deformation_model
returns-clause-deformation_model = returns-clause-geoid_model

pub returns-clause-member : goal.returns-clause-member
returns-clause-member = returns-clause-geoid_model

pub returns-clause-bounding_box : goal.returns-clause-bounding_box
returns-clause-bounding_box c =
    let number = c.same_value_is_equivalence.ensures in
    in-words (by (λ a. a.south) number ⊗ by (λ a. a.west) number ⊗ by (λ a. a.north) number ⊗ by (λ a. a.east) number) (assumption) (assumption)

pub returns-clause-extent : goal.returns-clause-extent
returns-clause-extent c level =
    let number = c.same_value_is_equivalence.ensures in
    in-words (by (λ a. a.minimum) number ⊗ by (λ a. a.maximum) number ⊗ by (λ a. a.unit) (c.same_length_is_equivalence.ensures level)) (assumption) (assumption)

pub returns-clause-usage : goal.returns-clause-usage
returns-clause-usage c =
    in-words
    (equal-by (λ a. a.scope) ⊗ equal-by (λ a. a.area) ⊗ by (λ a. a.bbox) (optional (returns-clause-bounding_box c))
    ⊗ by (λ a. a.extent) (optional (returns-clause-extent c levels.Full))) (assumption) (assumption)

pub returns-clause-axis_meridian : goal.returns-clause-axis_meridian
returns-clause-axis_meridian c level =
    in-words
    (by (λ a. a.longitude) c.same_value_is_equivalence.ensures ⊗ by (λ a. a.unit) (c.same_unit_is_equivalence.ensures kinds.Angle level)) (assumption) (assumption)

pub returns-clause-axis : goal.returns-clause-axis
returns-clause-axis c level =
    in-words
    (equal-by (λ a. a.name) ⊗ equal-by (λ a. a.direction)
    ⊗ by (λ a. a.meridian) (optional (returns-clause-axis_meridian c level))
    ⊗ by (λ a. a.order) (optional c.same_value_is_equivalence.ensures)
    ⊗ by (λ a. a.unit) (optional (c.same_unit_is_equivalence.ensures kinds.Plain level))
    ⊗ by (λ a. a.identifiers) (c.same_idents_is_equivalence.ensures level)) (assumption) (assumption)
