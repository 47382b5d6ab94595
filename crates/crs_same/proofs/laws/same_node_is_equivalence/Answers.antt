use Rattle.std.specs.Prelude.{[], ◌∷◌}
use Rattle.crs_shape.specs.declared.unit_kind.UnitKind.TheVariants as kinds
use Rattle.crs_value.specs.inner.Prelude.{kept, kept_one}
use Rattle.crs_same.specs.inner.Prelude.{agree-as, agree-as-of, same-as, same-as-of, equal-by, by, ◌⊗◌, optional, set, usages_of}
use Rattle.crs_same.specs.declared.step.Step.TheVariants as step
use Rattle.crs_same.specs.Parts.{AreSame, parts_of_conversion, parts_of_dynamic, parts_of_method, parts_of_tail, unit_of, or_greenwich, parts_of_meridian}
use Rattle.crs_same.specs.SameCrs.{SameDynamic}
use Rattle.crs_same.proofs.AgreementLemmas.{ellipsoids}
use Rattle.crs_same.proofs.SamenessOfCrsLemmas as crss
use Rattle.crs_same.proofs.SamenessOfFramesLemmas as frames
use Rattle.crs_same.proofs.SamenessOfSystemsLemmas as systems
use Rattle.crs_same.proofs.laws.same_node_is_equivalence.Goals as goal

pub returns-clause-method : goal.returns-clause-method
unfolding AreSame parts_of_method
returns-clause-method c level = equal-by (λ a. a.name) ⊗ by (λ a. a.identifiers) (c.same_idents_is_equivalence.ensures level)

pub returns-clause-conversion : goal.returns-clause-conversion
unfolding AreSame parts_of_conversion parts_of_method
returns-clause-conversion c level =
    equal-by (λ a. a.name) ⊗ by (λ a. a.method) (returns-clause-method c level)
    ⊗ by (λ a. a.parameters) (set (c.same_parameter_is_equivalence.ensures level)) ⊗ by (λ a. a.identifiers) (c.same_idents_is_equivalence.ensures level)

pub returns-clause-tail : goal.returns-clause-tail
unfolding AreSame parts_of_tail
returns-clause-tail c level =
    by (λ a. kept level (usages_of a)) (set c.same_part_is_equivalence.ensures.usage)
    ⊗ by (λ a. a.identifiers) (c.same_idents_is_equivalence.ensures level) ⊗ equal-by (λ a. kept_one level a.remark)

pub returns-clause-ellipsoid : goal.returns-clause-ellipsoid
unfolding AreSame
returns-clause-ellipsoid c level =
    let number = c.same_value_is_equivalence.ensures in
    equal-by (λ a. a.name) ⊗ by (λ a. a.semi_major_axis) number ⊗ by (λ a. a.inverse_flattening) number
    ⊗ by (λ a. a.unit) (c.same_length_is_equivalence.ensures level) ⊗ by (λ a. a.identifiers) (c.same_idents_is_equivalence.ensures level)

pub returns-clause-given : goal.returns-clause-given
unfolding AreSame
returns-clause-given c level =
    equal-by (λ a. a.name) ⊗ by (λ a. a.longitude) c.same_value_is_equivalence.ensures
    ⊗ by unit_of (optional (c.same_unit_is_equivalence.ensures kinds.Angle level)) ⊗ by (λ a. a.identifiers) (c.same_idents_is_equivalence.ensures level)

pub returns-clause-meridian : goal.returns-clause-meridian
unfolding AreSame parts_of_meridian
returns-clause-meridian c level = by or_greenwich (returns-clause-given c level)

pub returns-clause-datum : goal.returns-clause-datum
unfolding AreSame
returns-clause-datum c level =
    let is = c.parts_agree_where_same.ensures level in
    let rounds = same-as (ellipsoids level (step.Ellipsoid ∷ [])) (optional (agree-as is.ellipsoid (returns-clause-ellipsoid c level))) in
    equal-by (λ a. a.name) ⊗ by (λ a. a.ellipsoid) rounds ⊗ equal-by (λ a. a.anchor)
    ⊗ by (λ a. a.anchor_epoch) (optional c.same_value_is_equivalence.ensures) ⊗ by (λ a. a.identifiers) (c.same_idents_is_equivalence.ensures level)

pub returns-clause-ensemble : goal.returns-clause-ensemble
unfolding AreSame
returns-clause-ensemble c level =
    let is = c.parts_agree_where_same.ensures level in
    let rounds = same-as (ellipsoids level (step.Ellipsoid ∷ [])) (optional (agree-as is.ellipsoid (returns-clause-ellipsoid c level))) in
    equal-by (λ a. a.name) ⊗ by (λ a. a.members) (set (c.same_part_is_equivalence.ensures.member level)) ⊗ by (λ a. a.ellipsoid) rounds
    ⊗ by (λ a. a.accuracy) c.same_value_is_equivalence.ensures ⊗ by (λ a. a.identifiers) (c.same_idents_is_equivalence.ensures level)

pub returns-clause-frame : goal.returns-clause-frame
returns-clause-frame c level =
    let is = c.parts_agree_where_same.ensures level in
    same-as is.frame (frames.frame-of level (agree-as is.datum (returns-clause-datum c level)) (agree-as is.ensemble (returns-clause-ensemble c level)))

pub returns-clause-dynamic : goal.returns-clause-dynamic
unfolding AreSame SameDynamic parts_of_dynamic
returns-clause-dynamic c level =
    by (λ a. a.epoch) c.same_value_is_equivalence.ensures ⊗ by (λ a. a.model) (optional (c.same_part_is_equivalence.ensures.deformation_model level))

pub returns-clause-system : goal.returns-clause-system
returns-clause-system c level =
    let is = c.parts_agree_where_same.ensures level in
    same-as-of is.system
    (systems.system level (c.same_part_is_equivalence.ensures.axis_meridian level) (c.same_idents_is_equivalence.ensures level)
    (λ asked. c.same_unit_is_equivalence.ensures asked level) c.same_value_is_equivalence.ensures
    c.one_axis_each.ensures.some c.one_axis_each.ensures.one c.as_many_axes.ensures)

pub returns-clause-base : goal.returns-clause-base
returns-clause-base c level =
    let is = c.parts_agree_where_same.ensures level in
    same-as is.base
    (crss.base level (agree-as is.dynamic (returns-clause-dynamic c level)) (agree-as is.frame (returns-clause-frame c level))
    (agree-as is.meridian (returns-clause-meridian c level)) (c.same_unit_is_equivalence.ensures kinds.Angle level)
    (c.same_idents_is_equivalence.ensures level))

pub returns-clause-geodetic : goal.returns-clause-geodetic
returns-clause-geodetic c level =
    let is = c.parts_agree_where_same.ensures level in
    same-as-of is.geodetic
    (crss.geodetic level (agree-as-of is.system (returns-clause-system c level)) (agree-as is.tail (returns-clause-tail c level))
    (agree-as is.dynamic (returns-clause-dynamic c level)) (agree-as is.frame (returns-clause-frame c level))
    (agree-as is.meridian (returns-clause-meridian c level)))

pub returns-clause-projected : goal.returns-clause-projected
returns-clause-projected c level =
    let is = c.parts_agree_where_same.ensures level in
    same-as-of is.projected
    (crss.projected level (agree-as-of is.system (returns-clause-system c level)) (agree-as is.tail (returns-clause-tail c level))
    (agree-as is.base (returns-clause-base c level)) (agree-as is.conversion (returns-clause-conversion c level)))

pub returns-clause-vertical : goal.returns-clause-vertical
returns-clause-vertical c level =
    let is = c.parts_agree_where_same.ensures level in
    same-as-of is.vertical
    (crss.vertical level (agree-as-of is.system (returns-clause-system c level)) (agree-as is.tail (returns-clause-tail c level))
    (agree-as is.dynamic (returns-clause-dynamic c level)) (agree-as is.frame (returns-clause-frame c level))
    (c.same_part_is_equivalence.ensures.geoid_model level))

pub returns-clause-horizontal : goal.returns-clause-horizontal
returns-clause-horizontal c level =
    let is = c.parts_agree_where_same.ensures level in
    same-as-of is.horizontal
    (crss.horizontal-of level (agree-as-of is.geodetic (returns-clause-geodetic c level)) (agree-as-of is.projected (returns-clause-projected c level)))

pub returns-clause-compound : goal.returns-clause-compound
returns-clause-compound c level =
    let is = c.parts_agree_where_same.ensures level in
    same-as-of is.compound
    (crss.compound level (agree-as-of is.horizontal (returns-clause-horizontal c level)) (agree-as-of is.vertical (returns-clause-vertical c level))
    (agree-as is.tail (returns-clause-tail c level)))
