-- What is the same with everything that counts is the same by definition.
use Rattle.std.proofs.Common.{ℕ, zero, suc, inl, inr, Option, Some, None, List, [], ◌∷◌}
use Rattle.crs_shape.specs.declared.unit_kind.UnitKind.{UnitKind}
use Rattle.crs_shape.specs.declared.unit_kind.UnitKind.TheVariants as kinds
use Rattle.crs_value.specs.declared.values.compound.Horizontal.TheVariants as horizontal
use Rattle.crs_value.specs.declared.values.crs.Crs.{Crs}
use Rattle.crs_value.specs.declared.values.crs.Crs.TheVariants as crs
use Rattle.crs_value.specs.declared.values.frame.Frame.TheVariants as frame
use Rattle.crs_value.specs.declared.values.level.Level.TheVariants as levels
use Rattle.crs_value.specs.inner.Prelude.{ParameterParts, GeoidModelParts, DeformationModelParts, AxisParts, AxisMeridianParts, MemberParts, SystemParts, UnitParts}
use Rattle.crs_same.specs.declared.step.Step.{Step}
use Rattle.crs_same.specs.declared.step.Step.TheVariants as step
use Rattle.crs_same.specs.Parts.{◌▸◌, Parts, PartsOf, AllSame}
use Rattle.crs_same.specs.Parts.{parts_of_method, parts_of_conversion, parts_of_dynamic, parts_of_tail, parts_of_geodetic, parts_of_base, parts_of_projected, parts_of_vertical, parts_of_horizontal, parts_of_compound}
use Rattle.crs_same.specs.Parts.{parts_of_ellipsoid, parts_of_ellipsoids, parts_of_given, or_greenwich, parts_of_meridian, parts_of_datum, parts_of_ensemble, parts_of_frame, parts_of_axis, parts_at, parts_of_axes, parts_of_system, nodes}
use Rattle.crs_same.specs.inner.Prelude.{SameParameter, SameGeoidModel, SameDeformationModel, SameMember, SameAxisMeridian, SameUnitAsked, SameLength, or_metre, BothOrNeither, HasSame, AllHaveSame, SameSet}
use Rattle.crs_same.specs.SameCrs.{SameCrs}

-- ---- what may be missing, and sets

module _ {V : Type 0} (P Q : V → V → Type 0) (f : (a b : V) → P a b → Q a b) where
  optional : (a b : Option V) → BothOrNeither P a b → BothOrNeither Q a b
  optional None None s = tt
  optional (Some a) (Some b) s = f a b s
  optional a b s = absurd s

  has : (x : V) (ys : List V) → HasSame P x ys → HasSame Q x ys
  has x [] h = absurd h
  has x (y ∷ ys) (inl s) = inl (f x y s)
  has x (y ∷ ys) (inr h) = inr (has x ys h)

  all : (xs ys : List V) → AllHaveSame P xs ys → AllHaveSame Q xs ys
  all [] ys h = tt
  all (x ∷ xs) ys h = (has x ys h.0, all xs ys h.1)

  set : (xs ys : List V) → SameSet P xs ys → SameSet Q xs ys
  set xs ys s = (all xs ys s.0, all ys xs s.1)

-- ---- units, and what is compared whole

unit : (asked other : UnitKind) (a b : UnitParts) → SameUnitAsked asked other levels.Full a b → SameUnitAsked asked other levels.Definition a b
unit asked other a b s = record { kind = s.kind; name = s.name; factor = s.factor; identifiers = (tt, tt) }

metres : (a b : Option UnitParts) → SameLength levels.Full a b → SameLength levels.Definition a b
metres a b s = unit kinds.Length kinds.Length (or_metre a) (or_metre b) s

units : (asked other : UnitKind) (a b : Option UnitParts) → BothOrNeither (SameUnitAsked asked other levels.Full) a b →
    BothOrNeither (SameUnitAsked asked other levels.Definition) a b
units asked other =
    optional (SameUnitAsked asked other levels.Full) (SameUnitAsked asked other levels.Definition) (unit asked other)

parameters : (a b : List ParameterParts) → SameSet (SameParameter levels.Full) a b → SameSet (SameParameter levels.Definition) a b
parameters = set (SameParameter levels.Full) (SameParameter levels.Definition)
    (λ a b s. record { name = s.name; value = s.value; unit = units kinds.Plain kinds.Plain a.unit b.unit s.unit; identifiers = (tt, tt) })

geoid_models : (a b : List GeoidModelParts) → SameSet (SameGeoidModel levels.Full) a b → SameSet (SameGeoidModel levels.Definition) a b
geoid_models = set (SameGeoidModel levels.Full) (SameGeoidModel levels.Definition) (λ a b s. record { name = s.name; identifiers = (tt, tt) })

members : (a b : List MemberParts) → SameSet (SameMember levels.Full) a b → SameSet (SameMember levels.Definition) a b
members = set (SameMember levels.Full) (SameMember levels.Definition) (λ a b s. record { name = s.name; identifiers = (tt, tt) })

models : (a b : Option DeformationModelParts) → BothOrNeither (SameDeformationModel levels.Full) a b → BothOrNeither (SameDeformationModel levels.Definition) a b
models = optional (SameDeformationModel levels.Full) (SameDeformationModel levels.Definition) (λ a b s. record { name = s.name; identifiers = (tt, tt) })

axis_meridians : (a b : Option AxisMeridianParts) → BothOrNeither (SameAxisMeridian levels.Full) a b → BothOrNeither (SameAxisMeridian levels.Definition) a b
axis_meridians =
    optional (SameAxisMeridian levels.Full) (SameAxisMeridian levels.Definition)
    (λ a b s. record { longitude = s.longitude; unit = unit kinds.Angle kinds.Angle a.unit b.unit s.unit })

-- ---- the parts of two values: where all are the same with everything, all are by definition

abbrev Narrows : {V : Type 0} → PartsOf V → Type 0
Narrows {V} parts = (at : List Step) (a b : V) → AllSame (parts at levels.Full a b) → AllSame (parts at levels.Definition a b)

either : {V : Type 0} (at : List Step) (name_of : V → List ℕ) (P Q : V → V → Parts) → ((a b : V) → AllSame (P a b) → AllSame (Q a b)) →
    (a b : Option V) → AllSame (nodes at name_of P a b) → AllSame (nodes at name_of Q a b)
either at name_of P Q narrow (Some a) (Some b) s = narrow a b s
either at name_of P Q narrow a b s = s

method : Narrows parts_of_method
unfolding parts_of_method
method at a b = assumption

conversion : Narrows parts_of_conversion
unfolding parts_of_conversion
conversion at a b s = assumption (method (at ▸ step.Method) a.method b.method s.1.0, parameters a.parameters b.parameters s.1.1.0)

dynamic : Narrows parts_of_dynamic
unfolding parts_of_dynamic
dynamic at a b s = assumption (models _ _ s.1)

tail : Narrows parts_of_tail
unfolding parts_of_tail
tail at a b = assumption

-- ---- frames

ellipsoid : Narrows parts_of_ellipsoid
ellipsoid at a b s = assumption (metres a.unit b.unit s.1.1.1.0)

ellipsoids : Narrows parts_of_ellipsoids
ellipsoids at = either at (λ e. e.name) (parts_of_ellipsoid at levels.Full) (parts_of_ellipsoid at levels.Definition) (ellipsoid at)

given : Narrows parts_of_given
given at a b s = search (s.0, s.1.0, units)

meridian : Narrows parts_of_meridian
unfolding parts_of_meridian
meridian at a b s = given at (or_greenwich a) (or_greenwich b) s

datum : Narrows parts_of_datum
datum at a b s = assumption (ellipsoids (at ▸ step.Ellipsoid) a.ellipsoid b.ellipsoid s.1.0)

ensemble : Narrows parts_of_ensemble
ensemble at a b s = assumption (members a.members b.members s.1.0, ellipsoids (at ▸ step.Ellipsoid) a.ellipsoid b.ellipsoid s.1.1.0)

frame-of : Narrows parts_of_frame
unfolding parts_of_frame
frame-of at (frame.Datum a) (frame.Datum b) s = datum at a b s
frame-of at (frame.Ensemble a) (frame.Ensemble b) s = ensemble at a b s
frame-of at a b s = absurd s.0

-- ---- coordinate systems

axis : (at : List Step) (a b : SystemParts) (x y : AxisParts) → AllSame (parts_of_axis at levels.Full a b x y) →
    AllSame (parts_of_axis at levels.Definition a b x y)
unfolding parts_of_axis
axis at a b x y s = assumption (axis_meridians x.meridian y.meridian s.1.1.0, units _ _ _ _ s.1.1.1.0)

axes-at : (at : List Step) (a b : SystemParts) (position : ℕ) → AllSame (parts_at at levels.Full a b position) →
    AllSame (parts_at at levels.Definition a b position)
axes-at at a b position (x, here, (y, there, s)) =
    (x, here, (y, there, either at (λ axis. axis.name) (parts_of_axis at levels.Full a b) (parts_of_axis at levels.Definition a b) (axis at a b) x y s))

axes : (at : List Step) (a b : SystemParts) (count : ℕ) → AllSame (parts_of_axes at levels.Full a b count) →
    AllSame (parts_of_axes at levels.Definition a b count)
axes at a b zero s = tt
axes at a b (suc count) s = (axes at a b count s.0, axes-at (at ▸ step.Axis (suc count)) a b (suc count) s.1)

system : Narrows parts_of_system
unfolding parts_of_system
system at a b s = assumption (axes at a b _ s.1.1.1)

-- ---- CRSs

geodetic : Narrows parts_of_geodetic
unfolding parts_of_geodetic
geodetic at a b s = assumption (dynamic _ _ _ s.1.1.0, frame-of _ _ _ s.1.1.1.0, meridian _ _ _ s.1.1.1.1.0, system _ _ _ s.1.1.1.1.1.0, tail _ _ _ s.1.1.1.1.1.1)

base : Narrows parts_of_base
unfolding parts_of_base
base at a b s = assumption (dynamic _ _ _ s.1.0, frame-of _ _ _ s.1.1.0, meridian _ _ _ s.1.1.1.0, units _ _ a.unit b.unit s.1.1.1.1.0)

projected : Narrows parts_of_projected
unfolding parts_of_projected
projected at a b s = assumption (base _ _ _ s.1.0, conversion _ _ _ s.1.1.0, system _ _ _ s.1.1.1.0, tail _ _ _ s.1.1.1.1)

vertical : Narrows parts_of_vertical
unfolding parts_of_vertical
vertical at a b s = assumption (dynamic _ _ _ s.1.0, frame-of _ _ _ s.1.1.0, system _ _ _ s.1.1.1.0, geoid_models _ _ s.1.1.1.1.0, tail _ _ _ s.1.1.1.1.1)

horizontal-of : Narrows parts_of_horizontal
unfolding parts_of_horizontal
horizontal-of at (horizontal.Geodetic a) (horizontal.Geodetic b) s = geodetic at a b s
horizontal-of at (horizontal.Projected a) (horizontal.Projected b) s = projected at a b s
horizontal-of at a b s = s

compound : Narrows parts_of_compound
unfolding parts_of_compound
compound at a b s = assumption (horizontal-of _ _ _ s.1.0, vertical _ _ _ s.1.1.0, tail _ _ _ s.1.1.1)

pub same-by-definition : (a b : Crs) → SameCrs levels.Full a b → SameCrs levels.Definition a b
unfolding SameCrs
same-by-definition (crs.Geodetic a) (crs.Geodetic b) s = geodetic [] a b s
same-by-definition (crs.Projected a) (crs.Projected b) s = projected [] a b s
same-by-definition (crs.Vertical a) (crs.Vertical b) s = vertical [] a b s
same-by-definition (crs.Compound a) (crs.Compound b) s = compound [] a b s
same-by-definition a b s = absurd s
