-- Uniqueness of coordinate reference systems: an item reads as at most one.
use Rattle.std.proofs.Common.{◌≡◌, Some, None, List, [], ◌∷◌, refl, ap, subst}
use Rattle.crs_text.specs.inner.Prelude.{Item, arguments}
use Rattle.crs_shape.specs.declared.class.Class.{Class}
use Rattle.crs_shape.specs.declared.class.Class.TheVariants as class
use Rattle.crs_value.specs.declared.values.compound.Horizontal.TheVariants as horizontals
use Rattle.crs_value.specs.declared.values.crs.Crs.TheVariants as crs
use Rattle.crs_value.specs.declared.values.frame.Frame.TheVariants as frames
use Rattle.crs_value.specs.Reading.{those, ReadsElse, ReadsOne, ReadsOneElse, ReadsNamed}
use Rattle.crs_value.specs.Reads.{ReadsNumberOf, ReadsUnit, ReadsMeridian, ReadsAsUnit, ReadsUnitOf, parameter_units, ReadsParameter, ReadsConversion, ReadsDynamic}
use Rattle.crs_value.specs.ReadsCrs.{IsGeodeticClass, ReadsAsDatum, ReadsAsEnsemble, ReadsFrame, ReadsGeodetic, ReadsBase, ReadsProjected, ReadsVertical, ReadsAsHorizontal, ReadsHorizontal, ReadsCompound, ReadsCrs}
use Rattle.crs_value.proofs.checked.CheckLemmas.{DenotesOne, first-one}
use Rattle.crs_value.proofs.one.ValueLemmas.{IsOne, one-optional, one-each, text-of-one, number-of-one, identifiers-one, named-one, unit-one, meridian-one, datum-one, ensemble-one, tail-one, system-one}

one-else : {V : Type 0} (R : Item → V → Type 0) (Other : V → Type 0) → IsOne R → ((a b : V) → Other a → Other b → a ≡ b) → (items : List Item) (a b : V) →
    ReadsElse R items Other a → ReadsElse R items Other b → a ≡ b
one-else R Other one other [] a b p q = other a b p q
one-else R Other one other (i ∷ items) a b p q = one i a b p q

-- an argument of this class, and where there is none what the rest says
one-or : {V : Type 0} (R : Class → Item → V → Type 0) (d : Class) (Other : Class → Item → V → Type 0) → IsOne (R d) → ((c : Class) → IsOne (Other c)) → (c : Class) →
    IsOne (ReadsOneElse R d Other c)
one-or R d Other one other c item a b p q = one-else (R d) (Other c item) one (other c item) (those c d (arguments item)) a b p q

one-of : {V : Type 0} (R : Class → Item → V → Type 0) (d : Class) → IsOne (R d) → (c : Class) → IsOne (ReadsOne R d c)
one-of R d one c item a b p q = first-one (R d) one (those c d (arguments item)) a b p q

as_unit-one : DenotesOne → (d : Class) → IsOne (ReadsAsUnit d)
as_unit-one law d item None b p q = absurd p
as_unit-one law d item (Some a) None p q = absurd q
as_unit-one law d item (Some a) (Some b) p q = ap (λ x. Some x) (unit-one law d item a b p q)

unit_of-one : DenotesOne → (ds : List Class) (c : Class) → IsOne (ReadsUnitOf ds c)
unit_of-one law [] c item None None p q = refl
unit_of-one law [] c item None (Some b) p q = absurd q
unit_of-one law [] c item (Some a) b p q = absurd p
unit_of-one law (d ∷ ds) c item a b p q = one-or ReadsAsUnit d (ReadsUnitOf ds) (as_unit-one law d) (unit_of-one law ds) c item a b p q

pub parameter-one : DenotesOne → (c : Class) → IsOne (ReadsParameter c)
parameter-one law c item a b p q = λ i. record {
  name = text-of-one c item a.name b.name p.name q.name i;
  value = number-of-one law c item a.value b.value p.value q.value i;
  unit = unit_of-one law parameter_units c item a.unit b.unit p.unit q.unit i;
  identifiers = identifiers-one c item a.identifiers b.identifiers p.identifiers q.identifiers i;
}

pub conversion-one : DenotesOne → (c : Class) → IsOne (ReadsConversion c)
conversion-one law c item a b p q = λ i. record {
  name = text-of-one c item a.name b.name p.name q.name i;
  method = one-of ReadsNamed class.Method (named-one class.Method) c item a.method b.method p.method q.method i;
  parameters = one-each (ReadsParameter class.Parameter) (parameter-one law class.Parameter) (those c class.Parameter (arguments item)) a.parameters b.parameters p.parameters q.parameters i;
  identifiers = identifiers-one c item a.identifiers b.identifiers p.identifiers q.identifiers i;
}

as_datum-one : DenotesOne → (d : Class) → IsOne (ReadsAsDatum d)
as_datum-one law d item (frames.Datum a) (frames.Datum b) p q = ap (λ x. frames.Datum x) (datum-one law d item a b p q)
as_datum-one law d item (frames.Datum a) (frames.Ensemble b) p q = absurd q
as_datum-one law d item (frames.Ensemble a) b p q = absurd p

as_ensemble-one : DenotesOne → (d : Class) → IsOne (ReadsAsEnsemble d)
as_ensemble-one law d item (frames.Ensemble a) (frames.Ensemble b) p q = ap (λ x. frames.Ensemble x) (ensemble-one law d item a b p q)
as_ensemble-one law d item (frames.Ensemble a) (frames.Datum b) p q = absurd q
as_ensemble-one law d item (frames.Datum a) b p q = absurd p

frame-one : DenotesOne → (d e c : Class) → IsOne (ReadsFrame d e c)
frame-one law d e = one-or ReadsAsDatum d (ReadsOne ReadsAsEnsemble e) (as_datum-one law d) (one-of ReadsAsEnsemble e (as_ensemble-one law e))

pub dynamic-one : DenotesOne → (c : Class) → IsOne (ReadsDynamic c)
dynamic-one law c item a b p q = λ i. record {
  epoch = one-of ReadsNumberOf class.FrameEpoch (number-of-one law class.FrameEpoch) c item a.epoch b.epoch p.epoch q.epoch i;
  model = one-optional (ReadsNamed class.DeformationModel) (named-one class.DeformationModel) (those c class.DeformationModel (arguments item)) a.model b.model p.model q.model i;
}

pub geodetic-one : DenotesOne → (c : Class) → IsOne (ReadsGeodetic c)
geodetic-one law c item a b p q = λ i. record {
  name = text-of-one c item a.name b.name p.name q.name i;
  dynamic = one-optional (ReadsDynamic class.Dynamic) (dynamic-one law class.Dynamic) (those c class.Dynamic (arguments item)) a.dynamic b.dynamic p.dynamic q.dynamic i;
  frame = frame-one law class.GeodeticFrame class.GeodeticEnsemble c item a.frame b.frame p.frame q.frame i;
  meridian = one-optional (ReadsMeridian class.PrimeMeridian) (meridian-one law class.PrimeMeridian) (those c class.PrimeMeridian (arguments item)) a.meridian b.meridian p.meridian q.meridian i;
  system = system-one law c item a.system b.system p.system q.system i;
  tail = tail-one law c item a.tail b.tail p.tail q.tail i;
}

pub base-one : DenotesOne → (c : Class) → IsOne (ReadsBase c)
base-one law c item a b p q = λ i. record {
  name = text-of-one c item a.name b.name p.name q.name i;
  dynamic = one-optional (ReadsDynamic class.Dynamic) (dynamic-one law class.Dynamic) (those c class.Dynamic (arguments item)) a.dynamic b.dynamic p.dynamic q.dynamic i;
  frame = frame-one law class.GeodeticFrame class.GeodeticEnsemble c item a.frame b.frame p.frame q.frame i;
  meridian = one-optional (ReadsMeridian class.PrimeMeridian) (meridian-one law class.PrimeMeridian) (those c class.PrimeMeridian (arguments item)) a.meridian b.meridian p.meridian q.meridian i;
  unit = one-optional (ReadsUnit class.AngleUnit) (unit-one law class.AngleUnit) (those c class.AngleUnit (arguments item)) a.unit b.unit p.unit q.unit i;
  identifiers = identifiers-one c item a.identifiers b.identifiers p.identifiers q.identifiers i;
}

pub projected-one : DenotesOne → (c : Class) → IsOne (ReadsProjected c)
projected-one law c item a b p q = λ i. record {
  name = text-of-one c item a.name b.name p.name q.name i;
  base = one-of ReadsBase class.BaseCrs (base-one law class.BaseCrs) c item a.base b.base p.base q.base i;
  conversion = one-of ReadsConversion class.Conversion (conversion-one law class.Conversion) c item a.conversion b.conversion p.conversion q.conversion i;
  system = system-one law c item a.system b.system p.system q.system i;
  tail = tail-one law c item a.tail b.tail p.tail q.tail i;
}

pub vertical-one : DenotesOne → (c : Class) → IsOne (ReadsVertical c)
vertical-one law c item a b p q = λ i. record {
  name = text-of-one c item a.name b.name p.name q.name i;
  dynamic = one-optional (ReadsDynamic class.Dynamic) (dynamic-one law class.Dynamic) (those c class.Dynamic (arguments item)) a.dynamic b.dynamic p.dynamic q.dynamic i;
  frame = frame-one law class.VerticalFrame class.VerticalEnsemble c item a.frame b.frame p.frame q.frame i;
  system = system-one law c item a.system b.system p.system q.system i;
  geoid_models = one-each (ReadsNamed class.GeoidModel) (named-one class.GeoidModel) (those c class.GeoidModel (arguments item)) a.geoid_models b.geoid_models p.geoid_models q.geoid_models i;
  tail = tail-one law c item a.tail b.tail p.tail q.tail i;
}

as_horizontal-one : DenotesOne → (c : Class) → IsOne (ReadsAsHorizontal c)
as_horizontal-one law c item (horizontals.Geodetic a) (horizontals.Geodetic b) p q = ap (λ x. horizontals.Geodetic x) (geodetic-one law c item a b p.1 q.1)
as_horizontal-one law c item (horizontals.Geodetic a) (horizontals.Projected b) p q = absurd (subst IsGeodeticClass q.0 p.0)
as_horizontal-one law c item (horizontals.Projected a) (horizontals.Geodetic b) p q = absurd (subst IsGeodeticClass p.0 q.0)
as_horizontal-one law c item (horizontals.Projected a) (horizontals.Projected b) p q = ap (λ x. horizontals.Projected x) (projected-one law c item a b p.1 q.1)

horizontal-one : DenotesOne → (c : Class) → IsOne (ReadsHorizontal c)
horizontal-one law =
    one-or ReadsAsHorizontal class.GeodeticCrs (ReadsOneElse ReadsAsHorizontal class.GeographicCrs (ReadsOne ReadsAsHorizontal class.ProjectedCrs)) (as_horizontal-one law class.GeodeticCrs)
    (one-or ReadsAsHorizontal class.GeographicCrs (ReadsOne ReadsAsHorizontal class.ProjectedCrs) (as_horizontal-one law class.GeographicCrs)
    (one-of ReadsAsHorizontal class.ProjectedCrs (as_horizontal-one law class.ProjectedCrs)))

pub compound-one : DenotesOne → (c : Class) → IsOne (ReadsCompound c)
compound-one law c item a b p q = λ i. record {
  name = text-of-one c item a.name b.name p.name q.name i;
  horizontal = horizontal-one law c item a.horizontal b.horizontal p.horizontal q.horizontal i;
  vertical = one-of ReadsVertical class.VerticalCrs (vertical-one law class.VerticalCrs) c item a.vertical b.vertical p.vertical q.vertical i;
  tail = tail-one law c item a.tail b.tail p.tail q.tail i;
}

pub crs-one : DenotesOne → (c : Class) → IsOne (ReadsCrs c)
crs-one law c item (crs.Geodetic a) (crs.Geodetic b) p q = ap (λ x. crs.Geodetic x) (geodetic-one law c item a b p.1 q.1)
crs-one law c item (crs.Projected a) (crs.Projected b) p q = ap (λ x. crs.Projected x) (projected-one law c item a b p.1 q.1)
crs-one law c item (crs.Vertical a) (crs.Vertical b) p q = ap (λ x. crs.Vertical x) (vertical-one law c item a b p.1 q.1)
crs-one law c item (crs.Compound a) (crs.Compound b) p q = ap (λ x. crs.Compound x) (compound-one law c item a b p.1 q.1)
crs-one law c item (crs.Geodetic a) b p q = absurd (subst IsGeodeticClass q.0 p.0)
crs-one law c item a (crs.Geodetic b) p q = absurd (subst IsGeodeticClass p.0 q.0)
crs-one law c item a b p q = cc
