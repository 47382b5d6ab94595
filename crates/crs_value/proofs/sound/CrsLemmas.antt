-- What sound usages, conversions, dynamic parts and CRSs say is sound.
use Rattle.std.proofs.Common.{◌≡◌, ◌≢◌, ℕ, ◌+◌, ◌≤◌, Bool, true, false, ◌||◌, not, IsTrue, drop, Option, Some, None, List, [], ◌∷◌, refl, ◌∙◌, ap, arith, IfSome, IsSome, inl, inr, IsNone}
use Rattle.crs_text.specs.inner.Prelude.{Item, leaf, node, More, arguments, RefusedAt}
use Rattle.crs_shape.specs.declared.class.Class.{Class}
use Rattle.crs_shape.specs.inner.Prelude.{one_if, how_many, most, is_bounded, Allowed, Shaped, slots_of, is_class, IsOneOf, dimensions_of}
use Rattle.crs_value.specs.Reading.{is_same, those, Each, ReadsNamed, ReadsElse, ReadsFirst, ReadsOptional, ReadsOne}
use Rattle.crs_value.specs.Reads.{ReadsTextOf, ReadsUnit, LacksUsage, ReadsBare, ReadsBox, ReadsExtent, ReadsUsage, ReadsTail, ReadsAsUnit, ReadsUnitOf, ReadsParameter, ReadsConversion, ReadsNumberOf, ReadsDynamic, ReadsEllipsoid, ReadsMeridian, ReadsDatum, ReadsEnsemble, ReadsSystem}
use Rattle.crs_value.specs.Sound.{IsUnitOf, IsBox, IsExtent, IsUsage, IsTail, IsNamed, IsUnit}
use Rattle.crs_value.specs.inner.ReadOnce.{IsSound, IsUnitClass, HasSystem}
use Rattle.crs_value.specs.Values.{UsageParts, SaysSome, DynamicParts, SystemParts, EllipsoidParts}
use Rattle.crs_value.proofs.found.ArgumentLemmas.{SlotsBound, arguments-few, nothing, those-first, SlotsCount, not-none, none-empty}
use Rattle.crs_value.proofs.sound.KnownWordLemmas.{not-leaf, own-free}
use Rattle.crs_value.proofs.sound.PartLemmas.{Tells, tells-as, some-read, optional-tells, each-tells, optional-text-tells, number-first, identifiers-tell, length-tells, first-tells, else-tells, text-of-tells, number-of-tells, named-tells, unit-tells, read-none, angle-tells}
use Rattle.crs_value.specs.SoundParts.{IsParameter, IsConversion, IsDynamic, IsDatum, IsEnsemble, IsMeridian}
use Rattle.crs_decimal.specs.inner.Prelude.{IsNormal, Value}
use Rattle.crs_value.specs.declared.values.frame.Frame.{Frame}
use Rattle.crs_value.specs.Checks.{BadDynamic, HasEnsemble, IsUnsteady, at, AnyOf, Own}
use Rattle.crs_value.specs.ReadsCrs.{ReadsAsDatum, ReadsAsEnsemble, ReadsFrame, ReadsGeodeticFrame, IsGeodeticClass, ReadsGeodetic, ReadsBase, ReadsProjected, ReadsVertical}
use Rattle.crs_value.specs.SoundSingle.{IsDynamicOf, IsGeodeticFrame, IsVerticalFrame, IsGeodetic, IsBase, IsProjected, IsVertical}
use Rattle.crs_shape.specs.declared.system_type.SystemType.{SystemType}
use Rattle.crs_value.specs.inner.Arguments.{Requires}
use Rattle.crs_value.proofs.checked.OwnLemmas.{own-of-crs}
use Rattle.crs_value.proofs.sound.FrameLemmas.{datum-tells, ensemble-tells, meridian-tells}
use Rattle.crs_value.proofs.sound.SystemLemmas.{head-fits, system-free, system-tells}
use Rattle.crs_shape.specs.declared.class.Class.TheVariants as class
use Rattle.crs_shape.specs.declared.unit_kind.UnitKind.TheVariants as kinds
use Rattle.crs_value.specs.declared.values.frame.Frame.TheVariants as frames
use Rattle.crs_shape.specs.declared.system_type.SystemType.TheVariants as types

pub box-tells : (c : Class) → Tells c (ReadsBox c) IsBox
box-tells c item value sound reads =
    let numbers = those c class.Number (arguments item) in
    record {
      south = number-first (drop 0 numbers) value.south reads.south;
      west = number-first (drop 1 numbers) value.west reads.west;
      north = number-first (drop 2 numbers) value.north reads.north;
      east = number-first (drop 3 numbers) value.east reads.east;
    }

pub extent-tells : (c : Class) → Tells c (ReadsExtent c) IsExtent
extent-tells c item value sound reads = record {
  minimum = number-first (drop 0 (those c class.Number (arguments item))) value.minimum reads.minimum;
  maximum = number-first (drop 1 (those c class.Number (arguments item))) value.maximum reads.maximum;
  unit = optional-tells (ReadsUnit class.LengthUnit) (IsUnitOf kinds.Length) c class.LengthUnit length-tells item value.unit sound reads.unit;
}

pub usage-tells : (c : Class) (item : Item) (value : UsageParts) → IsSound c item → ReadsUsage c item value →
    SaysSome value → IsUsage value
usage-tells c item value sound reads some = record {
  scope = optional-text-tells c class.Scope item value.scope sound reads.scope;
  area = optional-text-tells c class.Area item value.area sound reads.area;
  bbox = optional-tells (ReadsBox class.BoundingBox) IsBox c class.BoundingBox (box-tells class.BoundingBox) item value.bbox sound reads.bbox;
  extent = optional-tells (ReadsExtent class.VerticalExtent) IsExtent c class.VerticalExtent (extent-tells class.VerticalExtent) item value.extent sound reads.extent;
  some = some;
}

-- ---- a node `USAGE` has an argument, which is one of its four parts

-- a node has no arguments of a class that none of its slots takes
pub arguments-none : SlotsBound → (parent c : Class) (item : Item) → IsTrue (is_bounded (is_same c) (slots_of parent)) → most (is_same c) (slots_of parent) ≡ 0 →
    Shaped parent item → those parent c (arguments item) ≡ []
arguments-none law parent c item bounded none shaped =
    nothing (those parent c (arguments item)) (omega (arith, arguments-few law parent c item bounded shaped, none))

abbrev is_part : Class → Bool
is_part d = is_same class.Scope d || is_same class.Area d || is_same class.BoundingBox d || is_same class.VerticalExtent d

abbrev is_other : Class → Bool
is_other d = not (is_part d)

no-other : (b : Bool) (n : ℕ) → one_if (not b) + n ≤ 0 → b ≡ true
no-other true n h = refl
no-other false n h = absurd (omega (arith, h))

first-part : SlotsBound → (d : Class) (ds : List Class) → Allowed (slots_of class.Usage) (d ∷ ds) → is_part d ≡ true
first-part law d ds allowed = no-other (is_part d) (how_many is_other ds) (law is_other (slots_of class.Usage) (d ∷ ds) refl allowed)

pub says-some : SlotsBound → Tells class.Usage (ReadsUsage class.Usage) SaysSome
says-some law (leaf kind place raw) value sound reads = absurd (not-leaf (λ d. d ≡ class.Usage) (λ e. cc) (λ e. cc) (λ e. cc) class.Usage kind place raw sound.shaped refl)
says-some law (node place keyword square first others close) value sound reads =
    let shape = sound.shaped.1 in
    let part = first-part law shape.0 shape.1.0 shape.1.1.1.1.1 in
    let scope : is_same class.Scope shape.0 ≡ true → IsSome value.scope = λ e. some-read (ReadsTextOf class.Scope) _ value.scope reads.scope (stands class.Scope e) in
    let area : is_same class.Area shape.0 ≡ true → IsSome value.area = λ e. some-read (ReadsTextOf class.Area) _ value.area reads.area (stands class.Area e) in
    let box : is_same class.BoundingBox shape.0 ≡ true → IsSome value.bbox = λ e. some-read (ReadsBox class.BoundingBox) _ value.bbox reads.bbox (stands class.BoundingBox e) in
    let extent : is_same class.VerticalExtent shape.0 ≡ true → IsSome value.extent
    = λ e. some-read (ReadsExtent class.VerticalExtent) _ value.extent reads.extent (stands class.VerticalExtent e) in
    grind (arith, part, scope, area, box, extent)
  where
    stands : (c : Class) → is_same c sound.shaped.1.0 ≡ true → those class.Usage c (More first others) ≢ []
    stands c e = λ none. let here = those-first class.Usage c (More first others) (λ n. cc) (ap (is_class c) sound.shaped.1.1.1.0 ∙ e) in cc

pub node-tells : SlotsBound → (c : Class) → c ≡ class.Usage → Tells c (ReadsUsage c) IsUsage
node-tells law c same =
    tells-as ReadsUsage IsUsage c class.Usage same
    (λ item value sound reads. usage-tells class.Usage item value sound reads (says-some law item value sound reads))

-- ---- what is bare

pub bare-none : (c : Class) (item : Item) →
    ReadsUsage c item (record { scope = None; area = None; bbox = None; extent = None }) → LacksUsage c item
bare-none c item reads = record {
  scope = none-empty (ReadsTextOf class.Scope) (those c class.Scope (arguments item)) reads.scope;
  area = none-empty (ReadsTextOf class.Area) (those c class.Area (arguments item)) reads.area;
  bbox = none-empty (ReadsBox class.BoundingBox) (those c class.BoundingBox (arguments item)) reads.bbox;
  extent = none-empty (ReadsExtent class.VerticalExtent) (those c class.VerticalExtent (arguments item)) reads.extent;
}

bare-tells : (c : Class) (item : Item) (bare : Option UsageParts) → IsSound c item → ReadsBare c item bare →
    IfSome bare IsUsage
bare-tells c item None sound reads = tt
bare-tells c item (Some value) sound reads = usage-tells c item value sound reads.0 reads.1

pub tail-tells : SlotsBound → (c : Class) → Tells c (ReadsTail c) IsTail
tail-tells law c item value sound reads =
    record {
      usages = each-tells (ReadsUsage class.Usage) IsUsage c class.Usage (node-tells law class.Usage refl) item value.usages sound reads.usages;
      bare_parts = bare-tells c item value.bare_parts sound reads.bare_parts;
      identifiers = identifiers-tell c item value.identifiers sound reads.identifiers;
      remark = optional-text-tells c class.Remark item value.remark sound reads.remark;
    }

-- ---- what sound conversions say is sound

-- ---- the unit of a parameter

as-unit-tells : (d : Class) → IsUnitClass d → Tells d (ReadsAsUnit d) (λ value. IfSome value IsUnit)
as-unit-tells d is item None sound reads = tt
as-unit-tells d is item (Some unit) sound reads = unit-tells d is item unit sound reads

unit-of-tells : (ds : List Class) → Each IsUnitClass ds → (c : Class) → Tells c (ReadsUnitOf ds c) (λ value. IfSome value IsUnit)
unit-of-tells ds are c item None sound reads = tt
unit-of-tells [] are c item (Some unit) sound reads = absurd reads
unit-of-tells (d ∷ ds) are c item (Some unit) sound reads =
    else-tells (ReadsAsUnit d) (ReadsUnitOf ds c item) (λ value. IfSome value IsUnit) c d (as-unit-tells d are.0) item (Some unit) (unit-of-tells ds are.1 c item (Some unit) sound) sound reads

pub parameter-tells : (c : Class) → Tells c (ReadsParameter c) IsParameter
parameter-tells c item value sound reads = record {
  name = text-of-tells c item value.name sound reads.name;
  value = number-of-tells c item value.value sound reads.value;
  unit = unit-of-tells (class.PlainUnit ∷ class.LengthUnit ∷ class.AngleUnit ∷ class.ScaleUnit ∷ []) (tt, (tt, (tt, (tt, tt)))) c item value.unit sound reads.unit;
  identifiers = identifiers-tell c item value.identifiers sound reads.identifiers;
}

pub conversion-tells : (c : Class) → Tells c (ReadsConversion c) IsConversion
conversion-tells c item value sound reads = record {
  name = text-of-tells c item value.name sound reads.name;
  method = first-tells (ReadsNamed class.Method) IsNamed c class.Method (named-tells class.Method) item value.method sound reads.method;
  parameters = each-tells (ReadsParameter class.Parameter) IsParameter c class.Parameter (parameter-tells class.Parameter) item value.parameters sound reads.parameters;
  identifiers = identifiers-tell c item value.identifiers sound reads.identifiers;
}

-- ---- what sound dynamic parts say is sound, and none is beside an ensemble

pub dynamic-tells : (c : Class) → Tells c (ReadsDynamic c) IsDynamic
dynamic-tells c item value sound reads = record {
  epoch = first-tells (ReadsNumberOf class.FrameEpoch) IsNormal c class.FrameEpoch (number-of-tells class.FrameEpoch) item value.epoch sound reads.epoch;
  model = optional-tells (ReadsNamed class.DeformationModel) IsNamed c class.DeformationModel (named-tells class.DeformationModel) item value.model sound reads.model;
}

beside : (d e : Class) (datums ensembles parts : List Item) (held : Frame) (dynamic : Option DynamicParts) →
    (ensembles ≢ [] → (fault : RefusedAt) → AnyOf IsUnsteady parts fault → ⊥) → ReadsElse (ReadsAsDatum d) datums (ReadsFirst (ReadsAsEnsemble e) ensembles) held →
    ReadsOptional (ReadsDynamic class.Dynamic) parts dynamic → IfSome dynamic IsDynamic → IsDynamicOf dynamic held
beside d e datums ensembles parts held None free frame reads is = tt
beside d e datums ensembles parts (frames.Datum datum) (Some dynamic) free frame reads is = is
beside d e (i ∷ items) ensembles parts (frames.Ensemble x) (Some dynamic) free frame reads is = absurd frame
beside d e [] [] parts (frames.Ensemble x) (Some dynamic) free frame reads is = absurd frame
beside d e [] (i ∷ items) [] (frames.Ensemble x) (Some dynamic) free frame reads is = absurd reads
beside d e [] (i ∷ items) (part ∷ parts) (frames.Ensemble x) (Some dynamic) free frame reads is = absurd (free (λ none. cc) (at 29 part) (inl refl))

-- the dynamic part of a CRS whose frame is of these classes
pub dynamic-of-tells : (d e c : Class) (item : Item) (held : Frame) (dynamic : Option DynamicParts) → IsSound c item → ((fault : RefusedAt) → BadDynamic c item fault → ⊥) →
    (those c e (arguments item) ≢ [] → HasEnsemble c item) → ReadsFrame d e c item held →
    ReadsOptional (ReadsDynamic class.Dynamic) (those c class.Dynamic (arguments item)) dynamic → IsDynamicOf dynamic held
dynamic-of-tells d e c item held dynamic sound free some frame reads =
    beside d e (those c d (arguments item)) (those c e (arguments item)) (those c class.Dynamic (arguments item)) held dynamic (λ there fault bad. free fault (some there, bad)) frame reads
    (optional-tells (ReadsDynamic class.Dynamic) IsDynamic c class.Dynamic (dynamic-tells class.Dynamic) item dynamic sound reads)

-- ---- what sound geodetic, projected and vertical CRSs say is sound

-- ---- frames

has-ellipsoid : SlotsCount → (c : Class) (item : Item) (value : Option EllipsoidParts) → Requires c class.Ellipsoid 0 → IsSound c item →
    ReadsOptional (ReadsEllipsoid class.Ellipsoid) (those c class.Ellipsoid (arguments item)) value → IsSome value
has-ellipsoid law c item value enough sound reads =
    some-read (ReadsEllipsoid class.Ellipsoid) (those c class.Ellipsoid (arguments item)) value reads (λ none. not-none law c class.Ellipsoid item sound.shaped enough none)

no-ellipsoid : SlotsBound → (c : Class) (item : Item) (value : Option EllipsoidParts) → IsTrue (is_bounded (is_same class.Ellipsoid) (slots_of c)) →
    most (is_same class.Ellipsoid) (slots_of c) ≡ 0 → IsSound c item → ReadsOptional (ReadsEllipsoid class.Ellipsoid) (those c class.Ellipsoid (arguments item)) value → IsNone value
no-ellipsoid bound c item value bounded none sound reads =
    rw (read-none (ReadsEllipsoid class.Ellipsoid) (those c class.Ellipsoid (arguments item)) value reads (arguments-none bound c class.Ellipsoid item bounded none sound.shaped)) refl

pub geodetic-datum-tells : SlotsCount → Tells class.GeodeticFrame (ReadsDatum class.GeodeticFrame) (λ datum. IsDatum datum × IsSome datum.ellipsoid)
geodetic-datum-tells law item datum s r = (datum-tells class.GeodeticFrame item datum s r, has-ellipsoid law class.GeodeticFrame item datum.ellipsoid (omega arith) s r.ellipsoid)

pub geodetic-ensemble-tells : SlotsCount → Tells class.GeodeticEnsemble (ReadsEnsemble class.GeodeticEnsemble) (λ ensemble. IsEnsemble ensemble × IsSome ensemble.ellipsoid)
geodetic-ensemble-tells law item ensemble s r =
    (ensemble-tells law class.GeodeticEnsemble (omega arith) item ensemble s r, has-ellipsoid law class.GeodeticEnsemble item ensemble.ellipsoid (omega arith) s r.ellipsoid)

pub vertical-datum-tells : SlotsBound → Tells class.VerticalFrame (ReadsDatum class.VerticalFrame) (λ datum. IsDatum datum × IsNone datum.ellipsoid)
vertical-datum-tells bound item datum s r = (datum-tells class.VerticalFrame item datum s r, no-ellipsoid bound class.VerticalFrame item datum.ellipsoid refl refl s r.ellipsoid)

pub vertical-ensemble-tells : SlotsCount → SlotsBound → Tells class.VerticalEnsemble (ReadsEnsemble class.VerticalEnsemble) (λ ensemble. IsEnsemble ensemble × IsNone ensemble.ellipsoid)
vertical-ensemble-tells law bound item ensemble s r =
    (ensemble-tells law class.VerticalEnsemble (omega arith) item ensemble s r, no-ellipsoid bound class.VerticalEnsemble item ensemble.ellipsoid refl refl s r.ellipsoid)

-- a frame is a reference frame of the one class, or an ensemble of the other
frame-tells : (d e : Class) (P : Frame → Type 0) → Tells d (ReadsDatum d) (λ datum. P (frames.Datum datum)) → Tells e (ReadsEnsemble e) (λ ensemble. P (frames.Ensemble ensemble)) →
    (c : Class) → Tells c (ReadsFrame d e c) P
frame-tells d e P first second c item value sound reads =
    else-tells (ReadsAsDatum d) (ReadsOne ReadsAsEnsemble e c item) P c d datum item value (λ other. first-tells (ReadsAsEnsemble e) P c e ensemble item value sound other) sound reads
  where
    datum : Tells d (ReadsAsDatum d) P
    datum item (frames.Datum value) sound reads = first item value sound reads
    datum item (frames.Ensemble value) sound reads = absurd reads

    ensemble : Tells e (ReadsAsEnsemble e) P
    ensemble item (frames.Datum value) sound reads = absurd reads
    ensemble item (frames.Ensemble value) sound reads = second item value sound reads

geodetic-frame-tells : SlotsCount → (c : Class) → Tells c (ReadsGeodeticFrame c) IsGeodeticFrame
geodetic-frame-tells law = frame-tells class.GeodeticFrame class.GeodeticEnsemble IsGeodeticFrame (geodetic-datum-tells law) (geodetic-ensemble-tells law)

-- ---- geodetic and geographic CRSs

geodetic-system : (c : Class) → IsGeodeticClass c → HasSystem c × Requires c class.Axis 0
geodetic-system class.GeodeticCrs is = (tt, omega arith)
geodetic-system class.GeographicCrs is = (tt, omega arith)
geodetic-system other is = absurd is

-- what a CRS that is called geographic allows, each geodetic one allows
allowed-geodetic : (c : Class) (system_type : SystemType) (value : Value) → IsGeodeticClass c → IsOneOf value (dimensions_of c system_type) →
    IsOneOf value (dimensions_of class.GeodeticCrs system_type)
allowed-geodetic class.GeodeticCrs system_type value is h = h
allowed-geodetic class.GeographicCrs types.Ellipsoidal value is h = h
allowed-geodetic class.GeographicCrs other value is h = absurd h
allowed-geodetic other system_type value is h = absurd is

-- the type and dimension of a sound CRS's system are allowed
allowed-by : (c : Class) (item : Item) (system : SystemParts) → HasSystem c → IsSound c item → ReadsSystem c item system → IsOneOf system.dimension (dimensions_of c system.system_type)
allowed-by c item system has sound reads =
    let free = system-free c item system has sound reads in
    (head-fits (dimensions_of c) (those c class.Axis (arguments item)) system (those c class.CoordinateSystem (arguments item)) (λ fault h. free fault (inl h)) reads.head).0

pub geodetic-tells : SlotsCount → SlotsBound → (c : Class) → IsGeodeticClass c → Tells c (ReadsGeodetic c) IsGeodetic
geodetic-tells law bound c is item value sound reads =
    let has : HasSystem c = (geodetic-system c is).0 in
    record {
      name = text-of-tells c item value.name sound reads.name;
      dynamic =
          dynamic-of-tells class.GeodeticFrame class.GeodeticEnsemble c item value.frame value.dynamic sound
          (λ fault bad. own-free c item fault sound (own-of-crs c item fault has (inr (inr bad)))) (λ some. inl some) reads.frame reads.dynamic;
      frame = geodetic-frame-tells law c item value.frame sound reads.frame;
      meridian = optional-tells (ReadsMeridian class.PrimeMeridian) IsMeridian c class.PrimeMeridian (meridian-tells class.PrimeMeridian) item value.meridian sound reads.meridian;
      system = system-tells law c has (geodetic-system c is).1 item value.system sound reads.system;
      dimension = allowed-geodetic c value.system.system_type value.system.dimension is (allowed-by c item value.system has sound reads.system);
      tail = tail-tells bound c item value.tail sound reads.tail;
    }

-- ---- base and projected CRSs

pub base-tells : SlotsCount → Tells class.BaseCrs (ReadsBase class.BaseCrs) IsBase
unfolding Own
base-tells law item value sound reads = let c = class.BaseCrs in record {
  name = text-of-tells c item value.name sound reads.name;
  dynamic =
      dynamic-of-tells class.GeodeticFrame class.GeodeticEnsemble c item value.frame value.dynamic sound (λ fault bad. own-free c item fault sound bad) (λ some. inl some)
      reads.frame reads.dynamic;
  frame = geodetic-frame-tells law c item value.frame sound reads.frame;
  meridian = optional-tells (ReadsMeridian class.PrimeMeridian) IsMeridian c class.PrimeMeridian (meridian-tells class.PrimeMeridian) item value.meridian sound reads.meridian;
  unit = optional-tells (ReadsUnit class.AngleUnit) (IsUnitOf kinds.Angle) c class.AngleUnit angle-tells item value.unit sound reads.unit;
  identifiers = identifiers-tell c item value.identifiers sound reads.identifiers;
}

pub projected-tells : SlotsCount → SlotsBound → Tells class.ProjectedCrs (ReadsProjected class.ProjectedCrs) IsProjected
projected-tells law bound item value sound reads = record {
  name = text-of-tells class.ProjectedCrs item value.name sound reads.name;
  base = first-tells (ReadsBase class.BaseCrs) IsBase class.ProjectedCrs class.BaseCrs (base-tells law) item value.base sound reads.base;
  conversion = first-tells (ReadsConversion class.Conversion) IsConversion class.ProjectedCrs class.Conversion (conversion-tells class.Conversion) item value.conversion sound reads.conversion;
  system = system-tells law class.ProjectedCrs tt (omega arith) item value.system sound reads.system;
  dimension = allowed-by class.ProjectedCrs item value.system tt sound reads.system;
  tail = tail-tells bound class.ProjectedCrs item value.tail sound reads.tail;
}

-- ---- vertical CRSs

pub vertical-tells : SlotsCount → SlotsBound → Tells class.VerticalCrs (ReadsVertical class.VerticalCrs) IsVertical
vertical-tells law bound item value sound reads = record {
  name = text-of-tells class.VerticalCrs item value.name sound reads.name;
  dynamic =
      dynamic-of-tells class.VerticalFrame class.VerticalEnsemble class.VerticalCrs item value.frame value.dynamic sound
      (λ fault bad. own-free class.VerticalCrs item fault sound (own-of-crs class.VerticalCrs item fault tt (inr (inr bad)))) (λ some. inr some) reads.frame reads.dynamic;
  frame =
      frame-tells class.VerticalFrame class.VerticalEnsemble IsVerticalFrame (vertical-datum-tells bound) (vertical-ensemble-tells law bound) class.VerticalCrs item value.frame sound
      reads.frame;
  system = system-tells law class.VerticalCrs tt (omega arith) item value.system sound reads.system;
  dimension = allowed-by class.VerticalCrs item value.system tt sound reads.system;
  geoid_models = each-tells (ReadsNamed class.GeoidModel) IsNamed class.VerticalCrs class.GeoidModel (named-tells class.GeoidModel) item value.geoid_models sound reads.geoid_models;
  tail = tail-tells bound class.VerticalCrs item value.tail sound reads.tail;
}
