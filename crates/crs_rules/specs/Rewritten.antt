-- A CRS under rules, part by part. It is taken as its canonical text has it: defaults are written out.
use Rattle.std.specs.Prelude.{ℕ, ◌||◌, ◌&&◌, ◌==◌, Bool, true, List, [], ◌∷◌, Option, Some, None, codes, map, if◌then◌else◌}
use Rattle.std.specs.List.{list_all}
use Rattle.std.specs.Option.{is_some, option_map}
use Rattle.std.specs.Cmp.Lexicographic.{slice_cmp}
use Rattle.std.specs.Ordering.{nat_cmp, match_ordering}
use Rattle.std.specs.Str.{bytes_eq}
use denote.Enum.Bare.{sameb}
use Rattle.crs_same.specs.SameParts.{one, own_or}
use Rattle.crs_shape.specs.declared.unit_kind.UnitKind.{UnitKind}
use Rattle.crs_shape.specs.declared.unit_kind.UnitKind.TheVariants as kinds
use Rattle.crs_shape.specs.contracts.unit_kind.UnitKind.{the_type}
use Rattle.crs_shape.specs.declared.class.Class.{Class}
use Rattle.crs_value.specs.CompoundValues.{CompoundParts}
use Rattle.crs_value.specs.Values.{ConversionParts, ParameterParts, DynamicParts, AxisMeridianParts, AxisParts, DatumParts, EllipsoidParts, EnsembleParts, ExtentParts, MeridianParts, SystemParts, TailParts, UnitParts, UsageParts}
use Rattle.crs_value.specs.CrsValues.{BaseParts, GeodeticParts, ProjectedParts, VerticalParts}
use Rattle.crs_value.specs.EnsembleFrames.{datum_of}
use Rattle.crs_value.specs.NamedValues.{NamedParts}
use Rattle.crs_value.specs.declared.values.compound.Horizontal.{Horizontal}
use Rattle.crs_value.specs.declared.values.crs.Crs.{Crs}
use Rattle.crs_value.specs.declared.values.frame.Frame.{Frame}
use Rattle.crs_rules.specs.Rules.{Meaning, factors_equal, without_ensemble, RulesParts, meaning}
use Rattle.crs_value.specs.Sound.{IsAxis}
use Rattle.crs_value.specs.Spells.{Spells}
use Rattle.crs_value.specs.declared.values.level.Level.{Level}
use Rattle.crs_normal.specs.AxisAlone.{IsSpelledAxis}
use Rattle.crs_writer.specs.Canonical.{IsCanonicalText, IsCanonicalOf}
use Rattle.crs_shape.specs.declared.class.Class.TheVariants as class
use Rattle.crs_value.specs.declared.values.compound.Horizontal.TheVariants as horizontal
use Rattle.crs_value.specs.declared.values.crs.Crs.TheVariants as crs
use Rattle.crs_value.specs.declared.values.frame.Frame.TheVariants as frame
use Rattle.crs_value.specs.declared.values.level.Level.TheVariants as levels

-- ---- names, units, and what doesn't count

-- a name, unless it doesn't count
abbrev pub counted_name : Bool → List ℕ → List ℕ
counted_name uncounted name = if uncounted then [] else name

-- a part that may be missing, unless it doesn't count
abbrev pub counted : {A : Type 0} → Bool → Option A → Option A
counted uncounted part = if uncounted then None else part

-- a unit that may be missing
abbrev pub units : Meaning → Option UnitParts → Option UnitParts
units r u = option_map r.unit u

-- a node of this class that has a name and identifiers alone
abbrev pub named : Meaning → Class → NamedParts → NamedParts
named r c n = record n { name = r.name c n.name }

-- ---- frames

-- an ellipsoid
abbrev pub ellipsoid : Meaning → EllipsoidParts → EllipsoidParts
ellipsoid r e = record e { name = r.name class.Ellipsoid e.name; unit = units r e.unit }

-- a prime meridian
abbrev pub meridian : Meaning → MeridianParts → MeridianParts
meridian r m = record m { name = r.name class.PrimeMeridian m.name; unit = units r m.unit }

-- a reference frame of this class
abbrev pub datum : Meaning → Class → DatumParts → DatumParts
datum r c d = record d {
  name = r.name c d.name;
  ellipsoid = option_map (ellipsoid r) d.ellipsoid;
  anchor = counted r.uncounted.anchors d.anchor;
  anchor_epoch = counted r.uncounted.anchors d.anchor_epoch;
}

-- a datum ensemble of this class
abbrev pub ensemble : Meaning → Class → EnsembleParts → EnsembleParts
ensemble r c e = record e {
  name = r.name c e.name;
  members = map (named r class.Member) e.members;
  ellipsoid = option_map (ellipsoid r) e.ellipsoid;
}

-- a frame; an ensemble with its name without ` ensemble`
abbrev pub stemmed : Frame → Frame
stemmed (frame.Datum d) = frame.Datum d
stemmed (frame.Ensemble e) = frame.Ensemble (record e { name = without_ensemble e.name })

-- a frame, or, where ensembles don't count, the reference frame that it counts as
abbrev pub counted_frame : Bool → Frame → Frame
counted_frame uncounted f = if uncounted then frame.Datum (datum_of (stemmed f)) else f

-- a frame of the first class, or an ensemble of the second
abbrev pub frame_or_ensemble : Meaning → Class → Class → Frame → Frame
frame_or_ensemble r c d (frame.Datum x) = frame.Datum (datum r c x)
frame_or_ensemble r c d (frame.Ensemble e) = frame.Ensemble (ensemble r d e)

-- a geodetic frame or ensemble
abbrev pub geodetic_frame : Meaning → Frame → Frame
geodetic_frame r f =
    frame_or_ensemble r class.GeodeticFrame class.GeodeticEnsemble
    (counted_frame r.uncounted.ensembles f)

-- a vertical frame or ensemble
abbrev pub vertical_frame : Meaning → Frame → Frame
vertical_frame r f =
    frame_or_ensemble r class.VerticalFrame class.VerticalEnsemble
    (counted_frame r.uncounted.ensembles f)

-- a dynamic part
abbrev pub dynamic : Meaning → DynamicParts → DynamicParts
dynamic r d = record d { model = option_map (named r class.DeformationModel) d.model }

-- a dynamic part that may be missing
abbrev pub dynamics : Meaning → Option DynamicParts → Option DynamicParts
dynamics r d = counted r.uncounted.dynamics (option_map (dynamic r) d)

-- ---- coordinate systems

-- the meridian of an axis
abbrev pub axis_meridian : Meaning → AxisMeridianParts → AxisMeridianParts
axis_meridian r m = record m { unit = r.unit m.unit }

-- an axis
abbrev pub axis : Meaning → AxisParts → AxisParts
axis r a = record a {
  name = counted_name r.uncounted.axis_names (r.name class.Axis a.name);
  meridian = option_map (axis_meridian r) a.meridian;
  order = counted r.uncounted.axis_order a.order;
  unit = units r a.unit;
}

-- a coordinate system
abbrev pub system : Meaning → SystemParts → SystemParts
system r s = record s { axes = map (axis r) s.axes; unit = units r s.unit }

-- ---- usages

-- an extent in height
abbrev pub extent : Meaning → ExtentParts → ExtentParts
extent r e = record e { unit = units r e.unit }

-- a usage
abbrev pub usage : Meaning → UsageParts → UsageParts
usage r u = record u { extent = option_map (extent r) u.extent }

-- the end of a CRS
abbrev pub tail : Meaning → TailParts → TailParts
tail r t = record t { usages = map (usage r) t.usages; bare_parts = option_map (usage r) t.bare_parts }

-- ---- conversions

-- a parameter of a conversion
abbrev pub parameter : Meaning → ParameterParts → ParameterParts
parameter r p = record p { name = r.name class.Parameter p.name; unit = units r p.unit }

-- a conversion
abbrev pub conversion : Meaning → ConversionParts → ConversionParts
conversion r c = record c {
  name = counted_name r.uncounted.conversion_names c.name;
  method = named r class.Method c.method;
  parameters = map (parameter r) c.parameters;
}

-- ---- units that are left out: where the kind of a parameter's number is known, a missing unit is that of the base CRS
-- for an angle, that of the axes for a length, and unity for a scale; a prime meridian's is that of the base or the axes

-- a unit without its identifiers
abbrev pub bare : UnitParts → UnitParts
bare u = record u { identifiers = [] }

-- the unit of a scale that says none
abbrev pub unity : UnitParts
unity = record { kind = kinds.Scale; name = codes "unity"; factor = one; identifiers = [] }

-- whether two units are the same, but for their identifiers
abbrev pub is_same_unit : UnitParts → UnitParts → Bool
is_same_unit u v = sameb the_type u.kind v.kind && (bytes_eq u.name v.name && factors_equal u.factor v.factor)

-- the unit of an axis before these others, if it is of this kind; without its identifiers
abbrev pub with_unit_of : UnitKind → Option UnitParts → List UnitParts → List UnitParts
with_unit_of kind None others = others
with_unit_of kind (Some u) others = if sameb the_type u.kind kind then bare u ∷ others else others

-- the units of this kind that axes have
abbrev pub units_of : UnitKind → List AxisParts → List UnitParts
units_of kind [] = []
units_of kind (a ∷ axes) = with_unit_of kind a.unit (units_of kind axes)

-- the first of some units, if there is one
abbrev pub first_unit_of : List UnitParts → Option UnitParts
first_unit_of [] = None
first_unit_of (u ∷ us) = Some u

-- this unit, if it is each of these
abbrev pub one_of : Option UnitParts → List UnitParts → Option UnitParts
one_of None us = None
one_of (Some u) us = if list_all (is_same_unit u) us then Some u else None

-- the unit of this kind that all axes have that have one of it, if there is one
abbrev pub shared : UnitKind → List AxisParts → Option UnitParts
shared kind axes = one_of (first_unit_of (units_of kind axes)) (units_of kind axes)

-- the unit of a number of this kind that says none, by the units of angles and lengths
abbrev pub unit_of_kind : Option UnitParts → Option UnitParts → UnitKind → Option UnitParts
unit_of_kind angle length kinds.Plain = None
unit_of_kind angle length kinds.Angle = angle
unit_of_kind angle length kinds.Length = length
unit_of_kind angle length kinds.Scale = Some unity

-- the unit of a number of this kind that says none in a projected CRS, whose axes have the units that are written
abbrev pub missing_unit : Meaning → ProjectedParts → UnitKind → Option UnitParts
missing_unit r p =
    unit_of_kind (option_map bare p.base.unit) (shared kinds.Length (system r p.system).axes)

-- a parameter with its own unit or, where it has none, the one of its kind, by the name that is written for its name
abbrev pub completed : Meaning → (UnitKind → Option UnitParts) → ParameterParts → ParameterParts
completed r missing p =
    record p { unit = own_or p.unit (missing (r.kind (r.name class.Parameter p.name))) }

-- a conversion whose parameters have these units where they have none
abbrev pub completed_conversion : Meaning → (UnitKind → Option UnitParts) → ConversionParts → ConversionParts
completed_conversion r missing c = record c { parameters = map (completed r missing) c.parameters }

-- a unit, where rules tell it
abbrev pub told : Bool → Option UnitParts → Option UnitParts
told is unit = if is then unit else None

-- a prime meridian with its own unit or, where it has none and isn't at 0, this one
abbrev pub completed_meridian : Option UnitParts → MeridianParts → MeridianParts
completed_meridian missing m =
    record m { unit = if m.longitude.digits == 0 then m.unit else own_or m.unit missing }

-- a base CRS whose prime meridian has the unit that it leaves out, which is the base's
abbrev pub explicit_base : Meaning → BaseParts → BaseParts
explicit_base r b = record b {
  meridian =
      option_map (completed_meridian (told r.uncounted.meridian_units (option_map bare b.unit)))
      b.meridian;
}

-- a geodetic or geographic CRS whose prime meridian has the unit that it leaves out, which is that of the axes that are
-- angles
abbrev pub explicit_geodetic : Meaning → GeodeticParts → GeodeticParts
explicit_geodetic r g = record g {
  meridian =
      option_map
      (completed_meridian (told r.uncounted.meridian_units (shared kinds.Angle (system r g.system).axes)))
      g.meridian;
}

-- a projected CRS whose parameters and whose prime meridian have the units that they leave out
abbrev pub explicit : Meaning → ProjectedParts → ProjectedParts
explicit r p = record p {
  base = explicit_base r p.base;
  conversion = completed_conversion r (missing_unit r p) p.conversion;
}

-- ---- CRSs

-- a geodetic or geographic CRS that leaves out no more units
abbrev pub geodetic : Meaning → GeodeticParts → GeodeticParts
geodetic r g = record g {
  name = counted_name r.uncounted.crs_names g.name;
  dynamic = dynamics r g.dynamic;
  frame = geodetic_frame r g.frame;
  meridian = option_map (meridian r) g.meridian;
  system = system r g.system;
  tail = tail r g.tail;
}

-- whether the longitude of a prime meridian isn't in the unit of the base CRS: it is 0, or has its own
abbrev pub has_own_unit : Option MeridianParts → Bool
has_own_unit None = true
has_own_unit (Some m) = m.longitude.digits == 0 || is_some m.unit

-- whether the unit of a base CRS says nothing: its prime meridian and these parameters have their own
abbrev pub is_idle : Option MeridianParts → List ParameterParts → Bool
is_idle m parameters = has_own_unit m && list_all (λ p. is_some p.unit) parameters

-- a base CRS, whose unit says nothing where `idle`
abbrev pub base : Meaning → Bool → BaseParts → BaseParts
base r idle b = record b {
  name = counted_name r.uncounted.base_names b.name;
  dynamic = dynamics r b.dynamic;
  frame = geodetic_frame r b.frame;
  meridian = option_map (meridian r) b.meridian;
  unit = counted (r.uncounted.base_units && idle) (units r b.unit);
}

-- a projected CRS that leaves out no more units
abbrev pub projected : Meaning → ProjectedParts → ProjectedParts
projected r p = record p {
  name = counted_name r.uncounted.crs_names p.name;
  base = base r (is_idle p.base.meridian p.conversion.parameters) p.base;
  conversion = conversion r p.conversion;
  system = system r p.system;
  tail = tail r p.tail;
}

-- the geoid models of a vertical CRS
abbrev pub geoid_models : Meaning → List NamedParts → List NamedParts
geoid_models r models = if r.uncounted.geoid_models then [] else map (named r class.GeoidModel) models

-- a vertical CRS
abbrev pub vertical : Meaning → VerticalParts → VerticalParts
vertical r v = record v {
  name = counted_name r.uncounted.crs_names v.name;
  dynamic = dynamics r v.dynamic;
  frame = vertical_frame r v.frame;
  system = system r v.system;
  geoid_models = geoid_models r v.geoid_models;
  tail = tail r v.tail;
}

-- the horizontal part of a compound CRS
abbrev pub across : Meaning → Horizontal → Horizontal
across r (horizontal.Geodetic g) = horizontal.Geodetic (geodetic r (explicit_geodetic r g))
across r (horizontal.Projected p) = horizontal.Projected (projected r (explicit r p))

-- a compound CRS
abbrev pub compound : Meaning → CompoundParts → CompoundParts
compound r c = record c {
  name = counted_name r.uncounted.crs_names c.name;
  horizontal = across r c.horizontal;
  vertical = vertical r c.vertical;
  tail = tail r c.tail;
}

-- a CRS, but for the order of its axes
abbrev pub renamed : Meaning → Crs → Crs
renamed r (crs.Geodetic g) = crs.Geodetic (geodetic r (explicit_geodetic r g))
renamed r (crs.Projected p) = crs.Projected (projected r (explicit r p))
renamed r (crs.Vertical v) = crs.Vertical (vertical r v)
renamed r (crs.Compound c) = crs.Compound (compound r c)

-- ---- with the units that are left out

-- the horizontal part of a compound CRS with the units that it leaves out
abbrev pub explicit_across : Meaning → Horizontal → Horizontal
explicit_across r (horizontal.Geodetic g) = horizontal.Geodetic (explicit_geodetic r g)
explicit_across r (horizontal.Projected p) = horizontal.Projected (explicit r p)

-- a CRS with the units that it leaves out
abbrev pub explicit_crs : Meaning → Crs → Crs
explicit_crs r (crs.Geodetic g) = crs.Geodetic (explicit_geodetic r g)
explicit_crs r (crs.Projected p) = crs.Projected (explicit r p)
explicit_crs r (crs.Vertical v) = crs.Vertical v
explicit_crs r (crs.Compound c) = crs.Compound (record c { horizontal = explicit_across r c.horizontal })

-- ---- the order of axes

-- one more axis among some that are in order of these texts of theirs
abbrev pub among : (AxisParts → List ℕ) → AxisParts → List AxisParts → List AxisParts
among text x [] = x ∷ []
among text x (y ∷ ys) =
    match_ordering (slice_cmp nat_cmp (text x) (text y)) (x ∷ y ∷ ys) (x ∷ y ∷ ys)
    (y ∷ among text x ys)

-- axes in order of these texts of theirs, each as often as it is there
abbrev pub ascending : (AxisParts → List ℕ) → List AxisParts → List AxisParts
ascending text [] = []
ascending text (x ∷ xs) = among text x (ascending text xs)

-- a coordinate system, its axes in order of these texts
abbrev pub arranged : (AxisParts → List ℕ) → SystemParts → SystemParts
arranged text s = record s { axes = ascending text s.axes }

-- a geodetic or geographic CRS, its axes in order of these texts
abbrev pub arranged_geodetic : (AxisParts → List ℕ) → GeodeticParts → GeodeticParts
arranged_geodetic text g = record g { system = arranged text g.system }

-- a projected CRS, its axes in order of these texts
abbrev pub arranged_projected : (AxisParts → List ℕ) → ProjectedParts → ProjectedParts
arranged_projected text p = record p { system = arranged text p.system }

-- a vertical CRS, its axes in order of these texts
abbrev pub arranged_vertical : (AxisParts → List ℕ) → VerticalParts → VerticalParts
arranged_vertical text v = record v { system = arranged text v.system }

-- the horizontal part of a compound CRS, its axes in order of these texts
abbrev pub arranged_across : (AxisParts → List ℕ) → Horizontal → Horizontal
arranged_across text (horizontal.Geodetic g) = horizontal.Geodetic (arranged_geodetic text g)
arranged_across text (horizontal.Projected p) = horizontal.Projected (arranged_projected text p)

-- a compound CRS, the axes of both parts in order of these texts
abbrev pub arranged_compound : (AxisParts → List ℕ) → CompoundParts → CompoundParts
arranged_compound text c = record c {
  horizontal = arranged_across text c.horizontal;
  vertical = arranged_vertical text c.vertical;
}

-- a CRS, its axes in order of these texts
abbrev pub arranged_crs : (AxisParts → List ℕ) → Crs → Crs
arranged_crs text (crs.Geodetic g) = crs.Geodetic (arranged_geodetic text g)
arranged_crs text (crs.Projected p) = crs.Projected (arranged_projected text p)
arranged_crs text (crs.Vertical v) = crs.Vertical (arranged_vertical text v)
arranged_crs text (crs.Compound c) = crs.Compound (arranged_compound text c)

-- a CRS under rules, where these are the texts of axes
abbrev pub rewritten : (AxisParts → List ℕ) → Meaning → Crs → Crs
rewritten text r x = if r.uncounted.axis_order then arranged_crs text (renamed r x) else renamed r x

-- ---- the form of a text under rules, and which texts are the same under them

-- these are the texts of axes: the one spelling of each by itself, with all that it holds
abbrev pub AreTextsOfAxes : (AxisParts → List ℕ) → Type 0
AreTextsOfAxes text = (axis : AxisParts) → IsAxis axis → IsSpelledAxis levels.Full axis (text axis)

-- the form of a text under rules at a level: its canonical text spells a CRS; the form is the
-- canonical text of that CRS rewritten
pub record IsForm (rules : RulesParts) (level : Level) (text bytes : List ℕ) : Type 0 where
  pub canonical : List ℕ
  pub is_canonical : IsCanonicalOf level text canonical
  pub value : Crs
  pub spells : Spells canonical value
  pub axis_text : AxisParts → List ℕ
  pub are_axis_texts : AreTextsOfAxes axis_text
  pub form : IsCanonicalText level (rewritten axis_text (meaning rules) value) bytes

-- two texts are the same under rules: they have one form
abbrev pub SameUnder : RulesParts → Level → List ℕ → List ℕ → Type 0
SameUnder rules level a b = (bytes : List ℕ) × IsForm rules level a bytes × IsForm rules level b bytes
