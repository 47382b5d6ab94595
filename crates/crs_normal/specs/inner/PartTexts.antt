-- A bridge: the texts of nodes by themselves, outside a CRS.
use Rattle.std.specs.Prelude.{ℕ, List, Option, Some, None, codes}
use Rattle.crs_text.specs.Items.{Item}
use Rattle.crs_text.specs.Written.{item_text}
use Rattle.crs_shape.specs.declared.unit_kind.UnitKind.TheVariants as kinds
use Rattle.crs_value.specs.CompoundValues.{CompoundParts}
use Rattle.crs_value.specs.Values.{ConversionParts, GeoidModelParts, MethodParts, ParameterParts, DeformationModelParts, DynamicParts, AxisMeridianParts, AxisParts, BoxParts, DatumParts, EllipsoidParts, EnsembleParts, ExtentParts, IdentParts, MemberParts, MeridianParts, UnitParts, UsageParts}
use Rattle.crs_value.specs.CrsValues.{BaseParts, GeodeticParts, ProjectedParts, VerticalParts}
use Rattle.crs_value.specs.declared.values.compound.Horizontal.{Horizontal}
use Rattle.crs_value.specs.declared.values.frame.Frame.{Frame}
use Rattle.crs_value.specs.declared.values.frame.Frame.TheVariants as frame
use Rattle.crs_value.specs.declared.values.level.Level.{Level}
use Rattle.crs_normal.specs.inner.SpelledCrs.{item_conversion, item_geoid_model, item_method, item_parameter, norm_conversion, norm_geoid_model, norm_method, norm_parameter}
use Rattle.crs_normal.specs.inner.SpelledCrs.{item_base, item_compound, item_geodetic, item_horizontal, item_projected, item_vertical, norm_base, norm_compound, norm_geodetic, norm_horizontal, norm_projected, norm_vertical}
use Rattle.crs_normal.specs.inner.SpelledCrs.{item_deformation_model, item_dynamic, norm_deformation_model, norm_dynamic, item_axis, item_axis_meridian, norm_axis_meridian, norm_axis_meridians}
use Rattle.crs_normal.specs.inner.SpelledFrames.{item_datum, item_ellipsoid, item_ensemble, item_member, item_meridian, norm_datum, norm_ellipsoid, norm_ensemble, norm_given, norm_member}
use Rattle.crs_normal.specs.inner.SpelledItems.{item_ident, item_unit, norm_unit, norm_units, set_idents, item_box, item_extent, item_usage, norm_extent, norm_usage}

-- the text of an identifier, at every level the same
abbrev pub ident_text : Level → IdentParts → List ℕ
ident_text level x = item_text (item_ident x)

-- the text of a unit, where `UNIT` is a kind of its own
abbrev pub unit_text : Level → UnitParts → List ℕ
unit_text level x = item_text (item_unit (norm_unit level kinds.Plain x))

-- the text of the meridian of an axis
abbrev pub axis_meridian_text : Level → AxisMeridianParts → List ℕ
axis_meridian_text level x = item_text (item_axis_meridian (norm_axis_meridian level x))

-- an axis by itself in its one form, with the order and the unit that it holds
abbrev pub norm_axis_alone : Level → AxisParts → AxisParts
norm_axis_alone level x = record {
  name = x.name;
  direction = x.direction;
  meridian = norm_axis_meridians level x.meridian;
  order = x.order;
  unit = norm_units level kinds.Plain x.unit;
  identifiers = set_idents level x.identifiers;
}

-- the text of an axis
abbrev pub axis_text : Level → AxisParts → List ℕ
axis_text level x = item_text (item_axis (norm_axis_alone level x))

-- ---- frames

-- the text of an ellipsoid
abbrev pub ellipsoid_text : Level → EllipsoidParts → List ℕ
ellipsoid_text level x = item_text (item_ellipsoid (norm_ellipsoid level x))

-- the text of a prime meridian
abbrev pub meridian_text : Level → MeridianParts → List ℕ
meridian_text level x = item_text (item_meridian (norm_given level x))

-- the text of a member of an ensemble
abbrev pub member_text : Level → MemberParts → List ℕ
member_text level x = item_text (item_member (norm_member level x))

-- a reference frame with an ellipsoid is geodetic, one without vertical
abbrev pub datum_keyword : Option EllipsoidParts → List ℕ
datum_keyword None = codes "VDATUM"
datum_keyword (Some ellipsoid) = codes "DATUM"

-- a reference frame as a node, under the keyword of its own kind
abbrev pub item_own_datum : DatumParts → Item
item_own_datum x = item_datum (datum_keyword x.ellipsoid) x

-- the text of a reference frame
abbrev pub datum_text : Level → DatumParts → List ℕ
datum_text level x = item_text (item_own_datum (norm_datum level x))

-- the text of a datum ensemble
abbrev pub ensemble_text : Level → EnsembleParts → List ℕ
ensemble_text level x = item_text (item_ensemble (norm_ensemble level x))

-- the text of a reference frame or a datum ensemble
abbrev pub frame_text : Level → Frame → List ℕ
frame_text level (frame.Datum x) = datum_text level x
frame_text level (frame.Ensemble x) = ensemble_text level x

-- ---- dynamic parts

-- the text of a deformation model
abbrev pub deformation_model_text : Level → DeformationModelParts → List ℕ
deformation_model_text level x = item_text (item_deformation_model (norm_deformation_model level x))

-- the text of the dynamic part of a CRS
abbrev pub dynamic_text : Level → DynamicParts → List ℕ
dynamic_text level x = item_text (item_dynamic (norm_dynamic level x))

-- ---- conversions and geoid models

-- the text of the method of a conversion
abbrev pub method_text : Level → MethodParts → List ℕ
method_text level x = item_text (item_method (norm_method level x))

-- the text of a parameter
abbrev pub parameter_text : Level → ParameterParts → List ℕ
parameter_text level x = item_text (item_parameter (norm_parameter level x))

-- the text of a conversion
abbrev pub conversion_text : Level → ConversionParts → List ℕ
conversion_text level x = item_text (item_conversion (norm_conversion level x))

-- the text of a geoid model
abbrev pub geoid_model_text : Level → GeoidModelParts → List ℕ
geoid_model_text level x = item_text (item_geoid_model (norm_geoid_model level x))

-- ---- usages; boxes and usages are written alike at every level

-- the text of a bounding box
abbrev pub box_text : Level → BoxParts → List ℕ
box_text level x = item_text (item_box x)

-- the text of a vertical extent
abbrev pub extent_text : Level → ExtentParts → List ℕ
extent_text level x = item_text (item_extent (norm_extent level x))

-- the text of a usage
abbrev pub usage_text : Level → UsageParts → List ℕ
usage_text level x = item_text (item_usage (norm_usage x))

-- ---- CRSs of each kind, and base CRSs

-- the text of a base CRS
abbrev pub base_text : Level → BaseParts → List ℕ
base_text level x = item_text (item_base (norm_base level x))

-- the text of a geodetic or geographic CRS
abbrev pub geodetic_text : Level → GeodeticParts → List ℕ
geodetic_text level x = item_text (item_geodetic (norm_geodetic level x))

-- the text of a projected CRS
abbrev pub projected_text : Level → ProjectedParts → List ℕ
projected_text level x = item_text (item_projected (norm_projected level x))

-- the text of a vertical CRS
abbrev pub vertical_text : Level → VerticalParts → List ℕ
vertical_text level x = item_text (item_vertical (norm_vertical level x))

-- the text of the horizontal part of a compound CRS
abbrev pub horizontal_text : Level → Horizontal → List ℕ
horizontal_text level x = item_text (item_horizontal (norm_horizontal level x))

-- the text of a compound CRS
abbrev pub compound_text : Level → CompoundParts → List ℕ
compound_text level x = item_text (item_compound (norm_compound level x))
