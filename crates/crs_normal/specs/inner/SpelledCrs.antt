-- A bridge: coordinate systems, conversions, dynamic parts and CRSs in their one form, and as items.
use Rattle.std.specs.Prelude.{ℕ, zero, suc, ◌+◌, ◌==◌, Bool, List, [], ◌∷◌, Option, Some, None, length, decimal, codes, if◌then◌else◌, map}
use Rattle.std.specs.Str.{bytes_eq}
use Rattle.crs_decimal.specs.Numbers.{plain, Value}
use Rattle.crs_text.specs.Items.{Item, Siblings, End, More}
use Rattle.crs_shape.specs.Words.{asked_kind, direction_word, system_word}
use Rattle.crs_value.specs.Values.{AxisMeridianParts, AxisParts, SystemParts, MethodParts, ParameterParts, ConversionParts, GeoidModelParts, DeformationModelParts, DynamicParts}
use Rattle.crs_value.specs.declared.values.level.Level.{Level}
use Rattle.crs_same.specs.SameParts.{own_or}
use Rattle.crs_normal.specs.inner.SpelledItems.{each, node_of, number_item, number_node, opt, text_item, word_item, item_ident, item_unit, norm_unit, norm_units, set_idents, whole_value, in_order, norm_tail, tail_items}
use Rattle.crs_text.specs.Written.{item_text}
use Rattle.std.specs.Option.{option_map}
use Rattle.crs_shape.specs.declared.system_type.SystemType.{SystemType}
use Rattle.crs_value.specs.CompoundValues.{CompoundParts}
use Rattle.crs_value.specs.CrsValues.{GeodeticParts, BaseParts, ProjectedParts, VerticalParts}
use Rattle.crs_value.specs.declared.values.compound.Horizontal.{Horizontal}
use Rattle.crs_value.specs.declared.values.crs.Crs.{Crs}
use Rattle.crs_normal.specs.inner.SpelledFrames.{item_frame, item_meridian, norm_frame, norm_meridian}
use Rattle.crs_shape.specs.declared.unit_kind.UnitKind.TheVariants as kinds
use Rattle.crs_shape.specs.declared.system_type.SystemType.TheVariants as types
use Rattle.crs_value.specs.declared.values.compound.Horizontal.TheVariants as horizontal
use Rattle.crs_value.specs.declared.values.crs.Crs.TheVariants as crs

-- the meridian of an axis: its unit is one of angle
abbrev pub norm_axis_meridian : Level → AxisMeridianParts → AxisMeridianParts
norm_axis_meridian level m = record { longitude = m.longitude; unit = norm_unit level kinds.Angle m.unit }

-- the meridian of an axis, which may be missing
abbrev pub norm_axis_meridians : Level → Option AxisMeridianParts → Option AxisMeridianParts
norm_axis_meridians level None = None
norm_axis_meridians level (Some m) = Some (norm_axis_meridian level m)

-- the axis at a position of a system: with its position as order, and its own unit or the shared one
unfoldable pub norm_axis : Level → SystemParts → ℕ → AxisParts → AxisParts
norm_axis level system k axis = record {
  name = axis.name;
  direction = axis.direction;
  meridian = norm_axis_meridians level axis.meridian;
  order = Some (whole_value k);
  unit =
      norm_units level (asked_kind system.system_type axis.direction)
      (own_or axis.unit system.unit);
  identifiers = set_idents level axis.identifiers;
}

-- whether a number is this whole number
abbrev pub is_number : Value → ℕ → Bool
is_number value n = bytes_eq (plain value) (decimal n)

-- whether an axis that is written at this place has this position
abbrev pub is_at : ℕ → ℕ → Option Value → Bool
is_at position place None = place == position
is_at position place (Some order) = is_number order position

-- the axis at a position, where the first of these is written at this place
abbrev pub axis_at : ℕ → ℕ → List AxisParts → Option AxisParts
axis_at position place [] = None
axis_at position place (axis ∷ axes) =
    if is_at position place axis.order then Some axis else axis_at position (place + 1) axes

-- the axis at position k, if there is one, before these others
abbrev pub with_axis : Level → SystemParts → ℕ → Option AxisParts → List AxisParts → List AxisParts
with_axis level system k None rest = rest
with_axis level system k (Some axis) rest = norm_axis level system k axis ∷ rest

-- the axes at `n` positions from k on
abbrev pub axes_from : Level → SystemParts → ℕ → ℕ → List AxisParts
axes_from level system k zero = []
axes_from level system k (suc n) = with_axis level system k (axis_at k 1 system.axes) (axes_from level system (k + 1) n)

-- a coordinate system: its axes by position, each with its order and its own unit; none is shared
abbrev pub norm_system : Level → SystemParts → SystemParts
norm_system level s = record {
  system_type = s.system_type;
  dimension = s.dimension;
  identifiers = set_idents level s.identifiers;
  axes = axes_from level s 1 (length s.axes);
  unit = None;
}

-- the meridian of an axis as a node: longitude, unit
abbrev pub item_axis_meridian : AxisMeridianParts → Item
item_axis_meridian m = node_of (codes "MERIDIAN") (number_item m.longitude) (More (item_unit m.unit) End)

-- an axis as a node: name, direction, meridian, order, unit, identifiers
abbrev pub item_axis : AxisParts → Item
item_axis axis =
    node_of (codes "AXIS") (text_item axis.name) (More (word_item (direction_word axis.direction))
    (opt item_axis_meridian axis.meridian (opt (number_node (codes "ORDER")) axis.order
    (opt item_unit axis.unit (each item_ident axis.identifiers End)))))

-- the node `CS`, without the axes that follow it
abbrev pub item_head : SystemParts → Item
item_head s =
    node_of (codes "CS") (word_item (system_word s.system_type))
    (More (number_item s.dimension) (each item_ident s.identifiers End))

-- a coordinate system as items: the node `CS` and its axes, before these others
abbrev pub system_items : SystemParts → Siblings → Siblings
system_items s rest = More (item_head s) (each item_axis s.axes rest)

-- ---- a bridge: conversions and geoid models in their one form, and as items

-- the method of a conversion, with the identifiers that the level keeps
abbrev pub norm_method : Level → MethodParts → MethodParts
norm_method level m = record { name = m.name; identifiers = set_idents level m.identifiers }

-- the method of a conversion as a node: name, identifiers
abbrev pub item_method : MethodParts → Item
item_method m = node_of (codes "METHOD") (text_item m.name) (each item_ident m.identifiers End)

-- ---- parameters: a set; `UNIT` is a kind of its own

-- a parameter, with its unit as it is written
abbrev pub norm_parameter : Level → ParameterParts → ParameterParts
norm_parameter level p = record {
  name = p.name;
  value = p.value;
  unit = norm_units level kinds.Plain p.unit;
  identifiers = set_idents level p.identifiers;
}

-- a parameter as a node: name, value, unit, identifiers
abbrev pub item_parameter : ParameterParts → Item
item_parameter p =
    node_of (codes "PARAMETER") (text_item p.name)
    (More (number_item p.value) (opt item_unit p.unit (each item_ident p.identifiers End)))

-- the parameters of a conversion, as a set
unfoldable pub set_parameters : Level → List ParameterParts → List ParameterParts
set_parameters level parameters = in_order (λ p. item_text (item_parameter p)) (map (norm_parameter level) parameters)

-- a conversion, with its parameters as a set
abbrev pub norm_conversion : Level → ConversionParts → ConversionParts
norm_conversion level c = record {
  name = c.name;
  method = norm_method level c.method;
  parameters = set_parameters level c.parameters;
  identifiers = set_idents level c.identifiers;
}

-- a conversion as a node: name, method, parameters, identifiers
abbrev pub item_conversion : ConversionParts → Item
item_conversion c =
    node_of (codes "CONVERSION") (text_item c.name)
    (More (item_method c.method)
    (each item_parameter c.parameters (each item_ident c.identifiers End)))

-- ---- geoid models: a set

-- a geoid model, with the identifiers that the level keeps
abbrev pub norm_geoid_model : Level → GeoidModelParts → GeoidModelParts
norm_geoid_model level g = record { name = g.name; identifiers = set_idents level g.identifiers }

-- a geoid model as a node: name, identifiers
abbrev pub item_geoid_model : GeoidModelParts → Item
item_geoid_model g = node_of (codes "GEOIDMODEL") (text_item g.name) (each item_ident g.identifiers End)

-- the geoid models of a vertical CRS, as a set
unfoldable pub set_geoid_models : Level → List GeoidModelParts → List GeoidModelParts
set_geoid_models level models = in_order (λ g. item_text (item_geoid_model g)) (map (norm_geoid_model level) models)

-- ---- a bridge: dynamic parts in their one form, and as items

-- a deformation model, with the identifiers that the level keeps
abbrev pub norm_deformation_model : Level → DeformationModelParts → DeformationModelParts
norm_deformation_model level m = record { name = m.name; identifiers = set_idents level m.identifiers }

-- a deformation model as a node: name, identifiers
abbrev pub item_deformation_model : DeformationModelParts → Item
item_deformation_model m = node_of (codes "MODEL") (text_item m.name) (each item_ident m.identifiers End)

-- the dynamic part of a CRS: the epoch of its frame, and its deformation model
abbrev pub norm_dynamic : Level → DynamicParts → DynamicParts
norm_dynamic level d = record { epoch = d.epoch; model = option_map (norm_deformation_model level) d.model }

-- the dynamic part of a CRS as a node: the epoch of its frame, and its deformation model
abbrev pub item_dynamic : DynamicParts → Item
item_dynamic d =
    node_of (codes "DYNAMIC") (number_node (codes "FRAMEEPOCH") d.epoch)
    (opt item_deformation_model d.model End)

-- ---- a bridge: coordinate reference systems in their one form, and as items

-- ---- geodetic and geographic CRSs

-- a geodetic or geographic CRS, each of its parts in its one form
abbrev pub norm_geodetic : Level → GeodeticParts → GeodeticParts
norm_geodetic level g = record {
  name = g.name;
  dynamic = option_map (norm_dynamic level) g.dynamic;
  frame = norm_frame level g.frame;
  meridian = norm_meridian level g.meridian;
  system = norm_system level g.system;
  tail = norm_tail level g.tail;
}

-- the keyword of a geodetic CRS, which is geographic where its coordinate system is ellipsoidal
abbrev pub geodetic_keyword : SystemType → List ℕ
geodetic_keyword types.Ellipsoidal = codes "GEOGCRS"
geodetic_keyword types.Cartesian = codes "GEODCRS"
geodetic_keyword types.Spherical = codes "GEODCRS"
geodetic_keyword types.Vertical = codes "GEODCRS"

-- a geodetic or geographic CRS as a node: name, dynamic part, frame, prime meridian, system, end
abbrev pub item_geodetic : GeodeticParts → Item
item_geodetic g =
    node_of (geodetic_keyword g.system.system_type) (text_item g.name)
    (opt item_dynamic g.dynamic (More (item_frame (codes "DATUM") g.frame)
    (opt item_meridian g.meridian (system_items g.system (tail_items g.tail)))))

-- ---- projected CRSs

-- a base CRS, each of its parts in its one form; its unit is one of angle
abbrev pub norm_base : Level → BaseParts → BaseParts
norm_base level b = record {
  name = b.name;
  dynamic = option_map (norm_dynamic level) b.dynamic;
  frame = norm_frame level b.frame;
  meridian = norm_meridian level b.meridian;
  unit = norm_units level kinds.Angle b.unit;
  identifiers = set_idents level b.identifiers;
}

-- a base CRS as a node: name, dynamic part, frame, prime meridian, unit, identifiers
abbrev pub item_base : BaseParts → Item
item_base b =
    node_of (codes "BASEGEOGCRS") (text_item b.name)
    (opt item_dynamic b.dynamic (More (item_frame (codes "DATUM") b.frame)
    (opt item_meridian b.meridian (opt item_unit b.unit (each item_ident b.identifiers End)))))

-- a projected CRS, each of its parts in its one form
abbrev pub norm_projected : Level → ProjectedParts → ProjectedParts
norm_projected level p = record {
  name = p.name;
  base = norm_base level p.base;
  conversion = norm_conversion level p.conversion;
  system = norm_system level p.system;
  tail = norm_tail level p.tail;
}

-- a projected CRS as a node: name, base CRS, conversion, system, end
abbrev pub item_projected : ProjectedParts → Item
item_projected p =
    node_of (codes "PROJCRS") (text_item p.name)
    (More (item_base p.base) (More (item_conversion p.conversion)
    (system_items p.system (tail_items p.tail))))

-- ---- vertical CRSs

-- a vertical CRS, each of its parts in its one form
abbrev pub norm_vertical : Level → VerticalParts → VerticalParts
norm_vertical level v = record {
  name = v.name;
  dynamic = option_map (norm_dynamic level) v.dynamic;
  frame = norm_frame level v.frame;
  system = norm_system level v.system;
  geoid_models = set_geoid_models level v.geoid_models;
  tail = norm_tail level v.tail;
}

-- a vertical CRS as a node: name, dynamic part, frame, system, geoid models, end
abbrev pub item_vertical : VerticalParts → Item
item_vertical v =
    node_of (codes "VERTCRS") (text_item v.name)
    (opt item_dynamic v.dynamic (More (item_frame (codes "VDATUM") v.frame)
    (system_items v.system (each item_geoid_model v.geoid_models (tail_items v.tail)))))

-- ---- compound CRSs

-- the horizontal part of a compound CRS, in its one form
abbrev pub norm_horizontal : Level → Horizontal → Horizontal
norm_horizontal level (horizontal.Geodetic g) = horizontal.Geodetic (norm_geodetic level g)
norm_horizontal level (horizontal.Projected p) = horizontal.Projected (norm_projected level p)

-- the horizontal part of a compound CRS as a node
abbrev pub item_horizontal : Horizontal → Item
item_horizontal (horizontal.Geodetic g) = item_geodetic g
item_horizontal (horizontal.Projected p) = item_projected p

-- a compound CRS, each of its parts in its one form
abbrev pub norm_compound : Level → CompoundParts → CompoundParts
norm_compound level c = record {
  name = c.name;
  horizontal = norm_horizontal level c.horizontal;
  vertical = norm_vertical level c.vertical;
  tail = norm_tail level c.tail;
}

-- a compound CRS as a node: name, horizontal part, vertical part, end
abbrev pub item_compound : CompoundParts → Item
item_compound c =
    node_of (codes "COMPOUNDCRS") (text_item c.name) (More (item_horizontal c.horizontal)
    (More (item_vertical c.vertical) (tail_items c.tail)))

-- ---- all

-- a CRS in its one form at a level
abbrev pub norm_crs : Level → Crs → Crs
norm_crs level (crs.Geodetic g) = crs.Geodetic (norm_geodetic level g)
norm_crs level (crs.Projected p) = crs.Projected (norm_projected level p)
norm_crs level (crs.Vertical v) = crs.Vertical (norm_vertical level v)
norm_crs level (crs.Compound c) = crs.Compound (norm_compound level c)

-- a CRS as the node of its kind
abbrev pub item_crs : Crs → Item
item_crs (crs.Geodetic g) = item_geodetic g
item_crs (crs.Projected p) = item_projected p
item_crs (crs.Vertical v) = item_vertical v
item_crs (crs.Compound c) = item_compound c
