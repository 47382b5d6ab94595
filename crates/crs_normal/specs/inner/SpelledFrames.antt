-- A bridge: ellipsoids, prime meridians, reference frames and ensembles in their one form, and as items.
use Rattle.std.specs.Prelude.{ℕ, ◌==◌, Bool, List, Option, Some, None, codes, map, if◌then◌else◌}
use Rattle.std.specs.Option.{option_map}
use Rattle.crs_decimal.specs.Numbers.{Value}
use Rattle.crs_text.specs.Items.{Item, End, More}
use Rattle.crs_text.specs.Written.{item_text}
use Rattle.crs_shape.specs.declared.unit_kind.UnitKind.TheVariants as kinds
use Rattle.crs_value.specs.Values.{EllipsoidParts, MeridianParts, MemberParts, DatumParts, EnsembleParts}
use Rattle.crs_value.specs.declared.values.frame.Frame.{Frame}
use Rattle.crs_value.specs.declared.values.frame.Frame.TheVariants as frame
use Rattle.crs_value.specs.declared.values.level.Level.{Level}
use Rattle.crs_same.specs.Parts.{or_greenwich}
use Rattle.crs_normal.specs.inner.SpelledItems.{in_order, each, node_of, number_item, number_node, opt, text_item, text_node, item_ident, item_unit, norm_length, norm_units, set_idents}

-- ---- ellipsoids: the unit is written

-- an ellipsoid, with its unit written and the identifiers that the level keeps
abbrev pub norm_ellipsoid : Level → EllipsoidParts → EllipsoidParts
norm_ellipsoid level e = record {
  name = e.name;
  semi_major_axis = e.semi_major_axis;
  inverse_flattening = e.inverse_flattening;
  unit = Some (norm_length level e.unit);
  identifiers = set_idents level e.identifiers;
}

-- an ellipsoid as a node: name, semi-major axis, inverse flattening, unit, identifiers
abbrev pub item_ellipsoid : EllipsoidParts → Item
item_ellipsoid e =
    node_of (codes "ELLIPSOID") (text_item e.name) (More (number_item e.semi_major_axis)
    (More (number_item e.inverse_flattening)
    (opt item_unit e.unit (each item_ident e.identifiers End))))

-- ---- prime meridians: a missing one is Greenwich, and at longitude 0 there is no unit

-- whether a number is zero
abbrev pub is_zero : Value → Bool
is_zero value = value.digits == 0

-- what a missing prime meridian is: Greenwich at longitude 0
abbrev pub greenwich : MeridianParts
greenwich = or_greenwich None

-- a prime meridian that is written: at longitude 0 without a unit
abbrev pub norm_given : Level → MeridianParts → MeridianParts
norm_given level m = record {
  name = m.name;
  longitude = m.longitude;
  unit = if is_zero m.longitude then None else norm_units level kinds.Angle m.unit;
  identifiers = set_idents level m.identifiers;
}

-- the prime meridian of a CRS; a missing one is Greenwich
abbrev pub norm_meridian : Level → Option MeridianParts → Option MeridianParts
norm_meridian level None = Some greenwich
norm_meridian level (Some m) = Some (norm_given level m)

-- a prime meridian as a node: name, longitude, unit, identifiers
abbrev pub item_meridian : MeridianParts → Item
item_meridian m =
    node_of (codes "PRIMEM") (text_item m.name) (More (number_item m.longitude)
    (opt item_unit m.unit (each item_ident m.identifiers End)))

-- ---- members: a set

-- a member of an ensemble, with the identifiers that the level keeps
abbrev pub norm_member : Level → MemberParts → MemberParts
norm_member level m = record { name = m.name; identifiers = set_idents level m.identifiers }

-- a member of an ensemble as a node: name, identifiers
abbrev pub item_member : MemberParts → Item
item_member m = node_of (codes "MEMBER") (text_item m.name) (each item_ident m.identifiers End)

-- the members of an ensemble, as a set
unfoldable pub set_members : Level → List MemberParts → List MemberParts
set_members level members = in_order (λ m. item_text (item_member m)) (map (norm_member level) members)

-- ---- frames

-- a reference frame, with its ellipsoid in its one form and the identifiers that the level keeps
abbrev pub norm_datum : Level → DatumParts → DatumParts
norm_datum level d = record {
  name = d.name;
  ellipsoid = option_map (norm_ellipsoid level) d.ellipsoid;
  anchor = d.anchor;
  anchor_epoch = d.anchor_epoch;
  identifiers = set_idents level d.identifiers;
}

-- a datum ensemble, with its members as a set and its ellipsoid in its one form
abbrev pub norm_ensemble : Level → EnsembleParts → EnsembleParts
norm_ensemble level e = record {
  name = e.name;
  members = set_members level e.members;
  ellipsoid = option_map (norm_ellipsoid level) e.ellipsoid;
  accuracy = e.accuracy;
  identifiers = set_idents level e.identifiers;
}

-- a reference frame or a datum ensemble
abbrev pub norm_frame : Level → Frame → Frame
norm_frame level (frame.Datum d) = frame.Datum (norm_datum level d)
norm_frame level (frame.Ensemble e) = frame.Ensemble (norm_ensemble level e)

-- a reference frame as a node, under the keyword of a geodetic or a vertical one
abbrev pub item_datum : List ℕ → DatumParts → Item
item_datum keyword d =
    node_of keyword (text_item d.name) (opt item_ellipsoid d.ellipsoid
    (opt (text_node (codes "ANCHOR")) d.anchor
    (opt (number_node (codes "ANCHOREPOCH")) d.anchor_epoch
    (each item_ident d.identifiers End))))

-- a datum ensemble as a node: name, members, ellipsoid, accuracy, identifiers
abbrev pub item_ensemble : EnsembleParts → Item
item_ensemble e =
    node_of (codes "ENSEMBLE") (text_item e.name)
    (each item_member e.members (opt item_ellipsoid e.ellipsoid
    (More (number_node (codes "ENSEMBLEACCURACY") e.accuracy) (each item_ident e.identifiers End))))

-- a reference frame or a datum ensemble as a node
abbrev pub item_frame : List ℕ → Frame → Item
item_frame keyword (frame.Datum d) = item_datum keyword d
item_frame keyword (frame.Ensemble e) = item_ensemble e
