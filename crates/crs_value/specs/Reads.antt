-- What the nodes say, field by field. Each field is read from the arguments of its class.
use Rattle.std.specs.Prelude.{◌≡◌, ℕ, [], Option, Some, None, drop, List, ◌∷◌}
use Rattle.crs_decimal.specs.Numbers.{Denotes, Value, IsNormal, exact}
use Rattle.crs_text.specs.Items.{Item, arguments, raw_of}
use Rattle.crs_shape.specs.declared.class.Class.{Class}
use Rattle.crs_shape.specs.declared.direction.Direction.{Direction}
use Rattle.crs_shape.specs.declared.system_type.SystemType.{SystemType}
use Rattle.crs_shape.specs.declared.unit_kind.UnitKind.{UnitKind}
use Rattle.crs_shape.specs.Words.{SpellsWord, direction_word, system_word, unit_word}
use Rattle.crs_value.specs.Reading.{those, ReadsFirst, ReadsOne, ReadsIfAny, ReadsAll, ReadsOneElse, ReadsNamed}
use Rattle.crs_value.specs.Values.{UnitParts, AxisMeridianParts, AxisParts, SystemParts, EllipsoidParts, MeridianParts, DatumParts, EnsembleParts, BoxParts, ExtentParts, UsageParts, SaysSome, TailParts, ParameterParts, ConversionParts, DynamicParts}
use Rattle.crs_shape.specs.declared.class.Class.TheVariants as class
pub use Rattle.crs_value.specs.Reading.{ReadsText, single_of, ReadsIdent, ReadsTextOf, ReadsIds, ReadsNamed as ReadsMember, ReadsNamed as ReadsMethod, ReadsNamed as ReadsGeoidModel, ReadsNamed as ReadsDeformationModel}

-- ---- single items

-- a number is the decimal of the number that it spells
abbrev pub ReadsNumber : Item → Value → Type 0
ReadsNumber item value = IsNormal value × Denotes (raw_of item) (exact value)

-- the type of a coordinate system is the one whose word is spelled
abbrev pub ReadsType : Item → SystemType → Type 0
ReadsType item value = SpellsWord (raw_of item) (system_word value)

-- the direction of an axis is the one whose word is spelled
abbrev pub ReadsDirection : Item → Direction → Type 0
ReadsDirection item value = SpellsWord (raw_of item) (direction_word value)

-- the kind of a unit is the one whose keyword is spelled
abbrev pub ReadsKind : Item → UnitKind → Type 0
ReadsKind item value = SpellsWord (raw_of item) (unit_word value)

-- ---- nodes of one text or one number

-- the node's number
abbrev pub ReadsNumberOf : Class → Item → Value → Type 0
ReadsNumberOf c item value = ReadsFirst ReadsNumber (those c class.Number (arguments item)) value

-- the number at this place among the node's numbers, the first at 0
abbrev pub ReadsNumberAt : ℕ → Class → Item → Value → Type 0
ReadsNumberAt k c item value = ReadsFirst ReadsNumber (drop k (those c class.Number (arguments item))) value

-- ---- nodes

-- a unit: its kind, its name, its factor and its identifiers
pub record ReadsUnit (c : Class) (item : Item) (parts : UnitParts) : Type 0 where
  pub kind : ReadsKind item parts.kind
  pub name : ReadsTextOf c item parts.name
  pub factor : ReadsNumberOf c item parts.factor
  pub identifiers : ReadsIds c item parts.identifiers

-- the meridian that an axis goes along: its longitude, and the unit of that
pub record ReadsAxisMeridian (c : Class) (item : Item) (parts : AxisMeridianParts) : Type 0 where
  pub longitude : ReadsNumberOf c item parts.longitude
  pub unit : ReadsOne ReadsUnit class.AngleUnit c item parts.unit

-- an axis: its name and direction, its meridian, order and unit, where they are written, and its identifiers
pub record ReadsAxis (c : Class) (item : Item) (parts : AxisParts) : Type 0 where
  pub name : ReadsTextOf c item parts.name
  pub direction : ReadsFirst ReadsDirection (those c class.Word (arguments item)) parts.direction
  pub meridian : ReadsIfAny ReadsAxisMeridian class.AxisMeridian c item parts.meridian
  pub order : ReadsIfAny ReadsNumberOf class.Order c item parts.order
  pub unit : ReadsIfAny ReadsUnit class.AxisUnit c item parts.unit
  pub identifiers : ReadsIds c item parts.identifiers

-- the node `CS` has this type
abbrev pub HasType : Item → SystemType → Type 0
HasType cs value = ReadsFirst ReadsType (those class.CoordinateSystem class.Word (arguments cs)) value

-- the node `CS` has this dimension
abbrev pub HasDimension : Item → Value → Type 0
HasDimension cs value = ReadsNumberOf class.CoordinateSystem cs value

-- what a node `CS` says of a coordinate system: its type, its dimension and its identifiers
pub record ReadsHead (item : Item) (parts : SystemParts) : Type 0 where
  pub system_type : HasType item parts.system_type
  pub dimension : HasDimension item parts.dimension
  pub identifiers : ReadsIds class.CoordinateSystem item parts.identifiers

-- the coordinate system of a CRS: its node `CS`, and the axes and the shared unit beside that
pub record ReadsSystem (c : Class) (item : Item) (parts : SystemParts) : Type 0 where
  pub head : ReadsFirst ReadsHead (those c class.CoordinateSystem (arguments item)) parts
  pub axes : ReadsAll ReadsAxis class.Axis c item parts.axes
  pub unit : ReadsIfAny ReadsUnit class.AxisUnit c item parts.unit

-- an ellipsoid: its name, its semi-major axis, its inverse flattening, its unit, if one is written, and its identifiers
pub record ReadsEllipsoid (c : Class) (item : Item) (parts : EllipsoidParts) : Type 0 where
  pub name : ReadsTextOf c item parts.name
  pub semi_major_axis : ReadsNumberAt 0 c item parts.semi_major_axis
  pub inverse_flattening : ReadsNumberAt 1 c item parts.inverse_flattening
  pub unit : ReadsIfAny ReadsUnit class.LengthUnit c item parts.unit
  pub identifiers : ReadsIds c item parts.identifiers

-- a prime meridian: its name, its longitude, the unit of that, if one is written, and its identifiers
pub record ReadsMeridian (c : Class) (item : Item) (parts : MeridianParts) : Type 0 where
  pub name : ReadsTextOf c item parts.name
  pub longitude : ReadsNumberOf c item parts.longitude
  pub unit : ReadsIfAny ReadsUnit class.AngleUnit c item parts.unit
  pub identifiers : ReadsIds c item parts.identifiers

-- a reference frame: its name, its ellipsoid, its anchor and its anchor's epoch, where they are
-- written, and its identifiers; a second anchor or epoch is a repeated part
pub record ReadsDatum (c : Class) (item : Item) (parts : DatumParts) : Type 0 where
  pub name : ReadsTextOf c item parts.name
  pub ellipsoid : ReadsIfAny ReadsEllipsoid class.Ellipsoid c item parts.ellipsoid
  pub anchor : ReadsIfAny ReadsTextOf class.Anchor c item parts.anchor
  pub anchor_epoch : ReadsIfAny ReadsNumberOf class.AnchorEpoch c item parts.anchor_epoch
  pub identifiers : ReadsIds c item parts.identifiers

-- a datum ensemble: its name, its members in order, its ellipsoid, if one is written, its accuracy and its identifiers
pub record ReadsEnsemble (c : Class) (item : Item) (parts : EnsembleParts) : Type 0 where
  pub name : ReadsTextOf c item parts.name
  pub members : ReadsAll ReadsNamed class.Member c item parts.members
  pub ellipsoid : ReadsIfAny ReadsEllipsoid class.Ellipsoid c item parts.ellipsoid
  pub accuracy : ReadsOne ReadsNumberOf class.EnsembleAccuracy c item parts.accuracy
  pub identifiers : ReadsIds c item parts.identifiers

-- a bounding box: its southern latitude, western longitude, northern latitude and eastern longitude, in this order
pub record ReadsBox (c : Class) (item : Item) (parts : BoxParts) : Type 0 where
  pub south : ReadsNumberAt 0 c item parts.south
  pub west : ReadsNumberAt 1 c item parts.west
  pub north : ReadsNumberAt 2 c item parts.north
  pub east : ReadsNumberAt 3 c item parts.east

-- an extent in height: its minimum, its maximum, and their unit, if one is written
pub record ReadsExtent (c : Class) (item : Item) (parts : ExtentParts) : Type 0 where
  pub minimum : ReadsNumberAt 0 c item parts.minimum
  pub maximum : ReadsNumberAt 1 c item parts.maximum
  pub unit : ReadsIfAny ReadsUnit class.LengthUnit c item parts.unit

-- a usage, whose parts are in a node `USAGE` or bare at a CRS's end: its scope, area, box and
-- extent in height, where they are written
pub record ReadsUsage (c : Class) (item : Item) (parts : UsageParts) : Type 0 where
  pub scope : ReadsIfAny ReadsTextOf class.Scope c item parts.scope
  pub area : ReadsIfAny ReadsTextOf class.Area c item parts.area
  pub bbox : ReadsIfAny ReadsBox class.BoundingBox c item parts.bbox
  pub extent : ReadsIfAny ReadsExtent class.VerticalExtent c item parts.extent

-- no part of a usage is among the arguments
pub record LacksUsage (c : Class) (item : Item) : Type 0 where
  pub scope : those c class.Scope (arguments item) ≡ []
  pub area : those c class.Area (arguments item) ≡ []
  pub bbox : those c class.BoundingBox (arguments item) ≡ []
  pub extent : those c class.VerticalExtent (arguments item) ≡ []

-- the usage whose parts are bare at a CRS's end, if any part is
abbrev pub ReadsBare : Class → Item → Option UsageParts → Type 0
ReadsBare c item None = LacksUsage c item
ReadsBare c item (Some parts) = ReadsUsage c item parts × SaysSome parts

-- the end of a CRS: its usages, the one whose parts are bare, if any is, its identifiers, and its
-- remark, if one is written
pub record ReadsTail (c : Class) (item : Item) (parts : TailParts) : Type 0 where
  pub usages : ReadsAll ReadsUsage class.Usage c item parts.usages
  pub bare_parts : ReadsBare c item parts.bare_parts
  pub identifiers : ReadsIds c item parts.identifiers
  pub remark : ReadsIfAny ReadsTextOf class.Remark c item parts.remark

-- ---- what conversions say

-- the classes of a parameter's unit; in a parameter the keyword `UNIT` names the plain one alone
abbrev pub parameter_units : List Class
parameter_units = class.PlainUnit ∷ class.LengthUnit ∷ class.AngleUnit ∷ class.ScaleUnit ∷ []

-- the item is a unit of this class, and this is its value
abbrev pub ReadsAsUnit : Class → Item → Option UnitParts → Type 0
ReadsAsUnit d item None = ⊥
ReadsAsUnit d item (Some unit) = ReadsUnit d item unit

-- the unit is the argument of one of these classes, if there is one; a node of the right shape has one at most
abbrev pub ReadsUnitOf : List Class → Class → Item → Option UnitParts → Type 0
ReadsUnitOf [] c item None = Unit {0}
ReadsUnitOf [] c item (Some unit) = ⊥
ReadsUnitOf (d ∷ ds) c item unit = ReadsOneElse ReadsAsUnit d (ReadsUnitOf ds) c item unit

-- a parameter of a conversion: its name, its number, the unit of that, if one is written, and its identifiers
pub record ReadsParameter (c : Class) (item : Item) (parts : ParameterParts) : Type 0 where
  pub name : ReadsTextOf c item parts.name
  pub value : ReadsNumberOf c item parts.value
  pub unit : ReadsUnitOf parameter_units c item parts.unit
  pub identifiers : ReadsIds c item parts.identifiers

-- a conversion: its name, its method, its parameters in order and its identifiers
pub record ReadsConversion (c : Class) (item : Item) (parts : ConversionParts) : Type 0 where
  pub name : ReadsTextOf c item parts.name
  pub method : ReadsOne ReadsNamed class.Method c item parts.method
  pub parameters : ReadsAll ReadsParameter class.Parameter c item parts.parameters
  pub identifiers : ReadsIds c item parts.identifiers

-- ---- what dynamic parts say

-- a dynamic part: the epoch of its frame, and its deformation model, if one is written
pub record ReadsDynamic (c : Class) (item : Item) (parts : DynamicParts) : Type 0 where
  pub epoch : ReadsOne ReadsNumberOf class.FrameEpoch c item parts.epoch
  pub model : ReadsIfAny ReadsNamed class.DeformationModel c item parts.model
