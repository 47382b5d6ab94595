-- Values as they are written: nothing filled in, converted or sorted. A text is
-- the bytes between its quotes, each quote among them doubled; two texts are equal
-- where their characters are. A code or version is its characters, quoted or not.
use Rattle.std.specs.Prelude.{◌⊎◌, ℕ, List, Option, IsSome}
use Rattle.crs_decimal.specs.Numbers.{Value}
use Rattle.crs_shape.specs.declared.direction.Direction.{Direction}
use Rattle.crs_shape.specs.declared.system_type.SystemType.{SystemType}
use Rattle.crs_shape.specs.declared.unit_kind.UnitKind.{UnitKind}
use Rattle.crs_value.specs.NamedValues.{NamedParts}
pub use Rattle.crs_value.specs.NamedValues.{IdentParts, NamedParts as MemberParts, NamedParts as MethodParts, NamedParts as GeoidModelParts, NamedParts as DeformationModelParts}

-- a unit: its kind by its keyword, its name, and how many metres, radians or ones it has
pub record UnitParts : Type 0 where
  pub kind : UnitKind
  pub name : List ℕ
  pub factor : Value
  pub identifiers : List IdentParts

-- the meridian that an axis at a pole goes along
pub record AxisMeridianParts : Type 0 where
  pub longitude : Value
  pub unit : UnitParts

-- an axis: its own unit, if it has one
pub record AxisParts : Type 0 where
  pub name : List ℕ
  pub direction : Direction
  pub meridian : Option AxisMeridianParts
  pub order : Option Value
  pub unit : Option UnitParts
  pub identifiers : List IdentParts

-- a coordinate system: its axes as they are written, and the unit that they share, if they share one
pub record SystemParts : Type 0 where
  pub system_type : SystemType
  pub dimension : Value
  pub identifiers : List IdentParts
  pub axes : List AxisParts
  pub unit : Option UnitParts

-- an ellipsoid
pub record EllipsoidParts : Type 0 where
  pub name : List ℕ
  pub semi_major_axis : Value
  pub inverse_flattening : Value
  pub unit : Option UnitParts
  pub identifiers : List IdentParts

-- a prime meridian
pub record MeridianParts : Type 0 where
  pub name : List ℕ
  pub longitude : Value
  pub unit : Option UnitParts
  pub identifiers : List IdentParts

-- a reference frame, with its ellipsoid if it is geodetic
pub record DatumParts : Type 0 where
  pub name : List ℕ
  pub ellipsoid : Option EllipsoidParts
  pub anchor : Option (List ℕ)
  pub anchor_epoch : Option Value
  pub identifiers : List IdentParts

-- a datum ensemble, with its ellipsoid if it is geodetic
pub record EnsembleParts : Type 0 where
  pub name : List ℕ
  pub members : List NamedParts
  pub ellipsoid : Option EllipsoidParts
  pub accuracy : Value
  pub identifiers : List IdentParts

-- a box of latitudes and longitudes
pub record BoxParts : Type 0 where
  pub south : Value
  pub west : Value
  pub north : Value
  pub east : Value

-- an extent in height
pub record ExtentParts : Type 0 where
  pub minimum : Value
  pub maximum : Value
  pub unit : Option UnitParts

-- a usage
pub record UsageParts : Type 0 where
  pub scope : Option (List ℕ)
  pub area : Option (List ℕ)
  pub bbox : Option BoxParts
  pub extent : Option ExtentParts

-- a usage has one of its parts at least
abbrev pub SaysSome : UsageParts → Type 0
SaysSome usage = IsSome usage.scope ⊎ (IsSome usage.area ⊎ (IsSome usage.bbox ⊎ IsSome usage.extent))

-- a CRS's end: its usages, the one whose parts are bare, if any is, its identifiers and its remark
pub record TailParts : Type 0 where
  pub usages : List UsageParts
  pub bare_parts : Option UsageParts
  pub identifiers : List IdentParts
  pub remark : Option (List ℕ)

-- ---- conversions as they are written

-- a parameter of a conversion: its number, and the unit of that, if one is written
pub record ParameterParts : Type 0 where
  pub name : List ℕ
  pub value : Value
  pub unit : Option UnitParts
  pub identifiers : List IdentParts

-- a conversion: how projected coordinates come from those of the base CRS
pub record ConversionParts : Type 0 where
  pub name : List ℕ
  pub method : NamedParts
  pub parameters : List ParameterParts
  pub identifiers : List IdentParts

-- ---- what a dynamic frame says, as it is written

-- the epoch at which the coordinates of the frame's points hold, and the model by which they move, if one is written
pub record DynamicParts : Type 0 where
  pub epoch : Value
  pub model : Option NamedParts
