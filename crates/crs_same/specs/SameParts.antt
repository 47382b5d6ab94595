-- When units, systems, frames, dynamic parts, conversions and usages are the same.
use Rattle.std.specs.Prelude.{◌≡◌, false, pos, [], Option, Some, None, codes, ℕ, ◌+◌, List, ◌∷◌, ◌⊎◌, ⊤}
use Rattle.crs_decimal.specs.Numbers.{SameNumber, whole_number, Value, exact}
use Rattle.crs_shape.specs.declared.unit_kind.UnitKind.{UnitKind}
use Rattle.crs_value.specs.declared.values.level.Level.{Level}
use Rattle.crs_value.specs.Values.{UnitParts, AxisMeridianParts, AxisParts, BoxParts, ExtentParts, UsageParts, TailParts, ParameterParts}
use Rattle.crs_same.specs.SameIdents.{SameIdents, BothOrNeither}
use Rattle.crs_shape.specs.declared.unit_kind.UnitKind.TheVariants as kinds
use Rattle.crs_value.specs.declared.values.level.Level.TheVariants as levels
pub use Rattle.crs_shape.specs.Words.{kind_as}
pub use Rattle.crs_value.specs.Sound.{own_or}
pub use Rattle.crs_same.specs.SameIdents.{with_bare, SameNamed as SameMember, SameNamed as SameDeformationModel, SameNamed as SameGeoidModel}

-- ---- units

-- two decimals are the same number
unfoldable pub SameValue : Value → Value → Type 0
SameValue a b = SameNumber (exact a) (exact b)

-- two units are the same where one kind is asked of the first and another of the second: `UNIT` is
-- of the asked kind, and kind, name, factor and identifiers are the same
pub record SameUnitAsked (asked other : UnitKind) (level : Level) (a b : UnitParts) : Type 0 where
  pub kind : kind_as asked a.kind ≡ kind_as other b.kind
  pub name : a.name ≡ b.name
  pub factor : SameValue a.factor b.factor
  pub identifiers : SameIdents level a.identifiers b.identifiers

-- two units are the same where this kind is asked of both
abbrev pub SameUnit : UnitKind → Level → UnitParts → UnitParts → Type 0
SameUnit asked = SameUnitAsked asked asked

-- the decimal 1
abbrev pub one : Value
one = record { negative = false; digits = 1; power = pos 0 }

-- a unit of length; a missing one is the metre
abbrev pub or_metre : Option UnitParts → UnitParts
or_metre None = record { kind = kinds.Length; name = codes "metre"; factor = one; identifiers = [] }
or_metre (Some unit) = unit

-- two units of length are the same, a missing one being the metre
abbrev pub SameLength : Level → Option UnitParts → Option UnitParts → Type 0
SameLength level a b = SameUnit kinds.Length level (or_metre a) (or_metre b)

-- ---- axes

-- two meridians of axes are the same: longitude and unit
pub record SameAxisMeridian (level : Level) (a b : AxisMeridianParts) : Type 0 where
  pub longitude : SameValue a.longitude b.longitude
  pub unit : SameUnit kinds.Angle level a.unit b.unit

-- two axes by themselves are the same: name, direction, meridian, order, unit, `UNIT` being a kind
-- of its own, and identifiers
pub record SameAxisAlone (level : Level) (a b : AxisParts) : Type 0 where
  pub name : a.name ≡ b.name
  pub direction : a.direction ≡ b.direction
  pub meridian : BothOrNeither (SameAxisMeridian level) a.meridian b.meridian
  pub order : BothOrNeither SameValue a.order b.order
  pub unit : BothOrNeither (SameUnit kinds.Plain level) a.unit b.unit
  pub identifiers : SameIdents level a.identifiers b.identifiers

-- ---- positions

-- this is the position of the axis that is written at this place: its order, or without one its place
abbrev pub IsPositionOf : ℕ → ℕ → Option Value → Type 0
IsPositionOf position place None = place ≡ position
IsPositionOf position place (Some order) = SameNumber (exact order) (whole_number position)

-- one of these axes, the first being written at this place, has this position and this property
abbrev pub HasAt : ℕ → (AxisParts → Type 0) → ℕ → List AxisParts → Type 0
HasAt position P place [] = ⊥
HasAt position P place (axis ∷ axes) =
    (IsPositionOf position place axis.order × P axis) ⊎ HasAt position P (place + 1) axes

-- this axis, of these, is at this position, or none is
abbrev pub StandsAt : ℕ → List AxisParts → Option AxisParts → Type 0
StandsAt position axes None = ¬ HasAt position (λ other. ⊤) 1 axes
StandsAt position axes (Some axis) = HasAt position (λ other. other ≡ axis) 1 axes

-- ---- where a longitude is zero

-- ---- parameters of conversions

-- two parameters are the same: name, number, unit and identifiers; `UNIT` is a kind of its own
-- here, and a missing unit differs from each that is there
pub record SameParameter (level : Level) (a b : ParameterParts) : Type 0 where
  pub name : a.name ≡ b.name
  pub value : SameValue a.value b.value
  pub unit : BothOrNeither (SameUnit kinds.Plain level) a.unit b.unit
  pub identifiers : SameIdents level a.identifiers b.identifiers

-- ---- usages

-- two bounding boxes are the same: south, west, north and east
pub record SameBox (a b : BoxParts) : Type 0 where
  pub south : SameValue a.south b.south
  pub west : SameValue a.west b.west
  pub north : SameValue a.north b.north
  pub east : SameValue a.east b.east

-- two extents in height are the same: minimum, maximum and unit, a missing unit being the metre
pub record SameExtent (level : Level) (a b : ExtentParts) : Type 0 where
  pub minimum : SameValue a.minimum b.minimum
  pub maximum : SameValue a.maximum b.maximum
  pub unit : SameLength level a.unit b.unit

-- two usages are the same: scope, area, box and extent in height, with all that these hold, at each level
pub record SameUsage (a b : UsageParts) : Type 0 where
  pub scope : a.scope ≡ b.scope
  pub area : a.area ≡ b.area
  pub bbox : BothOrNeither SameBox a.bbox b.bbox
  pub extent : BothOrNeither (SameExtent levels.Full) a.extent b.extent

-- ---- the end of a CRS

-- the usages at a CRS's end: the bare parts are together one more
abbrev pub usages_of : TailParts → List UsageParts
usages_of tail = with_bare tail.bare_parts tail.usages
