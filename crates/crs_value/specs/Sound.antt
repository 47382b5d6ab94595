-- What is asked of identifiers, named values, units and axes by themselves: well-formed
-- texts, decimals in their normal form, and units of a kind that fits.
use Rattle.std.specs.Prelude.{◌≡◌, ◌≢◌, ℕ, List, ◌⊎◌, IsUtf8, IfSome, Option, Some, None, [], ◌∷◌, length, map, IsSomeAnd}
use Rattle.crs_decimal.specs.Numbers.{IsNormal, Value, exact, SameNumber, whole_number}
use Rattle.crs_text.specs.Tokens.{IsInside}
use Rattle.crs_shape.specs.declared.unit_kind.UnitKind.{UnitKind}
use Rattle.crs_value.specs.Checks.{IsAboveZero, IsPosition}
use Rattle.crs_value.specs.NamedValues.{IdentParts, NamedParts}
use Rattle.crs_value.specs.Values.{UnitParts, AxisMeridianParts, AxisParts, BoxParts, ExtentParts, UsageParts, SaysSome, TailParts, SystemParts}
use Rattle.crs_shape.specs.declared.system_type.SystemType.{SystemType}
use Rattle.crs_shape.specs.Dimensions.{IsOneOf}
use Rattle.crs_shape.specs.Words.{asked_kind}
use Rattle.crs_shape.specs.declared.unit_kind.UnitKind.TheVariants as kinds
pub use Rattle.crs_value.specs.Reading.{Each}

-- what may be between the quotes of a text: characters in UTF-8, each quote among them doubled
abbrev pub IsText : List ℕ → Type 0
IsText text = IsInside text × IsUtf8 text

-- what is asked of an identifier: authority, code and what else
-- it has are texts; a code or a version is one, quoted or not
pub record IsIdent (ident : IdentParts) : Type 0 where
  pub authority : IsText ident.authority
  pub code : IsText ident.code
  pub version : IfSome ident.version IsText
  pub citation : IfSome ident.citation IsText
  pub uri : IfSome ident.uri IsText

-- what is asked of a value that has a name and identifiers alone: its name is a text, and its identifiers are as asked
pub record IsNamed (named : NamedParts) : Type 0 where
  pub name : IsText named.name
  pub identifiers : Each IsIdent named.identifiers

-- ---- units

-- what is asked of a unit: its factor is above zero
pub record IsUnit (unit : UnitParts) : Type 0 where
  pub name : IsText unit.name
  pub factor : IsNormal unit.factor
  pub above_zero : IsAboveZero unit.factor
  pub identifiers : Each IsIdent unit.identifiers

-- a kind of unit that fits the asked one: that kind itself, or the plain one
abbrev pub Suits : UnitKind → UnitKind → Type 0
Suits asked kind = (kind ≡ asked) ⊎ (kind ≡ kinds.Plain)

-- a unit that fits the asked kind
abbrev pub IsUnitOf : UnitKind → UnitParts → Type 0
IsUnitOf asked unit = IsUnit unit × Suits asked unit.kind

-- a unit of an axis, or one that axes share, isn't one of scale
abbrev pub IsAxisUnit : UnitParts → Type 0
IsAxisUnit unit = IsUnit unit × (unit.kind ≢ kinds.Scale)

-- ---- axes

-- what is asked of the meridian of an axis: its unit fits one of angle
pub record IsAxisMeridian (meridian : AxisMeridianParts) : Type 0 where
  pub longitude : IsNormal meridian.longitude
  pub unit : IsUnitOf kinds.Angle meridian.unit

-- what is asked of an axis by itself: what it has is as asked, and its unit isn't one of scale
pub record IsAxis (axis : AxisParts) : Type 0 where
  pub name : IsText axis.name
  pub meridian : IfSome axis.meridian IsAxisMeridian
  pub order : IfSome axis.order IsNormal
  pub unit : IfSome axis.unit IsAxisUnit
  pub identifiers : Each IsIdent axis.identifiers

-- ---- what is asked of usages and of a CRS's end by themselves

-- what is asked of a bounding box: its four numbers are decimals in their normal form
pub record IsBox (box : BoxParts) : Type 0 where
  pub south : IsNormal box.south
  pub west : IsNormal box.west
  pub north : IsNormal box.north
  pub east : IsNormal box.east

-- what is asked of an extent in height: its unit, if it has one, fits one of length
pub record IsExtent (extent : ExtentParts) : Type 0 where
  pub minimum : IsNormal extent.minimum
  pub maximum : IsNormal extent.maximum
  pub unit : IfSome extent.unit (IsUnitOf kinds.Length)

-- what is asked of a usage: it has at least one of its parts, and those that it has are as asked
pub record IsUsage (usage : UsageParts) : Type 0 where
  pub scope : IfSome usage.scope IsText
  pub area : IfSome usage.area IsText
  pub bbox : IfSome usage.bbox IsBox
  pub extent : IfSome usage.extent IsExtent
  pub some : SaysSome usage

-- what is asked of the end of a CRS: what it has of usages, identifiers and a remark is as asked
pub record IsTail (tail : TailParts) : Type 0 where
  pub usages : Each IsUsage tail.usages
  pub bare_parts : IfSome tail.bare_parts IsUsage
  pub identifiers : Each IsIdent tail.identifiers
  pub remark : IfSome tail.remark IsText

-- ---- what is asked of a coordinate system by itself: as many axes as its dimension says, orders on all or on none, and units that fit

-- ---- orders

-- these are the orders of the axes, one by one
abbrev pub AreOrders : List AxisParts → List Value → Type 0
AreOrders axes orders = map (λ axis. axis.order) axes ≡ map (λ order. Some order) orders

-- no two of these orders are equal
abbrev pub AreDistinct : List Value → Type 0
AreDistinct [] = Unit {0}
AreDistinct (order ∷ orders) = Each (λ other. order ≢ other) orders × AreDistinct orders

-- no axis has an order; or all have one, and these are whole numbers from 1 to the number of axes, each once
abbrev pub HasOrders : List AxisParts → Type 0
HasOrders axes =
    Each (λ axis. axis.order ≡ None) axes
    ⊎ ((orders : List Value)
    × (AreOrders axes orders × (Each (IsPosition (length axes)) orders × AreDistinct orders)))

-- ---- units

-- the unit of an axis: its own, or else the one that the axes share
abbrev pub own_or : Option UnitParts → Option UnitParts → Option UnitParts
own_or (Some own) shared = Some own
own_or None shared = shared

-- the unit of an axis fits the kind that the axis asks for
abbrev pub SuitsAxis : SystemType → AxisParts → UnitParts → Type 0
SuitsAxis system_type axis unit = Suits (asked_kind system_type axis.direction) unit.kind

-- a shared unit fits the one kind that all axes ask for
abbrev pub SuitsAll : SystemType → List AxisParts → UnitParts → Type 0
SuitsAll system_type axes unit =
    (kind : UnitKind)
    × (Each (λ axis. asked_kind system_type axis.direction ≡ kind) axes × Suits kind unit.kind)

-- with no shared unit each axis has one of its own that fits; else none has one, and the shared one fits all
abbrev pub HasUnits : SystemType → List AxisParts → Option UnitParts → Type 0
HasUnits system_type axes None = Each (λ axis. IsSomeAnd axis.unit (SuitsAxis system_type axis)) axes
HasUnits system_type axes (Some shared) = Each (λ axis. axis.unit ≡ None) axes × SuitsAll system_type axes shared

-- ---- a coordinate system

-- the dimension is one of those that are allowed with the type
abbrev pub IsAllowed : (SystemType → List ℕ) → SystemParts → Type 0
IsAllowed dimensions system = IsOneOf system.dimension (dimensions system.system_type)

-- what is asked of a coordinate system: it has an axis, and as many as its dimension says; its orders and units fit
pub record IsSystem (system : SystemParts) : Type 0 where
  pub dimension : IsNormal system.dimension
  pub identifiers : Each IsIdent system.identifiers
  pub some : system.axes ≢ []
  pub axes : Each IsAxis system.axes
  pub count : SameNumber (exact system.dimension) (whole_number (length system.axes))
  pub orders : HasOrders system.axes
  pub unit : IfSome system.unit IsAxisUnit
  pub units : HasUnits system.system_type system.axes system.unit
