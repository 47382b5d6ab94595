-- Checks: how one is broken, what a node of each class may break by itself, and what an item breaks within.
use Rattle.std.specs.Prelude.{ℕ, List, [], ◌∷◌, Option, Some, None, ◌⊎◌, IsFalse, ◌≡◌, drop, ◌≢◌, true, false, ◌≤◌, length, ◌++◌, take}
use Rattle.crs_text.specs.Items.{Item, place_of, Siblings, arguments, leaf, node, End, More}
use Rattle.crs_text.specs.Refusal.{RefusedAt, is_before}
use Rattle.crs_shape.specs.declared.class.Class.{Class}
use Rattle.crs_value.specs.Reading.{OneIs, those, ReadsFirst, Each}
use Rattle.crs_decimal.specs.Numbers.{Value, exact, SameNumber, whole_number}
use Rattle.crs_value.specs.Reads.{ReadsNumber, HasType, ReadsDirection, ReadsKind, HasDimension, ReadsType, ReadsNumberOf}
use Rattle.crs_shape.specs.declared.direction.Direction.{Direction}
use Rattle.crs_shape.specs.declared.system_type.SystemType.{SystemType}
use Rattle.crs_shape.specs.declared.unit_kind.UnitKind.{UnitKind}
use Rattle.crs_shape.specs.Words.{asked_kind}
use Rattle.crs_shape.specs.Dimensions.{IsOneOf, dimensions_of}
use Rattle.crs_shape.specs.ShapeFault.{class_in}
use Rattle.crs_shape.specs.declared.class.Class.TheVariants as class
use Rattle.crs_shape.specs.declared.unit_kind.UnitKind.TheVariants as kinds
use Rattle.crs_shape.specs.declared.system_type.SystemType.TheVariants as types

-- ---- a broken check: its number, and the place of the item that breaks it; and which one is answered

-- a check of this number is broken at the item's first byte
abbrev pub at : ℕ → Item → RefusedAt
at number item = record { number = number; place = place_of item }

-- one of these items breaks a check
abbrev pub AnyOf : (Item → RefusedAt → Type 0) → List Item → RefusedAt → Type 0
AnyOf Broken [] fault = ⊥
AnyOf Broken (item ∷ items) fault = Broken item fault ⊎ AnyOf Broken items fault

-- the first of these items has the property
abbrev pub FirstIs : (Item → Type 0) → List Item → Type 0
FirstIs Is [] = ⊥
FirstIs Is (item ∷ items) = Is item

-- the first of the faults: the lowest number, and of these the least place, so that none goes
-- before it; none where there is no fault
abbrev pub IsLeast : (RefusedAt → Type 0) → Option RefusedAt → Type 0
IsLeast Fault None = (fault : RefusedAt) → ¬ (Fault fault)
IsLeast Fault (Some least) = Fault least × ((fault : RefusedAt) → Fault fault → IsFalse (is_before fault least))

-- ---- 22: each node of some classes after the first of its class

-- a part that follows another of its class is refused at its first byte
abbrev pub IsRepeated : Item → RefusedAt → Type 0
IsRepeated item fault = fault ≡ at 22 item

-- a part of this class among the arguments of a node is repeated
abbrev pub Repeats : Class → Siblings → Class → RefusedAt → Type 0
Repeats parent items c fault = AnyOf IsRepeated (drop 1 (those parent c items)) fault

-- a part of one of these classes among the arguments of a node is repeated
abbrev pub RepeatsAny : Class → Siblings → List Class → RefusedAt → Type 0
RepeatsAny parent items cs fault = OneIs (λ c. Repeats parent items c fault) cs

-- ---- 28: a factor or a semi-major axis that isn't above zero, a negative inverse flattening

-- neither zero nor below
abbrev pub IsAboveZero : Value → Type 0
IsAboveZero value = (value.negative ≡ false) × (value.digits ≢ 0)

-- a number that isn't above zero
abbrev pub NotAbove : Item → RefusedAt → Type 0
NotAbove item fault = (fault ≡ at 28 item) × ((value : Value) × (ReadsNumber item value × ¬ (IsAboveZero value)))

-- a number below zero
abbrev pub IsNegative : Item → RefusedAt → Type 0
IsNegative item fault = (fault ≡ at 28 item) × ((value : Value) × (ReadsNumber item value × (value.negative ≡ true)))

-- ---- 27: a unit that is missing, doesn't fit, or is beside a shared one

-- this node `CS` and this axis ask for a unit of this kind
abbrev pub Asks : Item → Item → UnitKind → Type 0
Asks cs axis kind =
    (type_read : SystemType) × ((direction_read : Direction) × (HasType cs type_read
    × ReadsFirst ReadsDirection (those class.Axis class.Word (arguments axis)) direction_read
    × (kind ≡ asked_kind type_read direction_read)))

-- a unit fits if its keyword is `UNIT` or says the asked kind
abbrev pub Fits : Item → UnitKind → Type 0
Fits unit kind = ReadsKind unit kinds.Plain ⊎ ReadsKind unit kind

-- the units that are on an axis
abbrev pub units_in : Item → List Item
units_in axis = those class.Axis class.AxisUnit (arguments axis)

-- an axis without a unit
abbrev pub LacksUnit : Item → RefusedAt → Type 0
LacksUnit axis fault = (fault ≡ at 27 axis) × (units_in axis ≡ [])

-- a unit on an axis that isn't of the kind that the axis asks for
abbrev pub Misfits : Item → Item → Item → RefusedAt → Type 0
Misfits cs axis unit fault = (fault ≡ at 27 unit) × ((kind : UnitKind) × (Asks cs axis kind × ¬ (Fits unit kind)))

-- with no shared unit: an axis without a unit, or a unit that doesn't fit
abbrev pub BadOwnUnit : Item → Item → RefusedAt → Type 0
BadOwnUnit cs axis fault = LacksUnit axis fault ⊎ AnyOf (Misfits cs axis) (units_in axis) fault

-- a unit that is beside a shared one
abbrev pub IsSuperfluous : Item → RefusedAt → Type 0
IsSuperfluous unit fault = fault ≡ at 27 unit

-- with a shared unit: each unit on an axis
abbrev pub HasOwnUnit : Item → RefusedAt → Type 0
HasOwnUnit axis fault = AnyOf IsSuperfluous (units_in axis) fault

-- all these axes ask for a unit of this kind
abbrev pub AllAsk : Item → List Item → UnitKind → Type 0
AllAsk cs [] kind = Unit {0}
AllAsk cs (axis ∷ axes) kind = Asks cs axis kind × AllAsk cs axes kind

-- a shared unit fits if all axes ask for one kind, and it fits that
abbrev pub SharedFits : Item → List Item → Item → Type 0
SharedFits cs axes unit = (kind : UnitKind) × (AllAsk cs axes kind × Fits unit kind)

-- a shared unit that doesn't fit
abbrev pub BadShared : Item → List Item → Item → RefusedAt → Type 0
BadShared cs axes unit fault = (fault ≡ at 27 unit) × ¬ (SharedFits cs axes unit)

-- where no unit is shared the axes' own are judged, else the shared one and those beside it
abbrev pub BadUnit : List Item → List Item → Item → RefusedAt → Type 0
BadUnit axes [] cs fault = AnyOf (BadOwnUnit cs) axes fault
BadUnit axes (unit ∷ units) cs fault = AnyOf HasOwnUnit axes fault ⊎ BadShared cs axes unit fault

-- ---- 23: a type and dimension of a coordinate system that the CRS doesn't allow

-- a known type with a dimension that is none of those allowed
abbrev pub BadSystem : (SystemType → List ℕ) → Item → RefusedAt → Type 0
BadSystem dimensions cs fault =
    (fault ≡ at 23 cs)
    × ((type_read : SystemType) × ((dimension : Value)
    × (HasType cs type_read × HasDimension cs dimension
    × ¬ (IsOneOf dimension (dimensions type_read)))))

-- ---- 29: a dynamic part beside an ensemble

-- an ensemble is among the arguments
abbrev pub HasEnsemble : Class → Item → Type 0
HasEnsemble c item =
    (those c class.GeodeticEnsemble (arguments item) ≢ [])
    ⊎ (those c class.VerticalEnsemble (arguments item) ≢ [])

-- a dynamic part beside an ensemble is refused at its first byte
abbrev pub IsUnsteady : Item → RefusedAt → Type 0
IsUnsteady part fault = fault ≡ at 29 part

-- an ensemble is among the arguments, and beside it a dynamic part, which is refused
abbrev pub BadDynamic : Class → Item → RefusedAt → Type 0
BadDynamic c item fault = HasEnsemble c item × AnyOf IsUnsteady (those c class.Dynamic (arguments item)) fault

-- ---- 21: a type or a direction that is no such word

-- the word for the type of a coordinate system is none, and is refused at its first byte
abbrev pub UnknownType : Item → RefusedAt → Type 0
UnknownType item fault = (fault ≡ at 21 item) × ((value : SystemType) → ¬ (ReadsType item value))

-- the word for the direction of an axis is none, and is refused at its first byte
abbrev pub UnknownDirection : Item → RefusedAt → Type 0
UnknownDirection item fault = (fault ≡ at 21 item) × ((value : Direction) → ¬ (ReadsDirection item value))

-- ---- 25: the number of axes isn't the dimension

-- the node `CS` says a dimension that isn't this number of axes
abbrev pub AxisCount : ℕ → Item → RefusedAt → Type 0
AxisCount axes cs fault =
    (fault ≡ at 25 cs) × ((dimension : Value)
    × (HasDimension cs dimension × ¬ (SameNumber (exact dimension) (whole_number axes))))

-- ---- 24: a compound's horizontal part that is geodetic and not geographic, or whose dimension isn't 2

-- the CRS's node `CS` has a known type that isn't ellipsoidal
abbrev pub IsNotEllipsoidal : Item → Type 0
IsNotEllipsoidal cs = (type_read : SystemType) × (HasType cs type_read × (type_read ≢ types.Ellipsoidal))

-- the dimension of the node `CS` isn't 2
abbrev pub IsNotPlane : Item → Type 0
IsNotPlane cs =
    (dimension : Value)
    × (HasDimension cs dimension × ¬ (SameNumber (exact dimension) (whole_number 2)))

-- a node `CS` that a horizontal part of this class may not have
abbrev pub IsNotHorizontal : Class → Item → Type 0
IsNotHorizontal class.GeodeticCrs cs = IsNotEllipsoidal cs ⊎ IsNotPlane cs
IsNotHorizontal class.GeographicCrs cs = IsNotEllipsoidal cs ⊎ IsNotPlane cs
IsNotHorizontal other cs = IsNotPlane cs

-- a compound's part of this class, refused where its node `CS` is one that a horizontal part may not have
abbrev pub BadComponent : Class → Item → RefusedAt → Type 0
BadComponent c part fault =
    (fault ≡ at 24 part)
    × FirstIs (IsNotHorizontal c) (those c class.CoordinateSystem (arguments part))

-- a part of one of these classes among a compound's arguments is refused
abbrev pub BadComponents : List Class → Siblings → RefusedAt → Type 0
BadComponents cs items fault = OneIs (λ c. AnyOf (BadComponent c) (those class.CompoundCrs c items) fault) cs

-- ---- 26: an order on some axes and not on all, or orders that aren't the whole numbers from 1 on, each once

-- the orders that are on an axis
abbrev pub orders_in : Item → List Item
orders_in axis = those class.Axis class.Order (arguments axis)

-- one of these axes has an order
abbrev pub SomeHasOrder : List Item → Type 0
SomeHasOrder axes = OneIs (λ axis. orders_in axis ≢ []) axes

-- each of these axes has an order
abbrev pub AllHaveOrder : List Item → Type 0
AllHaveOrder axes = Each (λ axis. orders_in axis ≢ []) axes

-- an axis without an order
abbrev pub LacksOrder : Item → RefusedAt → Type 0
LacksOrder axis fault = (fault ≡ at 26 axis) × (orders_in axis ≡ [])

-- the number in a node `ORDER`
abbrev pub ReadsOrder : Item → Value → Type 0
ReadsOrder order value = ReadsNumberOf class.Order order value

-- the number is whole, from 1 to n
abbrev pub IsPosition : ℕ → Value → Type 0
IsPosition n value = (k : ℕ) × ((1 ≤ k) × (k ≤ n) × SameNumber (exact value) (whole_number k))

-- the axis has this order
abbrev pub HasThis : Value → Item → Type 0
HasThis value axis = ReadsFirst ReadsOrder (orders_in axis) value

-- one of these axes has this order
abbrev pub OneHas : Value → List Item → Type 0
OneHas value axes = OneIs (HasThis value) axes

-- an order that is no position among n axes, or that one of the axes before has
abbrev pub IsWrongOrder : ℕ → List Item → Item → Type 0
IsWrongOrder n before order =
    (value : Value) × (ReadsOrder order value × (¬ (IsPosition n value) ⊎ OneHas value before))

-- an order that is no position among n axes, or that an axis before has, is refused at its first byte
abbrev pub IsBadOrder : ℕ → List Item → Item → RefusedAt → Type 0
IsBadOrder n before order fault = (fault ≡ at 26 order) × IsWrongOrder n before order

-- the bad orders of these axes, which follow others
abbrev pub BadOrders : ℕ → List Item → List Item → RefusedAt → Type 0
BadOrders n before [] fault = ⊥
BadOrders n before (axis ∷ axes) fault =
    AnyOf (IsBadOrder n before) (orders_in axis) fault
    ⊎ BadOrders n (before ++ axis ∷ []) axes fault

-- some axes have an order, and this one lacks it; or all have one, and this is no position or is repeated
abbrev pub BadOrder : List Item → RefusedAt → Type 0
BadOrder axes fault =
    (SomeHasOrder axes × AnyOf LacksOrder axes fault)
    ⊎ (AllHaveOrder axes × BadOrders (length axes) [] axes fault)

-- ---- checks: what a node of each class may break by itself, and what an item breaks within

-- what may not be repeated at a CRS's end
abbrev pub once : List Class
once = class.Scope ∷ class.Area ∷ class.BoundingBox ∷ class.VerticalExtent ∷ class.Remark ∷ []

-- what may not be repeated in a reference frame
abbrev pub anchors : List Class
anchors = class.Anchor ∷ class.AnchorEpoch ∷ []

-- the checks of a node `CS` with the axes beside it
abbrev pub OfHead : (SystemType → List ℕ) → List Item → Item → RefusedAt → Type 0
OfHead dimensions axes cs fault = BadSystem dimensions cs fault ⊎ AxisCount (length axes) cs fault

-- the checks of axes and their units, as the nodes `CS` ask for them
abbrev pub OfAxes : List Item → List Item → List Item → RefusedAt → Type 0
OfAxes systems axes units fault = BadOrder axes fault ⊎ AnyOf (BadUnit axes units) systems fault

-- the checks of a coordinate system: the nodes `CS`, the axes and the shared units
abbrev pub BadSystems : (SystemType → List ℕ) → List Item → List Item → List Item → RefusedAt → Type 0
BadSystems dimensions systems axes units fault =
    AnyOf (OfHead dimensions axes) systems fault ⊎ OfAxes systems axes units fault

-- the checks of a CRS that has a coordinate system
abbrev pub OfCrs : (SystemType → List ℕ) → Class → Item → RefusedAt → Type 0
OfCrs dimensions c item fault =
    RepeatsAny c (arguments item) once fault
    ⊎ (BadSystems dimensions (those c class.CoordinateSystem (arguments item))
    (those c class.Axis (arguments item))
    (those c class.AxisUnit (arguments item)) fault ⊎ BadDynamic c item fault)

-- the classes of a compound's horizontal part
abbrev pub horizontal_classes : List Class
horizontal_classes = class.GeodeticCrs ∷ class.GeographicCrs ∷ class.ProjectedCrs ∷ []

-- the checks of a compound CRS
abbrev pub OfCompound : Siblings → RefusedAt → Type 0
OfCompound items fault = RepeatsAny class.CompoundCrs items once fault ⊎ BadComponents horizontal_classes items fault

-- the check of a unit: its factor is above zero
abbrev pub OfUnit : Class → Item → RefusedAt → Type 0
OfUnit c item fault = AnyOf NotAbove (those c class.Number (arguments item)) fault

-- the checks of an ellipsoid: its semi-major axis is above zero, and its inverse flattening isn't below
abbrev pub OfEllipsoid : List Item → RefusedAt → Type 0
OfEllipsoid numbers fault = AnyOf NotAbove (take 1 numbers) fault ⊎ AnyOf IsNegative (drop 1 numbers) fault

-- the checks that a node of this class breaks by itself
unfoldable pub Own : Class → Item → RefusedAt → Type 0
Own class.GeodeticCrs item fault = OfCrs (dimensions_of class.GeodeticCrs) class.GeodeticCrs item fault
Own class.GeographicCrs item fault = OfCrs (dimensions_of class.GeographicCrs) class.GeographicCrs item fault
Own class.ProjectedCrs item fault = OfCrs (dimensions_of class.ProjectedCrs) class.ProjectedCrs item fault
Own class.VerticalCrs item fault = OfCrs (dimensions_of class.VerticalCrs) class.VerticalCrs item fault
Own class.BaseCrs item fault = BadDynamic class.BaseCrs item fault
Own class.CompoundCrs item fault = OfCompound (arguments item) fault
Own class.GeodeticFrame item fault = RepeatsAny class.GeodeticFrame (arguments item) anchors fault
Own class.VerticalFrame item fault = RepeatsAny class.VerticalFrame (arguments item) anchors fault
Own class.Ellipsoid item fault = OfEllipsoid (those class.Ellipsoid class.Number (arguments item)) fault
Own class.LengthUnit item fault = OfUnit class.LengthUnit item fault
Own class.AngleUnit item fault = OfUnit class.AngleUnit item fault
Own class.ScaleUnit item fault = OfUnit class.ScaleUnit item fault
Own class.PlainUnit item fault = OfUnit class.PlainUnit item fault
Own class.AxisUnit item fault = OfUnit class.AxisUnit item fault
Own class.CoordinateSystem item fault =
    AnyOf UnknownType (those class.CoordinateSystem class.Word (arguments item)) fault
Own class.Axis item fault = AnyOf UnknownDirection (those class.Axis class.Word (arguments item)) fault
Own other item fault = ⊥

-- what holds at an item's class, where it has one
abbrev pub AtClass : Option Class → (Class → Type 0) → Type 0
AtClass None P = ⊥
AtClass (Some c) P = P c

abbrev mutual
  -- an item of this class breaks a check: by itself, or within its arguments
  pub Breaks : Class → Item → RefusedAt → Type 0
  Breaks c (leaf kind place raw) fault = ⊥
  Breaks c (node place keyword square first others close) fault =
      Own c (node place keyword square first others close) fault
      ⊎ (AtClass (class_in c first) (λ d. Breaks d first fault) ⊎ BreaksAmong c others fault)

  -- one of these arguments of a node breaks a check
  pub BreaksAmong : Class → Siblings → RefusedAt → Type 0
  BreaksAmong c End fault = ⊥
  BreaksAmong c (More item items) fault =
      AtClass (class_in c item) (λ d. Breaks d item fault) ⊎ BreaksAmong c items fault
