-- A bridge: the quick checks of a CRS, by what one walk sees of axes beside one another, and of a CRS from its node `CS` on.
use Rattle.std.specs.Prelude.{◌≡◌, ℕ, ◌+◌, ◌<◌, ◌≤◌, length, ◌⊎◌, true, false, List, [], ◌∷◌, Option, Some, None, Bool, not}
use Rattle.std.specs.List.{list_any, list_all}
use Rattle.crs_text.specs.Items.{Item, Siblings, arguments, rest_of, here, HasId}
use Rattle.crs_text.specs.Refusal.{RefusedAt}
use Rattle.crs_shape.specs.declared.class.Class.{Class}
use Rattle.crs_shape.specs.declared.class.Class.TheVariants as class
use Rattle.crs_shape.specs.declared.system_type.SystemType.{SystemType}
use Rattle.crs_shape.specs.declared.unit_kind.UnitKind.TheVariants as kinds
use Rattle.crs_shape.specs.ShapeFault.{Shaped}
use Rattle.crs_shape.specs.Shape.{SlotParts, one, optional, some, takes}
use Rattle.crs_shape.specs.Dimensions.{dimensions_of}
use Rattle.crs_shape.specs.Words.{asked_kind}
use Rattle.crs_value.specs.declared.judging.quick_checks.AxesFacts.{AxesFacts}
use Rattle.crs_value.specs.declared.judging.quick_checks.AxisFacts.{AxisFacts}
use Rattle.crs_value.specs.declared.judging.quick_checks.Layout.{Layout}
use Rattle.crs_value.specs.Checks.{BadOrder, orders_in, units_in, Asks, Fits, BadOwnUnit, IsLeast, once, BadSystems, RepeatsAny}
use Rattle.crs_value.specs.inner.Arguments.{AreInOrder, HasPlace, item_at, ahead, Holds}
use Rattle.crs_value.specs.inner.Judged.{Walked}
use Rattle.crs_value.specs.Reading.{Each, those, ReadsFirst}
use Rattle.crs_value.specs.Reads.{HasType, ReadsDirection}

-- the item of this number, or none
abbrev pub the_one : Item → Option ℕ → List Item
the_one tree None = []
the_one tree (Some id) = item_at tree id ∷ []

-- the tree has the item of this number, which has the shape of the class
abbrev pub IsShaped : Item → Class → Option ℕ → Type 0
IsShaped tree c None = Unit {0}
IsShaped tree c (Some id) = HasId tree id × Shaped c (item_at tree id)

-- ---- axes

-- the second argument of an axis is the first word of it, and its orders and units are behind that
pub record IsBehindName (tree axis : Item) (word : ℕ) : Type 0 where
  pub has : HasId tree word
  pub words : those class.Axis class.Word (arguments axis)
      ≡ item_at tree word ∷ those class.Axis class.Word (rest_of (here tree word))
  pub orders : orders_in axis ≡ those class.Axis class.Order (rest_of (here tree word))
  pub units : units_in axis ≡ those class.Axis class.AxisUnit (rest_of (here tree word))

-- an axis's direction, and its only order and its only unit, where it has them
pub record HasFacts (tree axis : Item) (seen : AxisFacts) : Type 0 where
  pub direction : ReadsFirst ReadsDirection (those class.Axis class.Word (arguments axis)) seen.direction
  pub orders : orders_in axis ≡ the_one tree seen.order
  pub order : IsShaped tree class.Order seen.order
  pub units : units_in axis ≡ the_one tree seen.unit
  pub unit : IsShaped tree class.AxisUnit seen.unit

-- what was seen of some axes, and with one more that has these parts
pub record IsNoted (tree : Item) (of : SystemType) (seen : AxisFacts) (old new : AxesFacts) : Type 0 where
  pub counted : new.count ≡ old.count + 1
  pub placed : new.orders_are_places ≡ true → (old.orders_are_places ≡ true) × ((axis : Item) →
      orders_in axis ≡ the_one tree seen.order → HasPlace new.count axis)
  pub none : new.no_orders ≡ true → (old.no_orders ≡ true) × (seen.order ≡ None)
  pub fit : new.own_units_fit ≡ true → (old.own_units_fit ≡ true) × ((cs axis : Item) →
      Asks cs axis (asked_kind of seen.direction) → units_in axis ≡ the_one tree seen.unit →
      IsLeast (BadOwnUnit cs axis) None)
  pub free : new.no_own_units ≡ true → (old.no_own_units ≡ true) × (seen.unit ≡ None)
  pub long : new.all_lengths ≡ true → (old.all_lengths ≡ true) × (asked_kind of seen.direction ≡ kinds.Length)
  pub turned : new.all_angles ≡ true → (old.all_angles ≡ true) × (asked_kind of seen.direction ≡ kinds.Angle)

-- what was seen of these axes
pub record HaveFacts (of : SystemType) (axes : AxesFacts) (before : List Item) : Type 0 where
  pub count : axes.count ≡ length before
  pub placed : axes.orders_are_places ≡ true → AreInOrder 1 before
  pub none : axes.no_orders ≡ true → Each (λ a. orders_in a ≡ []) before
  pub fit : axes.own_units_fit ≡ true → (cs : Item) → HasType cs of → Each (λ a. IsLeast (BadOwnUnit cs a) None) before
  pub free : axes.no_own_units ≡ true → Each (λ a. units_in a ≡ []) before
  pub long : axes.all_lengths ≡ true → (cs : Item) → HasType cs of → Each (λ a. Asks cs a kinds.Length) before
  pub turned : axes.all_angles ≡ true → (cs : Item) → HasType cs of → Each (λ a. Asks cs a kinds.Angle) before

-- ---- from the node `CS` on

-- the orders of axes are those from 1 on, one after another, or no axis has one, or else they break no check
abbrev pub AreOrdered : AxesFacts → List Item → Type 0
AreOrdered axes list = (axes.orders_are_places ≡ true) ⊎ (axes.no_orders ≡ true) ⊎ IsLeast (BadOrder list) None

-- the units fit: each axis has its own, or none has one, and the shared one fits what all ask for
abbrev pub UnitsFit : Item → AxesFacts → Option ℕ → Type 0
UnitsFit tree axes None = axes.own_units_fit ≡ true
UnitsFit tree axes (Some unit) =
    (axes.no_own_units ≡ true)
    × (((axes.all_lengths ≡ true) × Fits (item_at tree unit) kinds.Length)
    ⊎ ((axes.all_angles ≡ true) × Fits (item_at tree unit) kinds.Angle))

-- the slots from that of a node `CS` on, with what may be at the end
abbrev pub rest_slots : SlotParts → List SlotParts
rest_slots slot = one class.CoordinateSystem ∷ some class.Axis ∷ optional class.AxisUnit ∷ slot ∷ []

-- these arguments break no check of a CRS but perhaps that of dynamic parts
pub record PassesButDynamic (c : Class) (items : Siblings) : Type 0 where
  pub repeats : IsLeast (RepeatsAny c items once) None
  pub systems : IsLeast (BadSystems (dimensions_of c) (those c class.CoordinateSystem items)
      (those c class.Axis items) (those c class.AxisUnit items)) None

-- the rank of what may stand but once at a CRS's end; 0 of others
abbrev pub rank : Class → ℕ
rank class.Scope = 1
rank class.Area = 2
rank class.BoundingBox = 3
rank class.VerticalExtent = 4
rank class.Remark = 5
rank other = 0

-- the highest rank isn't lower with one argument more; and where
-- this one has a rank, that is above the rank so far, and is reached
abbrev pub Climbs : ℕ → ℕ → ℕ → Type 0
Climbs last found next = (last ≤ next) × (1 ≤ found → (last < found) × (found ≤ next))

-- where the parts of a CRS begin that its checks ask for: from there on are all of their class, and behind them none
pub record IsLaid (tree : Item) (c : Class) (items : Siblings) (layout : Layout) : Type 0 where
  pub system : those c class.CoordinateSystem items ≡ those c class.CoordinateSystem (ahead tree layout.system)
  pub no_system : those c class.CoordinateSystem (ahead tree layout.axes) ≡ []
  pub axes : those c class.Axis items ≡ those c class.Axis (ahead tree layout.axes)
  pub no_axes : those c class.Axis (ahead tree layout.unit) ≡ []
  pub unit : those c class.AxisUnit items ≡ those c class.AxisUnit (ahead tree layout.unit)
  pub no_unit : those c class.AxisUnit (ahead tree layout.tail) ≡ []
  pub no_dynamic : those c class.Dynamic (ahead tree layout.system) ≡ []
  pub single : Each (λ d. those c d items ≡ those c d (ahead tree layout.tail)) once

-- whether none of these slots takes any of these classes
abbrev pub are_free : List SlotParts → List Class → Bool
are_free slots ds = list_all (λ d. not (list_any (λ s. takes s d) slots)) ds

-- whether slots may be before a node `CS`: none takes what the checks ask for from there on
abbrev pub is_head : List SlotParts → Bool
is_head slots = are_free slots (class.CoordinateSystem ∷ class.Axis ∷ class.AxisUnit ∷ once)

-- whether a slot may be at an end: it takes neither coordinate systems nor axes nor their units, and no dynamic parts
abbrev pub is_tail : SlotParts → Bool
is_tail slot = are_free (slot ∷ []) (class.CoordinateSystem ∷ class.Axis ∷ class.AxisUnit ∷ class.Dynamic ∷ [])

-- the tree has what the layout names
pub record IsHeld (tree : Item) (layout : Layout) : Type 0 where
  pub system : Holds tree layout.system
  pub axes : Holds tree layout.axes
  pub unit : Holds tree layout.unit
  pub tail : Holds tree layout.tail

-- the arguments from one on are judged against a CRS's slots, and its parts are told where there is no fault of shape
abbrev pub Laid : Item → Class → ℕ → List SlotParts → Option ℕ → Option RefusedAt →
    Option Layout → Option RefusedAt → Type 0
Laid tree c close slots at old None new = Walked tree c close slots at old false new
Laid tree c close slots at old (Some layout) new =
    Walked tree c close slots at old true new
    × (IsLaid tree c (ahead tree at) layout × IsHeld tree layout)
