-- Slots, the places that a class has for its arguments, in order; and shapes, the lists of arguments that they allow.
use Rattle.std.specs.Prelude.{ℕ, Bool, true, false, Option, Some, None, List, [], ◌∷◌, ◌≡◌, ◌≤◌, ◌||◌, ◌&&◌, not, IsTrue, IsFalse, ◌++◌, length}
use Rattle.std.specs.List.{list_any}
use denote.Enum.Bare.{sameb}
use Rattle.crs_shape.specs.contracts.class.Class.{the_type}
use Rattle.crs_shape.specs.declared.class.Class.{Class}
use Rattle.crs_shape.specs.declared.slot.Slot.{Slot}
use Rattle.crs_shape.specs.Keywords.{first_named}
use Rattle.crs_shape.specs.declared.class.Class.TheVariants as class

-- a slot takes arguments of its classes: at least one if it is required, and more than one only if it takes many
pub record SlotParts : Type 0 where
  pub classes : List Class
  pub required : Bool
  pub many : Bool

-- a slot of the program, as such a record
abbrev pub shown : Slot → SlotParts
shown s = record { classes = s.classes.now; required = s.required; many = s.many }

-- exactly one argument, of one of these classes
abbrev pub one_of : List Class → SlotParts
one_of cs = record { classes = cs; required = true; many = false }

-- none or one argument, of one of these classes
abbrev pub optional_of : List Class → SlotParts
optional_of cs = record { classes = cs; required = false; many = false }

-- any number of arguments of these classes, none included, in any order
abbrev pub any_of : List Class → SlotParts
any_of cs = record { classes = cs; required = false; many = true }

-- one or more arguments of these classes, in any order
abbrev pub some_of : List Class → SlotParts
some_of cs = record { classes = cs; required = true; many = true }

-- exactly one argument of this class
abbrev pub one : Class → SlotParts
one c = one_of (c ∷ [])

-- none or one argument of this class
abbrev pub optional : Class → SlotParts
optional c = optional_of (c ∷ [])

-- any number of arguments of this class, none included
abbrev pub any : Class → SlotParts
any c = any_of (c ∷ [])

-- one or more arguments of this class
abbrev pub some : Class → SlotParts
some c = some_of (c ∷ [])

-- what may be at a CRS's end
abbrev pub tail : SlotParts
tail =
    any_of (class.Usage ∷ class.Scope ∷ class.Area ∷ class.BoundingBox ∷ class.VerticalExtent
    ∷ class.Identifier ∷ class.Remark ∷ [])

-- what may be at a vertical CRS's end
abbrev pub vertical_tail : SlotParts
vertical_tail =
    any_of (class.GeoidModel ∷ class.Usage ∷ class.Scope ∷ class.Area ∷ class.BoundingBox
    ∷ class.VerticalExtent ∷ class.Identifier ∷ class.Remark ∷ [])

-- the slots of a geodetic or geographic CRS
abbrev pub geodetic_slots : List SlotParts
geodetic_slots =
    one class.Text ∷ optional class.Dynamic ∷
    one_of (class.GeodeticFrame ∷ class.GeodeticEnsemble ∷ []) ∷ optional class.PrimeMeridian
    ∷ one class.CoordinateSystem ∷ some class.Axis ∷ optional class.AxisUnit ∷ tail ∷ []

-- the slots of a unit: its name, its factor, and identifiers
abbrev pub unit_slots : List SlotParts
unit_slots = one class.Text ∷ one class.Number ∷ any class.Identifier ∷ []

-- the slots of a node that has a name, and identifiers
abbrev pub named_slots : List SlotParts
named_slots = one class.Text ∷ any class.Identifier ∷ []

-- how a reference frame is tied to the Earth, and when
abbrev pub anchor_slot : SlotParts
anchor_slot = any_of (class.Anchor ∷ class.AnchorEpoch ∷ [])

-- the slots of each class; an item that isn't a node has none
abbrev pub slots_of : Class → List SlotParts
slots_of class.Number = []
slots_of class.Text = []
slots_of class.Word = []
slots_of class.GeodeticCrs = geodetic_slots
slots_of class.GeographicCrs = geodetic_slots
slots_of class.ProjectedCrs =
    one class.Text ∷ one class.BaseCrs ∷ one class.Conversion ∷ one class.CoordinateSystem ∷
    some class.Axis ∷ optional class.AxisUnit ∷ tail ∷ []
slots_of class.VerticalCrs =
    one class.Text ∷ optional class.Dynamic ∷
    one_of (class.VerticalFrame ∷ class.VerticalEnsemble ∷ []) ∷ one class.CoordinateSystem
    ∷ some class.Axis ∷ optional class.AxisUnit ∷ vertical_tail ∷ []
slots_of class.CompoundCrs =
    one class.Text ∷ one_of (class.GeodeticCrs ∷ class.GeographicCrs ∷ class.ProjectedCrs ∷ [])
    ∷ one class.VerticalCrs ∷ tail ∷ []
slots_of class.BaseCrs =
    one class.Text ∷ optional class.Dynamic ∷
    one_of (class.GeodeticFrame ∷ class.GeodeticEnsemble ∷ []) ∷ optional class.PrimeMeridian
    ∷ optional class.AngleUnit ∷ any class.Identifier ∷ []
slots_of class.GeodeticFrame = one class.Text ∷ one class.Ellipsoid ∷ anchor_slot ∷ any class.Identifier ∷ []
slots_of class.VerticalFrame = one class.Text ∷ anchor_slot ∷ any class.Identifier ∷ []
slots_of class.Dynamic = one class.FrameEpoch ∷ optional class.DeformationModel ∷ []
slots_of class.FrameEpoch = one class.Number ∷ []
slots_of class.AnchorEpoch = one class.Number ∷ []
slots_of class.DeformationModel = named_slots
slots_of class.GeodeticEnsemble =
    one class.Text ∷ some class.Member ∷ one class.Ellipsoid ∷ one class.EnsembleAccuracy
    ∷ any class.Identifier ∷ []
slots_of class.VerticalEnsemble =
    one class.Text ∷ some class.Member ∷ one class.EnsembleAccuracy ∷ any class.Identifier ∷ []
slots_of class.Member = named_slots
slots_of class.EnsembleAccuracy = one class.Number ∷ []
slots_of class.Anchor = one class.Text ∷ []
slots_of class.Ellipsoid =
    one class.Text ∷ one class.Number ∷ one class.Number ∷ optional class.LengthUnit
    ∷ any class.Identifier ∷ []
slots_of class.PrimeMeridian = one class.Text ∷ one class.Number ∷ optional class.AngleUnit ∷ any class.Identifier ∷ []
slots_of class.LengthUnit = unit_slots
slots_of class.AngleUnit = unit_slots
slots_of class.ScaleUnit = unit_slots
slots_of class.PlainUnit = unit_slots
slots_of class.AxisUnit = unit_slots
slots_of class.CoordinateSystem = one class.Word ∷ one class.Number ∷ any class.Identifier ∷ []
slots_of class.Axis =
    one class.Text ∷ one class.Word ∷ optional class.AxisMeridian ∷ optional class.Order
    ∷ optional class.AxisUnit ∷ any class.Identifier ∷ []
slots_of class.AxisMeridian = one class.Number ∷ one class.AngleUnit ∷ []
slots_of class.Order = one class.Number ∷ []
slots_of class.Conversion = one class.Text ∷ one class.Method ∷ any class.Parameter ∷ any class.Identifier ∷ []
slots_of class.Method = named_slots
slots_of class.Parameter =
    one class.Text ∷ one class.Number ∷
    optional_of (class.PlainUnit ∷ class.LengthUnit ∷ class.AngleUnit ∷ class.ScaleUnit ∷ [])
    ∷ any class.Identifier ∷ []
slots_of class.GeoidModel = named_slots
slots_of class.Usage =
    optional class.Scope ∷ optional class.Area ∷ optional class.BoundingBox
    ∷ optional class.VerticalExtent ∷ []
slots_of class.Scope = one class.Text ∷ []
slots_of class.Area = one class.Text ∷ []
slots_of class.BoundingBox = one class.Number ∷ one class.Number ∷ one class.Number ∷ one class.Number ∷ []
slots_of class.VerticalExtent = one class.Number ∷ one class.Number ∷ optional class.LengthUnit ∷ []
slots_of class.Identifier =
    one class.Text ∷ one_of (class.Number ∷ class.Text ∷ []) ∷
    optional_of (class.Number ∷ class.Text ∷ []) ∷ optional class.Citation ∷ optional class.Uri ∷ []
slots_of class.Citation = one class.Text ∷ []
slots_of class.Uri = one class.Text ∷ []
slots_of class.Remark = one class.Text ∷ []

-- whether the slot takes arguments of this class
abbrev pub takes : SlotParts → Class → Bool
takes slot c = list_any (λ d. sameb the_type d c) slot.classes

-- the class that a keyword names among these slots: that of the first slot which has one, and in it the first
abbrev pub named_in : List SlotParts → List ℕ → Option Class
named_in [] word = None
named_in (s ∷ ss) word = or_later (first_named s.classes word) (named_in ss word)
  where
    or_later : Option Class → Option Class → Option Class
    or_later (Some c) later = Some c
    or_later None later = later

-- the class that a keyword names in a parent
unfoldable pub class_named : Class → List ℕ → Option Class
class_named parent word = named_in (slots_of parent) word

-- whether it is this class
abbrev pub is_class : Class → Option Class → Bool
is_class c None = false
is_class c (Some d) = sameb the_type d c

-- ---- shapes: the lists of arguments that a class allows are the product of its slots

-- all these classes are among the slot's
abbrev pub AllTaken : SlotParts → List Class → Type 0
AllTaken slot [] = Unit {0}
AllTaken slot (c ∷ cs) = IsTrue (takes slot c) × AllTaken slot cs

-- these classes fill the slot
pub record Fills (slot : SlotParts) (run : List Class) : Type 0 where
  pub taken : AllTaken slot run
  pub enough : IsTrue slot.required → 1 ≤ length run
  pub not_more : IsFalse slot.many → length run ≤ 1

-- for each slot, in order, a list of classes that fills it
abbrev pub AllFilled : List SlotParts → List (List Class) → Type 0
AllFilled [] [] = Unit {0}
AllFilled [] (run ∷ runs) = ⊥
AllFilled (slot ∷ slots) [] = ⊥
AllFilled (slot ∷ slots) (run ∷ runs) = Fills slot run × AllFilled slots runs

-- these lists of classes, one after another
abbrev pub joined : List (List Class) → List Class
joined [] = []
joined (run ∷ runs) = run ++ joined runs

-- a list of classes that the slots allow
abbrev pub Allowed : List SlotParts → List Class → Type 0
Allowed slots classes = (runs : List (List Class)) × (AllFilled slots runs × (classes ≡ joined runs))

-- an allowed list begins with these classes
abbrev pub Begins : List SlotParts → List Class → Type 0
Begins slots classes = (more : List Class) × Allowed slots (classes ++ more)

-- whether a class is in a slot that can be reached over optional slots alone
abbrev pub reaches : List SlotParts → Class → Bool
reaches [] c = false
reaches (slot ∷ slots) c = takes slot c || (not slot.required && reaches slots c)

-- whether there is a class
abbrev pub has_class : List Class → Bool
has_class [] = false
has_class (c ∷ cs) = true

-- Every slot has a class, and no class of an optional or repeated slot is in a later slot that can
-- be reached over optional slots alone.
abbrev pub is_apart : List SlotParts → Bool
is_apart [] = true
is_apart (slot ∷ slots) =
    has_class slot.classes
    && ((slot.required && not slot.many) || not (list_any (λ c. reaches slots c) slot.classes))
    && is_apart slots
