-- A bridge: arguments by their numbers in a tree, and how many a class takes.
use Rattle.std.specs.Prelude.{◌≡◌, ℕ, ◌<◌, ◌≤◌, IsTrue, List, [], ◌∷◌, Option, Some, None, ◌+◌, if◌then◌else◌}
use Rattle.std.specs.List.{list_any}
use Rattle.crs_text.specs.Items.{Item, Siblings, End, first_of, rest_of, here, HasId}
use Rattle.crs_shape.specs.declared.class.Class.{Class}
use Rattle.crs_shape.specs.inner.Counts.{is_bounded, least, most}
use Rattle.crs_shape.specs.Shape.{slots_of}
use Rattle.crs_value.specs.Reading.{is_same, those, Each, OneIs}
use Rattle.crs_decimal.specs.Numbers.{SameNumber, whole_number, Value, exact}
use Rattle.crs_shape.specs.ShapeFault.{Shaped}
use Rattle.crs_value.specs.Checks.{orders_in, ReadsOrder}
use Rattle.crs_text.specs.Refusal.{RefusedAt, is_before}

-- the item of this number in a tree
abbrev pub item_at : Item → ℕ → Item
item_at tree id = first_of (here tree id)

-- the items of a node from this one on; none where there is no such item
abbrev pub ahead : Item → Option ℕ → Siblings
ahead tree None = End
ahead tree (Some id) = here tree id

-- the tree has the item, where there is one
abbrev pub Holds : Item → Option ℕ → Type 0
Holds tree None = Unit {0}
Holds tree (Some id) = HasId tree id

-- the slots of a class require more than `n` arguments of class `d`
abbrev pub Requires : Class → Class → ℕ → Type 0
Requires c d n = n < least (is_same d) (slots_of c)

-- the slots of a class take one argument of class `d` at most
abbrev pub TakesOne : Class → Class → Type 0
TakesOne c d = IsTrue (is_bounded (is_same d) (slots_of c)) × (most (is_same d) (slots_of c) ≤ 1)

-- the slots of a class require an argument of one of these classes
abbrev pub RequiresOneOf : Class → List Class → Type 0
RequiresOneOf c ds = 0 < least (λ d. list_any (λ e. is_same e d) ds) (slots_of c)

-- the number of the first of these arguments, which the later ones follow; none where there are none
abbrev pub IsFound : Item → Class → Class → List Item → Option ℕ → Type 0
IsFound tree parent c items None = items ≡ []
IsFound tree parent c items (Some id) =
    (items ≡ item_at tree id ∷ those parent c (rest_of (here tree id))) × HasId tree id

-- ---- a bridge: arguments of one class from one on, as the program goes through them, and classes of which one is read

-- the arguments of a class from a found one on; none where none is found
abbrev pub from_found : Item → Class → Class → Option ℕ → List Item
from_found tree parent c None = []
from_found tree parent c (Some id) = item_at tree id ∷ those parent c (rest_of (here tree id))

-- each of these items has the shape of the class
abbrev pub AllShaped : Class → List Item → Type 0
AllShaped c items = Each (Shaped c) items

-- the class is one of these
abbrev pub IsAmong : List Class → Class → Type 0
IsAmong ds c = OneIs (λ d. c ≡ d) ds

-- the only order of an axis is this number
pub record HasPlace (n : ℕ) (axis : Item) : Type 0 where
  pub order : Item
  pub only : orders_in axis ≡ order ∷ []
  pub value : Value
  pub reads : ReadsOrder order value
  pub same : SameNumber (exact value) (whole_number n)

-- these axes have the orders from this number on, one after another
abbrev pub AreInOrder : ℕ → List Item → Type 0
AreInOrder n [] = Unit {0}
AreInOrder n (axis ∷ axes) = HasPlace n axis × AreInOrder (n + 1) axes

-- ---- a bridge: the first of two faults, as the program finds it

-- the first of two faults; the other where one is missing
abbrev pub lesser : Option RefusedAt → Option RefusedAt → Option RefusedAt
lesser None b = b
lesser (Some a) None = Some a
lesser (Some a) (Some b) = if is_before b a then Some b else Some a
