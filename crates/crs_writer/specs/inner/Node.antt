-- A bridge: the item that a node is of, and its arguments.
use Rattle.std.specs.Prelude.{◌≡◌, List, [], ◌∷◌, Option, Some, None}
use Rattle.crs_text.specs.Items.{Item, arguments, rest_of, here}
use Rattle.crs_shape.specs.declared.class.Class.{Class}
use Rattle.crs_value.specs.Reading.{those}
use Rattle.crs_value.specs.inner.Arguments.{item_at}
use Rattle.crs_writer.specs.declared.nodes.node.Node.{Node}

-- the item of a node
abbrev pub item : Node → Item
item n = item_at n.items.now n.id

-- the arguments of this class
abbrev pub args : Class → Node → List Item
args d n = those n.class d (arguments (item n))

-- the first of these items, as one of this class; none where there are none
abbrev pub IsFirst : Node → Class → List Item → Option Node → Type 0
IsFirst of c items None = items ≡ []
IsFirst of c items (Some n) =
    (n.class ≡ c) × (n.items.now ≡ of.items.now)
    × (items ≡ item n ∷ those of.class c (rest_of (here of.items.now n.id)))
