-- A bridge: the item that a cursor is at, and its arguments of a class.
use Rattle.std.specs.Prelude.{List}
use Rattle.crs_text.specs.Items.{Item, arguments}
use Rattle.crs_shape.specs.declared.class.Class.{Class}
use Rattle.crs_value.specs.Reading.{those}
use Rattle.crs_value.specs.inner.Arguments.{item_at}
use Rattle.crs_value.specs.declared.reading.cursor.Cursor.{Cursor}

-- the item that a cursor is at
abbrev pub item : Cursor → Item
item node = item_at node.items.now node.id

-- the arguments of that item that are of this class
abbrev pub args : Class → Cursor → List Item
args c node = those node.class c (arguments (item node))
