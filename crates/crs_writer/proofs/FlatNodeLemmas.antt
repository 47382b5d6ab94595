-- Nodes of which no argument is a node: nothing is read from nodes in them.
use Rattle.std.proofs.Common.{◌≡◌, ◌-◌, ◌≤◌, false, [], refl, arith}
use denote.Enum.Bare.{sameb}
use Rattle.crs_text.specs.inner.Prelude.{Item, Siblings, leaf, node, End, More, arguments, count, size_of, sizes, number, text, word}
use Rattle.crs_shape.specs.contracts.class.Class.{the_type}
use Rattle.crs_shape.specs.declared.class.Class.{Class}
use Rattle.crs_shape.specs.declared.class.Class.TheVariants as class
use Rattle.crs_value.specs.inner.Prelude.{those}
use Rattle.crs_writer.specs.inner.FromItems.{AreLeaves}

some-size : (item : Item) → 1 ≤ size_of item
some-size (leaf kind place raw) = omega arith
some-size (node place keyword square first others close) = omega arith

no-more : (items : Siblings) → count items ≤ sizes items
no-more End = omega arith
no-more (More item items) = omega (arith, some-size item, no-more items)

all-leaves : (items : Siblings) → sizes items ≡ count items → AreLeaves items
all-leaves End e = tt
all-leaves (More (leaf kind place raw) items) e = all-leaves items (omega (arith, e))
all-leaves (More (node place keyword square first others close) items) e = absurd (omega (arith, e, some-size first, no-more items))

pub leaves-by : (item : Item) → size_of item - 1 ≡ count (arguments item) → AreLeaves (arguments item)
leaves-by (leaf kind place raw) e = tt
leaves-by (node place keyword square first others close) e = all-leaves (More first others) (omega (arith, e))

-- none is of a class of nodes
pub none-among : (parent c : Class) (items : Siblings) → sameb the_type class.Number c ≡ false → sameb the_type class.Text c ≡ false →
    sameb the_type class.Word c ≡ false → AreLeaves items → those parent c items ≡ []
none-among parent c End n t w h = refl
none-among parent c (More (leaf number place raw) items) n t w h = rw (n, none-among parent c items n t w h)
none-among parent c (More (leaf text place raw) items) n t w h = rw (t, none-among parent c items n t w h)
none-among parent c (More (leaf word place raw) items) n t w h = rw (w, none-among parent c items n t w h)
none-among parent c (More (node place keyword square first others close) items) n t w h = absurd h
