-- A bridge: what an item that is sought is.
use Rattle.std.specs.Prelude.{if◌then◌else◌}
use denote.Enum.Bare.{sameb}
use Rattle.crs_text.specs.declared.items.ItemKind.{ItemKind}
use Rattle.crs_text.specs.declared.items.ItemKind.TheVariants as kind
use Rattle.crs_shape.specs.contracts.class.Class.{the_type}
use Rattle.crs_shape.specs.declared.class.Class.{Class}
use Rattle.crs_shape.specs.declared.class.Class.TheVariants as class

-- what an item of a class is
abbrev pub kind_for : Class → ItemKind
kind_for c =
    if sameb the_type c class.Number then kind.Number
    else (if sameb the_type c class.Text then kind.Text
    else (if sameb the_type c class.Word then kind.Word else kind.Node))
