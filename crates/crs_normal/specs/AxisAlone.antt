-- Axes by themselves: normal, except that a unit may also be a normal `UNIT`, which is a kind of its own there.
use Rattle.std.specs.Prelude.{◌≡◌, ◌⊎◌, ℕ, List}
use Rattle.crs_text.specs.Items.{Item, leaf, node, Siblings, End, More}
use Rattle.crs_shape.specs.declared.class.Class.{Class}
use Rattle.crs_shape.specs.declared.class.Class.TheVariants as class
use Rattle.crs_shape.specs.ShapeFault.{class_in}
use Rattle.crs_value.specs.Checks.{AtClass}
use Rattle.crs_value.specs.Reads.{ReadsAxis}
use Rattle.crs_value.specs.Values.{AxisParts}
use Rattle.crs_value.specs.declared.values.level.Level.{Level}
use Rattle.crs_same.specs.SameParts.{SameAxisAlone}
use Rattle.crs_normal.specs.Normal.{IsNormalIn, IsNormalNode}
use Rattle.crs_normal.specs.PartSpellings.{IsSpelledBy}

-- an argument of this class is normal in an axis, or is a unit that is a normal `UNIT`
abbrev pub IsNormalArgument : Level → Class → Item → Type 0
IsNormalArgument level d item =
    IsNormalIn level class.Axis d item
    ⊎ ((d ≡ class.AxisUnit) × IsNormalIn level class.Axis class.PlainUnit item)

-- each of these arguments is normal in an axis by itself
abbrev pub AreNormalArguments : Level → Siblings → Type 0
AreNormalArguments level End = Unit {0}
AreNormalArguments level (More item items) =
    AtClass (class_in class.Axis item) (λ d. IsNormalArgument level d item)
    × AreNormalArguments level items

-- a normal node that is written as an axis; its order and its unit are as it holds them
abbrev pub IsNormalAxis : Level → Item → Type 0
IsNormalAxis level (leaf kind place raw) = ⊥
IsNormalAxis level (node place keyword square first others close) =
    IsNormalNode level class.Axis keyword (node place keyword square first others close)
    (AreNormalArguments level (More first others))

-- the bytes are the one spelling of an axis by itself, with the order and the unit that it holds
abbrev pub IsSpelledAxis : Level → AxisParts → List ℕ → Type 0
IsSpelledAxis level = IsSpelledBy class.Axis (IsNormalAxis level) ReadsAxis (SameAxisAlone level)
