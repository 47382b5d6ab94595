-- A bridge: what a node of a known class says by its arguments, and what holds of each node.
use Rattle.std.specs.Prelude.{◌≡◌, Option, Some, None}
use Rattle.crs_decimal.specs.Numbers.{Value}
use Rattle.crs_text.specs.Items.{Siblings}
use Rattle.crs_shape.specs.declared.class.Class.{Class}
use Rattle.crs_shape.specs.declared.unit_kind.UnitKind.{UnitKind}
use Rattle.crs_value.specs.Checks.{IsAboveZero}
use Rattle.crs_value.specs.Sound.{IsText}
use Rattle.crs_rules.specs.Members.{MemberParts, SaysName, kind_of}

-- a node of this class with these arguments says this
abbrev pub SaysNamed : Class → Siblings → MemberParts → Type 0
SaysNamed c items m = (m.class ≡ c) × SaysName items m

-- a factor of a unit is above zero
abbrev pub IsFactor : Option UnitKind → Value → Type 0
IsFactor None factor = Unit {0}
IsFactor (Some k) factor = IsAboveZero factor

-- a node's name is a text, and its factor that of a unit, if it is one
pub record IsMember (m : MemberParts) : Type 0 where
  pub name : IsText m.name
  pub factor : IsFactor (kind_of m.class) m.factor
