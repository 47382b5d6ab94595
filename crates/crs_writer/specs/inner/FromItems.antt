-- A bridge: what is found among the arguments of a node, and what is written straight from items, with no value between.
use Rattle.std.specs.Prelude.{ℕ, List, Option, Some, None, ◌≡◌, ◌++◌}
use Rattle.crs_decimal.specs.Numbers.{Denotes, Value, IsNormal, exact}
use Rattle.crs_text.specs.Items.{Siblings, leaf, node, End, More, Item}
use Rattle.crs_shape.specs.declared.class.Class.{Class}
use Rattle.crs_value.specs.inner.Arguments.{item_at}

-- ---- a bridge: what is found among the arguments of a node

-- what a part says, if there is one
abbrev pub SaysIfAny : {P V : Type 0} → (P → V → Type 0) → Option P → Option V → Type 0
SaysIfAny Says None None = Unit {0}
SaysIfAny Says None (Some value) = ⊥
SaysIfAny Says (Some part) None = ⊥
SaysIfAny Says (Some part) (Some value) = Says part value

-- the decimal that bytes spell
abbrev pub IsNumber : List ℕ → Value → Type 0
IsNumber raw value = IsNormal value × Denotes raw (exact value)

-- none of these items is a node
abbrev pub AreLeaves : Siblings → Type 0
AreLeaves End = Unit {0}
AreLeaves (More (leaf kind place raw) items) = AreLeaves items
AreLeaves (More (node place keyword square first others close) items) = ⊥

-- ---- a bridge: what is written straight from items, with no value between

-- the text of whatever is read is appended
pub record Writes {V : Type 0} (Reads : V → Type 0) (text : V → List ℕ) (old new : List ℕ) : Type 0 where
  pub writes : (value : V) → Reads value → new ≡ old ++ text value

-- some value is read
abbrev pub IsRead : {V : Type 0} → (V → Type 0) → Type 0
IsRead {V = V} Reads = (value : V) × Reads value

-- what is read from the item of this number as one of a class, if there is one
abbrev pub IsReadAt : {V : Type 0} → (Class → Item → V → Type 0) → Class → Item → Option V → Option ℕ → Type 0
IsReadAt Reads c tree value None = value ≡ None
IsReadAt {V = V} Reads c tree value (Some id) = (read : V) × (value ≡ Some read) × Reads c (item_at tree id) read
