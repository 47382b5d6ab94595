-- A bridge: whole numbers, as the checks of orders and dimensions ask for them.
use Rattle.std.specs.Prelude.{ℕ, List}
use Rattle.crs_decimal.specs.Numbers.{Denotes, SameNumber, whole_number, Value, IsNormal, exact}
use Rattle.crs_text.specs.Items.{Item}
use Rattle.crs_shape.specs.declared.class.Class.{Class}
use Rattle.crs_value.specs.Reads.{ReadsNumberOf}

-- bytes denote this whole number
abbrev pub IsWhole : List ℕ → ℕ → Type 0
IsWhole bytes n =
    (value : Value)
    × ((IsNormal value × Denotes bytes (exact value)) × SameNumber (exact value) (whole_number n))

-- a node's number is this whole one
abbrev pub IsWholeOf : Class → Item → ℕ → Type 0
IsWholeOf c item n = (value : Value) × (ReadsNumberOf c item value × SameNumber (exact value) (whole_number n))
