-- Choices: one of some values is so, and the value that is so, or none; and the dimensions of coordinate systems.
use Rattle.std.specs.Prelude.{List, [], ◌∷◌, Option, Some, None, ◌⊎◌, ℕ}
use Rattle.crs_decimal.specs.Numbers.{SameNumber, whole_number, Value, exact}
use Rattle.crs_shape.specs.declared.class.Class.{Class}
use Rattle.crs_shape.specs.declared.system_type.SystemType.{SystemType}
use Rattle.crs_shape.specs.declared.class.Class.TheVariants as class
use Rattle.crs_shape.specs.declared.system_type.SystemType.TheVariants as types

-- one of these values is so
abbrev pub OneIs : {V : Type 0} → (V → Type 0) → List V → Type 0
OneIs P [] = ⊥
OneIs P (value ∷ values) = P value ⊎ OneIs P values

-- the value that reads so, or none where no value does
abbrev pub IsReading : {V : Type 0} → (V → Type 0) → Option V → Type 0
IsReading {V = V} reads None = (value : V) → ¬ (reads value)
IsReading reads (Some value) = reads value

-- ---- the dimensions of coordinate systems

-- the dimensions that a CRS of this class may have with each type of coordinate system; the class
-- of a geographic CRS is the one of its keyword
abbrev pub dimensions_of : Class → SystemType → List ℕ
dimensions_of class.GeodeticCrs types.Cartesian = 3 ∷ []
dimensions_of class.GeodeticCrs types.Ellipsoidal = 2 ∷ 3 ∷ []
dimensions_of class.GeodeticCrs types.Spherical = 2 ∷ 3 ∷ []
dimensions_of class.GeographicCrs types.Ellipsoidal = 2 ∷ 3 ∷ []
dimensions_of class.ProjectedCrs types.Cartesian = 2 ∷ 3 ∷ []
dimensions_of class.VerticalCrs types.Vertical = 1 ∷ []
dimensions_of other system_type = []

-- the number is one of these
abbrev pub IsOneOf : Value → List ℕ → Type 0
IsOneOf value ns = OneIs (λ n. SameNumber (exact value) (whole_number n)) ns
