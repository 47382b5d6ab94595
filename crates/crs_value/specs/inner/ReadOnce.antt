-- A bridge: the classes of some slots; and what is read from items of one kind of node, one value at most.
use Rattle.crs_shape.specs.declared.class.Class.{Class}
use Rattle.std.specs.Prelude.{◌≡◌}
use Rattle.crs_text.specs.Items.{Item}
use Rattle.crs_text.specs.Refusal.{RefusedAt}
use Rattle.crs_text.specs.Written.{AreFormed}
use Rattle.crs_shape.specs.ShapeFault.{Shaped}
use Rattle.crs_value.specs.Checks.{Breaks}
use Rattle.crs_shape.specs.declared.class.Class.TheVariants as class

-- the classes of units
abbrev pub IsUnitClass : Class → Type 0
IsUnitClass class.LengthUnit = Unit {0}
IsUnitClass class.AngleUnit = Unit {0}
IsUnitClass class.ScaleUnit = Unit {0}
IsUnitClass class.PlainUnit = Unit {0}
IsUnitClass class.AxisUnit = Unit {0}
IsUnitClass other = ⊥

-- the classes of CRS that have a coordinate system of their own
abbrev pub HasSystem : Class → Type 0
HasSystem class.GeodeticCrs = Unit {0}
HasSystem class.GeographicCrs = Unit {0}
HasSystem class.ProjectedCrs = Unit {0}
HasSystem class.VerticalCrs = Unit {0}
HasSystem other = ⊥

-- ---- what is read from items of one kind of node: one value at most, and from well-formed accepted items only what is asked of it

-- a well-formed item of the shape of its class that breaks no check
pub record IsSound (c : Class) (item : Item) : Type 0 where
  pub formed : AreFormed item
  pub shaped : Shaped c item
  pub unbroken : (fault : RefusedAt) → ¬ (Breaks c item fault)

-- an item of a class is read as one value at most
abbrev pub IsReadOnce : {V : Type 0} → (Class → Item → V → Type 0) → Type 0
IsReadOnce {V = V} Reads = (c : Class) (item : Item) (a b : V) → Reads c item a → Reads c item b → a ≡ b

-- what is read from a sound item of this class has the property
abbrev pub IsReadAs : {V : Type 0} → (Class → Item → V → Type 0) → (V → Type 0) → Class → Type 0
IsReadAs {V = V} Reads Is c = (item : Item) (value : V) → IsSound c item → Reads c item value → Is value
