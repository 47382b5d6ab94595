-- Words: those of coordinate system types, axis directions and units, and how bytes spell a word in either case.
use Rattle.std.specs.Prelude.{◌≡◌, ◌∷◌, [], ℕ, List, codes}
use Rattle.std.specs.Str.{str_to_ascii_lowercase}
use Rattle.crs_shape.specs.declared.direction.Direction.{Direction}
use Rattle.crs_shape.specs.declared.system_type.SystemType.{SystemType}
use Rattle.crs_shape.specs.declared.unit_kind.UnitKind.{UnitKind}
use Rattle.crs_shape.specs.declared.direction.Direction.TheVariants as directions
use Rattle.crs_shape.specs.declared.system_type.SystemType.TheVariants as types
use Rattle.crs_shape.specs.declared.unit_kind.UnitKind.TheVariants as kinds

-- the bytes are this word, letter case aside
abbrev pub SpellsWord : List ℕ → List ℕ → Type 0
SpellsWord bytes name = str_to_ascii_lowercase bytes ≡ str_to_ascii_lowercase name

-- the word that is written for the direction of an axis
abbrev pub direction_word : Direction → List ℕ
direction_word directions.North = codes "north"
direction_word directions.NorthNorthEast = codes "northNorthEast"
direction_word directions.NorthEast = codes "northEast"
direction_word directions.EastNorthEast = codes "eastNorthEast"
direction_word directions.East = codes "east"
direction_word directions.EastSouthEast = codes "eastSouthEast"
direction_word directions.SouthEast = codes "southEast"
direction_word directions.SouthSouthEast = codes "southSouthEast"
direction_word directions.South = codes "south"
direction_word directions.SouthSouthWest = codes "southSouthWest"
direction_word directions.SouthWest = codes "southWest"
direction_word directions.WestSouthWest = codes "westSouthWest"
direction_word directions.West = codes "west"
direction_word directions.WestNorthWest = codes "westNorthWest"
direction_word directions.NorthWest = codes "northWest"
direction_word directions.NorthNorthWest = codes "northNorthWest"
direction_word directions.GeocentricX = codes "geocentricX"
direction_word directions.GeocentricY = codes "geocentricY"
direction_word directions.GeocentricZ = codes "geocentricZ"
direction_word directions.Up = codes "up"
direction_word directions.Down = codes "down"
direction_word directions.Unspecified = codes "unspecified"

-- the word that is written for the type of a coordinate system
abbrev pub system_word : SystemType → List ℕ
system_word types.Cartesian = codes "Cartesian"
system_word types.Ellipsoidal = codes "ellipsoidal"
system_word types.Spherical = codes "spherical"
system_word types.Vertical = codes "vertical"

-- the directions of axes
unfoldable pub every_direction : List Direction
every_direction =
    directions.North ∷ directions.NorthNorthEast ∷ directions.NorthEast ∷
    directions.EastNorthEast ∷ directions.East ∷ directions.EastSouthEast ∷ directions.SouthEast ∷
    directions.SouthSouthEast ∷ directions.South ∷ directions.SouthSouthWest ∷
    directions.SouthWest ∷ directions.WestSouthWest ∷ directions.West ∷ directions.WestNorthWest ∷
    directions.NorthWest ∷ directions.NorthNorthWest ∷ directions.GeocentricX ∷
    directions.GeocentricY ∷ directions.GeocentricZ ∷ directions.Up ∷ directions.Down ∷
    directions.Unspecified ∷ []

-- the types of coordinate systems
unfoldable pub every_type : List SystemType
every_type = types.Cartesian ∷ types.Ellipsoidal ∷ types.Spherical ∷ types.Vertical ∷ []

-- the keyword of a unit of this kind
abbrev pub unit_word : UnitKind → List ℕ
unit_word kinds.Length = codes "LENGTHUNIT"
unit_word kinds.Angle = codes "ANGLEUNIT"
unit_word kinds.Scale = codes "SCALEUNIT"
unit_word kinds.Plain = codes "UNIT"

-- ---- the kind of unit that an axis asks for, and that a unit has where one is asked

-- a length for what goes up or down, else an angle
abbrev pub kind_by_direction : Direction → UnitKind
kind_by_direction directions.Up = kinds.Length
kind_by_direction directions.Down = kinds.Length
kind_by_direction other = kinds.Angle

-- the kind of unit that an axis asks for, by the type of its coordinate system and its own direction
abbrev pub asked_kind : SystemType → Direction → UnitKind
asked_kind types.Cartesian d = kinds.Length
asked_kind types.Ellipsoidal d = kind_by_direction d
asked_kind types.Spherical d = kind_by_direction d
asked_kind types.Vertical d = kinds.Length

-- the kind of a unit where this kind is asked: `UNIT` is of that
abbrev pub kind_as : UnitKind → UnitKind → UnitKind
kind_as asked kinds.Plain = asked
kind_as asked kinds.Length = kinds.Length
kind_as asked kinds.Angle = kinds.Angle
kind_as asked kinds.Scale = kinds.Scale
