-- Kinds and levels by the numbers that C has for them.
use Rattle.std.specs.Prelude.{ℕ, ◌==◌, Option, Some, None, if◌then◌else◌}
use Rattle.crs_value.specs.declared.values.crs.Kind.{Kind}
use Rattle.crs_value.specs.declared.values.crs.Kind.TheVariants as kind
use Rattle.crs_value.specs.declared.values.level.Level.{Level}
use Rattle.crs_value.specs.declared.values.level.Level.TheVariants as level

-- the number by which C knows a kind of CRS
abbrev pub kind_number : Kind → ℕ
kind_number kind.Geodetic = 1
kind_number kind.Geographic = 2
kind_number kind.Projected = 3
kind_number kind.Vertical = 4
kind_number kind.Compound = 5

-- the level of this number
abbrev pub level_numbered : ℕ → Option Level
level_numbered n = if n == 0 then Some level.Full else (if n == 1 then Some level.Definition else None)
