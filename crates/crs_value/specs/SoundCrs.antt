-- What is asked of a coordinate reference system.
use Rattle.crs_value.specs.declared.values.crs.Crs.{Crs}
use Rattle.crs_value.specs.declared.values.crs.Crs.TheVariants as crs
use Rattle.crs_value.specs.SoundCompound.{IsCompound}
use Rattle.crs_value.specs.SoundSingle.{IsGeodetic, IsProjected, IsVertical}

-- what is asked of a CRS is what is asked of a geodetic, a projected, a vertical or a compound one
abbrev pub IsCrs : Crs → Type 0
IsCrs (crs.Geodetic geodetic) = IsGeodetic geodetic
IsCrs (crs.Projected projected) = IsProjected projected
IsCrs (crs.Vertical vertical) = IsVertical vertical
IsCrs (crs.Compound compound) = IsCompound compound
