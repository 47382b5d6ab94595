-- What is asked of a compound CRS by itself.
use Rattle.std.specs.Prelude.{◌≡◌}
use Rattle.crs_decimal.specs.Numbers.{SameNumber, whole_number, exact}
use Rattle.crs_shape.specs.declared.system_type.SystemType.TheVariants as types
use Rattle.crs_value.specs.declared.values.compound.Horizontal.{Horizontal}
use Rattle.crs_value.specs.declared.values.compound.Horizontal.TheVariants as horizontal
use Rattle.crs_value.specs.CompoundValues.{CompoundParts}
use Rattle.crs_value.specs.Sound.{IsText, IsTail}
use Rattle.crs_value.specs.SoundSingle.{IsGeodetic, IsProjected, IsVertical}
use Rattle.crs_value.specs.Values.{SystemParts}

-- a coordinate system of dimension 2
abbrev pub IsPlane : SystemParts → Type 0
IsPlane system = SameNumber (exact system.dimension) (whole_number 2)

-- the horizontal part is a geographic or a projected CRS of dimension 2
abbrev pub IsHorizontal : Horizontal → Type 0
IsHorizontal (horizontal.Geodetic geodetic) =
    IsGeodetic geodetic × (geodetic.system.system_type ≡ types.Ellipsoidal)
    × IsPlane geodetic.system
IsHorizontal (horizontal.Projected projected) = IsProjected projected × IsPlane projected.system

-- what is asked of a compound CRS: its name is a text, and its parts are as asked of them
pub record IsCompound (compound : CompoundParts) : Type 0 where
  pub name : IsText compound.name
  pub horizontal : IsHorizontal compound.horizontal
  pub vertical : IsVertical compound.vertical
  pub tail : IsTail compound.tail
