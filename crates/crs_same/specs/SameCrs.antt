-- When coordinate reference systems are the same: where all their parts are.
use Rattle.std.specs.Prelude.{Some}
use Rattle.crs_value.specs.declared.values.compound.Horizontal.{Horizontal}
use Rattle.crs_value.specs.declared.values.compound.Horizontal.TheVariants as horizontal
use Rattle.crs_value.specs.declared.values.crs.Crs.{Crs}
use Rattle.crs_value.specs.declared.values.level.Level.{Level}
use Rattle.crs_value.specs.Values.{DynamicParts}
use Rattle.crs_value.specs.SoundSingle.{IsGeodetic, IsProjected}
use Rattle.crs_same.specs.Parts.{AllSame, AreSame, parts_of_crs, parts_of_dynamic}

-- two CRSs are the same at a level: all their parts are
unfoldable pub SameCrs : Level → Crs → Crs → Type 0
SameCrs level a b = AllSame (parts_of_crs level a b)

-- two dynamic parts that are both there are the same at a level: all their parts are
unfoldable pub SameDynamic : Level → DynamicParts → DynamicParts → Type 0
SameDynamic level a b = AreSame parts_of_dynamic level (Some a) (Some b)

-- what is asked of the horizontal part of a compound CRS by itself: what is asked of it as a CRS
abbrev pub IsHorizontalPart : Horizontal → Type 0
IsHorizontalPart (horizontal.Geodetic geodetic) = IsGeodetic geodetic
IsHorizontalPart (horizontal.Projected projected) = IsProjected projected
