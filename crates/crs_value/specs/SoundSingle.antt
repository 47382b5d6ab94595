-- What is asked of geodetic, projected and vertical CRSs, and of base CRSs, by themselves.
use Rattle.std.specs.Prelude.{IfSome, IsSome, IsNone, Option, Some, None}
use Rattle.crs_shape.specs.declared.unit_kind.UnitKind.TheVariants as kinds
use Rattle.crs_shape.specs.declared.class.Class.TheVariants as class
use Rattle.crs_shape.specs.Dimensions.{dimensions_of}
use Rattle.crs_value.specs.declared.values.frame.Frame.{Frame}
use Rattle.crs_value.specs.declared.values.frame.Frame.TheVariants as frame
use Rattle.crs_value.specs.CrsValues.{GeodeticParts, BaseParts, ProjectedParts, VerticalParts}
use Rattle.crs_value.specs.Values.{DynamicParts}
use Rattle.crs_value.specs.Sound.{Each, IsText, IsIdent, IsNamed, IsUnitOf, IsSystem, IsAllowed, IsTail}
use Rattle.crs_value.specs.SoundParts.{IsConversion, IsDynamic, IsMeridian, IsDatum, IsEnsemble}

-- what is asked of a geodetic frame or ensemble: it has an ellipsoid
abbrev pub IsGeodeticFrame : Frame → Type 0
IsGeodeticFrame (frame.Datum datum) = IsDatum datum × IsSome datum.ellipsoid
IsGeodeticFrame (frame.Ensemble ensemble) = IsEnsemble ensemble × IsSome ensemble.ellipsoid

-- what is asked of a vertical frame or ensemble: it has no ellipsoid
abbrev pub IsVerticalFrame : Frame → Type 0
IsVerticalFrame (frame.Datum datum) = IsDatum datum × IsNone datum.ellipsoid
IsVerticalFrame (frame.Ensemble ensemble) = IsEnsemble ensemble × IsNone ensemble.ellipsoid

-- a dynamic part is beside a reference frame alone
abbrev pub IsDynamicOf : Option DynamicParts → Frame → Type 0
IsDynamicOf None held = Unit {0}
IsDynamicOf (Some dynamic) (frame.Datum datum) = IsDynamic dynamic
IsDynamicOf (Some dynamic) (frame.Ensemble ensemble) = ⊥

-- what is asked of a geodetic CRS: its dimension is one that it may have with the type of its coordinate system
pub record IsGeodetic (geodetic : GeodeticParts) : Type 0 where
  pub name : IsText geodetic.name
  pub dynamic : IsDynamicOf geodetic.dynamic geodetic.frame
  pub frame : IsGeodeticFrame geodetic.frame
  pub meridian : IfSome geodetic.meridian IsMeridian
  pub system : IsSystem geodetic.system
  pub dimension : IsAllowed (dimensions_of class.GeodeticCrs) geodetic.system
  pub tail : IsTail geodetic.tail

-- what is asked of the base CRS of a projected one: its unit, if it has one, fits one of angle
pub record IsBase (base : BaseParts) : Type 0 where
  pub name : IsText base.name
  pub dynamic : IsDynamicOf base.dynamic base.frame
  pub frame : IsGeodeticFrame base.frame
  pub meridian : IfSome base.meridian IsMeridian
  pub unit : IfSome base.unit (IsUnitOf kinds.Angle)
  pub identifiers : Each IsIdent base.identifiers

-- what is asked of a projected CRS: its dimension is one that it may have with the type of its coordinate system
pub record IsProjected (projected : ProjectedParts) : Type 0 where
  pub name : IsText projected.name
  pub base : IsBase projected.base
  pub conversion : IsConversion projected.conversion
  pub system : IsSystem projected.system
  pub dimension : IsAllowed (dimensions_of class.ProjectedCrs) projected.system
  pub tail : IsTail projected.tail

-- what is asked of a vertical CRS: its dimension is one that it may have with the type of its coordinate system
pub record IsVertical (vertical : VerticalParts) : Type 0 where
  pub name : IsText vertical.name
  pub dynamic : IsDynamicOf vertical.dynamic vertical.frame
  pub frame : IsVerticalFrame vertical.frame
  pub system : IsSystem vertical.system
  pub dimension : IsAllowed (dimensions_of class.VerticalCrs) vertical.system
  pub geoid_models : Each IsNamed vertical.geoid_models
  pub tail : IsTail vertical.tail
