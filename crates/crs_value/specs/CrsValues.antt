-- Geodetic, projected and vertical CRSs as they are written.
use Rattle.std.specs.Prelude.{ℕ, List, Option}
use Rattle.crs_value.specs.Values.{ConversionParts, DynamicParts, UnitParts, MeridianParts, SystemParts, TailParts}
use Rattle.crs_value.specs.NamedValues.{IdentParts, NamedParts}
use Rattle.crs_value.specs.declared.values.frame.Frame.{Frame}

-- a geodetic or geographic CRS
pub record GeodeticParts : Type 0 where
  pub name : List ℕ
  pub dynamic : Option DynamicParts
  pub frame : Frame
  pub meridian : Option MeridianParts
  pub system : SystemParts
  pub tail : TailParts

-- the CRS that a projected one is based on, and the unit of its angles, if one is written
pub record BaseParts : Type 0 where
  pub name : List ℕ
  pub dynamic : Option DynamicParts
  pub frame : Frame
  pub meridian : Option MeridianParts
  pub unit : Option UnitParts
  pub identifiers : List IdentParts

-- a projected CRS
pub record ProjectedParts : Type 0 where
  pub name : List ℕ
  pub base : BaseParts
  pub conversion : ConversionParts
  pub system : SystemParts
  pub tail : TailParts

-- a vertical CRS
pub record VerticalParts : Type 0 where
  pub name : List ℕ
  pub dynamic : Option DynamicParts
  pub frame : Frame
  pub system : SystemParts
  pub geoid_models : List NamedParts
  pub tail : TailParts
