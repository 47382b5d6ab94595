-- Compound CRSs as they are written.
use Rattle.std.specs.Prelude.{ℕ, List}
use Rattle.crs_value.specs.CrsValues.{VerticalParts}
use Rattle.crs_value.specs.Values.{TailParts}
use Rattle.crs_value.specs.declared.values.compound.Horizontal.{Horizontal}

-- a compound CRS
pub record CompoundParts : Type 0 where
  pub name : List ℕ
  pub horizontal : Horizontal
  pub vertical : VerticalParts
  pub tail : TailParts
