-- Deformation models and dynamic parts have one form exactly where they are the same.
use Rattle.std.proofs.Common.{IfSome, Option, arith}
use Rattle.crs_value.specs.inner.Prelude.{DynamicParts, IsDynamic, IsDynamicOf}
use Rattle.crs_value.specs.declared.values.frame.Frame.{Frame}
use Rattle.crs_value.specs.declared.values.level.Level.{Level}
use Rattle.crs_same.specs.inner.Prelude.{AgreeDynamic}
use Rattle.crs_normal.specs.inner.Decides.{FormDecides, SetsDecide}
use Rattle.crs_normal.specs.inner.SpelledCrs.{norm_dynamic}
use Rattle.crs_normal.proofs.same.PartLemmas.{NumbersDecide, values-agree}
use Rattle.crs_normal.proofs.same.UnitLemmas.{named-agrees}

-- whatever the frame beside it is
pub dynamics-sound : (o : Option DynamicParts) (f : Frame) → IsDynamicOf o f → IfSome o IsDynamic
dynamics-sound o f s = grind (arith, s)

module _ (numbers : NumbersDecide) (sets : SetsDecide) (level : Level) where
  pub dynamic-agrees : FormDecides IsDynamic (norm_dynamic level) (AgreeDynamic level)
  dynamic-agrees a b in-a in-b = grind (arith, values-agree numbers, named-agrees sets.idents level)
