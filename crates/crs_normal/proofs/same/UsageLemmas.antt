-- Boxes, extents and usages have one form exactly where they are the same.
use Rattle.std.proofs.Common.{arith}
use Rattle.crs_value.specs.inner.Prelude.{IsBox, IsExtent, IsUsage}
use Rattle.crs_value.specs.declared.values.level.Level.{Level}
use Rattle.crs_value.specs.declared.values.level.Level.TheVariants as levels
use Rattle.crs_same.specs.inner.Prelude.{SameBox, SameExtent, SameUsage}
use Rattle.crs_normal.specs.inner.Decides.{FormDecides}
use Rattle.crs_normal.specs.inner.SpelledItems.{norm_extent, norm_usage}
use Rattle.crs_normal.proofs.same.PartLemmas.{NumbersDecide, values-agree}
use Rattle.crs_normal.proofs.same.UnitLemmas.{IdentsDecide, length-agrees}

module _ (numbers : NumbersDecide) where
  pub box-agrees : FormDecides IsBox (λ box. box) SameBox
  box-agrees a b in-a in-b = grind (arith, values-agree numbers)

module _ (numbers : NumbersDecide) (idents : IdentsDecide) where
  pub extent-agrees : (level : Level) → FormDecides IsExtent (norm_extent level) (SameExtent level)
  extent-agrees level a b in-a in-b = grind (arith, values-agree numbers, length-agrees numbers idents level)

  pub usage-agrees : FormDecides IsUsage norm_usage SameUsage
  usage-agrees a b in-a in-b = grind (arith, box-agrees numbers, extent-agrees levels.Full)
