-- Methods, parameters, conversions and geoid models have one form exactly where they are the same.
use Rattle.std.proofs.Common.{arith}
use Rattle.crs_shape.specs.declared.unit_kind.UnitKind.TheVariants as kinds
use Rattle.crs_value.specs.inner.Prelude.{IsConversion, IsMethod, IsParameter}
use Rattle.crs_value.specs.declared.values.level.Level.{Level}
use Rattle.crs_same.specs.inner.Prelude.{AgreeConversion, AgreeMethod, SameParameter}
use Rattle.crs_normal.specs.inner.Decides.{FormDecides, SetsDecide}
use Rattle.crs_normal.specs.inner.SpelledCrs.{norm_conversion, norm_method, norm_parameter}
use Rattle.crs_normal.proofs.same.PartLemmas.{NumbersDecide, values-agree}
use Rattle.crs_normal.proofs.same.UnitLemmas.{IdentsDecide, unit-agrees}

pub parameter-agrees : NumbersDecide → IdentsDecide → (level : Level) → FormDecides IsParameter (norm_parameter level) (SameParameter level)
parameter-agrees numbers idents level a b in-a in-b =
    grind (arith, values-agree numbers, unit-agrees numbers idents level kinds.Plain, idents level)

module _ (sets : SetsDecide) (level : Level) where
  pub method-agrees : FormDecides IsMethod (norm_method level) (AgreeMethod level)
  method-agrees a b in-a in-b = grind (arith, sets.idents level)

  pub conversion-agrees : FormDecides IsConversion (norm_conversion level) (AgreeConversion level)
  conversion-agrees a b in-a in-b = grind (arith, method-agrees, sets.parameters level, sets.idents level)
