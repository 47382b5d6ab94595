use Rattle.std.proofs.Common.{◌∙◌, ap}
use Rattle.crs_shape.specs.declared.class.Class.TheVariants as class
use Rattle.crs_value.specs.Reading.{those}
use Rattle.crs_value.specs.inner.Arguments.{ahead}
use Rattle.crs_value.proofs.judging.quick_checks.shared_unit.Goals as goal

pub returns-then-same_place-clause-unit : goal.returns-then-same_place-clause-unit
returns-then-same_place-clause-unit c =
    ap (λ o. those c.args.class class.AxisUnit (ahead c.args.items.now o)) (c.same_place.ensures c.if-same_place.true) ∙ c.requires.none

pub returns-then-is_only-clause-unit : goal.returns-then-is_only-clause-unit
returns-then-is_only-clause-unit c =
    ap (λ o. those c.args.class class.AxisUnit (ahead c.args.items.now o)) c.in-Some.is ∙ c.is_only.ensures c.if-is_only.true
