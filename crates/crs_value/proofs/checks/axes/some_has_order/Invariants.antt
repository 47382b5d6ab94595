use Rattle.std.proofs.Common.{length}
use Rattle.crs_shape.specs.declared.class.Class.TheVariants as class
use Rattle.crs_value.specs.inner.Arguments.{from_found}
use Rattle.crs_value.proofs.checked.CheckLemmas.{Some-left}
use Rattle.crs_value.proofs.checks.axes.some_has_order.Given as goal

abbrev pub invariant-loop-at : goal.invariant-loop-at
invariant-loop-at l = Some-left l.items l.class (from_found l.items l.class class.Axis l.fn.axis) l.at

abbrev pub decreases-loop-at : goal.decreases-loop-at
decreases-loop-at l = length (from_found l.items l.class class.Axis l.at)
