use Rattle.std.proofs.Common.{length}
use Rattle.crs_text.specs.inner.Prelude.{arguments}
use Rattle.crs_shape.specs.declared.class.Class.TheVariants as class
use Rattle.crs_value.specs.inner.Cursor.{item}
use Rattle.crs_value.specs.inner.Arguments.{from_found}
use Rattle.crs_value.specs.Reading.{those}
use Rattle.crs_value.proofs.checked.CheckLemmas.{Ordering}
use Rattle.crs_value.proofs.checks.axes.bad_orders.Given as goal

abbrev pub invariant-loop-at : goal.invariant-loop-at
invariant-loop-at l = Ordering l.items l.class (those l.class class.Axis (arguments (item l.crs))) l.firsts.axes l.before l.least l.at

abbrev pub decreases-loop-at : goal.decreases-loop-at
decreases-loop-at l = length (from_found l.items l.class class.Axis l.at)
