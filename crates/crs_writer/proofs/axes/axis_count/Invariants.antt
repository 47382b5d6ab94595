use Rattle.std.proofs.Common.{length}
use Rattle.crs_text.specs.inner.Prelude.{arguments}
use Rattle.crs_shape.specs.declared.class.Class.TheVariants as class
use Rattle.crs_value.specs.inner.Prelude.{from_found, item_at, those}
use Rattle.crs_writer.proofs.CountedAxisLemmas.{Counting}
use Rattle.crs_writer.proofs.axes.axis_count.Given as goal

abbrev pub invariant-loop-at : goal.invariant-loop-at
invariant-loop-at l = Counting l.items l.class class.Axis (those l.class class.Axis (arguments (item_at l.items l.fn.id))) l.count l.at

abbrev pub decreases-loop-at : goal.decreases-loop-at
decreases-loop-at l = length (from_found l.items l.class class.Axis l.at)
