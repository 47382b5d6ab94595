use Rattle.std.proofs.Common.{length}
use Rattle.crs_shape.specs.declared.class.Class.TheVariants as class
use Rattle.crs_value.specs.inner.Cursor.{args}
use Rattle.crs_value.specs.inner.Arguments.{from_found, item_at}
use Rattle.crs_value.proofs.checked.UnitLemmas.{Asking}
use Rattle.crs_value.proofs.checks.axes.Asking.fits_as.Given as goal

abbrev pub invariant-loop-at : goal.invariant-loop-at
invariant-loop-at l = Asking l.items l.class (item_at l.items l.self.cs) (args class.Axis l.crs) l.kind l.at

abbrev pub decreases-loop-at : goal.decreases-loop-at
decreases-loop-at l = length (from_found l.items l.class class.Axis l.at)
