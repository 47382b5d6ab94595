use Rattle.crs_shape.specs.declared.class.Class.TheVariants as class
use Rattle.crs_value.specs.inner.Arguments.{from_found}
use Rattle.crs_value.proofs.checked.CheckLemmas.{Seeking}
use Rattle.crs_value.proofs.checks.axes.one_has.Given as goal

abbrev pub invariant-loop-step : goal.invariant-loop-step
invariant-loop-step l = Seeking l.items l.class (from_found l.items l.class class.Axis l.fn.axis) l.value l._step l.at
