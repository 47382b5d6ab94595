use Rattle.std.proofs.Common.{drop}
use Rattle.crs_text.specs.inner.Prelude.{arguments}
use Rattle.crs_shape.specs.declared.class.Class.TheVariants as class
use Rattle.crs_value.specs.inner.Cursor.{item}
use Rattle.crs_value.specs.Reading.{those}
use Rattle.crs_value.specs.inner.Arguments.{IsFound}
use Rattle.crs_value.proofs.reading.cursor.Cursor.number_at.Given as goal

abbrev pub invariant-loop-step : goal.invariant-loop-step
invariant-loop-step l = IsFound l.items l.self.class class.Number (drop l._step (those l.self.class class.Number (arguments (item l.self)))) l.at
