use Rattle.crs_value.specs.inner.Cursor.{item}
use Rattle.crs_value.proofs.found.ConversionLemmas.{Choosing}
use Rattle.crs_value.proofs.values.conversion.parameter_unit.Given as goal

abbrev pub invariant-loop-class : goal.invariant-loop-class
invariant-loop-class l = Choosing (item l.node) l.class-index
