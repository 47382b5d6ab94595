use Rattle.std.proofs.Common.{◌≡◌, ◌++◌, drop, map}
use Rattle.crs_value.specs.declared.values.level.Level.TheVariants as level
use Rattle.crs_normal.specs.inner.Prelude.{axis_text}
use Rattle.crs_rules.proofs.rewriting.order.texts_of.Given as goal

abbrev pub invariant-loop-axis : goal.invariant-loop-axis
invariant-loop-axis l =
    l.texts.items ++ map (axis_text level.Full) (drop l.axis-index l.axes) ≡ map (axis_text level.Full) l.axes
