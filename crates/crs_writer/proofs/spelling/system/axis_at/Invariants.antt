use Rattle.std.proofs.Common.{◌≡◌, ◌+◌, drop}
use Rattle.crs_normal.specs.inner.Prelude.{axis_at}
use Rattle.crs_writer.proofs.spelling.system.axis_at.Given as goal

abbrev pub invariant-loop-axis : goal.invariant-loop-axis
invariant-loop-axis l =
    (l.place ≡ l.axis-index + 1) × (axis_at l.position l.place (drop l.axis-index l.axes) ≡ axis_at l.position 1 l.axes)
