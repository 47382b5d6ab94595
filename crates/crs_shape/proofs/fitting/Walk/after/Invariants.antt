use Rattle.std.proofs.Common.{◌≡◌, map, drop}
use Rattle.crs_shape.specs.Shape.{shown}
use Rattle.crs_shape.specs.inner.Walk.{after, left, left_of}
use Rattle.crs_shape.proofs.fitting.Walk.after.Given as goal

abbrev pub invariant-loop-at : goal.invariant-loop-at
invariant-loop-at l = after (left l.filled (drop l.at (map shown l.row))) l.class ≡ after (left_of l.row l.fn.self) l.class
